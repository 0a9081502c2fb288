use Rattle.std.proofs.Common.{◌<◌, length, ◌++◌, take, flat_map, arith, refl}
use Rattle.devices.proofs.PutLaws.{handed_on, items_end}
use Rattle.devices.proofs.putting.put_parts.Goals as goal

pub returns-in_err-put_all-clause-holds : goal.returns-in_err-put_all-clause-holds
returns-in_err-put_all-clause-holds g c =
    rw (handed_on c.from_residual.result _ c.from_residual.ensures.1) (λ front h.
    let parts = c.args.parts.now in
    let i = c.loop-part.part-index in
    let lt : i < length parts = omega arith in
    items_end (g.W.Sink.holds c.put_all.new.sink) front (λ part. part.now) parts i _ _ lt refl (c.in_err-put_all.ensures.holds (front ++ flat_map (λ part. part.now) (take i parts)) (c.loop-part.invariant.holds front h)))
