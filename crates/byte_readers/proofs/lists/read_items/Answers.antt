use Rattle.std.proofs.Common.{refl, map}
use Rattle.std.proofs.lemmas.Result.{err_from_is_err_and}
use Rattle.std.proofs.lemmas.List.{map_push}
use Rattle.byte_readers.specs.Reading.{any}
use Rattle.byte_readers.proofs.Loop.{goes_on, ends, is_done}
use Rattle.byte_readers.proofs.lists.read_items.Goals as goal

pub returns-in_err-item : goal.returns-in_err-item
returns-in_err-item g c =
    let p = err_from_is_err_and c.from_residual.result c.from_residual.ensures.1 in
    rw (p.1, p.2) (ends c.in_err-item.field-0.0 g.F.Format.reading any (map g.F.Format.view.one c.loop.items.items) c.args.count c.loop.counter c.loop.rest.now _ c.loop-test.true c.in_err-item.ensures c.loop.invariant)

pub loop-preserved : goal.loop-preserved
loop-preserved g c =
    rw (c.in_ok-push.ensures.items, map_push g.F.Format.view.one c.loop.items.items c.in_ok-item.item)
    (goes_on g.F.Format.reading any (map g.F.Format.view.one c.loop.items.items) c.args.count c.loop.counter c.loop.rest.now (g.F.Format.view.one c.in_ok-item.item) c.in_ok-item.after.now _ c.loop-test.true c.in_ok-item.ensures refl c.loop.invariant)

pub returns : goal.returns
returns g c =
    rw (c.shrink_to_fit.ensures.items, g.F.Format.view.all_is c.loop.items.items)
    (is_done g.F.Format.reading any (map g.F.Format.view.one c.loop.items.items) c.args.count c.loop.counter c.loop.rest.now _ c.loop-test.false c.loop.invariant)
