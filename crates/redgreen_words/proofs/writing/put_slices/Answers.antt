use Rattle.std.proofs.Common.{List, ℕ, ◌++◌, subst}
use Rattle.devices.specs.Devices.{Begins}
use Rattle.redgreen_words.proofs.Putting.{joined_is}
use Rattle.redgreen_words.proofs.writing.put_slices.Goals as goal

pub returns-in-Ok-clause-delivered : goal.returns-in-Ok-clause-delivered
returns-in-Ok-clause-delivered g c = λ front has.
    subst (λ (xs : List ℕ). g.W.Sink.holds c.put_parts.new.sink (front ++ xs)) (joined_is (λ x. x.now) c.args.slices.now) (c.in-Ok.ensures.holds front has)

pub returns-in-Err-clause-delivered : goal.returns-in-Err-clause-delivered
returns-in-Err-clause-delivered g c = λ front has.
    subst (Begins (g.W.Sink.holds c.put_parts.new.sink) front) (joined_is (λ x. x.now) c.args.slices.now) (c.in-Err.ensures.holds front has)
