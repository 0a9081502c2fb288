use Rattle.std.proofs.Common.{◌≡◌, take}
use Rattle.answer_fixtures.proofs.copies.copy_classes.Given as goal

abbrev pub invariant-loop-class : goal.invariant-loop-class
invariant-loop-class l = l.copies.items ≡ take l.class-index l.classes
