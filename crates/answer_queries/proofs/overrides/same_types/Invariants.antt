use Rattle.std.proofs.Common.{◌≡◌, drop}
use Rattle.answer_queries.specs.Signatures.{same_types}
use Rattle.answer_queries.proofs.overrides.same_types.Given as goal

abbrev pub invariant-loop-number : goal.invariant-loop-number
invariant-loop-number l = same_types (drop l.number l.types) (drop l.number l.others) ≡ same_types l.types l.others
