use Rattle.std.proofs.Common.{◌≡◌, false, map, take}
use Rattle.answer_queries.proofs.overrides.none_differ.Given as goal

abbrev pub invariant-loop-method : goal.invariant-loop-method
invariant-loop-method l = l.flags.items ≡ map (λ m. false) (take l._method-index l.methods)
