use Rattle.std.proofs.Common.{◌≡◌, map, take}
use Rattle.answer_queries.proofs.told.repeated_methods.Given as goal

abbrev pub invariant-loop-method : goal.invariant-loop-method
invariant-loop-method l = map (λ n. n.now) l.names.items ≡ take l.method-index l.methods
