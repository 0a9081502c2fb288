use Rattle.std.proofs.Common.{◌≡◌, map, take}
use Rattle.text_queries.proofs.header.method_names.Given as goal

abbrev pub invariant-loop-method : goal.invariant-loop-method
invariant-loop-method l = l.names.items ≡ map (λ m. m.name) (take l.method-index l.methods)
