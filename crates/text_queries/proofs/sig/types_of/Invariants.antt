use Rattle.std.proofs.Common.{◌≡◌, map, take}
use Rattle.text_queries.proofs.sig.types_of.Given as goal

abbrev pub invariant-loop-variable : goal.invariant-loop-variable
invariant-loop-variable l = l.types.items ≡ map (λ v. v.ty) (take l.variable-index l.variables)
