use Rattle.std.proofs.Common.{◌≡◌, map, take}
use Rattle.mj_rules.proofs.tables.formal_types.Given as goal

abbrev pub invariant-loop-formal : goal.invariant-loop-formal
invariant-loop-formal l = l.types.items ≡ map (λ v. v.ty) (take l.formal-index l.formals)
