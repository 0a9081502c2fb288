use Rattle.std.proofs.Common.{◌≡◌, drop, map}
use Rattle.mj_rules.specs.FaultLists.{same_types}
use Rattle.mj_rules.proofs.declaration_faults.same_types.Given as goal

abbrev pub invariant-loop-number : goal.invariant-loop-number
invariant-loop-number l = same_types (drop l.number l.formals) (map (λ v. v.ty) (drop l.number l.others)) ≡ same_types l.formals (map (λ v. v.ty) l.others)
