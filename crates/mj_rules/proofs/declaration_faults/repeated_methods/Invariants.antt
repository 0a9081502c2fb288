use Rattle.std.proofs.Common.{◌≡◌, map, take}
use Rattle.mj_tree.specs.Views.{method_view}
use Rattle.mj_rules.proofs.declaration_faults.repeated_methods.Given as goal

abbrev pub invariant-loop-method : goal.invariant-loop-method
invariant-loop-method l = map (λ n. n.now) l.names.items ≡ map (λ m. m.name) (map method_view (take l.method-index l.methods))
