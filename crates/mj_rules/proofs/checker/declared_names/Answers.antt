use Rattle.std.proofs.Common.{◌≡◌, ◌↔◌, ◌∙◌, ℕ, List, Contains, ap, subst, arith, take_all, length, ◌≤◌}
use Rattle.mj_members.specs.Classes.{classes_view}
use Rattle.mj_classes.specs.Index.{declared_in}
use Rattle.mj_rules.specs.FaultLists.{class_names}
use Rattle.mj_rules.proofs.checker.declared_names.Goals as goal

pub returns-clause-same : goal.returns-clause-same
returns-clause-same c =
    let end : length c.classes-class-items.result.now ≤ c.loop-class.class-index = omega arith in
    let names : c.loop-class.names.items ≡ class_names (declared_in c.args.declarations.now) =
    c.loop-class.invariant ∙ (ap (λ xs. class_names (classes_view xs)) (take_all c.loop-class.class-index c.classes-class-items.result.now end) ∙ ap class_names c.classes-class-items.ensures) in
    let P : List (List ℕ) → Type 0 = λ ns. (name : List ℕ) → Contains c.name_set.result.items name ↔ Contains ns name in
    subst P names c.name_set.ensures.same
