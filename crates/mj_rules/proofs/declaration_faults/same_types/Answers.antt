use Rattle.std.proofs.Common.{◌≡◌, ◌∙◌, length, map, arith}
use Rattle.std.proofs.lemmas.Bool.Decides.{nat_tests}
use Rattle.std.proofs.lemmas.List.{length-map}
use Rattle.mj_tree.specs.declared.tree.Variable.{Variable}
use Rattle.mj_rules.proofs.Steps.{differ}
use Rattle.mj_rules.proofs.declaration_faults.same_types.Goals as goal

pub returns-then-formals-others : goal.returns-then-formals-others
returns-then-formals-others c =
    differ c.args.formals.now (map (λ (v : Variable). v.ty) c.args.others.now) (λ e.
    let same : length c.args.formals.now ≡ length c.args.others.now = e ∙ length-map c.args.others.now (λ (v : Variable). v.ty) in
    grind (arith, nat_tests))
