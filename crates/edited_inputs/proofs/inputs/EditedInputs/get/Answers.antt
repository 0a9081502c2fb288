use Rattle.std.proofs.Common.{◌≡◌, Option, Some, None, sym, ap, ◌∙◌, subst}
use Rattle.std.specs.Prelude.{MatchOption}
use Rattle.std.specs.Arc.{arc_value}
use Rattle.result_bytes.specs.declared.value.Value.{Value}
use Rattle.recorder.specs.Projects.{Project}
use Rattle.graph_rules.specs.Keys.{input_of}
use Rattle.edited_inputs.proofs.Editing.{input_same, input_own}
use Rattle.edited_inputs.proofs.inputs.EditedInputs.get.Goals as goal

pub returns-in-Some : goal.returns-in-Some
returns-in-Some c = rw (← c.self.view_is) (input_own c.self.inside.inputs c.self.inside.sources.entries c.self.invariant c.args.key.now c.in-Some.sealed.now (sym c.in-Some.ensures))

pub returns-in-None : goal.returns-in-None
returns-in-None c =
    let same : input_of c.args.self.now c.args.key.now ≡ input_of c.self.inside.inputs c.args.key.now =
    ap (λ (p : Project). input_of p c.args.key.now) (sym c.self.view_is) ∙ input_same c.self.inside.inputs c.self.inside.sources.entries c.self.invariant c.args.key.now (sym c.in-None.ensures) in
    subst (λ (o : Option Value). MatchOption c.get.result (o ≡ None) (λ a. o ≡ Some (arc_value a.now))) (sym same) c.get.ensures
