use Rattle.std.proofs.Common.{sym, ap, ◌∙◌, subst, refl}
use Rattle.std.specs.Arc.{arc_value}
use Rattle.graph_rules.specs.Steps.{Status, IsDoneWith, IsNotDone}
use Rattle.key_states.specs.Nodes.{status_of}
use Rattle.key_states.proofs.NodeRules.{status_done, status_held, no_answer, answer_is}
use Rattle.key_states.proofs.nodes.key_state.Goals as goal

pub returns-in-Some-get : goal.returns-in-Some-get
returns-in-Some-get c = answer_is c.args.inputs.now c.args.nodes.now c.args.key.now c.in_default.ensures.none _ c.in-Some-get.ensures

pub returns-in-None : goal.returns-in-None
returns-in-None c = (no_answer c.args.inputs.now c.args.nodes.now c.args.key.now c.in_default.ensures.none c.in-None.ensures, c.in_default.ensures.none)

pub returns-in-Done : goal.returns-in-Done
returns-in-Done c =
    let s = status_done c.args.inputs.now c.args.nodes.now c.args.key.now _ _ _ c.requires (c.in-Some.ensures.stands ∙ ap status_of c.in-Done.is) in
    subst (λ (x : Status). IsDoneWith (arc_value c.in-Done.sealed) x) (sym s) refl

pub returns-in-Claimed : goal.returns-in-Claimed
returns-in-Claimed c =
    let s = status_held c.args.inputs.now c.args.nodes.now c.args.key.now _ c.requires (c.in-Some.ensures.stands ∙ ap status_of c.in-Claimed.is) (λ e. cc) tt in
    (subst (λ (x : Status). IsNotDone x) (sym s) tt, λ e. cc)

pub returns-in-Running : goal.returns-in-Running
returns-in-Running c =
    let s = status_held c.args.inputs.now c.args.nodes.now c.args.key.now _ c.requires (c.in-Some.ensures.stands ∙ ap status_of c.in-Running.is) (λ e. cc) tt in
    (subst (λ (x : Status). IsNotDone x) (sym s) tt, λ e. cc)
