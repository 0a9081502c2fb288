use Rattle.std.proofs.Common.{ap, ◌∙◌, subst}
use Rattle.graph_rules.specs.Steps.{Status, IsDone}
use Rattle.key_states.specs.Nodes.{status_of}
use Rattle.key_states.proofs.NodeRules.{status_done, status_held, status_none}
use Rattle.key_states.proofs.nodes.entry_of.Goals as goal

pub input_entry-requires-clause-done : goal.input_entry-requires-clause-done
input_entry-requires-clause-done c = subst (λ (x : Status). IsDone x) (status_none c.args.inputs.now c.args.nodes.now c.args.key.now c.in_default.ensures.none) c.requires.done

pub returns-in_default : goal.returns-in_default
returns-in_default c = status_none c.args.inputs.now c.args.nodes.now c.args.key.now c.in_default.ensures.none ∙ c.input_entry.ensures

pub returns : goal.returns
returns c = status_done c.args.inputs.now c.args.nodes.now c.args.key.now _ _ _ c.requires.inputs (c.in-Some.ensures.stands ∙ ap status_of c.in-Done.is)

pub unreachable-requires : goal.unreachable-requires
unreachable-requires c =
    let s = status_held c.args.inputs.now c.args.nodes.now c.args.key.now _ c.requires.inputs (c.in-Some.ensures.stands ∙ ap status_of c.in-Claimed.is) (λ e. cc) tt in
    subst (λ (x : Status). IsDone x) s c.requires.done

pub unreachable-requires-in-Running : goal.unreachable-requires-in-Running
unreachable-requires-in-Running c =
    let s = status_held c.args.inputs.now c.args.nodes.now c.args.key.now _ c.requires.inputs (c.in-Some.ensures.stands ∙ ap status_of c.in-Running.is) (λ e. cc) tt in
    subst (λ (x : Status). IsDone x) s c.requires.done
