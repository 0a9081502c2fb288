use Rattle.std.proofs.Common.{sym, ap, ◌∙◌}
use Rattle.std.specs.Arc.{arc_value}
use Rattle.item_ids.specs.declared.key.Key.TheVariants.{Source}
use Rattle.recorder.specs.Projects.{Project}
use Rattle.graph_rules.specs.Keys.{input_of}
use Rattle.project_inputs.specs.Inputs.{bytes_in}
use Rattle.edited_inputs.proofs.Editing.{input_else}
use Rattle.resident_graph.specs.Lists.{key_in}
use Rattle.resident_graph.proofs.Keep.{keeps_in}
use Rattle.resident.proofs.resident.Resident.edit.Goals as goal

pub invariant_of-self-2 : goal.invariant_of-self-2
invariant_of-self-2 g c =
    let keys = c.queue_key.new.graph.keys.keys in
    keeps_in _ c.self.inside.inputs _ _ _ _ _ _ c.queue_key.ensures.keeps c.set_source.new.self
    (λ i lt low off.
    ap (λ (p : Project). input_of p (key_in keys i)) c.in_ok-set_source.ensures.ok
    ∙ input_else c.self.inside.inputs c.in_ok-own.own (bytes_in (arc_value c.in_ok-sealed.sealed)) (key_in keys i)
    (λ same. c.in_ok-queue_key.ensures.ok i lt off (same ∙ ap Source (c.in_ok-own.ensures ∙ sym c.in_ok-copy.ensures))))
