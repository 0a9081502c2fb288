use Rattle.std.proofs.Common.{◌≡◌, true, is_some, List, sym, ap, ◌∙◌, subst}
use Rattle.std.specs.List.{AllByRecursion}
use Rattle.std.specs.Arc.{arc_value}
use Rattle.project_inputs.specs.Inputs.{Sealed, bytes_in}
use Rattle.recorder.specs.Projects.{Project, bytes_at}
use Rattle.edited_inputs.specs.Edits.{with_bytes, IsSourceIn}
use Rattle.edited_inputs.proofs.Editing.{sources_set, edited_more, there_edited}
use Rattle.edited_inputs.proofs.inputs.EditedInputs.set_source.Goals as goal

pub invariant_of-self-2 : goal.invariant_of-self-2
invariant_of-self-2 c =
    let there : is_some (bytes_at c.self.inside.inputs c.args.name) ≡ true =
    sym (there_edited c.self.inside.inputs c.self.inside.sources.entries c.args.name) ∙ (ap (λ (p : Project). is_some (bytes_at p c.args.name)) c.self.view_is ∙ c.requires.there) in
    subst (λ (es : List Sealed). AllByRecursion (IsSourceIn c.self.inside.inputs) es) (sym c.in_ok-insert.ensures.entries)
    (sources_set c.self.inside.inputs c.self.inside.sources.entries c.args.name c.args.sealed c.self.invariant (c.requires.source, there))

pub returns-clause-ok : goal.returns-clause-ok
returns-clause-ok c =
    edited_more c.self.inside.inputs c.self.inside.sources.entries c.insert.new.self.entries c.args.name c.args.sealed (λ m. c.in_ok-insert.ensures.updates.0 m)
    ∙ ap (λ (p : Project). with_bytes p c.args.name (bytes_in (arc_value c.args.sealed))) c.self.view_is
