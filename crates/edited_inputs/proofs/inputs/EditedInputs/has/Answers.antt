use Rattle.std.proofs.Common.{ap, ◌∙◌}
use Rattle.edited_inputs.specs.Edits.{holds_source}
use Rattle.edited_inputs.proofs.Editing.{file_there, file_nowhere}
use Rattle.edited_inputs.proofs.inputs.EditedInputs.has.Goals as goal

pub returns-in-Some : goal.returns-in-Some
returns-in-Some c =
    rw (← c.self.view_is) (c.is_source.ensures ∙ ap holds_source (c.value.ensures.value ∙ c.deref.ensures) ∙ file_there c.self.inside.inputs c.self.inside.sources.entries c.args.key.now _ c.in-Some.ensures)

pub returns-in-None : goal.returns-in-None
returns-in-None c = rw (← c.self.view_is) (file_nowhere c.self.inside.inputs c.self.inside.sources.entries c.args.key.now c.in-None.ensures)
