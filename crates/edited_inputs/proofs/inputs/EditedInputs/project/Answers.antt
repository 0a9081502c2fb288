use Rattle.edited_inputs.proofs.Editing.{project_edited}
use Rattle.edited_inputs.proofs.inputs.EditedInputs.project.Goals as goal

pub returns : goal.returns
returns c = rw (← c.self.view_is) (project_edited c.self.inside.inputs c.self.inside.sources.entries c.project.ensures)
