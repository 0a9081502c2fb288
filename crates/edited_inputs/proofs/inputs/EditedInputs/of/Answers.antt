use Rattle.std.proofs.Common.{ap, ◌∙◌}
use Rattle.edited_inputs.specs.Edits.{edited}
use Rattle.edited_inputs.proofs.Editing.{edited_none}
use Rattle.edited_inputs.proofs.inputs.EditedInputs.of.Goals as goal

pub returns : goal.returns
returns c = ap (edited c.args.inputs) c.new.ensures.empty ∙ edited_none c.args.inputs
