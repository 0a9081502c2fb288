use Rattle.std.proofs.Common.{◌∙◌, codes}
use Rattle.std.proofs.lemmas.Result.{IfOk-weaker}
use Rattle.session_text.proofs.Added.{four}
use Rattle.program_run.proofs.refusals.unwritten.Goals as goal

pub returns : goal.returns
returns c = IfOk-weaker c.format.result _ _ (λ text e. e ∙ four c.args.notes.now (codes "cannot write ") c.args.path.now (codes "\n")) c.format.ensures.ok
