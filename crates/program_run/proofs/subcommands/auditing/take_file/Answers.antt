use Rattle.std.proofs.Common.{string_bytes}
use Rattle.std.proofs.lemmas.Result.{IfErr-weaker, on_ok_weaker}
use Rattle.program_run.proofs.Opened.{fails_behind}
use Rattle.program_run.proofs.subcommands.auditing.take_file.Goals as goal

pub returns-in-Ok-clause-taken : goal.returns-in-Ok-clause-taken
returns-in-Ok-clause-taken g c = on_ok_weaker c.take_opened.result (λ takes. record { opened = c.in-Ok.file; takes = takes }) c.take_opened.ensures.taken

pub returns-in-Ok-clause-failed : goal.returns-in-Ok-clause-failed
returns-in-Ok-clause-failed g c = λ front taken. IfErr-weaker c.take_opened.result _ _
    (λ why fails. fails_behind g.R.File.Read.remaining c.in-Ok.file front (string_bytes c.args.name) why fails) (c.take_opened.ensures.failed front taken)
