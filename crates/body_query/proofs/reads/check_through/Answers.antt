use Rattle.mj_tree.specs.Views.{method_view}
use Rattle.mj_phrases.specs.declared.asking.Stop.TheVariants as stops
use Rattle.mj_typing.specs.Bodies.{method_step, method_check}
use Rattle.body_query.specs.declared.reads.AskingByReads.{AskingByReads}
use Rattle.body_query.proofs.Steps.{check_goes, check_gives_up}
use Rattle.body_query.proofs.reads.check_through.Goals as goal

pub returns-in-Ok-clause-ok : goal.returns-in-Ok-clause-ok
unfolding method_check
returns-in-Ok-clause-ok g c = check_goes g.B.Began.told g.B.Began.refused (λ (s : AskingByReads g.row.D.Denot g.row.B.Denot). s.recorder.now) (method_step c.args.class.now (method_view c.args.method.now)) c.args.reads.now c.check_method.new.asking c.in-Ok.mistakes.items c.requires.told c.requires.refused c.in-Ok.ensures.ok

pub returns-in-Err-OutOfMemory-clause-err : goal.returns-in-Err-OutOfMemory-clause-err
unfolding method_check
returns-in-Err-OutOfMemory-clause-err g c = check_gives_up g.B.Began.told g.B.Began.refused (λ (s : AskingByReads g.row.D.Denot g.row.B.Denot). s.recorder.now) (method_step c.args.class.now (method_view c.args.method.now)) c.args.reads.now c.check_method.new.asking stops.OutOfMemory c.requires.told c.requires.refused (rw c.in-Err-OutOfMemory.field-0-is at c.in-Err-OutOfMemory.ensures.err)

pub returns-in-Err-Refused-clause-err : goal.returns-in-Err-Refused-clause-err
unfolding method_check
returns-in-Err-Refused-clause-err g c = check_gives_up g.B.Began.told g.B.Began.refused (λ (s : AskingByReads g.row.D.Denot g.row.B.Denot). s.recorder.now) (method_step c.args.class.now (method_view c.args.method.now)) c.args.reads.now c.check_method.new.asking (stops.Refused c.in-Err-Refused.fault) c.requires.told c.requires.refused (rw c.in-Err-Refused.field-0-is at c.in-Err-Refused.ensures.err)
