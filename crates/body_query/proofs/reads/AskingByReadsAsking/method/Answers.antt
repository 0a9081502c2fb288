use Rattle.mj_phrases.specs.Inquiries.{AsksMethod}
use Rattle.body_questions.specs.Questions.{method_step}
use Rattle.body_query.specs.declared.reads.AskingByReads.{AskingByReads}
use Rattle.body_query.proofs.Steps.{reads_method, goes_by, gives_up_by}
use Rattle.body_query.proofs.reads.AskingByReadsAsking.method.Goals as goal

pub returns-in-Ok-clause-ok : goal.returns-in-Ok-clause-ok
returns-in-Ok-clause-ok g c = goes_by g.B.Began.told g.B.Began.refused (λ (s : AskingByReads g.row.D.Denot g.row.B.Denot). s.recorder.now) (AsksMethod c.args.class.now c.args.name.now) (method_step c.args.class.now c.args.name.now) (reads_method c.args.class.now c.args.name.now) c.args.self.now _ _ c.in-Ok.ensures.ok

pub returns-in-Err-clause-err : goal.returns-in-Err-clause-err
returns-in-Err-clause-err g c = gives_up_by g.B.Began.told g.B.Began.refused (λ (s : AskingByReads g.row.D.Denot g.row.B.Denot). s.recorder.now) (AsksMethod c.args.class.now c.args.name.now) (method_step c.args.class.now c.args.name.now) (reads_method c.args.class.now c.args.name.now) c.args.self.now _ c.in-Err.fault c.in-Err.ensures.err
