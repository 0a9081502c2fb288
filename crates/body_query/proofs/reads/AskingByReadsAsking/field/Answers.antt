use Rattle.mj_phrases.specs.Inquiries.{AsksField}
use Rattle.body_questions.specs.Questions.{field_step}
use Rattle.body_query.specs.declared.reads.AskingByReads.{AskingByReads}
use Rattle.body_query.proofs.Steps.{reads_field, goes_by, gives_up_by}
use Rattle.body_query.proofs.reads.AskingByReadsAsking.field.Goals as goal

pub returns-in-Ok-clause-ok : goal.returns-in-Ok-clause-ok
returns-in-Ok-clause-ok g c = goes_by g.B.Began.told g.B.Began.refused (λ (s : AskingByReads g.row.D.Denot g.row.B.Denot). s.recorder.now) (AsksField c.args.class.now c.args.name.now) (field_step c.args.class.now c.args.name.now) (reads_field c.args.class.now c.args.name.now) c.args.self.now _ c.in-Ok.answer c.in-Ok.ensures.ok

pub returns-in-Err-clause-err : goal.returns-in-Err-clause-err
returns-in-Err-clause-err g c = gives_up_by g.B.Began.told g.B.Began.refused (λ (s : AskingByReads g.row.D.Denot g.row.B.Denot). s.recorder.now) (AsksField c.args.class.now c.args.name.now) (field_step c.args.class.now c.args.name.now) (reads_field c.args.class.now c.args.name.now) c.args.self.now _ c.in-Err.fault c.in-Err.ensures.err
