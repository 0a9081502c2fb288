use Rattle.mj_phrases.specs.Inquiries.{AsksDescent}
use Rattle.body_questions.specs.Questions.{descends_step}
use Rattle.body_query.specs.declared.reads.AskingByReads.{AskingByReads}
use Rattle.body_query.proofs.Steps.{reads_descends, goes_by, gives_up_by}
use Rattle.body_query.proofs.reads.AskingByReadsAsking.descends.Goals as goal

pub returns-in-Ok-clause-ok : goal.returns-in-Ok-clause-ok
returns-in-Ok-clause-ok g c = goes_by g.B.Began.told g.B.Began.refused (λ (s : AskingByReads g.row.D.Denot g.row.B.Denot). s.recorder.now) (AsksDescent c.args.class.now c.args.ancestor.now) (descends_step c.args.class.now c.args.ancestor.now) (reads_descends c.args.class.now c.args.ancestor.now) c.args.self.now _ c.in-Ok.answer c.in-Ok.ensures.ok

pub returns-in-Err-clause-err : goal.returns-in-Err-clause-err
returns-in-Err-clause-err g c = gives_up_by g.B.Began.told g.B.Began.refused (λ (s : AskingByReads g.row.D.Denot g.row.B.Denot). s.recorder.now) (AsksDescent c.args.class.now c.args.ancestor.now) (descends_step c.args.class.now c.args.ancestor.now) (reads_descends c.args.class.now c.args.ancestor.now) c.args.self.now _ c.in-Err.fault c.in-Err.ensures.err
