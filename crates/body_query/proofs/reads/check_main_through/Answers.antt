use Rattle.std.specs.Prelude.{[]}
use Rattle.mj_tree.specs.Views.{stmt_view}
use Rattle.mj_phrases.specs.Table.{main_scope}
use Rattle.mj_phrases.specs.declared.asking.Stop.TheVariants as stops
use Rattle.mj_typing.specs.Bodies.{statement_step}
use Rattle.body_query.specs.declared.reads.AskingByReads.{AskingByReads}
use Rattle.body_query.proofs.Steps.{check_goes, check_gives_up}
use Rattle.body_query.proofs.reads.check_main_through.Goals as goal

pub returns-in-Ok-clause-ok : goal.returns-in-Ok-clause-ok
returns-in-Ok-clause-ok g c = check_goes g.B.Began.told g.B.Began.refused (λ (s : AskingByReads g.row.D.Denot g.row.B.Denot). s.recorder.now) (statement_step main_scope (stmt_view c.args.statement.now) []) c.args.reads.now c.check_main_statement.new.asking c.in-Ok.mistakes.items c.requires.told c.requires.refused c.in-Ok.ensures.ok

pub returns-in-Err-OutOfMemory-clause-err : goal.returns-in-Err-OutOfMemory-clause-err
returns-in-Err-OutOfMemory-clause-err g c = check_gives_up g.B.Began.told g.B.Began.refused (λ (s : AskingByReads g.row.D.Denot g.row.B.Denot). s.recorder.now) (statement_step main_scope (stmt_view c.args.statement.now) []) c.args.reads.now c.check_main_statement.new.asking stops.OutOfMemory c.requires.told c.requires.refused (rw c.in-Err-OutOfMemory.field-0-is at c.in-Err-OutOfMemory.ensures.err)

pub returns-in-Err-Refused-clause-err : goal.returns-in-Err-Refused-clause-err
returns-in-Err-Refused-clause-err g c = check_gives_up g.B.Began.told g.B.Began.refused (λ (s : AskingByReads g.row.D.Denot g.row.B.Denot). s.recorder.now) (statement_step main_scope (stmt_view c.args.statement.now) []) c.args.reads.now c.check_main_statement.new.asking (stops.Refused c.in-Err-Refused.fault) c.requires.told c.requires.refused (rw c.in-Err-Refused.field-0-is at c.in-Err-Refused.ensures.err)
