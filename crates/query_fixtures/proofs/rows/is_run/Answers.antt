use Rattle.query_fixtures.proofs.Ended.{come}
use Rattle.query_fixtures.proofs.rows.is_run.Goals as goal

pub returns-then-has_logged : goal.returns-then-has_logged
returns-then-has_logged c = come c.args.profile c.args.row.query c.args.row.reads.now c.args.key.now c.run-result.new.recorder c.run-result.result c.comes_to-is_right.result c.requires.told c.run-result.ensures.run c.comes_to-is_right.ensures
