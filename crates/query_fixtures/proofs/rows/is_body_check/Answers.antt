use Rattle.query_fixtures.proofs.Ended.{come_in_each}
use Rattle.query_fixtures.proofs.rows.is_body_check.Goals as goal

pub returns : goal.returns
returns c = come_in_each c.args.row.query c.args.row.reads.now c.args.key.now c.check_body-result.new.recorder c.check_body-result.result c.comes_to.result c.requires.told c.check_body-result.ensures.run c.comes_to.ensures
