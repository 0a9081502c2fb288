use Rattle.mark_green.proofs.KindRules.{marked_kind}
use Rattle.mark_green.proofs.tables.mark_table.Goals as goal

pub returns-clause-kind : goal.returns-clause-kind
returns-clause-kind g c = marked_kind c.args.w c.args.key.now c.mark-answer.result c.args.table.now _ c.laws.ensures.order c.mark-answer.ensures
