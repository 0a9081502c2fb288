use Rattle.mark_green.proofs.Asks.{claims_no_input}
use Rattle.mark_green.proofs.KindRules.{asked_kind}
use Rattle.mark_green.proofs.tables.ask_table.Goals as goal

pub returns-clause-claims : goal.returns-clause-claims
returns-clause-claims g c =
    claims_no_input (g.R.Runner.queries.mean c.args.table.now.terms.profile) (g.R.Runner.queries.reads c.args.table.now.terms.profile) c.args.w c.args.key.now c.args.table.now _ c.ask.result c.laws.ensures.legal c.laws.ensures.backed c.ask.ensures

pub returns-clause-kind : goal.returns-clause-kind
returns-clause-kind g c = asked_kind c.args.w c.args.key.now c.ask.result c.args.table.now _ c.laws.ensures.order c.ask.ensures
