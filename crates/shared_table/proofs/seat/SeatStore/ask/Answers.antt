use Rattle.std.proofs.Common.{rules, inl}
use Rattle.std.specs.Arc.{arc_value}
use Rattle.job_table.specs.Calls.{AskGives}
use Rattle.known_list.proofs.Beginnings.{prefix_trans}
use Rattle.shared_table.specs.Given.{IsGiven, IsKnown}
use Rattle.shared_table.proofs.Told.{told_on, again_told, again_claims, own_again, kept_claims, kept_given}
use Rattle.shared_table.proofs.seat.SeatStore.ask.Goals as goal

pub returns-in-Some-clause-claims : goal.returns-in-Some-clause-claims
returns-in-Some-clause-claims g c = again_claims (arc_value c.in-Some.sealed.now) c.args.key.now c.again.result c.again.ensures.ok

pub returns-in-Some-clause-told : goal.returns-in-Some-clause-told
returns-in-Some-clause-told g c = again_told (arc_value c.in-Some.sealed.now) c.args.key.now (IsKnown g.R.Runner.queries g.J.Naming.opened c.args.self.now.memo) c.again.result c.again.ensures.ok c.in-Some.ensures

pub returns-in-Some-clause-stays : goal.returns-in-Some-clause-stays
returns-in-Some-clause-stays g c = λ q v told. told

pub returns-in-Some-clause-given : goal.returns-in-Some-clause-given
returns-in-Some-clause-given g c = inl (own_again (arc_value c.in-Some.sealed.now) c.args.key.now g.R.Runner.queries g.J.Naming.opened c.again.result c.in-Some.ensures.1 c.again.ensures.ok c.again.ensures.err)

pub returns-else-is_busy-clause-claims : goal.returns-else-is_busy-clause-claims
returns-else-is_busy-clause-claims g c = kept_claims c.args.key.now c.ask-answer.result c.keep.result c.keep.ensures.answer c.ask-answer.ensures.claims

pub returns-else-is_busy-clause-stays : goal.returns-else-is_busy-clause-stays
returns-else-is_busy-clause-stays g c =
    let stays = prefix_trans c.args.self.now.memo c.asks.self.memo c.ask-answer.new.memo c.asks.invariant.2 c.ask-answer.ensures.stays in
    told_on g.R.Runner.queries g.J.Naming.opened c.args.self.now.memo c.ask-answer.new.memo c.keep.new.self.memo stays c.keep.ensures.same

pub returns-else-is_busy-clause-given : goal.returns-else-is_busy-clause-given
returns-else-is_busy-clause-given g c =
    let given : IsGiven g.R.Runner.queries g.J.Naming.opened (λ t u. AskGives t c.args.w c.args.key.now c.ask-answer.result u) = search rules in
    kept_given c.args.key.now c.ask-answer.result c.keep.result g.R.Runner.queries g.J.Naming.opened (λ r. IsGiven g.R.Runner.queries g.J.Naming.opened (λ t u. AskGives t c.args.w c.args.key.now r u)) c.keep.ensures.answer given

pub asks-preserved : goal.asks-preserved
asks-preserved g c = (tt, tt, prefix_trans c.args.self.now.memo c.asks.self.memo c.ask-answer.new.memo c.asks.invariant.2 c.ask-answer.ensures.stays)
