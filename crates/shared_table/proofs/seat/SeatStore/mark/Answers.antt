use Rattle.std.proofs.Common.{refl}
use Rattle.shared_table.proofs.Told.{told_on}
use Rattle.shared_table.proofs.seat.SeatStore.mark.Goals as goal

pub returns-clause-stays : goal.returns-clause-stays
returns-clause-stays g c = told_on g.R.Runner.queries g.J.Naming.opened c.args.self.now.memo c.mark-answer.new.memo c.mark-answer.new.memo c.mark-answer.ensures.stays refl
