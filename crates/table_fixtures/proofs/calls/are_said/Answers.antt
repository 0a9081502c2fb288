use Rattle.std.specs.Prelude.{IsTrue}
use Rattle.table_fixtures.specs.Told.{InTurn}
use Rattle.table_fixtures.specs.Called.{IsSaid, AreSaid}
use Rattle.table_fixtures.proofs.Answered.{answered}
use Rattle.table_fixtures.proofs.calls.are_said.Goals as goal

pub returns : goal.returns
returns c =
    answered c.all_say.result (λ b. IsTrue b → InTurn IsSaid c.args.calls.now.sayings.now c.in_ok-table.table c.all_say.new.table) (λ b. IsTrue b → AreSaid c.args.calls.now)
    (λ b said yes. record {
      start = c.in_ok-table.table;
      opened = c.in_ok-table.ensures;
      end = c.all_say.new.table;
      said = said yes;
    }) c.all_say.ensures
