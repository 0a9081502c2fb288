use Rattle.std.specs.Prelude.{IsTrue}
use Rattle.table_fixtures.specs.Called.{IsLed, IsHistory}
use Rattle.table_fixtures.proofs.Answered.{answered}
use Rattle.table_fixtures.proofs.histories.is_of_records.Goals as goal

pub returns : goal.returns
returns c =
    answered c.is_led.result (λ b. IsTrue b → IsLed c.args.history.now c.args.records.now c.in_ok-table.table c.is_led.new.table) (λ b. IsTrue b → IsHistory c.args.history.now)
    (λ b led yes. record {
      records = c.args.records.now;
      changed = c.requires;
      start = c.in_ok-table.table;
      opened = c.in_ok-table.ensures;
      end = c.is_led.new.table;
      led = led yes;
    }) c.is_led.ensures
