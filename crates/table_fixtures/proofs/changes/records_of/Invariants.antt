use Rattle.std.proofs.Common.{take}
use Rattle.std.specs.List.{AllZip, enumerate_from}
use Rattle.table_fixtures.specs.Told.{IsChanged}
use Rattle.table_fixtures.proofs.changes.records_of.Given as goal

abbrev pub invariant-loop-at : goal.invariant-loop-at
invariant-loop-at l =
    AllZip (λ x. IsChanged l.change x.0 x.1) (enumerate_from 0 (take l.at l.change.records.now)) l.records.items
