use Rattle.std.proofs.Common.{◌+◌, ◌<◌, length, take, sym, subst, arith}
use Rattle.std.specs.List.{AllZip, enumerate_from}
use Rattle.table_fixtures.specs.Told.{IsChanged}
use Rattle.table_fixtures.proofs.Changing.{numbered_zip_more}
use Rattle.table_fixtures.proofs.changes.records_of.Goals as goal

pub loop-at-preserved : goal.loop-at-preserved
loop-at-preserved c =
    let change = c.args.change.now in
    let records = change.records.now in
    let at = c.loop-at.at in
    let l : at < length records = omega arith in
    subst (λ made. AllZip (λ x. IsChanged change x.0 x.1) (enumerate_from 0 (take (at + 1) records)) made) (sym c.in_ok-push.ensures.items)
    (numbered_zip_more (λ x. IsChanged change x.0 x.1) records c.loop-at.records.items at _ c.changed.result l c.loop-at.invariant c.changed.ensures)
