use Rattle.std.proofs.Common.{length, ◌<◌, arith}
use Rattle.key_states.proofs.RecordRules.{each_more}
use Rattle.key_states.proofs.RowRules.{rows_more, record_is}
use Rattle.key_states.specs.Rows.{keys_of}
use Rattle.key_states.proofs.records.records_of.Goals as goal

pub loop-row-preserved : goal.loop-row-preserved
loop-row-preserved c =
    let rows = c.args.rows.now in
    let i = c.loop-row.row-index in
    let row = c.row-item.result in
    let lt : i < length rows = omega arith in
    let told = c.in_ok-record_of.ensures in
    let edges = rw c.as_slice.ensures.value at told.edges in
    rw c.in_ok-push.ensures.items (
      rows_more rows c.loop-row.records.items i row _ lt c.row-item.is c.loop-row.invariant.0 told.key,
      (λ s of. each_more s (keys_of rows) c.loop-row.records.items _ (c.loop-row.invariant.1 s of)
          (record_is s rows c.args.found.now of c.in_ok-ranks.ranks.items c.in_ok-ranks.ensures i row lt c.row-item.is c.index-found-row.result c.index-found-row.is _ told.key told.value told.mark edges told.kept)),
    )
