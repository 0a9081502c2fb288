use Rattle.std.proofs.Common.{false, refl}
use Rattle.key_states.specs.Nodes.{state_of_nodes}
use Rattle.key_states.specs.Rows.{AreRowsOf, keys_of}
use Rattle.key_states.proofs.RecordRules.{are_records, are_closed}
use Rattle.key_states.proofs.RowRules.{within}
use Rattle.key_states.proofs.closing.session_of.Goals as goal

pub records_of-requires : goal.records_of-requires
records_of-requires c =
    within (state_of_nodes c.args.inputs.now c.args.nodes.now false) _ _ (rw (c.as_slice.ensures.value, c.as_slice-2.ensures.value) c.in_ok-rows.ensures.rows)

pub of_as-requires-clause-records : goal.of_as-requires-clause-records
of_as-requires-clause-records c =
    let s = state_of_nodes c.args.inputs.now c.args.nodes.now false in
    let of : AreRowsOf s c.as_slice.result.now c.as_slice-2.result.now = rw (c.as_slice.ensures.value, c.as_slice-2.ensures.value) c.in_ok-rows.ensures.rows in
    are_records c.ranks_in_order.ensures.lesser s (keys_of c.as_slice.result.now) _ of.ordered.ascend c.requires.order (rw c.in_ok-records.was at (c.records_of.ensures s of))

pub returns : goal.returns
returns c =
    let s = state_of_nodes c.args.inputs.now c.args.nodes.now false in
    let of : AreRowsOf s c.as_slice.result.now c.as_slice-2.result.now = rw (c.as_slice.ensures.value, c.as_slice-2.ensures.value) c.in_ok-rows.ensures.rows in
    rw c.of_as.ensures (record {
      terms_are = refl;
      number = c.number_behind.ensures.number;
      link = c.link_behind.ensures;
      closed =
          are_closed c.args.inputs.now s (keys_of c.as_slice.result.now) _ (rw c.as_slice.ensures.value c.in_ok-rows.ensures.reached)
          of.ordered.ascend (rw c.in_ok-records.was at (c.records_of.ensures s of));
    })
