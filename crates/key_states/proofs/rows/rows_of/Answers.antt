use Rattle.std.proofs.Common.{arith, subst, sym}
use Rattle.std.proofs.lemmas.Cmp.{eq_by_cmp_equiv}
use Rattle.item_ids.specs.Keys.{key_total}
use Rattle.key_states.specs.Rows.{AreOrdered}
use Rattle.key_states.proofs.RowRules.{ordered, slice_back}
use Rattle.key_states.proofs.rows.rows_of.Goals as goal

pub returns : goal.returns
returns c =
    let value = c.as_mut_slice.ensures.value in
    subst (AreOrdered c.args.keys.now.keys) (sym (slice_back _ c.sort.new.rows _ (omega (arith, c.sort.ensures.count, c.as_mut_slice.ensures.len))))
    (ordered c.args.keys.now.keys c.as_mut_slice.result.now c.sort.new.rows (rw value c.in_ok-rows.ensures.keys) (rw value c.in_ok-rows.ensures.places) c.in_ok-sort.ensures.same (eq_by_cmp_equiv key_total).symm c.sort.ensures.count (rw value c.in_ok-rows.ensures.apart) c.in_ok-sort.ensures.sorted)
