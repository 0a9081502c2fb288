use Rattle.std.proofs.Common.{get_or, refl}
use Rattle.std.specs.BTreeMap.{get}
use Rattle.std.specs.Ordering.{nat_cmp}
use Rattle.std.specs.Cmp.Lexicographic.{slice_cmp}
use Rattle.file_index.proofs.FirstMethods.{method_added, method_nameless}
use Rattle.file_index.proofs.methods.index_methods.Goals as goal
use Rattle.file_index.proofs.methods.index_methods.Goals.{in-Some+in_ok-add_method, in_default}

pub loop-at-preserved : goal.loop-at-preserved
loop-at-preserved c =
    let at = get_or c.args.publics.now c.loop-at.at-index 0 in
    let so_far = get (slice_cmp nat_cmp) c.loop-at.places in
    elim c.match-name.branch [
      | in-Some+in_ok-add_method w ↦
          let named = rw c.method_name.ensures.value at w.in-Some.ensures.value in
          rw w.places-is
          (method_added c.args.tokens.now c.args.publics.now c.loop-at.at-index at 0 c.loop-at-test.true refl so_far (get (slice_cmp nat_cmp) w.add_method.new.places) w.in-Some.name.now named c.loop-at.invariant w.in_ok-add_method.ensures)
      | in_default w ↦
          let nameless = rw c.method_name.ensures.value at w.in_default.ensures.value in
          rw w.places-is
          (method_nameless c.args.tokens.now c.args.publics.now c.loop-at.at-index at 0 c.loop-at-test.true refl so_far nameless c.loop-at.invariant)
    ]
