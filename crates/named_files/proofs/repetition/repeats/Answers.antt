use Rattle.std.proofs.Common.{◌∙◌, sym, ap, [], ◌∷◌, ◌++◌, List, ℕ, map, take, get_or, not, Bor}
use Rattle.named_files.specs.Repeats.{is_in, repeats}
use Rattle.named_files.proofs.RepeatLemmas.{names-insert, names_more, not_not, repeats-push}
use Rattle.named_files.proofs.repetition.repeats.Goals as goal

pub loop-name-init : goal.loop-name-init
unfolding repeats
loop-name-init c = record {
  seen = λ q. rw c.new-seen.ensures.empty;
  flags = c.new-flags.ensures.items;
}

pub loop-name-preserved : goal.loop-name-preserved
loop-name-preserved c =
    let before = map (λ (n : Bor (List ℕ)). n.now) (take c.loop-name.name-index c.args.names.now) in
    let name = get_or c.args.names.now c.loop-name.name-index (record { ref_ptr = (0, 0); now = [] }) in
    let more = names_more c.args.names.now c.loop-name.name-index (record { ref_ptr = (0, 0); now = [] }) c.loop-name-test.true in
    let flag = not_not c.in_ok-is_new.is_new (is_in before name.now) (c.in_ok-is_new.ensures.added ∙ ap not (c.loop-name.invariant.seen name.now)) in
    record {
      seen = rw more (names-insert c.loop-name.seen c.insert.new.self name before c.in_ok-is_new.ensures.updates c.loop-name.invariant.seen);
      flags = rw more (c.in_ok-push.ensures.items ∙ (ap (λ fs. fs ++ not c.in_ok-is_new.is_new ∷ []) c.loop-name.invariant.flags ∙ (ap (λ f. repeats before ++ f ∷ []) flag ∙ sym (repeats-push before name.now))));
    }
