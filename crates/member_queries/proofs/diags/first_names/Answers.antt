use Rattle.std.proofs.Common.{◌≡◌, ◌∙◌, ◌+◌, sym, ap, subst, [], ◌∷◌, ◌++◌, Bool, List, ℕ, take, not}
use Rattle.std.proofs.lemmas.List.{take_more}
use Rattle.named_files.specs.Repeats.{is_in, repeats}
use Rattle.named_files.proofs.RepeatLemmas.{HasNames, names-insert}
use Rattle.member_queries.specs.FirstNames.{first_names}
use Rattle.member_queries.proofs.Firsts.{new_name, first_push}
use Rattle.member_queries.proofs.diags.first_names.Goals as goal

pub loop-name-init : goal.loop-name-init
unfolding first_names repeats
loop-name-init c = record {
  met = λ q. rw c.new-met.ensures.empty;
  firsts = c.new-firsts.ensures.items;
}

pub loop-name-preserved : goal.loop-name-preserved
loop-name-preserved c =
    let name = c.name-item.result in
    let key = c.as_str.result in
    let before = take c.loop-name.name-index c.args.names.now in
    let same : key.now ≡ name = c.as_str.ensures in
    let more : take (c.loop-name.name-index + 1) c.args.names.now ≡ before ++ name ∷ [] =
    take_more c.args.names.now c.loop-name.name-index name c.loop-name-test.true ∙ ap (λ (n : List ℕ). before ++ n ∷ []) (sym c.name-item.is) in
    let flag : c.in_ok-is_new.is_new ≡ not (is_in before name) =
    c.in_ok-is_new.ensures.added ∙ (ap not (c.loop-name.invariant.met key.now) ∙ ap (λ (n : List ℕ). not (is_in before n)) same) in
    record {
      met = subst (HasNames c.insert.new.self) (ap (λ (n : List ℕ). before ++ n ∷ []) same ∙ sym more)
          (names-insert c.loop-name.met c.insert.new.self key before c.in_ok-is_new.ensures.updates c.loop-name.invariant.met);
      firsts = c.in_ok-keep_new.ensures
          ∙ (ap (λ (fs : List (List ℕ)). fs ++ new_name c.in_ok-is_new.is_new name) c.loop-name.invariant.firsts
          ∙ (ap (λ (b : Bool). first_names before ++ new_name b name) flag
          ∙ (sym (first_push before name) ∙ ap first_names (sym more))));
    }
