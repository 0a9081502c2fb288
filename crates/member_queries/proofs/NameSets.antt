-- A set of names with one more.
use Rattle.std.proofs.Common.{ℕ, true, List, [], ◌∷◌, ◌++◌, sym, ap, ◌∙◌, bytes_eq, cond}
use Rattle.std.specs.BTreeSet.{BTreeSet, contains, Updates}
use Rattle.std.specs.Cmp.Lexicographic.{slice_cmp}
use Rattle.std.specs.Ordering.{nat_cmp}
use Rattle.std.proofs.lemmas.Map.Text.{is_eq-slice_cmp}
use Rattle.std.proofs.lemmas.List.Folds.{list_any-append}
use Rattle.mj_classes.specs.Chains.{is_in}
use Rattle.named_files.proofs.RepeatLemmas.{cond_or}
use Rattle.member_queries.specs.Met.{HasMet}

pub met_more : (old new : BTreeSet (List ℕ)) (key : List ℕ) (names : List (List ℕ)) → Updates (slice_cmp nat_cmp) old new key true → HasMet old names → HasMet new (names ++ key ∷ [])
met_more old new key names up has = λ q.
    up.0 q
    ∙ (ap (λ b. cond b true (contains (slice_cmp nat_cmp) old q)) (is_eq-slice_cmp key q)
    ∙ (ap (λ x. cond (bytes_eq key q) true x) (has q)
    ∙ (cond_or (bytes_eq key q) (is_in names q) ∙ sym (list_any-append (λ n. bytes_eq n q) names (key ∷ [])))))
