-- How many records are executed in sessions, one more at a time.
use Rattle.std.proofs.Common.{◌≡◌, ℕ, ◌+◌, ◌<◌, List, [], ◌∷◌, ◌++◌, length, map, take, get_or, refl, sym, ap, ◌∙◌}
use Rattle.std.specs.Prelude.{sum}
use Rattle.std.specs.List.{fold}
use Rattle.std.proofs.lemmas.List.{take_more, map-append}
use Rattle.table_fixtures.specs.declared.changes.Change.{Change}
use Rattle.audit_fixtures.specs.Chains.{runs_told}

sums_more : (a : ℕ) (ns : List ℕ) (n : ℕ) → fold ◌+◌ a (ns ++ n ∷ []) ≡ fold ◌+◌ a ns + n
sums_more a [] n = refl
sums_more a (m ∷ ns) n = sums_more (a + m) ns n

runs_more : (chain : List Change) (change : Change) → runs_told (chain ++ change ∷ []) ≡ runs_told chain + length change.executed.now
runs_more chain change =
    let runs : Change → ℕ = λ (c : Change). length c.executed.now in
    ap sum (map-append runs chain (change ∷ [])) ∙ sums_more 0 (map runs chain) (runs change)

-- those of one session more
pub runs_further : (chain : List Change) (i : ℕ) (d : Change) (runs next : ℕ) → i < length chain → runs ≡ runs_told (take i chain)
    → next ≡ runs + length (get_or chain i d).executed.now → next ≡ runs_told (take (i + 1) chain)
runs_further chain i d runs next l front is =
    is ∙ (ap (λ k. k + length (get_or chain i d).executed.now) front ∙ sym (ap runs_told (take_more chain i d l) ∙ runs_more (take i chain) (get_or chain i d)))
