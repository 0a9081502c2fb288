-- Keys in sets.
use Rattle.std.proofs.Common.{◌≡◌, ℕ, suc, zero, ◌+◌, ◌<◌, ◌≤◌, false, List, [], ◌∷◌, length, slice_get, get_or, refl, sym, ap, ◌∙◌, subst, Some, None, arith, true≢false}
use Rattle.std.specs.Prelude.{Contains, IsSorted}
use Rattle.std.specs.List.{AllByRecursion, IsDistinct}
use Rattle.std.specs.Ordering.{eq_by_cmp, is_eq, is_lt, ordering_reverse}
use Rattle.std.specs.declared.cmp.Ordering.{Ordering}
use Rattle.std.specs.declared.cmp.Ordering.TheVariants.{Less, Equal, Greater}
use Rattle.std.proofs.lemmas.Option.{none-some, same_Some}
use Rattle.item_ids.specs.declared.key.Key.{Key}
use Rattle.item_ids.specs.Keys.{key_cmp, key_total}
use Rattle.graph_rules.specs.Graphs.{KeyBefore}
use Rattle.key_states.specs.Reached.{Ascend, key_in}

-- ---- sorted keys that are told apart ascend

less_by : (a b : Key) → eq_by_cmp key_cmp a b ≡ false → is_lt (key_cmp b a) ≡ false → KeyBefore a b
less_by a b apart above = go (key_cmp a b) refl
  where
    go : (o : Ordering) → key_cmp a b ≡ o → key_cmp a b ≡ Less
    go Less e = e
    go Equal e = absurd (true≢false (sym (ap is_eq e) ∙ apart))
    go Greater e = absurd (true≢false (sym (ap is_lt (key_total.antisymm b a ∙ ap ordering_reverse e)) ∙ above))

before_rest : (a b : Key) → KeyBefore a b → (ks : List Key) → AllByRecursion (KeyBefore b) ks → AllByRecursion (KeyBefore a) ks
before_rest a b less [] h = tt
before_rest a b less (k ∷ ks) h = (key_total.trans a b k less h.0, before_rest a b less ks h.1)

pub sorted_ascend : (ks : List Key) → IsSorted key_cmp ks → IsDistinct (eq_by_cmp key_cmp) ks → Ascend ks
unfolding IsDistinct
sorted_ascend [] sorted apart = tt
sorted_ascend (a ∷ []) sorted apart = (tt, tt)
sorted_ascend (a ∷ b ∷ ks) sorted apart =
    let next : (k : ℕ) → suc k + 1 ≡ suc (k + 1) = λ k. omega arith in
    let later : IsSorted key_cmp (b ∷ ks) = λ k d low high.
    subst (λ (j : ℕ). is_lt (key_cmp (get_or (a ∷ b ∷ ks) j d) (get_or (b ∷ ks) k d)) ≡ false) (next k) (sorted (suc k) d (omega arith) (omega (arith, high))) in
    let rest = sorted_ascend (b ∷ ks) later apart.1 in
    let less = less_by a b apart.0.0 (sorted 0 a (omega arith) (omega arith)) in
    ((less, before_rest a b less ks rest.0), rest)

-- ---- the key at a place

pub key_at : (ks : List Key) (i : ℕ) (q : Key) → slice_get ks i ≡ Some q → key_in ks i ≡ q
key_at [] i q is = absurd (none-some q is)
key_at (k ∷ ks) zero q is = same_Some k q is
key_at (k ∷ ks) (suc i) q is = key_at ks i q is

pub at_within : (ks : List Key) (i : ℕ) (q : Key) → slice_get ks i ≡ Some q → i < length ks
at_within [] i q is = absurd (none-some q is)
at_within (k ∷ ks) zero q is = omega arith
at_within (k ∷ ks) (suc i) q is = let l = at_within ks i q is in omega (arith, l)

pub at_end : (ks : List Key) (i : ℕ) → slice_get ks i ≡ None → length ks ≤ i
at_end [] i is = omega arith
at_end (k ∷ ks) zero is = absurd (none-some k (sym is))
at_end (k ∷ ks) (suc i) is = let l = at_end ks i is in omega (arith, l)

get_at : (ks : List Key) (i : ℕ) (q : Key) → slice_get ks i ≡ Some q → get_or ks i q ≡ q
get_at [] i q is = refl
get_at (k ∷ ks) zero q is = same_Some k q is
get_at (k ∷ ks) (suc i) q is = get_at ks i q is

pub at_has : (ks : List Key) (i : ℕ) (q : Key) → slice_get ks i ≡ Some q → Contains ks q
at_has ks i q is = (i, at_within ks i q is, get_at ks i q is)
