-- Keys that are looked up in sets, which tell them apart by their order.
use Rattle.std.proofs.Common.{◌≡◌, ℕ, suc, ◌+◌, ◌<◌, true, false, not, cond, ◌||◌, List, [], ◌∷◌, length, position, get_or, refl, sym, subst, Some, None, arith, true≢false}
use Rattle.std.specs.Prelude.{nat_lt, Contains}
use Rattle.std.specs.List.{list_any, position_or_len}
use Rattle.std.specs.Ordering.{eq_by_cmp}
use Rattle.std.proofs.lemmas.Bool.{ltb-true}
use Rattle.std.proofs.lemmas.Option.{none-some, same_Some}
use Rattle.item_ids.specs.declared.key.Key.{Key}
use Rattle.item_ids.specs.declared.key.Key.TheVariants.{Files}
use Rattle.item_ids.specs.Keys.{key_cmp}
use Rattle.item_ids.proofs.Apart.{test_same}

-- a key that is found is there
pub has_found : (ks : List Key) (q : Key) → list_any (eq_by_cmp key_cmp q) ks ≡ true → Contains ks q
has_found [] q h = absurd (true≢false (sym h))
has_found (k ∷ ks) q h =
    (elim (eq_by_cmp key_cmp q k) as (λ b. eq_by_cmp key_cmp q k ≡ b → (b || list_any (eq_by_cmp key_cmp q) ks) ≡ true → Contains (k ∷ ks) q) [
      | true ↦ λ is _. let l : 0 < length (k ∷ ks) = omega arith in (0, l, sym (test_same q k is))
      | false ↦ λ _ rest. let at = has_found ks q rest in let l : suc at.0 < length (k ∷ ks) = let b = at.1 in omega arith in (suc at.0, l, at.2)
    ]) refl h

found_within : (ks : List Key) (q : Key) → position_or_len (eq_by_cmp key_cmp q) ks < length ks → get_or ks (position_or_len (eq_by_cmp key_cmp q) ks) Files ≡ q
found_within [] q lt = absurd (omega (arith, lt))
found_within (k ∷ ks) q lt =
    (elim (eq_by_cmp key_cmp q k) as (λ b. eq_by_cmp key_cmp q k ≡ b → cond (not b) (1 + position_or_len (eq_by_cmp key_cmp q) ks) 0 < suc (length ks)
    → get_or (k ∷ ks) (cond (not b) (1 + position_or_len (eq_by_cmp key_cmp q) ks) 0) Files ≡ q) [
      | true ↦ λ is l. sym (test_same q k is)
      | false ↦ λ is l.
          let one : suc (position_or_len (eq_by_cmp key_cmp q) ks) ≡ 1 + position_or_len (eq_by_cmp key_cmp q) ks = omega arith in
          subst (λ (i : ℕ). get_or (k ∷ ks) i Files ≡ q) one (found_within ks q (omega (arith, l)))
    ]) refl lt

-- the key that stands at the place that is found
pub found_key : (ks : List Key) (q : Key) (i : ℕ) → position (eq_by_cmp key_cmp q) ks ≡ Some i → get_or ks i Files ≡ q
found_key ks q i is =
    (elim (nat_lt (position_or_len (eq_by_cmp key_cmp q) ks) (length ks)) as (λ b. nat_lt (position_or_len (eq_by_cmp key_cmp q) ks) (length ks) ≡ b
    → cond b (Some (position_or_len (eq_by_cmp key_cmp q) ks)) None ≡ Some i → get_or ks i Files ≡ q) [
      | true ↦ λ lt e. subst (λ (j : ℕ). get_or ks j Files ≡ q) (same_Some _ i e) (found_within ks q (ltb-true _ _ lt))
      | false ↦ λ lt e. absurd (none-some i e)
    ]) refl is
