-- Lists of keys, and what stands first in them.
use Rattle.std.proofs.Common.{◌≡◌, ◌≢◌, Bool, true, false, List, [], ◌∷◌, ◌++◌, map, refl, if◌then◌else◌}
use Rattle.std.specs.Prelude.{flat_map}
use Rattle.std.specs.List.{AllByRecursion}
use Rattle.mj_classes.proofs.Tables.{all_append}
use Rattle.item_ids.specs.declared.key.Key.{Key}
use Rattle.item_ids.specs.KeyLists.{NoneTwice}
use Rattle.item_ids.proofs.Lists.{all_map}
use Rattle.recorder.specs.Backed.{is_seen}
use Rattle.recorder.proofs.Seen.{unseen_last}
use Rattle.query_rules.specs.Reads.{first_keys}

-- ---- what holds of all keys of a list

module _ {X : Type 0} (P : X → Type 0) where
  pub all_mapped : {A : Type 0} (f : A → X) → ((a : A) → P (f a)) → (items : List A) → AllByRecursion P (map f items)
  all_mapped f h [] = tt
  all_mapped f h (a ∷ rest) = (h a, all_mapped f h rest)

  pub all_flat : {A : Type 0} (f : A → List X) → ((a : A) → AllByRecursion P (f a)) → (items : List A) → AllByRecursion P (flat_map f items)
  all_flat f h [] = tt
  all_flat f h (a ∷ rest) = all_append P (f a) (flat_map f rest) (h a) (all_flat f h rest)

pub firsts_all : (P : Key → Type 0) (seen ks : List Key) → AllByRecursion P ks → AllByRecursion P (first_keys seen ks)
firsts_all P seen [] h = tt
firsts_all P seen (k ∷ ks) h = by_test (is_seen seen k) (firsts_all P seen ks h.1) (h.0, firsts_all P (seen ++ k ∷ []) ks h.1)
  where
    by_test : (b : Bool) → AllByRecursion P (first_keys seen ks) → AllByRecursion P (k ∷ first_keys (seen ++ k ∷ []) ks) → AllByRecursion P (if b then first_keys seen ks else k ∷ first_keys (seen ++ k ∷ []) ks)
    by_test true a b = a
    by_test false a b = b

-- ---- none stands twice

abbrev pub AreNew : List Key → List Key → Type 0
AreNew seen ks = AllByRecursion (λ k. is_seen seen k ≡ false) ks × NoneTwice (λ k. k) ks

first_new : (seen : List Key) (k : Key) (ks : List Key) → is_seen seen k ≡ false → AreNew (seen ++ k ∷ []) ks → AreNew seen (k ∷ ks)
first_new seen k ks new h = (
  (new, all_map (λ x. is_seen (seen ++ k ∷ []) x ≡ false) (λ x. is_seen seen x ≡ false) (λ x u. (unseen_last seen k x u).0) ks h.0),
  (all_map (λ x. is_seen (seen ++ k ∷ []) x ≡ false) (λ x. x ≢ k) (λ x u. (unseen_last seen k x u).1) ks h.0, h.1),
)

pub firsts_new : (seen ks : List Key) → AreNew seen (first_keys seen ks)
firsts_new seen [] = (tt, tt)
firsts_new seen (k ∷ ks) = by_test (is_seen seen k) refl (firsts_new seen ks) (firsts_new (seen ++ k ∷ []) ks)
  where
    by_test : (b : Bool) → is_seen seen k ≡ b → AreNew seen (first_keys seen ks) → AreNew (seen ++ k ∷ []) (first_keys (seen ++ k ∷ []) ks) → AreNew seen (if b then first_keys seen ks else k ∷ first_keys (seen ++ k ∷ []) ks)
    by_test true e a b = a
    by_test false e a b = first_new seen k (first_keys (seen ++ k ∷ []) ks) e b
