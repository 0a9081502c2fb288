-- Equal keys are hashed alike.
use Rattle.std.specs.Prelude.{◌≡◌, true, ◌++◌, ◌∷◌, []}
use Rattle.std.proofs.Common.{refl}
use Rattle.std.specs.Hash.{HashWrites, u8}
use Rattle.std.specs.Ordering.{nat_cmp, ordering_then, is_eq, eq_by_cmp}
use Rattle.std.specs.declared.cmp.Ordering.{Ordering}
use Rattle.std.specs.declared.cmp.Ordering.TheVariants.{Less, Equal, Greater}
use Rattle.std.specs.Cmp.{Equal-is}
use Rattle.std.specs.Cmp.Lexicographic.{slice_cmp}
use Rattle.std.proofs.lemmas.Map.Lookups.{exact_unsigned, exact_bytes}
use Rattle.steps_keys.specs.declared.key.Key.{Key}
use Rattle.steps_keys.specs.Keys.{class_text, member_text, number, key_cmp}

both_equal : (a b : Ordering) → is_eq (ordering_then a b) ≡ true → (is_eq a ≡ true) × (b ≡ Equal)
both_equal Less b h = absurd cc
both_equal Equal Less h = absurd cc
both_equal Equal Equal h = (refl, refl)
both_equal Equal Greater h = absurd cc
both_equal Greater b h = absurd cc

-- what is written for a key
abbrev pub written : Key → HashWrites
written key = u8 (number key) ++ class_text key ∷ member_text key ∷ []

pub alike : (a b : Key) → eq_by_cmp key_cmp a b ≡ true → written a ≡ written b
alike a b h =
    let outer = both_equal (ordering_then (nat_cmp (number a) (number b)) (slice_cmp nat_cmp (class_text a) (class_text b))) (slice_cmp nat_cmp (member_text a) (member_text b)) h in
    let inner = both_equal (nat_cmp (number a) (number b)) (slice_cmp nat_cmp (class_text a) (class_text b)) outer.0 in
    let same_number : number a ≡ number b = exact_unsigned (number a) (number b) ((Equal-is (nat_cmp (number a) (number b))).0 inner.0) in
    let same_class : class_text a ≡ class_text b = exact_bytes (class_text a) (class_text b) inner.1 in
    let same_member : member_text a ≡ member_text b = exact_bytes (member_text a) (member_text b) outer.1 in
    λ i. u8 (same_number i) ++ same_class i ∷ same_member i ∷ []
