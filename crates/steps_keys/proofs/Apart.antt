-- Keys that compare equal are equal.
use Rattle.std.proofs.Common.{◌≡◌, ◌↔◌, IsTrue, true, refl, sym, ap, ◌∙◌}
use Rattle.std.specs.Ordering.{nat_cmp, ordering_then, is_eq}
use Rattle.std.specs.declared.cmp.Ordering.{Ordering}
use Rattle.std.specs.declared.cmp.Ordering.TheVariants.{Less, Equal, Greater}
use Rattle.std.specs.Cmp.{Equal-is}
use Rattle.std.specs.Cmp.Lexicographic.{slice_cmp}
use Rattle.std.proofs.lemmas.Cmp.{tied_itself}
use Rattle.std.proofs.lemmas.Map.Lookups.{exact_unsigned, exact_bytes}
use Rattle.steps_keys.specs.declared.key.Key.{Key}
use Rattle.steps_keys.specs.declared.key.Key.TheVariants.{Files, Source, Plan, Compile, Link, Answer}
use Rattle.steps_keys.specs.Keys.{class_text, member_text, number, key_cmp, key_total}

both_equal : (a b : Ordering) → ordering_then a b ≡ Equal → (a ≡ Equal) × (b ≡ Equal)
both_equal Less b h = absurd cc
both_equal Equal b h = (refl, h)
both_equal Greater b h = absurd cc

-- by number and by the names' texts
same_parts : (a b : Key) → number a ≡ number b → class_text a ≡ class_text b → member_text a ≡ member_text b → a ≡ b
same_parts Files Files n c m = refl
same_parts (Source f) (Source g) n c m = ap Source c
same_parts Plan Plan n c m = refl
same_parts (Compile f) (Compile g) n c m = ap Compile c
same_parts (Link f) (Link g) n c m = ap Link c
same_parts Answer Answer n c m = refl
same_parts _ _ n c m = absurd cc

pub key_exact : (a b : Key) → key_cmp a b ≡ Equal → a ≡ b
key_exact a b h =
    let outer = both_equal (ordering_then (nat_cmp (number a) (number b)) (slice_cmp nat_cmp (class_text a) (class_text b))) (slice_cmp nat_cmp (member_text a) (member_text b)) h in
    let inner = both_equal (nat_cmp (number a) (number b)) (slice_cmp nat_cmp (class_text a) (class_text b)) outer.0 in
    same_parts a b (exact_unsigned _ _ inner.0) (exact_bytes _ _ inner.1) (exact_bytes _ _ outer.1)

pub key_itself : (a b : Key) → a ≡ b → key_cmp a b ≡ Equal
key_itself a b e = ap (key_cmp a) (sym e) ∙ tied_itself key_total a

pub test_same : (a b : Key) → is_eq (key_cmp a b) ≡ true → a ≡ b
test_same a b h = key_exact a b ((Equal-is (key_cmp a b)).0 h)

pub test_itself : (a b : Key) → a ≡ b → is_eq (key_cmp a b) ≡ true
test_itself a b e = ap is_eq (key_itself a b e)

-- `==` of keys is equality
pub key_tests : (a b : Key) → IsTrue (is_eq (key_cmp a b)) ↔ (a ≡ b)
key_tests a b = (test_same a b, test_itself a b)
