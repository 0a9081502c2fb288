-- Keys of one kind are told apart by the texts of their names.
use Rattle.std.proofs.Common.{◌≡◌, true, false, refl, sym, ap, ◌∙◌}
use Rattle.std.specs.Prelude.{nat_eq}
use Rattle.std.specs.Ordering.{nat_cmp, ordering_then, is_eq, eq_by_cmp}
use Rattle.std.specs.declared.cmp.Ordering.{Ordering}
use Rattle.std.specs.declared.cmp.Ordering.TheVariants.{Less, Equal, Greater}
use Rattle.std.specs.Cmp.Lexicographic.{pointwise, slice_cmp, texts_ties}
use Rattle.std.proofs.lemmas.Cmp.{tied_itself, nat_cmp_total}
use Rattle.steps_keys.specs.declared.key.Key.{Key}
use Rattle.steps_keys.specs.Keys.{class_text, member_text, number, key_cmp}

by_second : (a b : Ordering) → is_eq a ≡ true → is_eq (ordering_then a b) ≡ is_eq b
by_second Less b h = absurd cc
by_second Equal b h = refl
by_second Greater b h = absurd cc

by_first : (a b : Ordering) → is_eq a ≡ false → is_eq (ordering_then a b) ≡ false
by_first Less b h = refl
by_first Equal b h = absurd cc
by_first Greater b h = refl

module _ (a b : Key) (same : number a ≡ number b) where
  numbers_tie : is_eq (nat_cmp (number a) (number b)) ≡ true
  numbers_tie = ap is_eq (ap (nat_cmp (number a)) (sym same) ∙ tied_itself nat_cmp_total (number a))

  -- by the classes alone
  by_classes : is_eq (ordering_then (nat_cmp (number a) (number b)) (slice_cmp nat_cmp (class_text a) (class_text b))) ≡ pointwise nat_eq (class_text a) (class_text b)
  by_classes = by_second (nat_cmp (number a) (number b)) (slice_cmp nat_cmp (class_text a) (class_text b)) numbers_tie ∙ sym (texts_ties (class_text a) (class_text b))

  pub other_class : pointwise nat_eq (class_text a) (class_text b) ≡ false → eq_by_cmp key_cmp a b ≡ false
  other_class h = by_first _ (slice_cmp nat_cmp (member_text a) (member_text b)) (by_classes ∙ h)

  pub same_class : pointwise nat_eq (class_text a) (class_text b) ≡ true → eq_by_cmp key_cmp a b ≡ pointwise nat_eq (member_text a) (member_text b)
  same_class h = by_second _ (slice_cmp nat_cmp (member_text a) (member_text b)) (by_classes ∙ h) ∙ sym (texts_ties (member_text a) (member_text b))
