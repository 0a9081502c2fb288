-- The index of the classes of a file.
use Rattle.std.proofs.Common.{◌≡◌, ℕ, zero, suc, ◌+◌, ◌<◌, List, [], ◌∷◌, ◌++◌, length, map, take, get_or, Option, Some, None, refl, subst, sym, ap, ◌∙◌}
use Rattle.std.specs.Prelude.{position, slice_get, option_and_then}
use Rattle.byte_readers.specs.Views.{same_items}
use Rattle.std.specs.BTreeMap.{BTreeMap, get}
use Rattle.std.specs.Cmp.Lexicographic.{slice_cmp}
use Rattle.std.specs.List.{AllZip}
use Rattle.std.specs.Ordering.{nat_cmp}
use Rattle.std.specs.Str.{bytes_eq}
use Rattle.mj_tree.proofs.NamePlaces.{more}
use Rattle.mj_tree.proofs.Positions.{at_some, find_from_position, found_first, position_below, view_at}
use Rattle.mj_tree.specs.Trees.{Name, Method, Class, File}
use Rattle.tree_bytes.specs.declared.stored.StoredClass.{StoredClass}
use Rattle.tree_bytes.specs.declared.stored.StoredFile.{StoredFile}
use Rattle.tree_bytes.specs.Stored.{stored_class, stored_file}
use Rattle.tree_bytes.specs.declared.index.ClassIndex.{ClassIndex}
use Rattle.tree_bytes.specs.Indexes.{FindsMethods, FindsEach, IsIndexOf}
use Rattle.tree_bytes.specs.NamedBodies.{first_class, first_method}

zip_push : {A B : Type 0} (R : A → B → Type 0) (xs : List A) (ys : List B) (x : A) (y : B) → AllZip R xs ys → R x y → AllZip R (xs ++ x ∷ []) (ys ++ y ∷ [])
zip_push R [] [] x y all r = (r, tt)
zip_push R [] (b ∷ ys) x y all r = absurd all
zip_push R (a ∷ xs) [] x y all r = absurd all
zip_push R (a ∷ xs) (b ∷ ys) x y all r = (all.0, zip_push R xs ys x y all.1 r)

-- one class more
pub each_more : (each : List (BTreeMap Name ℕ)) (places : BTreeMap Name ℕ) (classes : List StoredClass) (i : ℕ) (k : StoredClass) → i < length classes → k ≡ get_or classes i k
    → FindsEach each (map stored_class (take i classes)) → FindsMethods places (stored_class k).methods → FindsEach (each ++ places ∷ []) (map stored_class (take (i + 1) classes))
each_more each places classes i k lt is so_far finds =
    subst (λ (ks : List Class). FindsEach (each ++ places ∷ []) ks) (sym (more stored_class classes i k lt is))
    (zip_push (λ p h. FindsMethods p h.methods) each (map stored_class (take i classes)) places (stored_class k) so_far finds)

-- the map of a class
pub each_at : (each : List (BTreeMap Name ℕ)) (classes : List Class) (at : ℕ) (k : Class) (m : Name) → FindsEach each classes → slice_get classes at ≡ Some k
    → option_and_then (λ places. get (slice_cmp nat_cmp) places m) (slice_get each at) ≡ position (λ f. bytes_eq f.name m) k.methods
each_at each [] at k m all e = absurd cc
each_at [] (h ∷ classes) at k m all e = absurd all
each_at (p ∷ each) (h ∷ classes) zero k m all e = all.0 m ∙ ap (λ (x : Class). position (λ f. bytes_eq f.name m) x.methods) (the_same h k e)
  where
    the_same : (x y : Class) → Some x ≡ Some y → x ≡ y
    the_same x y s = cc
each_at (p ∷ each) (h ∷ classes) (suc at) k m all e = each_at each classes at k m all.1 e

-- ---- what is found in a tree

abbrev pub class_place : ClassIndex → Name → Option ℕ
class_place index c = get (slice_cmp nat_cmp) index.classes c

abbrev pub method_place : ClassIndex → ℕ → Name → Option ℕ
method_place index at m = option_and_then (λ places. get (slice_cmp nat_cmp) places m) (slice_get index.methods.items at)

abbrev pub method_of : File → Name → Name → Option Method
method_of f c m = option_and_then (λ k. first_method m k.methods) (first_class c f.classes)

module _ (f : StoredFile) (index : ClassIndex) (is : IsIndexOf index (stored_file f).classes) (c : Name) where
  pub class_absent : class_place index c ≡ None → first_class c (stored_file f).classes ≡ None
  class_absent none = find_from_position (λ k. bytes_eq k.name c) (stored_file f).classes None (sym (is.finds_classes c) ∙ none)

  pub no_class : (m : Name) → class_place index c ≡ None → method_of (stored_file f) c m ≡ None
  no_class m none = ap (option_and_then (λ k. first_method m k.methods)) (class_absent none)

  module _ (at : ℕ) (here : class_place index c ≡ Some at) where
    stands : position (λ k. bytes_eq k.name c) (stored_file f).classes ≡ Some at
    stands = sym (is.finds_classes c) ∙ here

    below : at < length (stored_file f).classes
    below = position_below (λ k. bytes_eq k.name c) (stored_file f).classes at stands

    pub no_method : (m : Name) → method_place index at m ≡ None → method_of (stored_file f) c m ≡ None
    no_method m none =
        let k = at_some (stored_file f).classes at below in
        let found : first_class c (stored_file f).classes ≡ Some k.0 = find_from_position (λ h. bytes_eq h.name c) (stored_file f).classes (Some at) stands ∙ k.1 in
        ap (option_and_then (λ h. first_method m h.methods)) found
        ∙ find_from_position (λ h. bytes_eq h.name m) k.0.methods None (sym (each_at index.methods.items (stored_file f).classes at k.0 m is.finds_methods k.1) ∙ none)

    module _ (k : StoredClass) (read : k ≡ get_or f.classes.items at k) where
      pub class_found : first_class c (stored_file f).classes ≡ Some (stored_class k)
      class_found = found_first stored_class (λ h. bytes_eq h.name c) f.classes.items (stored_file f).classes at k refl stands read

      module _ (m : Name) (i : ℕ) (there : method_place index at m ≡ Some i) where
        method_stands : position (λ h. bytes_eq h.name m) k.methods.items ≡ Some i
        method_stands = sym (each_at index.methods.items (stored_file f).classes at (stored_class k) m is.finds_methods (view_at stored_class f.classes.items at k below read)) ∙ there

        pub method_below : i < length k.methods.items
        method_below = position_below (λ h. bytes_eq h.name m) k.methods.items i method_stands

        pub method_found : (x : Method) → x ≡ get_or k.methods.items i x → method_of (stored_file f) c m ≡ Some x
        method_found x is_at =
            ap (option_and_then (λ h. first_method m h.methods)) class_found
            ∙ found_first (λ h. h) (λ h. bytes_eq h.name m) k.methods.items k.methods.items i x (sym (same_items k.methods.items)) method_stands is_at
