-- The index of classes by name.
use Rattle.std.proofs.Common.{◌≡◌, ℕ, ◌<◌, List, length, Option, Some, None, arith, get_or}
use Rattle.std.specs.Prelude.{position}
use Rattle.std.specs.Str.{bytes_eq}
use Rattle.std.proofs.lemmas.List.{length-map}
use Rattle.mj_tree.specs.Trees.{Name}
use Rattle.mj_classes.specs.Declarations.{decl}
use Rattle.mj_members.specs.Classes.{class_ref_view, classes_view}
use Rattle.mj_members.specs.declared.class.ClassRef.{ClassRef}
use Rattle.mj_tree.proofs.Positions.{find_from_position, find_at_place, position_below}

abbrev pub place_of : List ClassRef → Name → Option ℕ
place_of ks q = position (λ k. bytes_eq k.name q) (classes_view ks)

pub place_below : (ks : List ClassRef) (q : Name) (i : ℕ) → place_of ks q ≡ Some i → i < length ks
place_below ks q i e = let lt = position_below (λ k. bytes_eq k.name q) (classes_view ks) i e in omega (arith, lt, length-map ks class_ref_view)

pub decl_none : (ks : List ClassRef) (q : Name) → place_of ks q ≡ None → decl (classes_view ks) q ≡ None
unfolding decl
decl_none ks q e = find_from_position (λ k. bytes_eq k.name q) (classes_view ks) None e

pub decl_some : (ks : List ClassRef) (q : Name) (i : ℕ) (k : ClassRef) → place_of ks q ≡ Some i → k ≡ get_or ks i k → decl (classes_view ks) q ≡ Some (class_ref_view k)
unfolding decl
decl_some ks q i k e is = find_at_place class_ref_view (λ k. bytes_eq k.name q) ks i k e (place_below ks q i e) is
