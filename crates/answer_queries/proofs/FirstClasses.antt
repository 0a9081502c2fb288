-- The first classes of a project are declared under their names.
use Rattle.std.proofs.Common.{◌≡◌, List, [], ◌∷◌, Some, refl, ap, ◌∙◌, inl, inr}
use Rattle.std.specs.List.{AllByRecursion, filter_map}
use Rattle.mj_tree.specs.Trees.{Name}
use Rattle.mj_members.specs.Declarations.{ClassDecl}
use Rattle.mj_classes.specs.Declarations.{decl}
use Rattle.mj_classes.proofs.Climb.{decl_name}
use Rattle.mj_rules.specs.Answering.{first_classes}
use Rattle.member_queries.proofs.Indexed.{AreDeclared, names_once, once_declared}

module _ (cs : List ClassDecl) where
  abbrev pub IsFirst : ClassDecl → Type 0
  IsFirst k = decl cs k.name ≡ Some k

  all_first : (ns : List Name) → AreDeclared cs ns → AllByRecursion IsFirst (filter_map (decl cs) ns)
  all_first [] h = tt
  all_first (n ∷ ns) h =
      let k = h n (inl refl) in
      let found = k.1 in
      let first : IsFirst k.0 = ap (decl cs) (decl_name cs n k.0 k.1) ∙ k.1 in
      rw found (first, all_first ns (λ x i. h x (inr i)))

  pub are_first : AllByRecursion IsFirst (first_classes cs)
  are_first = all_first (names_once cs) (once_declared cs)
