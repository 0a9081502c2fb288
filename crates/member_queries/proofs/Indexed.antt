-- The index of a project has its declared classes.
use Rattle.std.proofs.Common.{◌≡◌, suc, ◌≤◌, Bool, ◌||◌, List, [], ◌∷◌, length, map, Option, Some, None, is_some, refl, sym, ap, ap₂, subst, ◌∙◌, bytes_eq, arith, inl, inr}
use Rattle.std.specs.Prelude.{Contains}
use Rattle.std.specs.List.{filter_map}
use Rattle.mj_tree.specs.Trees.{Name}
use Rattle.ordered_names.specs.Order.{NameBefore}
use Rattle.mj_members.specs.Declarations.{ClassDecl}
use Rattle.mj_classes.specs.Declarations.{decl}
use Rattle.mj_classes.specs.Chains.{AreDistinct, is_in}
use Rattle.mj_classes.proofs.Climb.{decl_name}
use Rattle.mj_classes.proofs.Distinct.{In, pigeons, contains_in, in_contains, listed_is, not_in}
use Rattle.named_files.proofs.Listed.{contains_at, place_of, map_at}
use Rattle.mj_rules.specs.Sentences.{classes_in}
use Rattle.mj_rules.specs.FaultLists.{class_names}
use Rattle.mj_rules.specs.Answering.{set_of, name_order}
use Rattle.mj_rules.proofs.Answering.{is_named}
use Rattle.mj_rules.proofs.OneAnswer.{decl_stands}
use Rattle.mj_rules.proofs.Sets.{names_compare, from_set, to_set}
use Rattle.recorder.specs.Projects.{Project}
use Rattle.query_rules.specs.Items.{class_at, index_row, index_of}
use Rattle.member_queries.specs.Supers.{is_listed}

abbrev pub AreDeclared : List ClassDecl → List Name → Type 0
AreDeclared cs ns = (n : Name) → In n ns → (k : ClassDecl) × (decl cs n ≡ Some k)

-- the names of the classes, each once
abbrev pub names_once : List ClassDecl → List Name
names_once cs = set_of name_order (class_names cs)

module _ (cs : List ClassDecl) where
  pub named : (u : Name) (k : ClassDecl) → decl cs u ≡ Some k → Contains (class_names cs) u
  named u k e =
      let p = place_of cs k (decl_stands cs u k e) in
      subst (Contains (class_names cs)) (decl_name cs u k e) (contains_at (class_names cs) p.0 k.name (map_at (λ (j : ClassDecl). j.name) cs p.0 k p.1))

  pub once_declared : AreDeclared cs (names_once cs)
  once_declared n h = is_named cs n (decl cs n) refl (from_set name_order NameBefore names_compare (class_names cs) n (in_contains (names_once cs) n h))

  pub declared_once : (u : Name) (k : ClassDecl) → decl cs u ≡ Some k → Contains (names_once cs) u
  declared_once u k e = to_set name_order NameBefore names_compare (class_names cs) u (named u k e)

  is_once : (u : Name) (o : Option ClassDecl) → decl cs u ≡ o → is_in (names_once cs) u ≡ is_some o
  is_once u (Some k) e = listed_is (names_once cs) u (declared_once u k e)
  is_once u None e = not_in (names_once cs) u (λ h. let k = once_declared u (contains_in (names_once cs) u h) in let no : Some k.0 ≡ None = sym k.1 ∙ e in absurd cc)

module _ (p : Project) where
  any_row : (u : Name) (ns : List Name) → AreDeclared (classes_in p) ns → is_listed (map (index_row p) (filter_map (decl (classes_in p)) ns)) u ≡ is_in ns u
  any_row u [] h = refl
  any_row u (n ∷ ns) h =
      let k = h n (inl refl) in
      let found = k.1 in
      let name = decl_name (classes_in p) n k.0 k.1 in
      rw found (ap₂ (λ (x : Name) (b : Bool). bytes_eq x u || b) name (any_row u ns (λ x i. h x (inr i))))

  as_many : (ns : List Name) → AreDeclared (classes_in p) ns → length (map (index_row p) (filter_map (decl (classes_in p)) ns)) ≡ length ns
  as_many [] h = refl
  as_many (n ∷ ns) h =
      let k = h n (inl refl) in
      let found = k.1 in
      rw found (ap suc (as_many ns (λ x i. h x (inr i))))

  -- it has a class that is declared, and no other
  pub listed : (u : Name) → is_listed (index_of p) u ≡ is_some (class_at p u)
  listed u = any_row u (names_once (classes_in p)) (once_declared (classes_in p)) ∙ is_once (classes_in p) u (class_at p u) refl

  -- distinct declared names are no more than its rows
  pub no_more : (xs : List Name) → AreDistinct xs → ((x : Name) → Contains xs x → (k : ClassDecl) × (decl (classes_in p) x ≡ Some k)) → length xs ≤ length (index_of p)
  no_more xs d h =
      let few = pigeons xs (names_once (classes_in p)) d (λ x i. let k = h x (in_contains xs x i) in contains_in (names_once (classes_in p)) x (declared_once (classes_in p) x k.0 k.1)) in
      omega (arith, few, as_many (names_once (classes_in p)) (once_declared (classes_in p)))
