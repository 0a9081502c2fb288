-- What is found in a table is the nearest declaration.
use Rattle.std.proofs.Common.{◌≡◌, Bool, List, [], ◌∷◌, drop, map, Option, Some, None, option_map, refl, sym, ap, ◌∙◌, subst, inl, inr, cond, find}
use Rattle.std.specs.Prelude.{Contains}
use Rattle.std.specs.Option.{option_or}
use Rattle.std.specs.List.{AllByRecursion}
use Rattle.std.specs.List.Sorted.{IsStrictlySortedBy}
use Rattle.std.specs.Ordering.{nat_cmp, eq_by_cmp}
use Rattle.std.specs.declared.cmp.Ordering.TheVariants.{Less}
use Rattle.std.specs.Cmp.Lexicographic.{slice_cmp}
use Rattle.std.specs.FinMap as names
use Rattle.std.specs.Str.{bytes_eq}
use Rattle.std.proofs.lemmas.Map.Text.{is_eq-slice_cmp}
use Rattle.std.proofs.lemmas.Option.{none-some, same_Some}
use Rattle.mj_tree.specs.Trees.{Name}
use Rattle.mj_tree.proofs.Positions.{bytes_eq_back, find-map}
use Rattle.ordered_names.specs.Order.{NameBefore, IsAscendingByName}
use Rattle.mj_members.specs.Declarations.{ClassDecl}
use Rattle.mj_members.specs.Tables.{named_rows, all_along, firsts}
use Rattle.mj_members.proofs.Tables.{by_bytes, under}
use Rattle.mj_classes.specs.Declarations.{decl}
use Rattle.mj_classes.specs.Chains.{ancestry}
use Rattle.mj_classes.specs.Members.{nearest, or_farther}
use Rattle.mj_classes.specs.Tables.{AreAscending}
use Rattle.mj_classes.proofs.Climb.{has_none}
use Rattle.mj_classes.proofs.Distinct.{In, in_contains}
use Rattle.mj_classes.proofs.Nearest.{ancestry_by}
use Rattle.mj_classes.proofs.Tables.{named_names, firsts_ascend, table_named}
use Rattle.mj_tables.proofs.Behind.{StandBehind}
use Rattle.mj_tables.proofs.Over.{under_rows, nearest_append}

-- ---- the order of a table

ascending_rows : {X Y : Type 0} (view : X → Y) (name : Y → Name) (rows : List X) → AreAscending (map name (map view rows)) → IsAscendingByName (λ x. name (view x)) rows
unfolding IsStrictlySortedBy
ascending_rows view name [] h = tt
ascending_rows {X} {Y} view name (x ∷ xs) h = (each xs h.0, ascending_rows view name xs h.1)
  where
    each : (ys : List X) → AllByRecursion (λ m. slice_cmp nat_cmp (name (view x)) m ≡ Less) (map name (map view ys)) → AllByRecursion (λ y. NameBefore (name (view x)) (name (view y))) ys
    each [] k = tt
    each (y ∷ ys) k = (k.0, each ys k.1)

pub table_ascends : {X A : Type 0} (view : X → Name × A) (name : A → Name) (own : ClassDecl → List A) (ks : List ClassDecl) (rows : List X) → map view rows ≡ firsts (all_along name own ks) → IsAscendingByName (λ x. name (view x).1) rows
table_ascends {X} {A} view name own ks rows is =
    let named = named_names (λ (r : Name × A). name r.1) (names.entries (names.from_entries {R = by_bytes} (all_along name own ks))) (table_named name own ks) in
    ascending_rows view (λ (r : Name × A). name r.1) rows (subst AreAscending (sym (ap (map (λ (r : Name × A). name r.1)) is ∙ named)) (firsts_ascend (all_along name own ks)))

-- ---- what is found in it

find_under : {A : Type 0} (name : A → Name) (n : Name) (rows : List (Name × A)) → find (λ r. bytes_eq (name r.1) n) rows ≡ under n (named_rows name rows)
find_under name n [] = refl
find_under {A} name n (r ∷ rs) =
    let same : eq_by_cmp by_bytes n (name r.1) ≡ bytes_eq (name r.1) n = is_eq-slice_cmp n (name r.1) ∙ bytes_eq_back n (name r.1) in
    ap (λ (b : Bool). cond b (Some r) (find (λ (q : Name × A). bytes_eq (name q.1) n) rs)) (sym same)
    ∙ ap (λ (o : Option (Name × A)). cond (eq_by_cmp by_bytes n (name r.1)) (Some r) o) (find_under name n rs)

pub found_nearest : {X A : Type 0} (view : X → Name × A) (name : A → Name) (own : ClassDecl → List A) (ks : List ClassDecl) (rows : List X) (n : Name) (found : Option X) → map view rows ≡ firsts (all_along name own ks)
    → found ≡ find (λ x. bytes_eq (name (view x).1) n) rows → option_map view found ≡ nearest (λ k. find (λ a. bytes_eq (name a) n) (own k)) ks
found_nearest {X} {A} view name own ks rows n found is e =
    ap (option_map view) e
    ∙ (sym (find-map view (λ (r : Name × A). bytes_eq (name r.1) n) rows)
    ∙ (ap (find (λ (r : Name × A). bytes_eq (name r.1) n)) is
    ∙ (find_under name n (firsts (all_along name own ks)) ∙ under_rows name own ks n)))

pub none_undeclared : {A : Type 0} (own : ClassDecl → Option A) (cs : List ClassDecl) (c : Name) → decl cs c ≡ None → nearest own (ancestry cs c) ≡ None
none_undeclared own cs c e = ap (nearest own) (ancestry_by cs c None (has_none cs c e))

-- ---- what is found behind a class

owner_in : {A : Type 0} (own : ClassDecl → Option A) (ks : List ClassDecl) (owner : Name) (a : A) → nearest own ks ≡ Some (owner, a) → In owner (map (λ (k : ClassDecl). k.name) ks)
owner_in own [] owner a e = absurd (none-some (owner, a) e)
owner_in {A} own (k ∷ ks) owner a e = by (own k) (owner_in own ks owner a) e
  where
    by : (o : Option A) → (nearest own ks ≡ Some (owner, a) → In owner (map (λ (j : ClassDecl). j.name) ks)) → or_farther k.name o (nearest own ks) ≡ Some (owner, a) → In owner (map (λ (j : ClassDecl). j.name) (k ∷ ks))
    by None rest f = inr (rest f)
    by (Some x) rest f = inl (ap (λ (p : Name × A). p.0) (same_Some (k.name, x) (owner, a) f))

module _ {A : Type 0} (own : ClassDecl → Option A) (cs : List ClassDecl) (k : ClassDecl) (above : List ClassDecl) (b : StandBehind cs k above) where
  rest : drop 1 (ancestry cs k.name) ≡ b.classes
  rest = ap (drop 1) b.along

  -- what the rest of the chain has the superclass has
  nearest_above : (o : Option (Name × A)) → nearest own b.classes ≡ o → nearest own above ≡ option_or o (nearest own above)
  nearest_above None e = refl
  nearest_above (Some found) e = elim b.same [
    | inl same ↦ ap (nearest own) same ∙ e
    | inr same ↦ ap (nearest own) same ∙ (nearest_append own b.classes (k ∷ []) ∙ ap (λ (o : Option (Name × A)). option_or o (nearest own (k ∷ []))) e)
  ]

  not_itself : (owner : Name) (a : A) → nearest own b.classes ≡ Some (owner, a) → owner ≡ k.name → ⊥
  not_itself owner a e same = b.others (subst (Contains (map (λ (j : ClassDecl). j.name) b.classes)) same (in_contains _ owner (owner_in own b.classes owner a e)))

  pub none_behind : nearest own above ≡ None → nearest own (drop 1 (ancestry cs k.name)) ≡ None
  none_behind none = ap (nearest own) rest ∙ by (nearest own b.classes) refl
    where
      by : (o : Option (Name × A)) → nearest own b.classes ≡ o → o ≡ None
      by None e = refl
      by (Some found) e = absurd (none-some found (sym none ∙ nearest_above (Some found) e))

  pub itself_behind : (owner : Name) (a : A) → nearest own above ≡ Some (owner, a) → owner ≡ k.name → nearest own (drop 1 (ancestry cs k.name)) ≡ None
  itself_behind owner a found same = ap (nearest own) rest ∙ by (nearest own b.classes) refl
    where
      by : (o : Option (Name × A)) → nearest own b.classes ≡ o → o ≡ None
      by None e = refl
      by (Some x) e =
          let it : x ≡ (owner, a) = same_Some x (owner, a) (sym (nearest_above (Some x) e) ∙ found) in
          absurd (not_itself x.0 x.1 e (ap (λ (p : Name × A). p.0) it ∙ same))

  pub other_behind : (owner : Name) (a : A) → nearest own above ≡ Some (owner, a) → (owner ≡ k.name → ⊥) → nearest own (drop 1 (ancestry cs k.name)) ≡ Some (owner, a)
  other_behind owner a found apart = ap (nearest own) rest ∙ by (nearest own b.classes) refl
    where
      alone : (o : Option A) → or_farther k.name o None ≡ Some (owner, a) → ⊥
      alone None e = none-some (owner, a) e
      alone (Some x) e = apart (ap (λ (p : Name × A). p.0) (sym (same_Some (k.name, x) (owner, a) e)))

      by : (o : Option (Name × A)) → nearest own b.classes ≡ o → o ≡ Some (owner, a)
      by (Some x) e = sym (nearest_above (Some x) e) ∙ found
      by None e = elim b.same [
        | inl same ↦ absurd (none-some (owner, a) (sym e ∙ (sym (ap (nearest own) same) ∙ found)))
        | inr same ↦ absurd (alone (own k) (sym (ap (λ (o : Option (Name × A)). option_or o (nearest own (k ∷ []))) e) ∙ (sym (nearest_append own b.classes (k ∷ [])) ∙ (sym (ap (nearest own) same) ∙ found))))
      ]
