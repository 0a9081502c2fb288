-- The table of a class is what it declares laid over the table of its superclass.
use Rattle.std.proofs.Common.{◌≡◌, List, [], ◌∷◌, ◌++◌, Option, Some, None, refl, sym, ap, ◌∙◌, inl, inr, find}
use Rattle.std.specs.Option.{option_or}
use Rattle.std.specs.Map.{values_of}
use Rattle.std.specs.FinMap as names
use Rattle.std.specs.Str.{bytes_eq}
use Rattle.mj_tree.specs.Trees.{Name, Method}
use Rattle.mj_tree.specs.declared.tree.Field.{Field}
use Rattle.mj_members.specs.Declarations.{ClassDecl}
use Rattle.mj_members.specs.Tables.{own_rows, named_rows, all_along, firsts, fields_along, methods_along, fields_over, methods_over}
use Rattle.mj_members.proofs.Tables.{by_bytes, under, under_first, firsts_are}
use Rattle.mj_classes.specs.Declarations.{decl}
use Rattle.mj_classes.specs.Chains.{ancestry}
use Rattle.mj_classes.specs.Members.{nearest, or_farther}
use Rattle.mj_classes.specs.Tables.{field_table, method_table}
use Rattle.mj_classes.proofs.Tables.{AllNamed, under_own, under_along, table_named}
use Rattle.mj_tables.proofs.Behind.{StandBehind, behind}

-- ---- rows with their names

named_back : {A : Type 0} (name : A → Name) (es : List (Name × (Name × A))) → AllNamed (λ (r : Name × A). name r.1) es → named_rows name (values_of es) ≡ es
named_back name [] all = refl
named_back {A} name (e ∷ es) all =
    let head : (name e.1.1, e.1) ≡ e = λ i. (sym all.0 i, e.1) in
    ap (λ (z : Name × (Name × A)). z ∷ named_rows name (values_of es)) head ∙ ap (λ (zs : List (Name × (Name × A))). e ∷ zs) (named_back name es all.1)

-- what stands under a name among the rows of classes is that of the nearest one
pub under_rows : {A : Type 0} (name : A → Name) (own : ClassDecl → List A) (ks : List ClassDecl) (n : Name)
    → under n (named_rows name (firsts (all_along name own ks))) ≡ nearest (λ k. find (λ a. bytes_eq (name a) n) (own k)) ks
under_rows {A} name own ks n =
    let table : List (Name × (Name × A)) = names.entries (names.from_entries {R = by_bytes} (all_along name own ks)) in
    ap (under n) (named_back name table (table_named name own ks)) ∙ (under_first n (all_along name own ks) ∙ under_along name own n ks)

firsts_alike : {A : Type 0} (es fs : List (Name × A)) → ((n : Name) → under n es ≡ under n fs) → firsts es ≡ firsts fs
firsts_alike es fs same =
    firsts_are (names.entries (names.from_entries {R = by_bytes} es)) fs (names.entries_sorted (names.from_entries {R = by_bytes} es)) (λ n. under_first n es ∙ same n)

-- ---- the nearest behind a class

pub nearest_append : {A : Type 0} (own : ClassDecl → Option A) (ks js : List ClassDecl) → nearest own (ks ++ js) ≡ option_or (nearest own ks) (nearest own js)
nearest_append own [] js = refl
nearest_append {A} own (k ∷ ks) js = by (own k) (nearest_append own ks js)
  where
    by : (o : Option A) → nearest own (ks ++ js) ≡ option_or (nearest own ks) (nearest own js) → or_farther k.name o (nearest own (ks ++ js)) ≡ option_or (or_farther k.name o (nearest own ks)) (nearest own js)
    by None e = e
    by (Some a) e = refl

or_none : {A : Type 0} (o : Option A) → option_or o None ≡ o
or_none None = refl
or_none (Some a) = refl

-- behind a class it stands itself no nearer
again : {A : Type 0} (own : ClassDecl → Option A) (k : ClassDecl) (ks : List ClassDecl) → or_farther k.name (own k) (nearest own (ks ++ k ∷ [])) ≡ or_farther k.name (own k) (nearest own ks)
again {A} own k ks = by (own k) refl
  where
    by : (o : Option A) → own k ≡ o → or_farther k.name o (nearest own (ks ++ k ∷ [])) ≡ or_farther k.name o (nearest own ks)
    by (Some a) e = refl
    by None e = nearest_append own ks (k ∷ []) ∙ (ap (λ (p : Option A). option_or (nearest own ks) (or_farther k.name p None)) e ∙ or_none (nearest own ks))

-- ---- a table over another

module _ {A : Type 0} (name : A → Name) (own : ClassDecl → List A) (cs : List ClassDecl) (k : ClassDecl) (above : List ClassDecl) (b : StandBehind cs k above) where
  near : (n : Name) → or_farther k.name (find (λ a. bytes_eq (name a) n) (own k)) (nearest (λ j. find (λ a. bytes_eq (name a) n) (own j)) above)
      ≡ or_farther k.name (find (λ a. bytes_eq (name a) n) (own k)) (nearest (λ j. find (λ a. bytes_eq (name a) n) (own j)) b.classes)
  near n = elim b.same [
    | inl e ↦ ap (λ ks. or_farther k.name (find (λ a. bytes_eq (name a) n) (own k)) (nearest (λ j. find (λ a. bytes_eq (name a) n) (own j)) ks)) e
    | inr e ↦ ap (λ ks. or_farther k.name (find (λ a. bytes_eq (name a) n) (own k)) (nearest (λ j. find (λ a. bytes_eq (name a) n) (own j)) ks)) e ∙ again (λ j. find (λ a. bytes_eq (name a) n) (own j)) k b.classes
  ]

  pub rows_laid_over : firsts (own_rows name k.name (own k) ++ named_rows name (firsts (all_along name own above))) ≡ firsts (all_along name own (ancestry cs k.name))
  rows_laid_over =
      firsts_alike (own_rows name k.name (own k) ++ named_rows name (firsts (all_along name own above))) (all_along name own (ancestry cs k.name)) (λ n.
      under_own name n k.name (own k) (named_rows name (firsts (all_along name own above)))
      ∙ (ap (or_farther k.name (find (λ a. bytes_eq (name a) n) (own k))) (under_rows name own above n)
      ∙ (near n ∙ (sym (under_along name own n (k ∷ b.classes)) ∙ ap (λ ks. under n (all_along name own ks)) (sym b.along)))))

pub fields_laid_over : (cs : List ClassDecl) (k : ClassDecl) → decl cs k.name ≡ Some k → (u : Name) → k.superclass ≡ Some u → fields_over k (field_table cs u) ≡ field_table cs k.name
unfolding fields_over fields_along
fields_laid_over cs k here u super = rows_laid_over (λ (f : Field). f.name) (λ (j : ClassDecl). j.fields) cs k (ancestry cs u) (behind cs k here u super)

pub methods_laid_over : (cs : List ClassDecl) (k : ClassDecl) → decl cs k.name ≡ Some k → (u : Name) → k.superclass ≡ Some u → methods_over k (method_table cs u) ≡ method_table cs k.name
unfolding methods_over methods_along
methods_laid_over cs k here u super = rows_laid_over (λ (m : Method). m.name) (λ (j : ClassDecl). j.methods) cs k (ancestry cs u) (behind cs k here u super)
