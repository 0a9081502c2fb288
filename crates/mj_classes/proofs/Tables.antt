-- Tables of classes: what stands in them, and in which order.
use Rattle.std.proofs.Common.{◌≡◌, Bool, true, false, List, [], ◌∷◌, ◌++◌, map, Option, Some, refl, sym, ap, ◌∙◌, subst, arith, ◌⊎◌, inl, inr, cond}
use Rattle.std.specs.Prelude.{find, Contains, ◌&&◌, T}
use Rattle.std.specs.List.{AllByRecursion}
use Rattle.std.specs.List.Sorted.{IsStrictlySortedBy}
use Rattle.std.specs.Map.{lookup, keys_of, values_of}
use Rattle.std.specs.Ordering.{eq_by_cmp, is_lt}
use Rattle.std.specs.declared.cmp.Ordering.{Ordering}
use Rattle.std.specs.declared.cmp.Ordering.TheVariants.{Less, Equal, Greater}
use Rattle.std.specs.FinMap as names
use Rattle.std.specs.FinMap.Entries as entries
use Rattle.std.specs.Str.{bytes_eq}
use Rattle.std.proofs.lemmas.Cmp.{nat_list_cmp_total, eq_by_cmp_equiv}
use Rattle.std.proofs.lemmas.List.Elements.{Contains-append_right, Contains-append_cases, Contains-push_cases}
use Rattle.std.proofs.lemmas.Map.Keys.{IsDistinct-from_sorted}
use Rattle.std.proofs.lemmas.Map.Lookups.{exact_bytes}
use Rattle.std.proofs.lemmas.Map.Views.{tells_apart, lookup-from_Contains, Contains-from_lookup}
use Rattle.std.proofs.lemmas.Map.Text.{is_eq-slice_cmp}
use Rattle.mj_tree.specs.Trees.{Name}
use Rattle.mj_members.specs.Declarations.{ClassDecl}
use Rattle.mj_classes.specs.Members.{nearest, or_farther}
use Rattle.mj_members.specs.Tables.{all_along, firsts}
use Rattle.mj_classes.specs.Tables.{AreAscending, IsTable}
use Rattle.mj_members.proofs.Tables.{by_bytes, under, under_first}
use Rattle.mj_tree.proofs.Positions.{bytes_eq_back}

-- ---- lists of entries

and_first : (a b : Bool) → T (a && b) → T a
and_first true b h = tt
and_first false b h = absurd h

and_second : (a b : Bool) → T (a && b) → T b
and_second true b h = h
and_second false b h = absurd h

is_less : (o : Ordering) → T (is_lt o) → o ≡ Less
is_less Less h = refl
is_less Equal h = absurd h
is_less Greater h = absurd h

below_each : {A : Type 0} (n : Name) (es : List (Name × A)) → T (entries.below_all by_bytes n es) → AllByRecursion (λ m. by_bytes n m ≡ Less) (keys_of es)
below_each n [] h = tt
below_each n (e ∷ es) h = (is_less _ (and_first _ _ h), below_each n es (and_second _ _ h))

pub ascending_keys : {A : Type 0} (es : List (Name × A)) → T (entries.is_sorted by_bytes es) → AreAscending (keys_of es)
unfolding IsStrictlySortedBy
ascending_keys [] h = tt
ascending_keys (e ∷ es) h = (below_each e.0 es (and_first _ _ h), ascending_keys es (and_second _ _ h))

-- what stands under a name is what a look-up of the name finds
pub under_lookup : {A : Type 0} (n : Name) (es : List (Name × A)) → under n es ≡ lookup (eq_by_cmp by_bytes n) es
under_lookup n [] = refl
under_lookup n (e ∷ es) = ap (λ o. cond (eq_by_cmp by_bytes n e.0) (Some e.1) o) (under_lookup n es)

stands : {A : Type 0} (n : Name) (a : A) (es : List (Name × A)) → under n es ≡ Some a → Contains es (n, a)
stands n a es e = Contains-from_lookup (tells_apart exact_bytes) n a es (sym (under_lookup n es) ∙ e)

found : {A : Type 0} (n : Name) (a : A) (es : List (Name × A)) → AreAscending (keys_of es) → Contains es (n, a) → under n es ≡ Some a
found n a es up h = under_lookup n es ∙ lookup-from_Contains (eq_by_cmp_equiv nat_list_cmp_total) n a es (IsDistinct-from_sorted by_bytes (keys_of es) up) h

contains_cons : {A : Type 0} (x y : A) (ys : List A) → Contains (y ∷ ys) x → (y ≡ x) ⊎ Contains ys x
contains_cons x y ys h =
    elim (Contains-append_cases (y ∷ []) ys x h) [
      | inl a ↦ elim (Contains-push_cases [] y x a) [ inl b ↦ absurd (omega (arith, b.1)) | inr e ↦ inl e ]
      | inr b ↦ inr b
    ]

contains_first : {A : Type 0} (x : A) (xs : List A) → Contains (x ∷ xs) x
contains_first x xs = (0, omega arith, refl)

value_stands : {A : Type 0} (n : Name) (a : A) (es : List (Name × A)) → Contains es (n, a) → Contains (values_of es) a
value_stands n a [] h = absurd (omega (arith, h.1))
value_stands {A} n a (e ∷ es) h = elim (contains_cons (n, a) e es h) [
  | inl same ↦ let it : e.1 ≡ a = ap (λ (p : Name × A). p.1) same in subst (Contains (e.1 ∷ values_of es)) it (contains_first e.1 (values_of es))
  | inr rest ↦ Contains-append_right (e.1 ∷ []) (values_of es) a (value_stands n a es rest)
]

-- each entry stands under its own name
abbrev pub AllNamed : {A : Type 0} → (A → Name) → List (Name × A) → Type 0
AllNamed name es = AllByRecursion (λ e. e.0 ≡ name e.1) es

same_pair : {A : Type 0} (e : Name × A) (n : Name) (b : A) → e.0 ≡ n → e.1 ≡ b → e ≡ (n, b)
same_pair e n b p q = λ i. (p i, q i)

stands_named : {A : Type 0} (name : A → Name) (a : A) (es : List (Name × A)) → AllNamed name es → Contains (values_of es) a → Contains es (name a, a)
stands_named name a [] all h = absurd (omega (arith, h.1))
stands_named name a (e ∷ es) all h = elim (contains_cons a e.1 (values_of es) h) [
  | inl same ↦
      let head : e ≡ (name a, a) = same_pair e (name a) a (all.0 ∙ ap name same) same in
      subst (Contains (e ∷ es)) head (contains_first e es)
  | inr rest ↦ Contains-append_right (e ∷ []) es (name a, a) (stands_named name a es all.1 rest)
]

pub named_names : {A : Type 0} (name : A → Name) (es : List (Name × A)) → AllNamed name es → map name (values_of es) ≡ keys_of es
named_names name [] all = refl
named_names name (e ∷ es) all = ap (λ (n : Name). n ∷ map name (values_of es)) (sym all.0) ∙ ap (λ (ns : List Name). e.0 ∷ ns) (named_names name es all.1)

-- what holds of each element holds of all
pub all_from_each : {A : Type 0} (P : A → Type 0) (xs : List A) → ((x : A) → Contains xs x → P x) → AllByRecursion P xs
all_from_each P [] h = tt
all_from_each P (x ∷ xs) h = (h x (contains_first x xs), all_from_each P xs (λ y i. h y (Contains-append_right (x ∷ []) xs y i)))

each_from_all : {A : Type 0} (P : A → Type 0) (xs : List A) → AllByRecursion P xs → (x : A) → Contains xs x → P x
each_from_all P [] all x h = absurd (omega (arith, h.1))
each_from_all P (y ∷ ys) all x h = elim (contains_cons x y ys h) [
  | inl same ↦ subst P same all.0
  | inr rest ↦ each_from_all P ys all.1 x rest
]

pub all_append : {A : Type 0} (P : A → Type 0) (xs ys : List A) → AllByRecursion P xs → AllByRecursion P ys → AllByRecursion P (xs ++ ys)
all_append P [] ys a b = b
all_append P (x ∷ xs) ys a b = (a.0, all_append P xs ys a.1 b)

-- ---- what a chain declares

pub own_named : {A : Type 0} (name : A → Name) (owner : Name) (xs : List A) → AllNamed (λ (r : Name × A). name r.1) (map (λ a. (name a, (owner, a))) xs)
own_named name owner [] = tt
own_named name owner (x ∷ xs) = (refl, own_named name owner xs)

along_named : {A : Type 0} (name : A → Name) (own : ClassDecl → List A) (ks : List ClassDecl) → AllNamed (λ (r : Name × A). name r.1) (all_along name own ks)
along_named name own [] = tt
along_named name own (k ∷ ks) =
    all_append _ (map (λ a. (name a, (k.name, a))) (own k)) (all_along name own ks) (own_named name k.name (own k)) (along_named name own ks)

under_row : {A : Type 0} (n owner : Name) (x : A) (o f : Option (Name × A)) (g : Option A) (b : Bool) → o ≡ or_farther owner g f → cond b (Some (owner, x)) o ≡ or_farther owner (cond b (Some x) g) f
under_row n owner x o f g true e = refl
under_row n owner x o f g false e = e

pub under_own : {A : Type 0} (name : A → Name) (n owner : Name) (xs : List A) (others : List (Name × (Name × A)))
    → under n (map (λ a. (name a, (owner, a))) xs ++ others) ≡ or_farther owner (find (λ a. bytes_eq (name a) n) xs) (under n others)
under_own name n owner [] others = refl
under_own {A} name n owner (x ∷ xs) others =
    let same : eq_by_cmp by_bytes n (name x) ≡ bytes_eq (name x) n = is_eq-slice_cmp n (name x) ∙ bytes_eq_back n (name x) in
    ap (λ b. cond b (Some (owner, x)) (under n (map (λ a. (name a, (owner, a))) xs ++ others))) same
    ∙ under_row n owner x (under n (map (λ a. (name a, (owner, a))) xs ++ others)) (under n others) (find (λ a. bytes_eq (name a) n) xs) (bytes_eq (name x) n) (under_own name n owner xs others)

-- under a name stands what the nearest class declares
pub under_along : {A : Type 0} (name : A → Name) (own : ClassDecl → List A) (n : Name) (ks : List ClassDecl)
    → under n (all_along name own ks) ≡ nearest (λ k. find (λ a. bytes_eq (name a) n) (own k)) ks
under_along name own n [] = refl
under_along name own n (k ∷ ks) =
    under_own name n k.name (own k) (all_along name own ks) ∙ ap (or_farther k.name (find (λ a. bytes_eq (name a) n) (own k))) (under_along name own n ks)

-- ---- the table

pub firsts_ascend : {A : Type 0} (es : List (Name × A)) → AreAscending (keys_of (names.entries (names.from_entries {R = by_bytes} es)))
firsts_ascend es = ascending_keys _ (names.entries_sorted (names.from_entries {R = by_bytes} es))

-- each row of a table stands under its own name
pub table_named : {A : Type 0} (name : A → Name) (own : ClassDecl → List A) (ks : List ClassDecl) → AllNamed (λ (r : Name × A). name r.1) (names.entries (names.from_entries {R = by_bytes} (all_along name own ks)))
table_named {A} name own ks =
    let all : List (Name × (Name × A)) = all_along name own ks in
    let table : List (Name × (Name × A)) = names.entries (names.from_entries {R = by_bytes} all) in
    all_from_each (λ (e : Name × (Name × A)). e.0 ≡ name e.1.1) table (λ e h.
    let at = found e.0 e.1 table (firsts_ascend all) h in
    each_from_all (λ (f : Name × (Name × A)). f.0 ≡ name f.1.1) all (along_named name own ks) e (stands e.0 e.1 all (sym (under_first e.0 all) ∙ at)))

-- the table of what these classes declare
pub is_table : {A : Type 0} (name : A → Name) (own : ClassDecl → List A) (ks : List ClassDecl) (IsMember : Name → A → Type 0)
    → ((owner : Name) (a : A) → (nearest (λ k. find (λ b. bytes_eq (name b) (name a)) (own k)) ks ≡ Some (owner, a)) → IsMember owner a)
    → ((owner : Name) (a : A) → IsMember owner a → nearest (λ k. find (λ b. bytes_eq (name b) (name a)) (own k)) ks ≡ Some (owner, a))
    → IsTable name IsMember (firsts (all_along name own ks))
is_table {A} name own ks IsMember there back = record {
  ascending = subst AreAscending (sym (named_names (λ (r : Name × A). name r.1) table named)) up;
  members = λ owner a. (
    λ h. there owner a (sym (says (name a)) ∙ found (name a) (owner, a) table up (stands_named (λ (r : Name × A). name r.1) (owner, a) table named h)),
    λ h. value_stands (name a) (owner, a) table (stands (name a) (owner, a) table (says (name a) ∙ back owner a h)),
  );
}
  where
    all : List (Name × (Name × A))
    all = all_along name own ks

    table : List (Name × (Name × A))
    table = names.entries (names.from_entries {R = by_bytes} all)

    up : AreAscending (keys_of table)
    up = firsts_ascend all

    says : (n : Name) → under n table ≡ nearest (λ k. find (λ b. bytes_eq (name b) n) (own k)) ks
    says n = under_first n all ∙ under_along name own n ks

    named : AllNamed (λ (r : Name × A). name r.1) table
    named = table_named name own ks
