-- Tables from headers are those of the declarations.
use Rattle.std.proofs.Common.{◌≡◌, Bool, true, false, List, [], ◌∷◌, ◌++◌, map, Option, Some, option_map, cond, refl, sym, ap, ap₂, subst, ◌∙◌, inl, inr, ◌&&◌}
use Rattle.std.specs.Prelude.{T}
use Rattle.std.specs.List.{filter_map}
use Rattle.std.specs.Map.{values_of}
use Rattle.std.specs.FinMap as names
use Rattle.std.specs.FinMap.Entries as entries
use Rattle.std.specs.Ordering.{eq_by_cmp, is_lt}
use Rattle.std.proofs.lemmas.List.{map-append, map-id}
use Rattle.mj_tree.specs.Trees.{Name, Method}
use Rattle.mj_tree.specs.declared.tree.Field.{Field}
use Rattle.mj_members.specs.Declarations.{ClassDecl}
use Rattle.mj_classes.specs.Declarations.{decl}
use Rattle.mj_members.specs.Tables.{own_rows, all_along, firsts, fields_along, methods_along}
use Rattle.mj_classes.proofs.Climb.{decl_name}
use Rattle.mj_members.proofs.Tables.{by_bytes, under, under_first, firsts_are}
use Rattle.result_bytes.specs.Payloads.{HeaderValue}
use Rattle.query_rules.specs.Items.{header_of}
use Rattle.member_queries.specs.Members.{Link, fields_of_header, methods_of_header, rows_along, nearest_fields, nearest_methods}
use Rattle.member_queries.proofs.Indexed.{AreDeclared}

pub map_twice : {A B C : Type 0} (f : A → B) (g : B → C) (xs : List A) → map g (map f xs) ≡ map (λ x. g (f x)) xs
map_twice f g [] = refl
map_twice f g (x ∷ xs) = ap (λ ys. g (f x) ∷ ys) (map_twice f g xs)

-- ---- the first of each name, as it is seen

module _ {A B : Type 0} (seen : A → B) where
  abbrev seen_entry : Name × A → Name × B
  seen_entry e = (e.0, seen e.1)

  under_seen : (n : Name) (es : List (Name × A)) → under n (map seen_entry es) ≡ option_map seen (under n es)
  under_seen n [] = refl
  under_seen n (e ∷ es) = by_test (eq_by_cmp by_bytes n e.0) (under_seen n es)
    where
      by_test : (b : Bool) → under n (map seen_entry es) ≡ option_map seen (under n es) → cond b (Some (seen e.1)) (under n (map seen_entry es)) ≡ option_map seen (cond b (Some e.1) (under n es))
      by_test true h = refl
      by_test false h = h

  below_seen : (n : Name) (es : List (Name × A)) → entries.below_all by_bytes n (map seen_entry es) ≡ entries.below_all by_bytes n es
  below_seen n [] = refl
  below_seen n (e ∷ es) = ap (λ b. is_lt (by_bytes n e.0) && b) (below_seen n es)

  sorted_seen : (es : List (Name × A)) → entries.is_sorted by_bytes (map seen_entry es) ≡ entries.is_sorted by_bytes es
  sorted_seen [] = refl
  sorted_seen (e ∷ es) = ap₂ (λ a b. a && b) (below_seen e.0 es) (sorted_seen es)

  values_seen : (es : List (Name × A)) → values_of (map seen_entry es) ≡ map seen (values_of es)
  values_seen [] = refl
  values_seen (e ∷ es) = ap (λ vs. seen e.1 ∷ vs) (values_seen es)

  pub firsts_seen : (es : List (Name × A)) → firsts (map seen_entry es) ≡ map seen (firsts es)
  firsts_seen es =
      let table : List (Name × A) = names.entries (names.from_entries {R = by_bytes} es) in
      sym (firsts_are (map seen_entry table) (map seen_entry es) (subst T (sym (sorted_seen table)) (names.entries_sorted (names.from_entries {R = by_bytes} es)))
      (λ n. under_seen n table ∙ ap (option_map seen) (under_first n es) ∙ sym (under_seen n es)))
      ∙ values_seen table

-- ---- along a chain

module _ (cs : List ClassDecl) where
  abbrev pub told_link : Name → Link
  told_link n = (n, option_map header_of (decl cs n))

  module _ {A B : Type 0} (name : A → Name) (own : ClassDecl → List A) (other : B → Name) (told : Option HeaderValue → List B) (seen : A → B)
      (same_own : (k : ClassDecl) → told (Some (header_of k)) ≡ map seen (own k)) (same_name : (a : A) → other (seen a) ≡ name a) where
    abbrev seen_row : Name × A → Name × B
    seen_row r = (r.0, seen r.1)

    own_seen : (owner : Name) (xs : List A) → own_rows other owner (map seen xs) ≡ map (λ (e : Name × (Name × A)). (e.0, seen_row e.1)) (own_rows name owner xs)
    own_seen owner [] = refl
    own_seen owner (x ∷ xs) = ap₂ (λ (n : Name) (rest : List (Name × (Name × B))). (n, (owner, seen x)) ∷ rest) (same_name x) (own_seen owner xs)

    along_seen : (ns : List Name) → AreDeclared cs ns → rows_along other told (map told_link ns) ≡ map (λ (e : Name × (Name × A)). (e.0, seen_row e.1)) (all_along name own (filter_map (decl cs) ns))
    along_seen [] h = refl
    along_seen (n ∷ ns) h =
        let k = h n (inl refl) in
        let found = k.1 in
        rw found (ap (λ (xs : List B). own_rows other n xs ++ rows_along other told (map told_link ns)) (same_own k.0)
        ∙ ap₂ (λ (xs ys : List (Name × (Name × B))). xs ++ ys) (ap (λ (m : Name). own_rows other m (map seen (own k.0))) (sym (decl_name cs n k.0 k.1)) ∙ own_seen k.0.name (own k.0)) (along_seen ns (λ x i. h x (inr i)))
        ∙ sym (map-append (λ (e : Name × (Name × A)). (e.0, seen_row e.1)) (own_rows name k.0.name (own k.0)) (all_along name own (filter_map (decl cs) ns))))

    pub table_seen : (ns : List Name) → AreDeclared cs ns → firsts (rows_along other told (map told_link ns)) ≡ map seen_row (firsts (all_along name own (filter_map (decl cs) ns)))
    table_seen ns h = ap firsts (along_seen ns h) ∙ firsts_seen seen_row (all_along name own (filter_map (decl cs) ns))

  pub fields_same : (ns : List Name) → AreDeclared cs ns → nearest_fields (map told_link ns) ≡ fields_along (filter_map (decl cs) ns)
  unfolding nearest_fields fields_along
  fields_same ns h =
      table_seen (λ (f : Field). f.name) (λ (k : ClassDecl). k.fields) (λ (f : Field). f.name) fields_of_header (λ (f : Field). f) (λ k. sym (map-id k.fields)) (λ f. refl) ns h
      ∙ map-id (firsts (all_along (λ (f : Field). f.name) (λ (k : ClassDecl). k.fields) (filter_map (decl cs) ns)))

  -- a method's owner and name
  abbrev pub named_method : Name × Method → Name × Name
  named_method r = (r.0, r.1.name)

  pub methods_same : (ns : List Name) → AreDeclared cs ns → nearest_methods (map told_link ns) ≡ map named_method (methods_along (filter_map (decl cs) ns))
  unfolding nearest_methods methods_along
  methods_same ns h = table_seen (λ (m : Method). m.name) (λ (k : ClassDecl). k.methods) (λ (n : Name). n) methods_of_header (λ (m : Method). m.name) (λ k. refl) (λ m. refl) ns h
