-- A method found in a table is the nearest one.
use Rattle.std.proofs.Common.{◌≡◌, ℕ, zero, suc, Bool, true, false, cond, List, [], ◌∷◌, map, slice_get, Option, Some, None, option_map, find, Contains, refl, sym, ap, subst, ◌∙◌, bytes_eq}
use Rattle.std.proofs.lemmas.Option.{none-some, same_Some}
use Rattle.std.proofs.lemmas.Slice.Eq.{bytes_eq-Decides}
use Rattle.mj_tree.specs.Trees.{Name, Method}
use Rattle.mj_answer.specs.AnswerValues.{MethodRowValue}
use Rattle.ordered_names.proofs.Alike.{Contains-first, Contains-later}
use Rattle.mj_members.specs.Declarations.{ClassDecl}
use Rattle.mj_classes.specs.Members.{nearest, or_farther, own_method}
use Rattle.mj_members.specs.Tables.{methods_along}
use Rattle.mj_classes.specs.Tables.{IsTable}
use Rattle.mj_classes.proofs.Tables.{is_table}
use Rattle.mj_rules.specs.FaultLists.{nearest_sig}
use Rattle.mj_tree.proofs.Positions.{find-map}
use Rattle.mj_rules.specs.Worlds.{sig_of}
use Rattle.mj_rules.specs.Tables.{method_row, row_sig, sig_in}
use Rattle.named_files.proofs.Listed.{place_of}
use Rattle.mj_rules.proofs.TableLaws.{found_name}

-- the table of some classes has the nearest method of each name
along_is_table : (ks : List ClassDecl) → IsTable (λ (m : Method). m.name) (λ owner m. nearest (own_method m.name) ks ≡ Some (owner, m)) (methods_along ks)
unfolding methods_along
along_is_table ks = is_table (λ (m : Method). m.name) (λ (k : ClassDecl). k.methods) ks (λ owner m. nearest (own_method m.name) ks ≡ Some (owner, m)) (λ owner m h. h) (λ owner m h. h)

-- what is found stands in the list and passes
pub found_stands : {A : Type 0} (p : A → Bool) (xs : List A) (x : A) → find p xs ≡ Some x → Contains xs x × (p x ≡ true)
found_stands p [] x e = absurd (none-some x e)
found_stands {A} p (y ∷ xs) x e = by_test (p y) refl (found_stands p xs x) e
  where
    by_test : (t : Bool) → p y ≡ t → (find p xs ≡ Some x → Contains xs x × (p x ≡ true)) → cond t (Some y) (find p xs) ≡ Some x → Contains (y ∷ xs) x × (p x ≡ true)
    by_test true h behind f = subst (λ (z : A). Contains (y ∷ xs) z × (p z ≡ true)) (same_Some y x f) (Contains-first y xs, h)
    by_test false h behind f = let r = behind f in (Contains-later y xs x r.0, r.1)

-- something passes if one of the list does
pub finds_one : {A : Type 0} (p : A → Bool) (xs : List A) (i : ℕ) (x : A) → slice_get xs i ≡ Some x → p x ≡ true → find p xs ≡ None → ⊥
finds_one p [] i x e t f = none-some x e
finds_one p (y ∷ xs) zero x e t f = none-some y (sym f ∙ ap (λ b. cond b (Some y) (find p xs)) (ap p (same_Some y x e) ∙ t))
finds_one {A} p (y ∷ xs) (suc i) x e t f = finds_one p xs i x e t (behind (p y) f)
  where
    behind : (b : Bool) → cond b (Some y) (find p xs) ≡ None → find p xs ≡ None
    behind true g = absurd (none-some y (sym g))
    behind false g = g

-- Fields or methods: the one of a name in a table of some classes is the nearest of that name.
module _ {A : Type 0} (name : A → Name) (own : Name → ClassDecl → Option A) (named : (x : Name) (k : ClassDecl) (a : A) → own x k ≡ Some a → name a ≡ x) where
  nearest_named : (ks : List ClassDecl) (x owner : Name) (a : A) → nearest (own x) ks ≡ Some (owner, a) → name a ≡ x
  nearest_named [] x owner a e = absurd (none-some (owner, a) e)
  nearest_named (k ∷ ks) x owner a e = by_own (own x k) refl (nearest_named ks x owner a) e
    where
      by_own : (o : Option A) → own x k ≡ o → (nearest (own x) ks ≡ Some (owner, a) → name a ≡ x) → or_farther k.name o (nearest (own x) ks) ≡ Some (owner, a) → name a ≡ x
      by_own None h farther f = farther f
      by_own (Some b) h farther f = named x k a (h ∙ ap (λ (p : Name × A). Some p.1) (same_Some (k.name, b) (owner, a) f))

  pub row_is_nearest : (rows : List (Name × A)) (ks : List ClassDecl) → IsTable name (λ owner a. nearest (own (name a)) ks ≡ Some (owner, a)) rows
      → (x : Name) (found near : Option (Name × A)) → find (λ (r : Name × A). bytes_eq (name r.1) x) rows ≡ found → nearest (own x) ks ≡ near → found ≡ near
  row_is_nearest rows ks is x None None f n = refl
  row_is_nearest rows ks is x (Some r) near f n =
      let w = found_stands (λ (q : Name × A). bytes_eq (name q.1) x) rows r f in
      let same = (bytes_eq-Decides (name r.1) x).0 w.1 in
      sym (subst (λ (y : Name). nearest (own y) ks ≡ Some r) same ((is.members r.0 r.1).0 w.0)) ∙ n
  row_is_nearest rows ks is x None (Some near) f n =
      let same = nearest_named ks x near.0 near.1 n in
      let stands = (is.members near.0 near.1).1 (subst (λ (y : Name). nearest (own y) ks ≡ Some near) (sym same) n) in
      let p = place_of rows near stands in
      absurd (finds_one (λ (q : Name × A). bytes_eq (name q.1) x) rows p.0 near p.1 ((bytes_eq-Decides (name near.1) x).1 same) f)

sig_of_rows : (o : Option (Name × Method)) → option_map row_sig (option_map method_row o) ≡ option_map (λ (f : Name × Method). sig_of f.1) o
sig_of_rows None = refl
sig_of_rows (Some f) = refl

-- the types found in the rows are those of the nearest method
pub sig_in-rows : (ks : List ClassDecl) (x : Name) → sig_in (map method_row (methods_along ks)) x ≡ nearest_sig ks x
sig_in-rows ks x =
    let found = row_is_nearest (λ (m : Method). m.name) own_method (λ x k m e. found_name (λ (m : Method). m.name) x k.methods m e) (methods_along ks) ks (along_is_table ks) x (find (λ (r : Name × Method). bytes_eq r.1.name x) (methods_along ks)) (nearest (own_method x) ks) refl refl in
    ap (option_map row_sig) (find-map method_row (λ (r : MethodRowValue). bytes_eq r.name x) (methods_along ks) ∙ ap (option_map method_row) found)
    ∙ sig_of_rows (nearest (own_method x) ks)
