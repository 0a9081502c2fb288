-- Two ascending lists of rows are walked side by side.
use Rattle.std.proofs.Common.{◌≡◌, ℕ, zero, suc, Bool, true, false, cond, List, [], ◌∷◌, drop, slice_get, find, Option, Some, None, option_map, refl, sym, ap, ap₂, subst, ◌∙◌, if◌then◌else◌}
use Rattle.std.specs.List.{AllByRecursion}
use Rattle.std.specs.Option.{option_or}
use Rattle.std.specs.Ordering.{nat_cmp, is_eq, ordering_reverse}
use Rattle.std.specs.Cmp.Lexicographic.{slice_cmp}
use Rattle.std.specs.declared.cmp.Ordering.{Ordering}
use Rattle.std.specs.declared.cmp.Ordering.TheVariants.{Less, Equal, Greater}
use Rattle.std.specs.Str.{bytes_eq}
use Rattle.std.proofs.lemmas.Cmp.{nat_list_cmp_total}
use Rattle.std.proofs.lemmas.Slice.Eq.{bytes_eq-Decides}
use Rattle.std.proofs.lemmas.Map.Text.{is_eq-slice_cmp}
use Rattle.ordered_names.specs.Order.{NameBefore, IsAscendingByName}
use Rattle.ordered_names.proofs.Orders.{names, equal_names}
use Rattle.mj_tree.specs.Trees.{Name}
use Rattle.result_bytes.specs.declared.files.IndexRow.{IndexRow}
use Rattle.text_queries.specs.Index.{first_file}
use Rattle.kept_results.specs.declared.change.RowChange.{RowChange}
use Rattle.kept_results.specs.declared.change.RowChange.TheVariants.{ComesOrGoes}
use Rattle.kept_results.specs.Rows.{row_change, change_at, order_of, noted_at, noted_by, noted}

-- ---- what is put under a name

pub put_is : {X : Type 0} (found after : Name → Option X) (n : Name) (x : X) → ((q : Name) → after q ≡ cond (is_eq (slice_cmp nat_cmp n q)) (Some x) (found q)) → (q : Name) → after q ≡ (if bytes_eq n q then Some x else found q)
put_is found after n x puts q = puts q ∙ ap (λ (b : Bool). cond b (Some x) (found q)) (is_eq-slice_cmp n q)

or_none : {X : Type 0} (o : Option X) → o ≡ option_or o None
or_none None = refl
or_none (Some x) = refl

or_more : {X : Type 0} (o p q : Option X) → option_or o (option_or p q) ≡ option_or (option_or o p) q
or_more None p q = refl
or_more (Some x) p q = refl

-- ---- the file of a class

first_by : (b : Bool) (r : IndexRow) (rs : List IndexRow) (c : Name) → option_map (λ (row : IndexRow). row.file) (cond b (Some r) (find (λ (row : IndexRow). bytes_eq row.class c) rs)) ≡ cond b (Some r.file) (first_file rs c)
first_by true r rs c = refl
first_by false r rs c = refl

-- by whether it is that of the first row
first_more : (r : IndexRow) (rs : List IndexRow) (c : Name) (b : Bool) → bytes_eq r.class c ≡ b → first_file (r ∷ rs) c ≡ cond b (Some r.file) (first_file rs c)
first_more r rs c b e = first_by (bytes_eq r.class c) r rs c ∙ ap (λ (t : Bool). cond t (Some r.file) (first_file rs c)) e

-- a class before all rows has none
none_below : (c : Name) (rs : List IndexRow) → AllByRecursion (λ (r : IndexRow). NameBefore c r.class) rs → first_file rs c ≡ None
none_below c [] h = refl
none_below c (r ∷ rs) h = go (none_below c rs h.1) (bytes_eq r.class c) refl
  where
    go : first_file rs c ≡ None → (b : Bool) → bytes_eq r.class c ≡ b → first_file (r ∷ rs) c ≡ None
    go rest true t = absurd (names.irreflexive c (subst (NameBefore c) ((bytes_eq-Decides r.class c).0 t) h.0))
    go rest false t = first_more r rs c false t ∙ rest

-- so has a class that is before the first row, and before it
none_before : (c : Name) (r : IndexRow) (rs : List IndexRow) → NameBefore c r.class → IsAscendingByName (λ (row : IndexRow). row.class) (r ∷ rs) → first_file (r ∷ rs) c ≡ None
none_before c r rs lt asc = none_below c (r ∷ rs) (lt, later rs asc.0)
  where
    later : (xs : List IndexRow) → AllByRecursion (λ (x : IndexRow). NameBefore r.class x.class) xs → AllByRecursion (λ (x : IndexRow). NameBefore c x.class) xs
    later [] h = tt
    later (x ∷ xs) h = (names.transitive c r.class x.class lt h.0, later xs h.1)

-- ---- one step

abbrev pub rest_old : Ordering → List IndexRow → List IndexRow
rest_old Greater rows = rows
rest_old Less rows = drop 1 rows
rest_old Equal rows = drop 1 rows

abbrev pub rest_new : Ordering → List IndexRow → List IndexRow
rest_new Less rows = rows
rest_new Equal rows = drop 1 rows
rest_new Greater rows = drop 1 rows

gone : (o : Option Name) (r : Option Name) → r ≡ None → Some ComesOrGoes ≡ option_or (row_change o r) (Some ComesOrGoes)
gone None None e = refl
gone (Some x) None e = refl
gone o (Some y) e = absurd cc

come : (o : Option Name) (r : Option Name) → o ≡ None → Some ComesOrGoes ≡ option_or (row_change o r) (Some ComesOrGoes)
come None None e = refl
come None (Some x) e = refl
come (Some x) r e = absurd cc

-- the first row of the old list is alone
old_alone : (o : IndexRow) (os B : List IndexRow) (c : Name) → (o.class ≡ c → first_file B c ≡ None)
    → change_at (o ∷ os) B c ≡ option_or (change_at os B c) (noted_at o.class (Some ComesOrGoes) c)
old_alone o os B c none = go (bytes_eq o.class c) refl
  where
    go : (b : Bool) → bytes_eq o.class c ≡ b → change_at (o ∷ os) B c ≡ option_or (change_at os B c) (cond (bytes_eq o.class c) (Some ComesOrGoes) None)
    go true t =
        let no = none ((bytes_eq-Decides o.class c).0 t) in
        ap₂ row_change (first_more o os c true t) no
        ∙ gone (first_file os c) (first_file B c) no
        ∙ ap (λ (b : Bool). option_or (change_at os B c) (cond b (Some ComesOrGoes) None)) (sym t)
    go false t =
        ap (λ (f : Option Name). row_change f (first_file B c)) (first_more o os c false t)
        ∙ or_none (change_at os B c)
        ∙ ap (λ (b : Bool). option_or (change_at os B c) (cond b (Some ComesOrGoes) None)) (sym t)

new_alone : (n : IndexRow) (A ns : List IndexRow) (c : Name) → (n.class ≡ c → first_file A c ≡ None)
    → change_at A (n ∷ ns) c ≡ option_or (change_at A ns c) (noted_at n.class (Some ComesOrGoes) c)
new_alone n A ns c none = go (bytes_eq n.class c) refl
  where
    go : (b : Bool) → bytes_eq n.class c ≡ b → change_at A (n ∷ ns) c ≡ option_or (change_at A ns c) (cond (bytes_eq n.class c) (Some ComesOrGoes) None)
    go true t =
        let no = none ((bytes_eq-Decides n.class c).0 t) in
        ap₂ row_change no (first_more n ns c true t)
        ∙ come (first_file A c) (first_file ns c) no
        ∙ ap (λ (b : Bool). option_or (change_at A ns c) (cond b (Some ComesOrGoes) None)) (sym t)
    go false t =
        ap (row_change (first_file A c)) (first_more n ns c false t)
        ∙ or_none (change_at A ns c)
        ∙ ap (λ (b : Bool). option_or (change_at A ns c) (cond b (Some ComesOrGoes) None)) (sym t)

-- both lists have a row of the class
both_there : (o n : IndexRow) (os ns : List IndexRow) (c : Name) → o.class ≡ n.class → AllByRecursion (λ (r : IndexRow). NameBefore o.class r.class) os → AllByRecursion (λ (r : IndexRow). NameBefore n.class r.class) ns
    → change_at (o ∷ os) (n ∷ ns) c ≡ option_or (change_at os ns c) (noted_at o.class (row_change (Some o.file) (Some n.file)) c)
both_there o n os ns c same above over = go (bytes_eq o.class c) refl
  where
    also : (b : Bool) → bytes_eq o.class c ≡ b → bytes_eq n.class c ≡ b
    also b t = ap (λ (x : Name). bytes_eq x c) (sym same) ∙ t

    go : (b : Bool) → bytes_eq o.class c ≡ b → change_at (o ∷ os) (n ∷ ns) c ≡ option_or (change_at os ns c) (cond (bytes_eq o.class c) (row_change (Some o.file) (Some n.file)) None)
    go true t =
        let is : o.class ≡ c = (bytes_eq-Decides o.class c).0 t in
        let old_none : first_file os c ≡ None = subst (λ (x : Name). first_file os x ≡ None) is (none_below o.class os above) in
        let new_none : first_file ns c ≡ None = subst (λ (x : Name). first_file ns x ≡ None) (sym same ∙ is) (none_below n.class ns over) in
        ap₂ row_change (first_more o os c true t) (first_more n ns c true (also true t))
        ∙ ap (λ (x : Option RowChange). option_or x (row_change (Some o.file) (Some n.file))) (sym (ap₂ row_change old_none new_none))
        ∙ ap (λ (b : Bool). option_or (change_at os ns c) (cond b (row_change (Some o.file) (Some n.file)) None)) (sym t)
    go false t =
        ap₂ row_change (first_more o os c false t) (first_more n ns c false (also false t))
        ∙ or_none (change_at os ns c)
        ∙ ap (λ (b : Bool). option_or (change_at os ns c) (cond b (row_change (Some o.file) (Some n.file)) None)) (sym t)

-- what becomes of rows is what becomes of those that are left, and what was noted of the first
step : (A B : List IndexRow) → IsAscendingByName (λ (row : IndexRow). row.class) A → IsAscendingByName (λ (row : IndexRow). row.class) B → (c : Name)
    → change_at A B c ≡ option_or (change_at (rest_old (order_of (slice_get A 0) (slice_get B 0)) A) (rest_new (order_of (slice_get A 0) (slice_get B 0)) B) c) (noted (slice_get A 0) (slice_get B 0) c)
step [] [] a b c = refl
step (o ∷ os) [] a b c = old_alone o os [] c (λ _. refl)
step [] (n ∷ ns) a b c = new_alone n [] ns c (λ _. refl)
step (o ∷ os) (n ∷ ns) a b c = go (slice_cmp nat_cmp o.class n.class) refl
  where
    go : (r : Ordering) → slice_cmp nat_cmp o.class n.class ≡ r
        → change_at (o ∷ os) (n ∷ ns) c ≡ option_or (change_at (rest_old r (o ∷ os)) (rest_new r (n ∷ ns)) c) (noted_by r o n c)
    go Less e = old_alone o os (n ∷ ns) c (λ is. none_before c n ns (subst (λ (x : Name). NameBefore x n.class) is e) b)
    go Equal e = both_there o n os ns c (equal_names o.class n.class e) a.0 b.0
    go Greater e =
        new_alone n (o ∷ os) ns c (λ is. none_before c o os (subst (λ (x : Name). NameBefore x o.class) is (nat_list_cmp_total.antisymm n.class o.class ∙ ap ordering_reverse e)) a)

-- ---- by places

head_at : (xs : List IndexRow) (i : ℕ) → slice_get (drop i xs) 0 ≡ slice_get xs i
head_at xs zero = refl
head_at [] (suc i) = refl
head_at (x ∷ xs) (suc i) = head_at xs i

tail_at : (xs : List IndexRow) (i : ℕ) → drop 1 (drop i xs) ≡ drop (suc i) xs
tail_at xs zero = refl
tail_at [] (suc i) = refl
tail_at (x ∷ xs) (suc i) = tail_at xs i

ascends_at : (xs : List IndexRow) (i : ℕ) → IsAscendingByName (λ (row : IndexRow). row.class) xs → IsAscendingByName (λ (row : IndexRow). row.class) (drop i xs)
ascends_at xs zero a = a
ascends_at [] (suc i) a = a
ascends_at (x ∷ xs) (suc i) a = ascends_at xs i a.1

module _ (old new : List IndexRow) (old_ascends : IsAscendingByName (λ (row : IndexRow). row.class) old) (new_ascends : IsAscendingByName (λ (row : IndexRow). row.class) new) where
  step_at : (i j : ℕ) (h k : Option IndexRow) (r : Ordering) → h ≡ slice_get old i → k ≡ slice_get new j → r ≡ order_of h k → (c : Name)
      → change_at (drop i old) (drop j new) c ≡ option_or (change_at (rest_old r (drop i old)) (rest_new r (drop j new)) c) (noted h k c)
  step_at i j h k r is_h is_k is_r c =
      let first : slice_get (drop i old) 0 ≡ h = head_at old i ∙ sym is_h in
      let second : slice_get (drop j new) 0 ≡ k = head_at new j ∙ sym is_k in
      let order : order_of (slice_get (drop i old) 0) (slice_get (drop j new) 0) ≡ r = ap₂ order_of first second ∙ sym is_r in
      step (drop i old) (drop j new) (ascends_at old i old_ascends) (ascends_at new j new_ascends) c
      ∙ ap₂ (λ (o : Ordering) (m : Option RowChange). option_or (change_at (rest_old o (drop i old)) (rest_new o (drop j new)) c) m) order (ap₂ (λ (x y : Option IndexRow). noted x y c) first second)

  -- one row is left less, in the list whose row was first, or in both
  pub said_more : (i j p q : ℕ) (h k : Option IndexRow) (r : Ordering) (found after : Name → Option RowChange)
      → h ≡ slice_get old i → k ≡ slice_get new j → r ≡ order_of h k
      → (r ≡ Less → (p ≡ suc i) × (q ≡ j)) → (r ≡ Equal → (p ≡ suc i) × (q ≡ suc j)) → (r ≡ Greater → (p ≡ i) × (q ≡ suc j))
      → ((c : Name) → after c ≡ option_or (noted h k c) (found c))
      → ((c : Name) → change_at old new c ≡ option_or (change_at (drop i old) (drop j new) c) (found c))
      → (c : Name) → change_at old new c ≡ option_or (change_at (drop p old) (drop q new) c) (after c)
  said_more i j p q h k r found after is_h is_k is_r less equal greater puts said c =
      said c
      ∙ ap (λ (x : Option RowChange). option_or x (found c)) (step_at i j h k r is_h is_k is_r c)
      ∙ sym (or_more (change_at (rest_old r (drop i old)) (rest_new r (drop j new)) c) (noted h k c) (found c))
      ∙ ap₂ option_or (ap₂ (λ (A B : List IndexRow). change_at A B c) (left_old r less equal greater) (left_new r less equal greater)) (sym (puts c))
    where
      left_old : (r : Ordering) → (r ≡ Less → (p ≡ suc i) × (q ≡ j)) → (r ≡ Equal → (p ≡ suc i) × (q ≡ suc j)) → (r ≡ Greater → (p ≡ i) × (q ≡ suc j)) → rest_old r (drop i old) ≡ drop p old
      left_old Less l e g = tail_at old i ∙ ap (λ (n : ℕ). drop n old) (sym (l refl).0)
      left_old Equal l e g = tail_at old i ∙ ap (λ (n : ℕ). drop n old) (sym (e refl).0)
      left_old Greater l e g = ap (λ (n : ℕ). drop n old) (sym (g refl).0)

      left_new : (r : Ordering) → (r ≡ Less → (p ≡ suc i) × (q ≡ j)) → (r ≡ Equal → (p ≡ suc i) × (q ≡ suc j)) → (r ≡ Greater → (p ≡ i) × (q ≡ suc j)) → rest_new r (drop j new) ≡ drop q new
      left_new Less l e g = ap (λ (n : ℕ). drop n new) (sym (l refl).1)
      left_new Equal l e g = tail_at new j ∙ ap (λ (n : ℕ). drop n new) (sym (e refl).1)
      left_new Greater l e g = tail_at new j ∙ ap (λ (n : ℕ). drop n new) (sym (g refl).1)
