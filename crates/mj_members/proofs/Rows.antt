-- A table while it is built.
use Rattle.std.proofs.Common.{◌≡◌, ℕ, ◌+◌, ◌<◌, ◌≤◌, Bool, true, false, List, [], ◌∷◌, ◌++◌, length, map, drop, Some, refl, sym, ap, ◌∙◌, subst, cond, get_or, append-nil, arith}
use Rattle.std.specs.Prelude.{T, ◌&&◌}
use Rattle.std.specs.Option.{option_or}
use Rattle.std.specs.List.{AllByRecursion}
use Rattle.std.specs.List.Sorted.{IsStrictlySortedBy}
use Rattle.std.specs.Map.{keys_of, values_of}
use Rattle.std.specs.BTreeMap.{insert_entry}
use Rattle.std.specs.Ordering.{nat_cmp, eq_by_cmp, match_ordering}
use Rattle.std.specs.declared.cmp.Ordering.{Ordering}
use Rattle.std.specs.declared.cmp.Ordering.TheVariants.{Less, Equal, Greater}
use Rattle.std.specs.Cmp.Lexicographic.{slice_cmp}
use Rattle.std.specs.FinMap.Entries as entries
use Rattle.std.proofs.lemmas.Cmp.{nat_list_cmp_total}
use Rattle.std.proofs.lemmas.List.{drop_more}
use denote.Ref.{Bor}
use Rattle.mj_tree.specs.Trees.{Name}
use Rattle.mj_members.specs.declared.class.ClassRef.{ClassRef}
use Rattle.mj_members.specs.Declarations.{ClassDecl}
use Rattle.mj_members.specs.Classes.{class_ref_view, classes_view}
use Rattle.mj_members.specs.Tables.{own_rows, named_rows, all_along, firsts}
use Rattle.mj_members.specs.Rows.{rows_by, SayAlike}
use Rattle.mj_members.proofs.Tables.{by_bytes, under, firsts_are}

abbrev pub name_order : Bor Name → Bor Name → Ordering
name_order x y = slice_cmp nat_cmp x.now y.now

-- ---- lists of entries

pub under-append : {A : Type 0} (n : Name) (xs ys : List (Name × A)) → under n (xs ++ ys) ≡ option_or (under n xs) (under n ys)
under-append n [] ys = refl
under-append {A} n (x ∷ xs) ys = by (eq_by_cmp by_bytes n x.0) (under-append n xs ys)
  where
    by : (b : Bool) → under n (xs ++ ys) ≡ option_or (under n xs) (under n ys) → cond b (Some x.1) (under n (xs ++ ys)) ≡ option_or (cond b (Some x.1) (under n xs)) (under n ys)
    by true e = refl
    by false e = e

-- what is laid over rows is laid over all that they say
pub alike_over : {A : Type 0} (after rows before more : List (Name × A)) → SayAlike rows before → SayAlike after (more ++ rows) → SayAlike after (more ++ before)
alike_over after rows before more h laid n = laid n ∙ (under-append n more rows ∙ (ap (option_or (under n more)) (h n) ∙ sym (under-append n more before)))

-- laid over nothing
pub without_more : {A : Type 0} (xs zs : List (Name × A)) → SayAlike xs (zs ++ []) → SayAlike xs zs
without_more xs zs h n = h n ∙ ap (under n) (append-nil zs)

-- a row laid over others hides what stands under its name
alike_laid : {A : Type 0} (xs zs : List (Name × A)) (k : Name) (v : A) → SayAlike xs zs → SayAlike (entries.put by_bytes k v xs) ((k, v) ∷ zs)
alike_laid xs zs k v h n = entries.find-put by_bytes nat_list_cmp_total n k v xs ∙ ap (cond (eq_by_cmp by_bytes n k) (Some v)) (h n)

-- ---- entries of a map

seen_by : {A B : Type 0} (f : A → B) (o : Ordering) (a b c : List A) → map f (match_ordering o a b c) ≡ entries.by_order o (map f a) (map f b) (map f c)
seen_by f Less a b c = refl
seen_by f Equal a b c = refl
seen_by f Greater a b c = refl

rows_insert : {X A : Type 0} (view : X → A) (es : List (Bor Name × X)) (k : Bor Name) (x : X) → rows_by view (insert_entry name_order es k x) ≡ entries.put by_bytes k.now (view x) (rows_by view es)
rows_insert view [] k x = refl
rows_insert {X} {A} view (e ∷ es) k x =
    seen_by (λ (d : Bor Name × X). (d.0.now, view d.1)) (name_order k e.0) ((k, x) ∷ e ∷ es) ((e.0, x) ∷ es) (e ∷ insert_entry name_order es k x)
    ∙ ap (λ (rest : List (Name × A)). entries.by_order (name_order k e.0) ((k.now, view x) ∷ (e.0.now, view e.1) ∷ rows_by view es) ((e.0.now, view x) ∷ rows_by view es) ((e.0.now, view e.1) ∷ rest)) (rows_insert view es k x)

pub both_hold : (a b : Bool) → T a → T b → T (a && b)
both_hold true b p q = q
both_hold false b p q = p

below_rows : {X A : Type 0} (view : X → A) (k : Bor Name) (es : List (Bor Name × X)) → AllByRecursion (λ y. name_order k y ≡ Less) (keys_of es) → T (entries.below_all by_bytes k.now (rows_by view es))
below_rows view k [] h = tt
below_rows view k (e ∷ es) h = let less = h.0 in both_hold _ _ (rw less tt) (below_rows view k es h.1)

pub sorted_rows : {X A : Type 0} (view : X → A) (es : List (Bor Name × X)) → IsStrictlySortedBy name_order (keys_of es) → T (entries.is_sorted by_bytes (rows_by view es))
unfolding IsStrictlySortedBy
sorted_rows view [] h = tt
sorted_rows view (e ∷ es) h = both_hold _ _ (below_rows view e.0 es h.0) (sorted_rows view es h.1)

-- the values of the rows are those of the map, each seen
pub values_rows : {X A : Type 0} (view : X → A) (es : List (Bor Name × X)) → values_of (rows_by view es) ≡ map view (values_of es)
values_rows view [] = refl
values_rows view (e ∷ es) = ap (λ ys. view e.1 ∷ ys) (values_rows view es)

-- ---- one row more, from the last one to the first

-- a list from one place on, with the item there in front of the rest
pub in_front : {X : Type 0} (xs : List X) (n k : ℕ) (x : X) → n ≡ k + 1 → k < length xs → x ≡ get_or xs k x → drop k xs ≡ x ∷ drop n xs
in_front xs n k x next lt is = drop_more xs k x lt ∙ (ap (λ z. z ∷ drop (k + 1) xs) (sym is) ∙ ap (λ m. x ∷ drop m xs) (sym next))

entry_laid : {X A : Type 0} (seen : X → A) (rows after : List (Bor Name × X)) (es : List (Name × A)) (n : Name) (k : Bor Name) (x : X)
    → SayAlike (rows_by seen rows) es → k.now ≡ n → after ≡ insert_entry name_order rows k x → SayAlike (rows_by seen after) ((n, seen x) ∷ es)
entry_laid {X} {A} seen rows after es n k x h key put =
    let there : rows_by seen after ≡ entries.put by_bytes n (seen x) (rows_by seen rows) =
    ap (rows_by seen) put ∙ (rows_insert seen rows k x ∙ ap (λ (m : Name). entries.put by_bytes m (seen x) (rows_by seen rows)) key) in
    subst (λ (zs : List (Name × A)). SayAlike zs ((n, seen x) ∷ es)) (sym there) (alike_laid (rows_by seen rows) es n (seen x) h)

pub row_laid : {X Y A : Type 0} (seen : X → Name × A) (view : Y → A) (name : A → Name) (owner : Name) (ys : List Y) (n k : ℕ) (y : Y) (rows after : List (Bor Name × X)) (before : List (Name × (Name × A))) (key : Bor Name) (x : X)
    → n ≡ k + 1 → k < length ys → y ≡ get_or ys k y → SayAlike (rows_by seen rows) (own_rows name owner (map view (drop n ys)) ++ before) → key.now ≡ name (view y) → seen x ≡ (owner, view y)
    → after ≡ insert_entry name_order rows key x → SayAlike (rows_by seen after) (own_rows name owner (map view (drop k ys)) ++ before)
row_laid {X} {Y} {A} seen view name owner ys n k y rows after before key x next lt is h named value put =
    let rest : List (Name × (Name × A)) = own_rows name owner (map view (drop n ys)) ++ before in
    let laid : SayAlike (rows_by seen after) ((name (view y), seen x) ∷ rest) = entry_laid seen rows after rest (name (view y)) key x h named put in
    let own : SayAlike (rows_by seen after) ((name (view y), (owner, view y)) ∷ rest) = subst (λ (r : Name × A). SayAlike (rows_by seen after) ((name (view y), r) ∷ rest)) value laid in
    subst (λ (zs : List Y). SayAlike (rows_by seen after) (own_rows name owner (map view zs) ++ before)) (sym (in_front ys n k y next lt is)) own

pub member_laid : {X A : Type 0} (seen : X → Name × A) (name : A → Name) (ys : List X) (n k : ℕ) (y : X) (rows after : List (Bor Name × X)) (before : List (Name × (Name × A))) (key : Bor Name)
    → n ≡ k + 1 → k < length ys → y ≡ get_or ys k y → SayAlike (rows_by seen rows) (named_rows name (map seen (drop n ys)) ++ before) → key.now ≡ name (seen y).1
    → after ≡ insert_entry name_order rows key y → SayAlike (rows_by seen after) (named_rows name (map seen (drop k ys)) ++ before)
member_laid {X} seen name ys n k y rows after before key next lt is h named put =
    subst (λ (zs : List X). SayAlike (rows_by seen after) (named_rows name (map seen zs) ++ before)) (sym (in_front ys n k y next lt is))
    (entry_laid seen rows after (named_rows name (map seen (drop n ys)) ++ before) (name (seen y).1) key y h named put)

-- one class more
pub class_laid : {X A : Type 0} (seen : X → Name × A) (name : A → Name) (own : ClassDecl → List A) (rows after : List (Bor Name × X)) (cs : List ClassRef) (n k : ℕ) (c : ClassRef)
    → n ≡ k + 1 → k < length cs → c ≡ get_or cs k c → SayAlike (rows_by seen rows) (all_along name own (classes_view (drop n cs)))
    → SayAlike (rows_by seen after) (own_rows name (class_ref_view c).name (own (class_ref_view c)) ++ rows_by seen rows) → SayAlike (rows_by seen after) (all_along name own (classes_view (drop k cs)))
class_laid seen name own rows after cs n k c next lt is h laid =
    subst (λ (ks : List ClassRef). SayAlike (rows_by seen after) (all_along name own (classes_view ks))) (sym (in_front cs n k c next lt is))
    (alike_over (rows_by seen after) (rows_by seen rows) (all_along name own (classes_view (drop n cs))) (own_rows name (class_ref_view c).name (own (class_ref_view c))) h laid)

-- behind the loop, which ends at the first place
pub all_laid : {X Y A : Type 0} (from : List Y → List (Name × A)) (seen : X → A) (ys : List Y) (rows : List (Bor Name × X)) (n : ℕ)
    → n ≤ 0 → SayAlike (rows_by seen rows) (from (drop n ys)) → SayAlike (rows_by seen rows) (from ys)
all_laid from seen ys rows n le h =
    let first : n ≡ 0 = omega (arith, le) in
    subst (λ (m : ℕ). SayAlike (rows_by seen rows) (from (drop m ys))) first h

pub own_laid : {X Y A : Type 0} (seen : X → Name × A) (view : Y → A) (name : A → Name) (ys : List Y) (own : List A) (before : List (Name × (Name × A))) (rows : List (Bor Name × X)) (owner owner' : Name) (n : ℕ)
    → n ≤ 0 → SayAlike (rows_by seen rows) (own_rows name owner (map view (drop n ys)) ++ before) → owner ≡ owner' → map view ys ≡ own → SayAlike (rows_by seen rows) (own_rows name owner' own ++ before)
own_laid {X} {Y} {A} seen view name ys own before rows owner owner' n le h e is =
    let all : SayAlike (rows_by seen rows) (own_rows name owner (map view ys) ++ before) = all_laid (λ (zs : List Y). own_rows name owner (map view zs) ++ before) seen ys rows n le h in
    subst (λ (m : Name). SayAlike (rows_by seen rows) (own_rows name m own ++ before)) e
    (subst (λ (zs : List A). SayAlike (rows_by seen rows) (own_rows name owner zs ++ before)) is all)

-- ---- the table

pub table_from : {X A : Type 0} (seen : X → A) (rows : List (Bor Name × X)) (xs : List X) (es : List (Name × A))
    → IsStrictlySortedBy name_order (keys_of rows) → SayAlike (rows_by seen rows) es → xs ≡ values_of rows → map seen xs ≡ firsts es
table_from seen rows xs es up h is = ap (map seen) is ∙ (sym (values_rows seen rows) ∙ firsts_are (rows_by seen rows) es (sorted_rows seen rows up) h)
