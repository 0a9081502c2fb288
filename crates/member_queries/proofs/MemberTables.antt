-- The tables along a chain while they are built, and the order of their rows.
use Rattle.std.proofs.Common.{◌≡◌, ℕ, ◌+◌, ◌<◌, length, drop, get_or, add-one, drop-cons, List, [], ◌∷◌, ◌++◌, map, Option, Some, None, sym, ap, ◌∙◌, subst, append_assoc}
use Rattle.std.specs.Prelude.{Contains}
use Rattle.std.specs.List.{AllByRecursion}
use Rattle.std.specs.List.Sorted.{IsStrictlySortedBy}
use Rattle.std.specs.Map.{keys_of}
use Rattle.std.specs.FinMap as names
use Rattle.std.proofs.lemmas.List.{map-append}
use Rattle.std.proofs.lemmas.Cmp.{nat_list_cmp_total, eq_by_cmp_equiv}
use Rattle.std.proofs.lemmas.Map.Keys.{IsDistinct-from_sorted}
use Rattle.std.proofs.lemmas.Map.Lookups.{exact_bytes}
use Rattle.std.proofs.lemmas.Map.Views.{tells_apart, lookup-from_Contains, Contains-from_lookup}
use denote.Ref.{Bor}
use Rattle.mj_tree.specs.Trees.{Name}
use Rattle.mj_tree.specs.declared.tree.Field.{Field}
use Rattle.ordered_names.specs.Order.{NameBefore, IsAscendingBy, IsAscendingByName}
use Rattle.mj_answer.specs.AnswerValues.{MethodRowValue, ClassTableValue}
use Rattle.mj_members.specs.Rows.{rows_by, SayAlike}
use Rattle.mj_members.specs.Tables.{own_rows, firsts}
use Rattle.mj_classes.specs.Tables.{AreAscending}
use Rattle.mj_members.proofs.Rows.{in_front, alike_over}
use Rattle.mj_members.proofs.Tables.{by_bytes, under, under_first}
use Rattle.mj_classes.proofs.Tables.{firsts_ascend, all_append, under_lookup, own_named, named_names}
use Rattle.mj_rules.specs.Tables.{field_row}
use Rattle.mj_rules.proofs.TableLaws.{ascend_by_names}
use Rattle.item_ids.proofs.Lists.{all_from}
use Rattle.result_bytes.specs.Payloads.{HeaderValue, SignatureValue}
use Rattle.recorder.specs.Programs.{Prog, IsAt, Halts, Goes, GivesUp, each}
use Rattle.recorder.specs.Recording.{Recording}
use Rattle.recorder.specs.declared.runner.RunFault.{RunFault}
use Rattle.recorder.specs.declared.runner.RunFault.TheVariants.{OutOfMemory}
use Rattle.recorder.proofs.Recorded.{all_at}
use Rattle.recorder.proofs.Rules.{each_map, halts_memory}
use Rattle.member_queries.specs.Members.{Link, fields_of_header, methods_of_header, rows_along, nearest_fields, nearest_methods, with_types, types_step, table_steps}
use Rattle.member_queries.specs.MemberTables.{AddsTypes}
use Rattle.member_queries.proofs.Tables.{map_twice}

-- ---- lists in the order of their names

module _ {X : Type 0} (name : X → Name) where
  names_behind : (n : Name) (xs : List X) → AllByRecursion (λ x. NameBefore n (name x)) xs → AllByRecursion (NameBefore n) (map name xs)
  names_behind n [] h = tt
  names_behind n (x ∷ xs) h = (h.0, names_behind n xs h.1)

  pub names_by : (xs : List X) → IsAscendingByName name xs → IsAscendingBy NameBefore (map name xs)
  names_by [] h = tt
  names_by (x ∷ xs) h = (names_behind (name x) xs h.0, names_by xs h.1)

ascending_names : (ns : List Name) → AreAscending ns → IsAscendingBy NameBefore ns
unfolding IsStrictlySortedBy
ascending_names [] h = tt
ascending_names (n ∷ ns) h = (h.0, ascending_names ns h.1)

module _ {X : Type 0} (B : X → X → Type 0) where
  all_before : (P : X → Type 0) (xs ys : List X) → AllByRecursion P (xs ++ ys) → AllByRecursion P xs
  all_before P [] ys h = tt
  all_before P (x ∷ xs) ys h = (h.0, all_before P xs ys h.1)

  all_without : (P : X → Type 0) (xs : List X) (y : X) (ys : List X) → AllByRecursion P (xs ++ (y ∷ ys)) → AllByRecursion P (xs ++ ys)
  all_without P [] y ys h = h.1
  all_without P (x ∷ xs) y ys h = (h.0, all_without P xs y ys h.1)

  pub ascend_before : (xs ys : List X) → IsAscendingBy B (xs ++ ys) → IsAscendingBy B xs
  ascend_before [] ys h = tt
  ascend_before (x ∷ xs) ys h = (all_before (B x) xs ys h.0, ascend_before xs ys h.1)

  ascend_without : (xs : List X) (y : X) (ys : List X) → IsAscendingBy B (xs ++ (y ∷ ys)) → IsAscendingBy B (xs ++ ys)
  ascend_without [] y ys h = h.1
  ascend_without (x ∷ xs) y ys h = (all_without (B x) xs y ys h.0, ascend_without xs y ys h.1)

-- ---- the tables while they are built

-- one class more, from the last one to the first
pub link_laid : {X A : Type 0} (seen : X → Name × A) (name : A → Name) (own : Option HeaderValue → List A) (rows after : List (Bor Name × X)) (ls : List Link) (n k : ℕ) (l : Link)
    → n ≡ k + 1 → k < length ls → l ≡ get_or ls k l → SayAlike (rows_by seen rows) (rows_along name own (drop n ls))
    → SayAlike (rows_by seen after) (own_rows name l.0 (own l.1) ++ rows_by seen rows) → SayAlike (rows_by seen after) (rows_along name own (drop k ls))
link_laid seen name own rows after ls n k l next lt is h laid =
    subst (λ (js : List Link). SayAlike (rows_by seen after) (rows_along name own js)) (sym (in_front ls n k l next lt is))
    (alike_over (rows_by seen after) (rows_by seen rows) (rows_along name own (drop n ls)) (own_rows name l.0 (own l.1)) h laid)

-- ---- the order of what they have

module _ {A : Type 0} (name : A → Name) (own : Option HeaderValue → List A) where
  abbrev IsNamed : Name × (Name × A) → Type 0
  IsNamed e = e.0 ≡ name e.1.1

  along_named : (ls : List Link) → AllByRecursion IsNamed (rows_along name own ls)
  along_named [] = tt
  along_named (l ∷ ls) = all_append IsNamed (own_rows name l.0 (own l.1)) (rows_along name own ls) (own_named name l.0 (own l.1)) (along_named ls)

  module _ (ls : List Link) where
    abbrev all : List (Name × (Name × A))
    all = rows_along name own ls

    abbrev table : List (Name × (Name × A))
    table = names.entries (names.from_entries {R = by_bytes} all)

    -- what stands in the table was answered
    was_told : (e : Name × (Name × A)) → Contains table e → Contains all e
    was_told e h =
        let up = IsDistinct-from_sorted by_bytes (keys_of table) (firsts_ascend all) in
        let here : under e.0 table ≡ Some e.1 = under_lookup e.0 table ∙ lookup-from_Contains (eq_by_cmp_equiv nat_list_cmp_total) e.0 e.1 table up h in
        Contains-from_lookup (tells_apart exact_bytes) e.0 e.1 all (sym (under_lookup e.0 all) ∙ (sym (under_first e.0 all) ∙ here))

    -- the names of the first rows ascend
    pub firsts_in_order : IsAscendingBy NameBefore (map (λ (r : Name × A). name r.1) (firsts all))
    firsts_in_order =
        let named = all_from IsNamed table (λ e h. all_at IsNamed all e (was_told e h) (along_named ls)) in
        subst (IsAscendingBy NameBefore) (sym (named_names (λ (r : Name × A). name r.1) table named)) (ascending_names (keys_of table) (firsts_ascend all))

-- the rows of the fields ascend
pub fields_ascend : (ls : List Link) → IsAscendingByName (λ row. row.name) (map field_row (nearest_fields ls))
unfolding nearest_fields
fields_ascend ls =
    let rs : List (Name × Field) = firsts (rows_along (λ (f : Field). f.name) fields_of_header ls) in
    ascend_by_names (λ row. row.name) (map field_row rs)
    (subst (IsAscendingBy NameBefore) (sym (map_twice field_row (λ row. row.name) rs)) (firsts_in_order (λ (f : Field). f.name) fields_of_header ls))

-- so do the methods
pub methods_ascend : {X : Type 0} (view : X → Name × Name) (xs : List X) (ls : List Link) → map view xs ≡ nearest_methods ls → IsAscendingByName (λ x. (view x).1) xs
unfolding nearest_methods
methods_ascend view xs ls is =
    ascend_by_names (λ x. (view x).1) xs
    (subst (IsAscendingBy NameBefore) (map_twice view (λ (r : Name × Name). r.1) xs)
    (subst (λ (rs : List (Name × Name)). IsAscendingBy NameBefore (map (λ (r : Name × Name). r.1) rs)) (sym is) (firsts_in_order (λ (n : Name). n) methods_of_header ls)))

-- ---- the rows of methods, one after the other

abbrev row_names : List MethodRowValue → List Name
row_names rows = map (λ (row : MethodRowValue). row.name) rows

-- one row more or none keeps the order
pub order_kept : (found : Name × Name) (old new : List MethodRowValue) (rest : List Name) → AddsTypes found old new → IsAscendingBy NameBefore (row_names old ++ (found.1 ∷ rest)) → IsAscendingBy NameBefore (row_names new ++ rest)
order_kept found old new rest adds h = by adds.0 adds.1
  where
    by : (s : Option SignatureValue) → new ≡ with_types found old s → IsAscendingBy NameBefore (row_names new ++ rest)
    by None is = subst (λ (rows : List MethodRowValue). IsAscendingBy NameBefore (row_names rows ++ rest)) (sym is) (ascend_without NameBefore (row_names old) found.1 rest h)
    by (Some s) is =
        let row : MethodRowValue = record { name = found.1; owner = found.0; formals = s.formals; returns = s.returns } in
        let more : row_names (old ++ row ∷ []) ++ rest ≡ row_names old ++ (found.1 ∷ rest) =
        ap (λ (ns : List Name). ns ++ rest) (map-append (λ (r : MethodRowValue). r.name) old (row ∷ [])) ∙ append_assoc (row_names old) (found.1 ∷ []) rest in
        subst (λ (rows : List MethodRowValue). IsAscendingBy NameBefore (row_names rows ++ rest)) (sym is) (subst (IsAscendingBy NameBefore) (sym more) h)

-- the next of the methods that are left
pub order_more : {X : Type 0} (view : X → Name × Name) (xs : List X) (i : ℕ) (x : X) (old new : List MethodRowValue) → i < length xs → x ≡ get_or xs i x → AddsTypes (view x) old new
    → IsAscendingBy NameBefore (row_names old ++ map (λ (y : X). (view y).1) (drop i xs)) → IsAscendingBy NameBefore (row_names new ++ map (λ (y : X). (view y).1) (drop (i + 1) xs))
order_more {X} view xs i x old new lt is adds h =
    let left : drop i xs ≡ x ∷ drop (i + 1) xs =
    drop-cons xs i x lt ∙ (ap (λ (j : ℕ). get_or xs i x ∷ drop j xs) (sym (add-one i)) ∙ ap (λ (y : X). y ∷ drop (i + 1) xs) (sym is)) in
    order_kept (view x) old new (map (λ (y : X). (view y).1) (drop (i + 1) xs)) adds
    (subst (λ (ys : List X). IsAscendingBy NameBefore (row_names old ++ map (λ (y : X). (view y).1) ys)) left h)

-- at the end
pub rows_ascend : (rows : List MethodRowValue) (rest : List Name) → IsAscendingBy NameBefore (row_names rows ++ rest) → IsAscendingByName (λ row. row.name) rows
rows_ascend rows rest h = ascend_by_names (λ row. row.name) rows (ascend_before NameBefore (row_names rows) rest h)

-- ---- a loop over what is seen of other items

module _ {A B S D : Type 0} (step : B → S → (S → Prog) → Prog) (view : A → B) (xs : List A) (s : S) (old new : Recording D) where
  pub seen_goes : (t : S) → Goes (each (λ a. step (view a)) xs s) old t new → Goes (each step (map view xs) s) old t new
  seen_goes t g = record { goes = λ prog k w. g.goes prog k (subst (IsAt prog old) (each_map step view xs s k) w) }

  pub seen_up : (e : RunFault) → GivesUp (each (λ a. step (view a)) xs s) old e new → GivesUp (each step (map view xs) s) old e new
  seen_up e g = record { halts = λ prog k w. g.halts prog k (subst (IsAt prog old) (each_map step view xs s k) w) }

-- ---- the table of a chain

module _ {D : Type 0} (ls : List Link) (ms : List (Name × Name)) (is : ms ≡ nearest_methods ls) (old new : Recording D) where
  abbrev with_fields : List MethodRowValue → ClassTableValue
  with_fields rows = record { fields = map field_row (nearest_fields ls); methods = rows }

  begins : (prog : Prog) (k : ClassTableValue → Prog) → IsAt prog old (table_steps ls k) → IsAt prog old (each types_step ms [] (λ rows. k (with_fields rows)))
  begins prog k w = subst (λ (xs : List (Name × Name)). IsAt prog old (each types_step xs [] (λ rows. k (with_fields rows)))) (sym is) w

  pub table_goes : (rows : List MethodRowValue) (whole : ClassTableValue) → Goes (each types_step ms []) old rows new → whole ≡ with_fields rows → Goes (table_steps ls) old whole new
  table_goes rows whole g e = record { goes = λ prog k w. subst (λ (t : ClassTableValue). IsAt prog new (k t)) (sym e) (g.goes prog (λ rows. k (with_fields rows)) (begins prog k w)) }

  pub table_up : (e : RunFault) → GivesUp (each types_step ms []) old e new → GivesUp (table_steps ls) old e new
  table_up e g = record { halts = λ prog k w. g.halts prog (λ rows. k (with_fields rows)) (begins prog k w) }

  pub table_gone : (rows : List MethodRowValue) (e : RunFault) → Goes (each types_step ms []) old rows new → e ≡ OutOfMemory → GivesUp (table_steps ls) old e new
  table_gone rows e g h = record {
    halts = λ prog k w. subst (λ (f : RunFault). Halts prog f new) (sym h) (halts_memory prog (k (with_fields rows)) new (g.goes prog (λ rows. k (with_fields rows)) (begins prog k w)));
  }
