-- Tables while they are made.
use Rattle.std.proofs.Common.{◌≡◌, ℕ, zero, suc, ◌+◌, ◌<◌, true, List, [], ◌∷◌, ◌++◌, length, get_or, map, Option, Some, None, Result, Ok, Err, refl, sym, ap, ◌∙◌, subst, arith, inl, inr, set}
use Rattle.std.specs.Prelude.{IfOk, OnOk, is_some, option_and_then, slice_get}
use Rattle.std.proofs.lemmas.Bool.{cases_eq}
use Rattle.std.proofs.lemmas.List.{get_or-set_same, get_or-set_other}
use Rattle.std.proofs.lemmas.Option.{none-some, same_Some, get_or_from_slice_get}
use Rattle.mj_tree.specs.Trees.{Name}
use Rattle.mj_tree.proofs.Positions.{read_at}
use Rattle.mj_members.specs.Declarations.{ClassDecl}
use Rattle.mj_members.specs.Tables.{fields_over, methods_over}
use Rattle.mj_members.specs.Classes.{field_member_view, method_member_view}
use Rattle.mj_classes.specs.Declarations.{decl, place, superclass_places}
use Rattle.mj_classes.specs.Walks.{IsFirstPlace}
use Rattle.mj_classes.proofs.Ancestors.{first_above, first_within}
use Rattle.mj_classes.proofs.Climb.{decl_name}
use Rattle.mj_classes.proofs.Places.{place_class, step_place}
use Rattle.mj_tables.specs.Tables.{IsTableOf, IsTableAt, HasTableAt, Grow, AreFirstPlaces}
use Rattle.mj_tables.specs.declared.making.MemberTable.{MemberTable}
use Rattle.mj_tables.proofs.Over.{fields_laid_over, methods_laid_over}

-- ---- places

pub next_first : (cs : List ClassDecl) (at next : ℕ) → IsFirstPlace cs at → slice_get (superclass_places cs) at ≡ Some (Some next) → IsFirstPlace cs next
next_first cs at next first up = let k = place_class cs first.0 at first.1 in first_above cs at next k.0 k.1 up

pub next_within : (cs : List ClassDecl) (at next : ℕ) → IsFirstPlace cs at → slice_get (superclass_places cs) at ≡ Some (Some next) → next < length cs
next_within cs at next first up = first_within cs next (next_first cs at next first up)

each_pushed : (P : ℕ → Type 0) (places : List ℕ) (p : ℕ) → ((i : ℕ) → i < length places → P (get_or places i 0)) → P p → (i : ℕ) → i < length (places ++ p ∷ []) → P (get_or (places ++ p ∷ []) i 0)
each_pushed P [] p h last zero lt = last
each_pushed P [] p h last (suc i) lt = absurd (omega arith)
each_pushed P (x ∷ xs) p h last zero lt = h 0 (omega arith)
each_pushed P (x ∷ xs) p h last (suc i) lt = each_pushed P xs p (λ j less. h (suc j) (omega arith)) last i (omega arith)

pub places_pushed : (cs : List ClassDecl) (places after : List ℕ) (p : ℕ) → AreFirstPlaces cs places → IsFirstPlace cs p → after ≡ places ++ p ∷ [] → AreFirstPlaces cs after
places_pushed cs places after p h first e = subst (AreFirstPlaces cs) (sym e) (each_pushed (IsFirstPlace cs) places p h first)

pub place_read : (cs : List ClassDecl) (places : List ℕ) (i p : ℕ) → AreFirstPlaces cs places → i < length places → p ≡ get_or places i p → IsFirstPlace cs p
place_read cs places i p h lt is = subst (IsFirstPlace cs) (get_or_from_slice_get places i p 0 (read_at places i p lt is)) (h i lt)

-- ---- the class at a place

pub named_at : (cs : List ClassDecl) (at : ℕ) (k : ClassDecl) (c : Name) → place cs c ≡ Some at → slice_get cs at ≡ Some k → (k.name ≡ c) × (decl cs c ≡ Some k)
named_at cs at k c e here =
    let j = place_class cs c at e in
    let same : j.0 ≡ k = same_Some j.0 k (sym j.1 ∙ here) in
    (ap (λ (m : ClassDecl). m.name) (sym same) ∙ decl_name cs c j.0 j.2, j.2 ∙ ap (λ (m : ClassDecl). Some m) same)

pub first_declared : (cs : List ClassDecl) (at : ℕ) (k : ClassDecl) → IsFirstPlace cs at → slice_get cs at ≡ Some k → decl cs k.name ≡ Some k
first_declared cs at k first here = let n = named_at cs at k first.0 first.1 here in ap (decl cs) n.0 ∙ n.1

-- the first class of a name is the first of its own
pub place_itself : (cs : List ClassDecl) (at : ℕ) (k : ClassDecl) (c : Name) → place cs c ≡ Some at → slice_get cs at ≡ Some k → place cs k.name ≡ Some at
place_itself cs at k c e here = ap (place cs) (named_at cs at k c e here).0 ∙ e

-- the table of its class is the one at the place
pub table_here : (cs : List ClassDecl) (at : ℕ) (k : ClassDecl) (table : MemberTable) → slice_get cs at ≡ Some k → IsTableOf cs k.name table → IsTableAt cs at table
table_here cs at k table here is c e = subst (λ (n : Name). IsTableOf cs n table) (named_at cs at k c e here).0 is

-- ---- a table laid over that of the superclass

name_above : (cs : List ClassDecl) (next : ℕ) (o : Option Name) → option_and_then (place cs) o ≡ Some next → (u : Name) × (o ≡ Some u) × (place cs u ≡ Some next)
name_above cs next None e = absurd (none-some next e)
name_above cs next (Some u) e = (u, refl, e)

pub laid_over : (cs : List ClassDecl) (at next : ℕ) (k : ClassDecl) (inherited table : MemberTable) → IsFirstPlace cs at → slice_get cs at ≡ Some k → slice_get (superclass_places cs) at ≡ Some (Some next)
    → IsTableAt cs next inherited → map field_member_view table.fields.items ≡ fields_over k (map field_member_view inherited.fields.items) → map method_member_view table.methods.items ≡ methods_over k (map method_member_view inherited.methods.items)
    → IsTableAt cs at table
laid_over cs at next k inherited table first here up right fields methods =
    let declared = first_declared cs at k first here in
    let u = name_above cs next k.superclass (step_place cs at k (Some next) here up) in
    let above = right u.0 u.2 in
    table_here cs at k table here (record {
      fields = fields ∙ (ap (fields_over k) above.fields ∙ fields_laid_over cs k declared u.0 u.1);
      methods = methods ∙ (ap (methods_over k) above.methods ∙ methods_laid_over cs k declared u.0 u.1);
    })

pub both_ok : {A E : Type 0} (P Q R : A → Type 0) (r : Result A E) → ((a : A) → P a → Q a → R a) → IfOk r P → IfOk r Q → IfOk r R
both_ok P Q R (Ok a) f p q = f a p q
both_ok P Q R (Err e) f p q = tt

-- what is read at a place is there
pub read_there : (tables : List (Option MemberTable)) (at : ℕ) (o : Option MemberTable) (table : MemberTable) → at < length tables → o ≡ get_or tables at o → o ≡ Some table → get_or tables at None ≡ Some table
read_there tables at o table lt is some = get_or_from_slice_get tables at o None (read_at tables at o lt is) ∙ some

-- ---- one more table

pub table_added : (tables : List (Option MemberTable)) (at : ℕ) (table : MemberTable) → at < length tables → HasTableAt (set tables at (Some table)) at
table_added tables at table lt = (table, get_or-set_same tables at (Some table) None lt)

pub tables_grow : (tables : List (Option MemberTable)) (at : ℕ) (table : MemberTable) → at < length tables → Grow tables (set tables at (Some table))
tables_grow tables at table lt i has = elim (cases_eq i at) [
  | inl same ↦ subst (HasTableAt (set tables at (Some table))) (sym same) (table_added tables at table lt)
  | inr apart ↦ (has.0, get_or-set_other tables at i (Some table) None apart ∙ has.1)
]

some_of : (o : Option MemberTable) → is_some o ≡ true → (table : MemberTable) × (o ≡ Some table)
some_of None e = absurd cc
some_of (Some table) e = (table, refl)

pub there_already : (tables : List (Option MemberTable)) (at : ℕ) (o : Option MemberTable) → at < length tables → o ≡ get_or tables at o → is_some o ≡ true → HasTableAt tables at
there_already tables at o lt is some = let t = some_of o some in (t.0, read_there tables at o t.0 lt is t.1)

pub on_ok : {A E : Type 0} (P Q : Type 0) (r : Result A E) → (P → Q) → OnOk r P → OnOk r Q
on_ok P Q (Ok a) f p = f p
on_ok P Q (Err e) f p = tt

-- ---- all tables

-- those of the classes at the places in front of this one
abbrev pub HaveTablesTo : List ClassDecl → ℕ → List (Option MemberTable) → Type 0
HaveTablesTo cs end tables = (c : Name) (at : ℕ) → at < end → place cs c ≡ Some at → HasTableAt tables at

pub one_further : (cs : List ClassDecl) (end : ℕ) (tables after : List (Option MemberTable)) → HaveTablesTo cs end tables → Grow tables after → ((c : Name) → place cs c ≡ Some end → HasTableAt after end) → HaveTablesTo cs (end + 1) after
one_further cs end tables after have grow here c at lt e = elim (cases_eq at end) [
  | inl same ↦ subst (HasTableAt after) (sym same) (here c (e ∙ ap (λ (n : ℕ). Some n) same))
  | inr apart ↦ grow at (have c at (omega arith) e)
]
