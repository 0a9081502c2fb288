-- The tables that are computed are those of the rules.
use Rattle.std.proofs.Common.{◌≡◌, Bool, true, false, cond, List, [], ◌∷◌, map, Some, find, Contains, refl, sym, ap, subst, ◌∙◌, bytes_eq}
use Rattle.std.specs.List.{AllByRecursion}
use Rattle.std.specs.Ordering.{nat_cmp}
use Rattle.std.specs.Cmp.Lexicographic.{slice_cmp}
use Rattle.std.proofs.lemmas.Option.{none-some, same_Some}
use Rattle.std.proofs.lemmas.Slice.Eq.{bytes_eq-Decides}
use Rattle.mj_tree.specs.Trees.{Name, Method}
use Rattle.mj_tree.specs.declared.tree.Ty.{Ty}
use Rattle.mj_tree.specs.declared.tree.Field.{Field}
use Rattle.mj_answer.specs.declared.table.FieldRow.{FieldRow}
use Rattle.mj_answer.specs.AnswerValues.{MethodRowValue}
use Rattle.ordered_names.specs.Order.{NameBefore, IsAscendingBy, IsAscendingByName}
use Rattle.mj_answer.proofs.Compared.{ascends}
use Rattle.mj_members.specs.Declarations.{ClassDecl}
use Rattle.mj_classes.specs.Members.{FieldOf, MethodOf}
use Rattle.mj_classes.specs.Tables.{field_table, method_table}
use Rattle.mj_classes.specs.Laws.{MemberLaws}
use Rattle.mj_rules.specs.Rules.{IsFieldOf, IsMethodOf, IsTableOf}
use Rattle.mj_rules.specs.Tables.{field_row, method_row, table_of}
use Rattle.named_files.proofs.Listed.{contains_at, place_of, at_map, map_at}

-- what is found by a name has it
pub found_name : {A : Type 0} (name : A → Name) (x : Name) (as' : List A) (a : A) → find (λ (b : A). bytes_eq (name b) x) as' ≡ Some a → name a ≡ x
found_name name x [] a e = absurd (none-some a e)
found_name {A} name x (b ∷ bs) a e = by_test (bytes_eq (name b) x) refl (found_name name x bs a) e
  where
    by_test : (t : Bool) → bytes_eq (name b) x ≡ t → (find (λ (c : A). bytes_eq (name c) x) bs ≡ Some a → name a ≡ x) → cond t (Some b) (find (λ (c : A). bytes_eq (name c) x) bs) ≡ Some a → name a ≡ x
    by_test true h behind f = ap name (sym (same_Some b a f)) ∙ (bytes_eq-Decides (name b) x).0 h
    by_test false h behind f = behind f

-- elements ascend by their names if the names ascend
pub ascend_by_names : {X : Type 0} (name : X → Name) (xs : List X) → IsAscendingBy NameBefore (map name xs) → IsAscendingByName name xs
ascend_by_names name [] h = tt
ascend_by_names {X} name (x ∷ xs) h = (each xs h.0, ascend_by_names name xs h.1)
  where
    each : (ys : List X) → AllByRecursion (NameBefore (name x)) (map name ys) → AllByRecursion (λ (y : X). NameBefore (name x) (name y)) ys
    each [] k = tt
    each (y ∷ ys) k = (k.0, each ys k.1)

-- the same elements, mapped
pub mapped : {X Y : Type 0} (f : X → Y) (name : Y → Name) (xs : List X) → IsAscendingBy NameBefore (map (λ (x : X). name (f x)) xs) → IsAscendingByName name (map f xs)
mapped f name [] h = tt
mapped {X} {Y} f name (x ∷ xs) h = (each xs h.0, mapped f name xs h.1)
  where
    each : (ys : List X) → AllByRecursion (NameBefore (name (f x))) (map (λ (y : X). name (f y)) ys) → AllByRecursion (λ (y : Y). NameBefore (name (f x)) (name y)) (map f ys)
    each [] k = tt
    each (y ∷ ys) k = (k.0, each ys k.1)

module _ (members : MemberLaws) (cs : List ClassDecl) (c : Name) where
  field_name : (x owner : Name) (f : Field) → FieldOf cs c x owner f → f.name ≡ x
  field_name x owner f is = found_name (λ (g : Field). g.name) x is.here.0.fields f is.here.2

  method_name : (x owner : Name) (m : Method) → MethodOf cs c x owner m → m.name ≡ x
  method_name x owner m is = found_name (λ (g : Method). g.name) x is.here.0.methods m is.here.2

  field_from : (row : FieldRow) → Contains (map field_row (field_table cs c)) row → IsFieldOf cs c row
  field_from row h =
      let p = place_of (map field_row (field_table cs c)) row h in
      let r = at_map field_row (field_table cs c) p.0 row p.1 in
      let is = ((members.fields cs c).members r.0.0 r.0.1).0 (contains_at (field_table cs c) p.0 r.0 r.1) in
      subst (IsFieldOf cs c) r.2 (record { field = r.0.1; nearest = is; ty = refl })

  field_to : (row : FieldRow) → IsFieldOf cs c row → Contains (map field_row (field_table cs c)) row
  field_to row is =
      let same = field_name row.name row.owner is.field is.nearest in
      let member = ((members.fields cs c).members row.owner is.field).1 (subst (λ (n : Name). FieldOf cs c n row.owner is.field) (sym same) is.nearest) in
      let p = place_of (field_table cs c) (row.owner, is.field) member in
      let build : Name → Ty → FieldRow = λ name ty. record { name = name; owner = row.owner; ty = ty } in
      let equal : field_row (row.owner, is.field) ≡ row = ap (λ (n : Name). build n is.field.ty) same ∙ ap (build row.name) (sym is.ty) in
      contains_at (map field_row (field_table cs c)) p.0 row (map_at field_row (field_table cs c) p.0 (row.owner, is.field) p.1 ∙ ap Some equal)

  method_from : (row : MethodRowValue) → Contains (map method_row (method_table cs c)) row → IsMethodOf cs c row
  method_from row h =
      let p = place_of (map method_row (method_table cs c)) row h in
      let r = at_map method_row (method_table cs c) p.0 row p.1 in
      let is = ((members.methods cs c).members r.0.0 r.0.1).0 (contains_at (method_table cs c) p.0 r.0 r.1) in
      subst (IsMethodOf cs c) r.2 (record { method = r.0.1; nearest = is; formals = refl; returns = refl })

  method_to : (row : MethodRowValue) → IsMethodOf cs c row → Contains (map method_row (method_table cs c)) row
  method_to row is =
      let same = method_name row.name row.owner is.method is.nearest in
      let member = ((members.methods cs c).members row.owner is.method).1 (subst (λ (n : Name). MethodOf cs c n row.owner is.method) (sym same) is.nearest) in
      let p = place_of (method_table cs c) (row.owner, is.method) member in
      let build : Name → List Ty → Ty → MethodRowValue = λ name formals returns. record { name = name; owner = row.owner; formals = formals; returns = returns } in
      let equal : method_row (row.owner, is.method) ≡ row =
      ap (λ (n : Name). build n (map (λ v. v.ty) is.method.formals) is.method.returns) same ∙ (ap (λ (ts : List Ty). build row.name ts is.method.returns) (sym is.formals) ∙ ap (build row.name row.formals) (sym is.returns)) in
      contains_at (map method_row (method_table cs c)) p.0 row (map_at method_row (method_table cs c) p.0 (row.owner, is.method) p.1 ∙ ap Some equal)

  pub table_law : IsTableOf cs c (table_of cs c)
  table_law = record {
    fields_ascend = mapped field_row (λ (r : FieldRow). r.name) (field_table cs c) (ascends (slice_cmp nat_cmp) NameBefore (λ m n e. e) _ (members.fields cs c).ascending);
    fields = λ row. (field_from row, field_to row);
    methods_ascend = mapped method_row (λ (r : MethodRowValue). r.name) (method_table cs c) (ascends (slice_cmp nat_cmp) NameBefore (λ m n e. e) _ (members.methods cs c).ascending);
    methods = λ row. (method_from row, method_to row);
  }
