-- A field found in a table is the nearest one.
use Rattle.std.proofs.Common.{◌≡◌, List, map, Option, Some, None, option_map, find, refl, ap, ◌∙◌, bytes_eq}
use Rattle.mj_tree.specs.Trees.{Name}
use Rattle.mj_tree.specs.declared.tree.Field.{Field}
use Rattle.mj_tree.proofs.Positions.{find-map}
use Rattle.mj_answer.specs.declared.table.FieldRow.{FieldRow}
use Rattle.mj_members.specs.Declarations.{ClassDecl}
use Rattle.mj_classes.specs.Members.{nearest, own_field}
use Rattle.mj_members.specs.Tables.{fields_along}
use Rattle.mj_classes.specs.Tables.{IsTable}
use Rattle.mj_classes.proofs.Tables.{is_table}
use Rattle.mj_rules.specs.Tables.{field_row}
use Rattle.mj_rules.proofs.TableLaws.{found_name}
use Rattle.mj_rules.proofs.RowLemmas.{row_is_nearest}

along_is_table : (ks : List ClassDecl) → IsTable (λ (f : Field). f.name) (λ owner f. nearest (own_field f.name) ks ≡ Some (owner, f)) (fields_along ks)
unfolding fields_along
along_is_table ks = is_table (λ (f : Field). f.name) (λ (k : ClassDecl). k.fields) ks (λ owner f. nearest (own_field f.name) ks ≡ Some (owner, f)) (λ owner f h. h) (λ owner f h. h)

type_of_rows : (o : Option (Name × Field)) → option_map (λ (r : FieldRow). r.ty) (option_map field_row o) ≡ option_map (λ (f : Name × Field). f.1.ty) o
type_of_rows None = refl
type_of_rows (Some f) = refl

-- the type found in the rows is that of the nearest field
pub type_in-rows : (ks : List ClassDecl) (x : Name) → option_map (λ (row : FieldRow). row.ty) (find (λ (row : FieldRow). bytes_eq row.name x) (map field_row (fields_along ks))) ≡ option_map (λ (f : Name × Field). f.1.ty) (nearest (own_field x) ks)
type_in-rows ks x =
    let found = row_is_nearest (λ (f : Field). f.name) own_field (λ x k f e. found_name (λ (f : Field). f.name) x k.fields f e) (fields_along ks) ks (along_is_table ks) x (find (λ (r : Name × Field). bytes_eq r.1.name x) (fields_along ks)) (nearest (own_field x) ks) refl refl in
    ap (option_map (λ (row : FieldRow). row.ty)) (find-map field_row (λ (r : FieldRow). bytes_eq r.name x) (fields_along ks) ∙ ap (option_map field_row) found)
    ∙ type_of_rows (nearest (own_field x) ks)
