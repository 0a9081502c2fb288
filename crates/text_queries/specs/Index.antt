-- Each class with the file that declares it.
use Rattle.std.specs.Prelude.{List, [], ◌++◌, map, filter_map, find, Option, Some, None, option_map}
use Rattle.std.specs.Str.{bytes_eq}
use Rattle.item_ids.specs.declared.key.Key.TheVariants as keys
use Rattle.mj_tree.specs.Trees.{Name, File}
use Rattle.mj_classes.specs.Declarations.{classes_of}
use Rattle.mj_rules.specs.FaultLists.{class_names}
use Rattle.mj_rules.specs.Answering.{set_of, name_order}
use Rattle.result_bytes.specs.Parts.{files_in, tree_in}
use Rattle.result_bytes.specs.declared.files.IndexRow.{IndexRow}
use Rattle.result_bytes.specs.declared.value.Value.{Value}
use Rattle.result_bytes.specs.declared.value.Value.TheVariants as values
use Rattle.recorder.specs.Programs.{Prog, Ask, each}

abbrev pub row_in : Name → Name → IndexRow
row_in file class = record { class = class; file = file }

-- the classes of a file in their order, each with the file
abbrev pub file_rows : Name → Option File → List IndexRow
file_rows file None = []
file_rows file (Some tree) = map (row_in file) (class_names (classes_of 0 tree))

-- Tree of one more file, and the rows of its classes
abbrev pub rows_step : Name → List IndexRow → (List IndexRow → Prog) → Prog
rows_step file rows k = Ask (keys.Tree file) (λ v. k (rows ++ file_rows file (tree_in v)))

-- the file in the first row of a class
abbrev pub first_file : List IndexRow → Name → Option Name
first_file rows c = option_map (λ row. row.file) (find (λ row. bytes_eq row.class c) rows)

-- the first row of each class, in the order of the classes
unfoldable pub first_rows : List IndexRow → List IndexRow
first_rows rows =
    filter_map (λ c. find (λ row. bytes_eq row.class c) rows)
    (set_of name_order (map (λ row. row.class) rows))

-- Files, then Tree of each file
abbrev pub index_steps : (Value → Prog) → Prog
index_steps k =
    Ask keys.Files (λ v. each rows_step (files_in v) []
    (λ rows. k (values.Index (first_rows rows))))
