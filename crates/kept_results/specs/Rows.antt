-- What becomes of the rows of the index.
use Rattle.std.specs.Prelude.{List, Option, Some, None, if◌then◌else◌}
use Rattle.std.specs.Str.{bytes_eq}
use Rattle.std.specs.Ordering.{nat_cmp}
use Rattle.std.specs.Cmp.Lexicographic.{slice_cmp}
use Rattle.std.specs.declared.cmp.Ordering.{Ordering}
use Rattle.std.specs.declared.cmp.Ordering.TheVariants.{Less, Equal, Greater}
use Rattle.mj_tree.specs.Trees.{Name}
use Rattle.result_bytes.specs.declared.files.IndexRow.{IndexRow}
use Rattle.text_queries.specs.Index.{first_file}
use Rattle.kept_results.specs.declared.change.RowChange.{RowChange}
use Rattle.kept_results.specs.declared.change.RowChange.TheVariants.{Moves, ComesOrGoes}

-- what becomes of the row of a class that had a file, or none, and has one, or none
abbrev pub row_change : Option Name → Option Name → Option RowChange
row_change None None = None
row_change None (Some y) = Some ComesOrGoes
row_change (Some x) None = Some ComesOrGoes
row_change (Some x) (Some y) = if bytes_eq x y then None else Some Moves

-- what becomes of the row of a class from one index to another
abbrev pub change_at : List IndexRow → List IndexRow → Name → Option RowChange
change_at old new c = row_change (first_file old c) (first_file new c)

-- ---- by steps

-- which of two rows is first, by the classes
abbrev pub order_of : Option IndexRow → Option IndexRow → Ordering
order_of None None = Equal
order_of (Some o) None = Less
order_of None (Some n) = Greater
order_of (Some o) (Some n) = slice_cmp nat_cmp o.class n.class

abbrev pub noted_at : Name → Option RowChange → Name → Option RowChange
noted_at class change c = if bytes_eq class c then change else None

abbrev pub noted_by : Ordering → IndexRow → IndexRow → Name → Option RowChange
noted_by Less o n = noted_at o.class (Some ComesOrGoes)
noted_by Equal o n = noted_at o.class (row_change (Some o.file) (Some n.file))
noted_by Greater o n = noted_at n.class (Some ComesOrGoes)

-- what becomes of the row that is first
abbrev pub noted : Option IndexRow → Option IndexRow → Name → Option RowChange
noted None None = λ c. None
noted (Some o) None = noted_at o.class (Some ComesOrGoes)
noted None (Some n) = noted_at n.class (Some ComesOrGoes)
noted (Some o) (Some n) = noted_by (slice_cmp nat_cmp o.class n.class) o n
