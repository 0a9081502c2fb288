use Rattle.std.proofs.Common.{◌≡◌, ◌++◌, map}
use Rattle.text_queries.specs.Index.{row_in}
use Rattle.text_queries.proofs.index.rows_of.Given as goal

abbrev pub invariant-loop-class : goal.invariant-loop-class
invariant-loop-class l = l.rows.items ++ map (λ entry. row_in entry.1 entry.0) l.class-iterator ≡ map (λ entry. row_in entry.1 entry.0) l.fn.files.entries
