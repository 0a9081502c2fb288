use Rattle.std.proofs.Common.{◌≡◌, ℕ, List, length}
use Rattle.std.specs.Option.{option_or}
use Rattle.std.specs.BTreeMap.{get}
use Rattle.std.specs.Ordering.{nat_cmp}
use Rattle.std.specs.Cmp.Lexicographic.{slice_cmp}
use Rattle.std.specs.Vec.Iter.{into_iter_items, into_iter_len}
use Rattle.text_queries.specs.Index.{first_file}
use Rattle.text_queries.proofs.index.first_files.Given as goal

-- what is kept so far, and the rows that are left, say what all say
abbrev pub invariant-loop-row : goal.invariant-loop-row
invariant-loop-row l = record {
  said : (class : List ℕ) → option_or (get (slice_cmp nat_cmp) l.files class) (first_file (into_iter_items l.row-iterator) class) ≡ first_file l.fn.rows.items class;
  count : into_iter_len l.row-iterator ≡ length (into_iter_items l.row-iterator);
}
