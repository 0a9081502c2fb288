use Rattle.std.proofs.Common.{◌≡◌, ◌++◌, length, map}
use Rattle.std.specs.Vec.Iter.{into_iter_items, into_iter_len}
use Rattle.program_run.specs.Shows.{IsLastPair}
use Rattle.program_run.proofs.subcommands.last.last_pair.Given as goal

-- the files so far were decoded, and the others are left
abbrev pub invariant-loop-file : goal.invariant-loop-file
invariant-loop-file l = record {
  last : IsLastPair (map (λ file. file.1.items) l.yielded) l.last;
  left : l.yielded ++ into_iter_items l.file-iterator ≡ l.fn.files.items;
  count : into_iter_len l.file-iterator ≡ length (into_iter_items l.file-iterator);
}
