use Rattle.std.proofs.Common.{◌≡◌, ◌++◌, map, string_bytes}
use Rattle.std.specs.Vec.Iter.{into_iter_items}
use Rattle.session_cache.specs.Opened.{AreRead}
use Rattle.program_run.proofs.files.read_files.Given as goal

-- the files of the names so far were read, and the others are left
abbrev pub invariant-loop-name : goal.invariant-loop-name
invariant-loop-name g l = record {
  named : map (λ file. string_bytes file.0) l.files.items ≡ map string_bytes l.yielded;
  read : AreRead g.R.File.Read.remaining (map (λ file. file.1.items) l.files.items);
  left : l.yielded ++ into_iter_items l.name-iterator ≡ l.fn.names.items;
}
