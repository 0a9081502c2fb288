use Rattle.std.proofs.Common.{◌≡◌, ◌++◌, length, map, string_bytes}
use Rattle.std.specs.Vec.Iter.{into_iter_items, into_iter_len}
use Rattle.program_run.specs.Audits.{TookAll}
use Rattle.program_run.proofs.subcommands.auditing.take_files.Given as goal

-- the files of the names so far were taken, and the others are left
abbrev pub invariant-loop-name : goal.invariant-loop-name
invariant-loop-name g l = record {
  took : TookAll g.R.File.Read.remaining (map string_bytes l.yielded) l.progress (g.E.Write.contents l.initial.err) (g.E.Write.contents l.err) l.auditor;
  left : l.yielded ++ into_iter_items l.name-iterator ≡ l.fn.names.items;
  count : into_iter_len l.name-iterator ≡ length (into_iter_items l.name-iterator);
}
