use Rattle.std.proofs.Common.{◌≡◌, drop}
use Rattle.kept_laws.specs.Tests.{same_names}
use Rattle.kept_results.proofs.Naming.{names_of}
use Rattle.kept_results.proofs.declared.have_same_names.Given as goal

abbrev pub invariant-loop-number : goal.invariant-loop-number
invariant-loop-number l = same_names (names_of (drop l.number l.old)) (names_of (drop l.number l.new)) ≡ same_names (names_of l.old) (names_of l.new)
