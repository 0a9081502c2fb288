use Rattle.std.proofs.Common.{map, take}
use Rattle.audit_replay.specs.Sums.{AreSummed}
use Rattle.audit_replay.proofs.chain.audit_files.Given as goal

abbrev pub invariant-loop-file : goal.invariant-loop-file
invariant-loop-file g l = AreSummed g.R.Runner.queries (take l.file-index (map (λ f. f.now) l.chain)) (g.R.Runner.log l.initial.runner) (g.R.Runner.log l.runner) l.auditor.state
