use Rattle.std.proofs.Common.{take, map}
use Rattle.query_rules.specs.Queries.{queries}
use Rattle.audit_replay.specs.Sums.{AreSummed}
use Rattle.audit_fixtures.proofs.auditors.taken.Given as goal

abbrev pub invariant-loop-file : goal.invariant-loop-file
invariant-loop-file l =
    AreSummed queries (take l.file-index (map (λ f. f.now) l.files)) l.initial.runner.log.items l.runner.log.items l.auditor.state
