use Rattle.audit_replay.proofs.SumEnds.{sum_files}
use Rattle.audit_replay.proofs.auditor.has_files.Goals as goal

pub returns-in-Some : goal.returns-in-Some
returns-in-Some c = λ ss a some.
    sum_files c.args.kept.now ss a c.in-Some.last c.in-Some.is c.args.project.now c.has_files_of.ensures.project c.has_files_of.result c.has_files_of.ensures.same
