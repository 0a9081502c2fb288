use Rattle.audit_replay.proofs.OnceFiles.{told_leaves_none}
use Rattle.audit_replay.proofs.laws.told_refusals_leave_no_mismatch.Goals as goal

pub returns : goal.returns
returns c = λ queries laws files. told_leaves_none queries files laws
