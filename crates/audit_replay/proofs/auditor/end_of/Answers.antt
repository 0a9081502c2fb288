use Rattle.std.proofs.Common.{◌∙◌, sym}
use Rattle.audit_replay.proofs.SumEnds.{sum_empty, sum_ends}
use Rattle.audit_replay.proofs.auditor.end_of.Goals as goal

pub returns-in_default : goal.returns-in_default
returns-in_default g c = λ ss a. sum_empty c.args.kept ss a c.in_default.is

pub returns-in-Some-into_answer : goal.returns-in-Some-into_answer
returns-in-Some-into_answer g c = λ ss a.
    rw c.profile-profile.ensures
    (sum_ends g.R.Runner.queries c.args.kept ss a c.in-Some.last c.in-Some.is c.in-Some-into_answer.answer (sym c.into_answer.ensures ∙ c.in-Some-into_answer.is))
