use Rattle.session_file.proofs.StepLaws.{front_file, front_given, front_only, front_not, counts_other}
use Rattle.session_file.proofs.reading.files.read_from_after.Goals as goal

pub returns-in-Ok-clause-session : goal.returns-in-Ok-clause-session
returns-in-Ok-clause-session g c = (front_file _ c.check_past.ensures c.in-Ok.ensures.value).session

pub returns-in-Ok-clause-taken : goal.returns-in-Ok-clause-taken
returns-in-Ok-clause-taken g c = (front_file _ c.check_past.ensures c.in-Ok.ensures.value).taken

pub returns-in-Ok-clause-found : goal.returns-in-Ok-clause-found
returns-in-Ok-clause-found g c = front_given _ c.check_past.ensures c.in-Ok.ensures.value

pub returns-in-Ok-clause-only : goal.returns-in-Ok-clause-only
returns-in-Ok-clause-only g c = λ s rest h taken has. front_only _ c.check_past.ensures c.in-Ok.ensures.value s rest h taken has

pub returns-in-Err-Breach-clause-only : goal.returns-in-Err-Breach-clause-only
returns-in-Err-Breach-clause-only g c = λ s rest h taken has. absurd (front_not _ c.check_past.ensures (rw c.in-Err-Breach.field-0-is at c.in-Err-Breach.ensures.value) s rest h taken has)

pub returns-in-Err-Breach-clause-counted : goal.returns-in-Err-Breach-clause-counted
returns-in-Err-Breach-clause-counted g c = counts_other c.in-Err-Breach.fault _ _ (rw c.in-Err-Breach.field-0-is at c.in-Err-Breach.ensures.counted)
