use Rattle.redgreen_files.proofs.FileLaws.{filed_exact, filed_only, breach_exact, breach_only, counts_other}
use Rattle.redgreen_files.proofs.reading.files.read_session.Goals as goal

pub returns-in-Ok-clause-fits : goal.returns-in-Ok-clause-fits
returns-in-Ok-clause-fits g c = c.in-Ok.ensures.whole.fits

pub returns-in-Ok-clause-found : goal.returns-in-Ok-clause-found
returns-in-Ok-clause-found g c = c.in-Ok.ensures.whole.found

pub returns-in-Ok-clause-digest : goal.returns-in-Ok-clause-digest
returns-in-Ok-clause-digest g c = c.in-Ok.ensures.whole.digest

pub returns-in-Ok-clause-only : goal.returns-in-Ok-clause-only
returns-in-Ok-clause-only g c = filed_only _ c.in-Ok.filed c.in-Ok.ensures.whole

pub returns-in-Ok-clause-exact : goal.returns-in-Ok-clause-exact
returns-in-Ok-clause-exact g c = filed_exact _ c.in-Ok.filed c.in-Ok.ensures.whole

pub returns-in-Err-Breach-clause-only : goal.returns-in-Err-Breach-clause-only
returns-in-Err-Breach-clause-only g c = breach_only _ c.in-Err-Breach.fault (rw c.in-Err-Breach.field-0-is at c.in-Err-Breach.ensures.whole)

pub returns-in-Err-Breach-clause-exact : goal.returns-in-Err-Breach-clause-exact
returns-in-Err-Breach-clause-exact g c = breach_exact _ c.in-Err-Breach.fault (rw c.in-Err-Breach.field-0-is at c.in-Err-Breach.ensures.whole)

pub returns-in-Err-Breach-clause-counted : goal.returns-in-Err-Breach-clause-counted
returns-in-Err-Breach-clause-counted g c = counts_other c.in-Err-Breach.fault _ _ (rw c.in-Err-Breach.field-0-is at c.in-Err-Breach.ensures.counted)
