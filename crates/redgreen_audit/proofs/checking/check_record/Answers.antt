use Rattle.redgreen_audit.proofs.checking.check_record.Goals as goal

pub returns-in-Err-clause-faulty : goal.returns-in-Err-clause-faulty
returns-in-Err-clause-faulty c = c.in-Err.ensures.faulty c.args.past.now c.args.now.now
