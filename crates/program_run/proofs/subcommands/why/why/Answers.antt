use Rattle.program_run.proofs.subcommands.why.why.Goals as goal

pub returns-clause-reports : goal.returns-clause-reports
returns-clause-reports g c = record {
  past = c.in_ok-past.field-0.past;
  session = c.in_ok-past.field-0.session;
  last = c.in_ok-past.ensures.last;
  text = rw c.clean.ensures.answer (rw c.as_ref.ensures.value at c.in_ok-text.ensures.said);
  notes = c.clean.ensures.notes;
  status = c.clean.ensures.status;
}
