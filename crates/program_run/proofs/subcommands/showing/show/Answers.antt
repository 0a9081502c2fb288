use Rattle.program_run.proofs.subcommands.showing.show.Goals as goal
use Rattle.program_run.proofs.subcommands.showing.show.Goals.{then-dot+in_ok-text, else-dot+in_ok-text-2}

pub returns-clause-reports : goal.returns-clause-reports
returns-clause-reports g c = record {
  past = c.in_ok-past.field-0.past;
  session = c.in_ok-past.field-0.session;
  last = c.in_ok-past.ensures.last;
  text = rw c.clean.ensures.answer (elim c.if-dot.branch [
    | then-dot+in_ok-text w ↦ (rw (w.if-dot.true, w.text-is) (rw w.as_ref.ensures.value at w.in_ok-text.ensures.graph))
    | else-dot+in_ok-text-2 w ↦ (rw (w.if-dot.false, w.text-is) w.in_ok-text-2.ensures)
  ]);
  notes = c.clean.ensures.notes;
  status = c.clean.ensures.status;
}
