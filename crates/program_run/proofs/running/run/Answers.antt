use Rattle.std.proofs.Common.{map, string_bytes}
use Rattle.program_run.proofs.Runs.{is_status, no_refusal, prints, prints_plain, prints_refusal, silent}
use Rattle.program_run.proofs.Believed.{believed}
use Rattle.program_run.proofs.running.run.Goals as goal
use Rattle.program_run.proofs.running.run.Goals.{in-Ok, in-Err}

pub returns-clause-status : goal.returns-clause-status
returns-clause-status g c = rw c.number.ensures (is_status c.match-report_of.status)

pub returns-clause-answer : goal.returns-clause-answer
returns-clause-answer g c = rw c.number.ensures (elim c.match-report_of.branch [
  | in-Ok w ↦ (rw (w.out-is, w.err-is, w.status-is) (prints g.R.File.Read.remaining _ _ _ _ _ _ _ _ w.in-Ok.ensures.answer w.deliver-status.ensures))
  | in-Err w ↦ (rw w.status-is (λ ends. absurd (silent _ _ w.no_memory-status.ensures ends)))
])

pub returns-clause-plain : goal.returns-clause-plain
returns-clause-plain g c = λ subcommand names plain ends.
    prints_plain g.R.File.Read.remaining subcommand (map string_bytes c.args.list.items) names _ _ _ _ _ plain (returns-clause-answer g c ends)

pub returns-clause-believed : goal.returns-clause-believed
returns-clause-believed g c = λ asks ends. believed g.R.File.Read.remaining (map string_bytes c.args.list.items) _ _ _ _ _ asks (returns-clause-answer g c ends)

pub returns-clause-refused : goal.returns-clause-refused
returns-clause-refused g c = rw c.number.ensures (elim c.match-report_of.branch [
  | in-Ok w ↦ (rw (w.out-is, w.err-is, w.status-is) (prints_refusal _ _ _ _ _ _ _ _ _ w.in-Ok.ensures.refused w.deliver-status.ensures))
  | in-Err w ↦ (rw w.status-is (λ number. absurd (no_refusal _ _ w.no_memory-status.ensures number)))
])
