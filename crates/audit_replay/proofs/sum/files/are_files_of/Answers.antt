use Rattle.std.proofs.Common.{◌≡◌, true, false, map}
use Rattle.std.specs.Arc.{arc_value}
use Rattle.sessions.specs.Sessions.{entry_at}
use Rattle.audit_replay.proofs.InputRules.{files_alike, no_names}
use Rattle.audit_replay.proofs.sum.files.are_files_of.Goals as goal

pub returns-in-Some-clause-same : goal.returns-in-Some-clause-same
returns-in-Some-clause-same c =
    files_alike (entry_at c.args.session.now) c.in-Some.names.now c.in-Some.ensures.held (map arc_value c.args.texts.now) c.args.project.now c.are_alike.result (rw c.files-files.ensures.files at c.are_alike.ensures)

pub returns-in-None-clause-same : goal.returns-in-None-clause-same
returns-in-None-clause-same c = (
  (λ h. absurd (let e : false ≡ true = h in cc)),
  (λ x. absurd (no_names (entry_at c.args.session.now) x.names c.in-None.ensures.held x.held)),
)
