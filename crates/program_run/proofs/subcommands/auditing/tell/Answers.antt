use Rattle.std.proofs.Common.{◌∙◌, ℕ, List, None, ap, sym, subst, refl}
use Rattle.std.specs.Io.KnownBytes.{Appends}
use Rattle.std.specs.Option.{option_copied}
use Rattle.audit_replay.specs.Audits.{last_of}
use Rattle.program_run.proofs.Progress.{told_nothing, told_this}
use Rattle.program_run.proofs.Streams.{appends_none}
use Rattle.program_run.proofs.subcommands.auditing.tell.Goals as goal

pub returns-in_default-clause-told : goal.returns-in_default-clause-told
returns-in_default-clause-told g c = λ front taken.
    let held = g.E.Write.contents c.args.err.now in
    subst (λ (t : List ℕ). Appends held held t)
    (sym (told_nothing c.args.progress c.args.name.now (last_of None taken.sessions) (sym (c.session.ensures front taken) ∙ ap (λ r. option_copied r) c.in_default.is)))
    (appends_none held held refl)

pub returns-in-Ok-clause-told : goal.returns-in-Ok-clause-told
returns-in-Ok-clause-told g c = λ front taken.
    subst (λ (t : List ℕ). Appends (g.E.Write.contents c.args.err.now) (g.E.Write.contents c.write.new.writer) t)
    (told_this c.args.progress c.args.name.now c.as_bytes.result.now (last_of None taken.sessions) c.in-Some.session.now c.if-not-progress.false
    (sym (c.session.ensures front taken) ∙ ap (λ r. option_copied r) c.in-Some.is) (c.as_bytes.ensures.value ∙ c.in_ok-line.ensures))
    c.in-Ok.ensures
