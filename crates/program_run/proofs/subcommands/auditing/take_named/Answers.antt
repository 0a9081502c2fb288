use Rattle.std.proofs.Common.{◌∙◌, ℕ, List, ap, refl, string_bytes, subst}
use Rattle.std.proofs.lemmas.Result.{on_ok_weaker}
use Rattle.std.specs.Io.KnownBytes.{Appends}
use Rattle.program_run.proofs.Progress.{take_fails, told_next}
use Rattle.program_run.proofs.subcommands.auditing.take_named.Goals as goal

pub returns-in-Ok-clause-taken : goal.returns-in-Ok-clause-taken
returns-in-Ok-clause-taken g c = λ front was.
    let next = c.in-Ok.ensures.taken in
    let more = next.takes in
    on_ok_weaker c.tell.result
    (λ told. record {
      file = more.file;
      read = record { opened = next.opened; whole = more.whole };
      session = more.session;
      taken = more.taken front was;
      behind = more.behind front was;
      told = subst (λ (t : List ℕ). Appends (g.E.Write.contents c.args.err.now) (g.E.Write.contents c.tell.new.err) t)
          (told_next c.args.progress _ (string_bytes c.args.name) was.sessions _ more.session (c.as_str.ensures.value ∙ ap string_bytes c.in-Ok.ensures.named) (more.behind front was))
          told;
    })
    (c.tell.ensures.told _ (more.taken front was))

pub returns-in-Err-clause-failed : goal.returns-in-Err-clause-failed
returns-in-Err-clause-failed g c = λ front was.
    take_fails g.R.File.Read.remaining front (string_bytes c.args.name) c.args.progress _ _ refl c.in-Err.failure (c.in-Err.ensures.failed front was)
