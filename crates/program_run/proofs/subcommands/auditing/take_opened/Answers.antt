use Rattle.std.proofs.Common.{◌≡◌, ◌∙◌, Some, ap, sym}
use Rattle.std.specs.Io.Buffered.{reader_remaining}
use Rattle.program_run.proofs.Opened.{buffered_holds, fails_at}
use Rattle.program_run.proofs.subcommands.auditing.take_opened.Goals as goal

pub returns-in-Ok-take-clause-taken : goal.returns-in-Ok-take-clause-taken
returns-in-Ok-take-clause-taken g c =
    let more = c.in-Ok-take.ensures.taken.1 in
    record {
      file = c.in-Ok-take.ensures.taken.0;
      whole = λ all told.
          let holds : reader_remaining g.F.Read.remaining c.new-feed.result.reader ≡ Some all =
          ap (λ r. reader_remaining g.F.Read.remaining r) c.new-feed.ensures.reader
          ∙ buffered_holds g.F.Read.remaining c.in-Ok.reader c.args.file all c.in-Ok.ensures.inner c.in-Ok.ensures.empty c.in-Ok.ensures.capacity told in
          sym (more.whole all holds);
      session = more.session;
      taken = more.taken;
      behind = more.behind;
    }

pub returns-clause-failed : goal.returns-clause-failed
returns-clause-failed g c = λ front taken. rw c.failure_in.ensures
    (fails_at g.F.Read.remaining c.args.file front c.args.name c.in-Err.fault
    (λ bytes told.
    let held : reader_remaining g.F.Read.remaining c.new-feed.result.reader ≡ Some bytes =
    ap (λ r. reader_remaining g.F.Read.remaining r) c.new-feed.ensures.reader
    ∙ buffered_holds g.F.Read.remaining c.in-Ok.reader c.args.file bytes c.in-Ok.ensures.inner c.in-Ok.ensures.empty c.in-Ok.ensures.capacity told in
    c.in-Err.ensures.refused front bytes taken held))
