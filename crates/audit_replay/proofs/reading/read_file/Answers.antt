use Rattle.audit_replay.proofs.ReadRules.{is_trailing, file_fails, file_counts}
use Rattle.audit_replay.proofs.reading.read_file.Goals as goal

pub returns-in-Ok-false-clause-refused : goal.returns-in-Ok-false-clause-refused
returns-in-Ok-false-clause-refused g c = λ bytes h.
    is_trailing _ (g.F.Feed.holds c.args.feed.now) (g.F.Feed.holds c.read_from_after.new.feed) (g.F.Feed.holds c.args.feed.now) c.in-Ok.session c.in-Ok.ensures.found c.in-Ok.ensures.session c.in-Ok.ensures.taken
    (rw c.in-Ok-false.field-0-test at c.in-Ok-false.ensures.ends) c.args.k bytes h

pub returns-in-Err : goal.returns-in-Err
returns-in-Err g c = record {
  session = tt;
  taken = tt;
  given = tt;
  whole = tt;
  refused = λ bytes h. rw c.fault_of_file.ensures (file_fails _ c.args.k bytes c.in-Err.fault (c.in-Err.ensures.exact bytes h));
  counted = rw c.fault_of_file.ensures (file_counts c.args.k c.in-Err.fault _ _ c.in-Err.ensures.counted);
}
