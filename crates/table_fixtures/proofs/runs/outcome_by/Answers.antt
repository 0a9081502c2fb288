use Rattle.std.proofs.Common.{◌∙◌, ap}
use Rattle.std.specs.Arc.{arc_value}
use Rattle.table_fixtures.proofs.Answering.{answered}
use Rattle.table_fixtures.proofs.runs.outcome_by.Goals as goal

pub returns-in_ok-share-in-Ok-clause-read : goal.returns-in_ok-share-in-Ok-clause-read
returns-in_ok-share-in-Ok-clause-read c =
    let end = c.record.new.recorder in
    answered c.args.recorder.now.inner end.inner end.told (arc_value c.in_ok-share-in-Ok.field-0).told c.record.ensures.follows
    (ap (λ o. o.told) c.in_ok-share-in-Ok.ensures ∙ c.in-Ok.ensures.of_run.1)
    c.reads-reads.ensures.keeps.answers
