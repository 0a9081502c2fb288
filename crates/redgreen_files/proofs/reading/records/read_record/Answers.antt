use Rattle.devices.proofs.PutLaws.{handed_on}
use Rattle.redgreen_files.specs.Reading.{mark_at, reads_at, text_at, record_of, record_at}
use Rattle.redgreen_files.proofs.FeedLaws.{pair_took, pair_first, pair_second, made_took, made_stops}
use Rattle.redgreen_files.proofs.reading.records.read_record.Goals as goal

pub returns-in_err-key-clause-value : goal.returns-in_err-key-clause-value
unfolding record_at
returns-in_err-key-clause-value g c = rw (handed_on c.from_residual.result _ c.from_residual.ensures.1) (made_stops _ _ record_of c.in_err-key.field-0.0 (pair_first _ _ text_at c.in_err-key.field-0.0 (pair_first _ _ reads_at c.in_err-key.field-0.0 (pair_first _ _ (mark_at c.args.i) c.in_err-key.field-0.0 c.in_err-key.ensures.value))))

pub returns-in_err-mark-clause-value : goal.returns-in_err-mark-clause-value
unfolding record_at
returns-in_err-mark-clause-value g c = rw (handed_on c.from_residual-in_err-mark.result _ c.from_residual-in_err-mark.ensures.1) (made_stops _ _ record_of c.in_err-mark.field-0.0 (pair_first _ _ text_at c.in_err-mark.field-0.0 (pair_first _ _ reads_at c.in_err-mark.field-0.0 (pair_second (mark_at c.args.i) c.in_err-mark.field-0.0 c.in_ok-key.ensures.value c.in_err-mark.ensures.value))))

pub returns-in_err-reads-clause-value : goal.returns-in_err-reads-clause-value
unfolding record_at
returns-in_err-reads-clause-value g c = rw (handed_on c.from_residual-in_err-reads.result _ c.from_residual-in_err-reads.ensures.1) (made_stops _ _ record_of c.in_err-reads.field-0.0 (pair_first _ _ text_at c.in_err-reads.field-0.0 (pair_second reads_at c.in_err-reads.field-0.0 (pair_took c.in_ok-key.key c.in_ok-mark.mark c.in_ok-key.ensures.value c.in_ok-mark.ensures.value) c.in_err-reads.ensures.value)))

pub returns-in_err-value-clause-value : goal.returns-in_err-value-clause-value
unfolding record_at
returns-in_err-value-clause-value g c = rw (handed_on c.from_residual-in_err-value.result _ c.from_residual-in_err-value.ensures.1) (made_stops _ _ record_of c.in_err-value.field-0.0 (pair_second text_at c.in_err-value.field-0.0 (pair_took (c.in_ok-key.key, c.in_ok-mark.mark) c.in_ok-reads.reads.items (pair_took c.in_ok-key.key c.in_ok-mark.mark c.in_ok-key.ensures.value c.in_ok-mark.ensures.value) c.in_ok-reads.ensures.value) c.in_err-value.ensures.value))

pub returns-clause-value : goal.returns-clause-value
unfolding record_at
returns-clause-value g c = made_took record_of (((c.in_ok-key.key, c.in_ok-mark.mark), c.in_ok-reads.reads.items), c.in_ok-value.value) (pair_took ((c.in_ok-key.key, c.in_ok-mark.mark), c.in_ok-reads.reads.items) c.in_ok-value.value (pair_took (c.in_ok-key.key, c.in_ok-mark.mark) c.in_ok-reads.reads.items (pair_took c.in_ok-key.key c.in_ok-mark.mark c.in_ok-key.ensures.value c.in_ok-mark.ensures.value) c.in_ok-reads.ensures.value) c.in_ok-value.ensures.value)
