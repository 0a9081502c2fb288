use Rattle.std.proofs.Common.{◌++◌, ◌∷◌, [], ◌-◌, ◌+◌, ◌∙◌}
use Rattle.session_file.specs.Reading.{records_from}
use Rattle.session_file.proofs.RecordsReadLaws.{records_go_on, records_break, records_done}
use Rattle.devices.proofs.PutLaws.{handed_on}
use Rattle.session_file.proofs.FeedLaws.{leads_step, leads_done, leads_halts}
use Rattle.session_file.proofs.reading.records.read_records.Goals as goal

pub returns-in_err-next_record-clause-value : goal.returns-in_err-next_record-clause-value
returns-in_err-next_record-clause-value g c = rw (handed_on c.from_residual.result _ c.from_residual.ensures.1) (leads_halts c.in_err-next_record.field-0.0 c.loop.invariant.lead (rw c.loop.invariant.same at c.in_err-next_record.ensures.value) (λ bytes fault e. records_break c.args.origin.now c.loop.records.items c.args.count c.loop.counter bytes fault c.loop-test.true e))

pub loop-preserved : goal.loop-preserved
loop-preserved g c =
    let t = rw c.loop.invariant.same at c.in_ok-next_record.ensures.value in
    record {
      length = c.in_ok-next_record.ensures.length;
      same = c.in_ok-next_record.ensures.same ∙ c.loop.invariant.same;
      unseen = c.in_ok-next_record.ensures.unseen;
      lead = rw t.appended (leads_step (records_from c.args.origin.now (c.loop.records.items ++ t.next ∷ []) (c.args.count - (c.loop.counter + 1))) c.loop.invariant.lead t.took (λ bytes rest e. records_go_on c.args.origin.now c.loop.records.items c.args.count c.loop.counter bytes t.next rest c.loop-test.true e));
      failed = c.in_ok-next_record.ensures.counted ∙ c.loop.invariant.failed;
    }

pub returns-clause-value : goal.returns-clause-value
returns-clause-value g c = leads_done c.loop.records.items c.loop.invariant.lead (λ rest. records_done c.args.origin.now c.loop.records.items c.args.count c.loop.counter rest c.loop-test.false)
