use Rattle.std.proofs.Common.{◌<◌, length, ◌++◌, take, flat_map, arith, sym}
use Rattle.sessions.specs.Spelling.{record_bytes}
use Rattle.devices.proofs.PutLaws.{items_end}
use Rattle.session_file.proofs.writing.put_records.Goals as goal

pub returns-in-Err-clause-holds : goal.returns-in-Err-clause-holds
returns-in-Err-clause-holds g c = λ front h.
    let records = c.args.records.now in
    let i = c.loop-item.item-index in
    let lt : i < length records = omega arith in
    items_end (g.W.Sink.holds c.put_record.new.sink) front (record_bytes c.args.form) records i _ _ lt (sym c.item-item.is) (c.in-Err.ensures.holds (front ++ flat_map (record_bytes c.args.form) (take i records)) (c.loop-item.invariant.holds front h))
