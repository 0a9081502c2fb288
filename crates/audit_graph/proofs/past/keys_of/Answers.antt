use Rattle.std.proofs.Common.{◌<◌, List, length, take, get_or, sym, subst, arith}
use Rattle.sessions.specs.Sessions.{RecordValue, FitsBehind, IsAbove}
use Rattle.audit_graph.proofs.KeyPlaces.{one_more_key}
use Rattle.audit_graph.proofs.past.keys_of.Goals as goal

pub loop-record-preserved : goal.loop-record-preserved
loop-record-preserved c =
    let rs = c.records-records.result.now in
    let i = c.loop-record.record-index in
    let item = c.record-item.result in
    let lt : i < length rs = omega arith in
    let value = c.records-records.ensures.value in
    let fits = subst (λ (l : List RecordValue). FitsBehind (take i l) (get_or l i item)) (sym value) (c.records-records.ensures.session.records i item (rw value at lt)) in
    let above = subst (λ (r : RecordValue). IsAbove (take i rs) r.key) (sym c.record-item.is) fits.above in
    rw c.in_ok-insert.ensures.keys (one_more_key rs i item c.loop-record.keys.keys c.key.result lt c.record-item.is c.key.ensures above c.loop-record.invariant)
