use Rattle.std.proofs.Common.{List, ℕ, flat_map, subst}
use Rattle.sessions.specs.Spelling.{head_bytes, record_bytes}
use Rattle.devices.specs.Devices.{Begins, Puts}
use Rattle.devices.proofs.PutLaws.{begins_more, puts_then}
use Rattle.session_file.proofs.PartLaws.{body_is}
use Rattle.session_file.proofs.writing.put_body.Goals as goal

pub returns-in-Ok-clause-holds : goal.returns-in-Ok-clause-holds
returns-in-Ok-clause-holds g c =
    let s = c.args.session.now in
    subst (λ (bytes : List ℕ). Puts (g.W.Sink.holds c.args.sink.now) (g.W.Sink.holds c.put_records.new.sink) bytes c.put_records.result) (body_is s)
    (puts_then (g.W.Sink.holds c.args.sink.now) (g.W.Sink.holds c.put_head.new.sink) (g.W.Sink.holds c.put_records.new.sink) (head_bytes s) (flat_map (record_bytes s.terms.form) s.records) c.put_records.result c.in-Ok.ensures.holds (rw (c.terms.ensures, c.records.ensures.value) at c.put_records.ensures.holds))

pub returns-in-Err-clause-holds : goal.returns-in-Err-clause-holds
returns-in-Err-clause-holds g c = λ front h.
    let s = c.args.session.now in
    subst (Begins (g.W.Sink.holds c.put_head.new.sink) front) (body_is s) (begins_more (g.W.Sink.holds c.put_head.new.sink) front (head_bytes s) (flat_map (record_bytes s.terms.form) s.records) (c.in-Err.ensures.holds front h))
