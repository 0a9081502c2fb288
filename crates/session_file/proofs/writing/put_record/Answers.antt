use Rattle.std.proofs.Common.{List, ℕ, ◌++◌, flat_map, subst}
use Rattle.byte_readers.specs.Spelling.{eight}
use Rattle.sessions.specs.Spelling.{told_bytes}
use Rattle.devices.specs.Devices.{Begins, Puts}
use Rattle.session_file.specs.Parts.{front_bytes}
use Rattle.devices.proofs.PutLaws.{begins_more, puts_then}
use Rattle.session_file.proofs.PartLaws.{record_is}
use Rattle.session_file.proofs.writing.put_record.Goals as goal

pub returns-in-Ok-clause-holds : goal.returns-in-Ok-clause-holds
returns-in-Ok-clause-holds g c =
    let item = c.args.item.now in
    let rest = flat_map eight item.edges ++ told_bytes c.args.form item.mark item.value in
    subst (λ (bytes : List ℕ). Puts (g.W.Sink.holds c.args.sink.now) (g.W.Sink.holds c.put_rest.new.sink) bytes c.put_rest.result) (record_is c.args.form item)
    (puts_then (g.W.Sink.holds c.args.sink.now) (g.W.Sink.holds c.put_front.new.sink) (g.W.Sink.holds c.put_rest.new.sink) (front_bytes item) rest c.put_rest.result c.in-Ok.ensures.holds c.put_rest.ensures.holds)

pub returns-in-Err-clause-holds : goal.returns-in-Err-clause-holds
returns-in-Err-clause-holds g c = λ front h.
    let item = c.args.item.now in
    let rest = flat_map eight item.edges ++ told_bytes c.args.form item.mark item.value in
    subst (Begins (g.W.Sink.holds c.put_front.new.sink) front) (record_is c.args.form item) (begins_more (g.W.Sink.holds c.put_front.new.sink) front (front_bytes item) rest (c.in-Err.ensures.holds front h))
