use Rattle.sessions.specs.Spelling.{body_bytes}
use Rattle.devices.proofs.PutLaws.{puts_then}
use Rattle.session_file.proofs.writing.put_file.Goals as goal

pub returns-in-Ok-clause-holds : goal.returns-in-Ok-clause-holds
returns-in-Ok-clause-holds g c = puts_then (g.W.Sink.holds c.args.sink.now) (g.W.Sink.holds c.put_body.new.sink) (g.W.Sink.holds c.put_all.new.sink) (body_bytes c.args.session.now) c.args.end.now c.put_all.result c.in-Ok.ensures.holds (rw c.as_slice.ensures at c.put_all.ensures.holds)
