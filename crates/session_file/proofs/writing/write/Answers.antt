use Rattle.std.proofs.Common.{List, ℕ, ◌++◌, subst}
use Rattle.sessions.specs.Spelling.{body_bytes}
use Rattle.devices.specs.Devices.{Begins}
use Rattle.session_file.proofs.PartLaws.{file_is}
use Rattle.session_file.proofs.writing.write.Goals as goal

pub returns-in-Ok-clause-holds : goal.returns-in-Ok-clause-holds
returns-in-Ok-clause-holds g c = λ front h.
    let s = c.args.session.now in
    let whole = file_is s c.digest-end.result (c.digest-end.ensures (body_bytes s) c.hashed_body.ensures) in
    subst (λ (bytes : List ℕ). g.W.Sink.holds c.put_file.new.sink (front ++ bytes)) whole (c.in-Ok.ensures.holds front h)

pub returns-in-Err-clause-holds : goal.returns-in-Err-clause-holds
returns-in-Err-clause-holds g c = λ front h.
    let s = c.args.session.now in
    let whole = file_is s c.digest-end.result (c.digest-end.ensures (body_bytes s) c.hashed_body.ensures) in
    subst (Begins (g.W.Sink.holds c.put_file.new.sink) front) whole (c.in-Err.ensures.holds front h)
