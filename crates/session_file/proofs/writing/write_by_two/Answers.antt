use Rattle.std.proofs.Common.{List, ℕ, subst, refl}
use Rattle.sha2.specs.Sha256.{sha256}
use Rattle.sessions.specs.Spelling.{body_bytes}
use Rattle.devices.specs.Devices.{Begins, Puts}
use Rattle.devices.proofs.PutLaws.{begins_more, puts_then}
use Rattle.session_file.proofs.PartLaws.{file_is}
use Rattle.session_file.proofs.writing.write_by_two.Goals as goal

pub returns-in_default-Ok-clause-holds : goal.returns-in_default-Ok-clause-holds
returns-in_default-Ok-clause-holds g c =
    let s = c.args.session.now in
    let end = c.join-body.result.0 in
    let put = rw c.in_default-Ok.is-1 at c.join-body.ensures.second.0 in
    subst (λ (bytes : List ℕ). Puts (g.W.Sink.holds c.args.sink) (g.W.Sink.holds c.with_end.result.0) bytes c.with_end.result.1) (file_is s end c.join-body.ensures.first)
    (puts_then (g.W.Sink.holds c.args.sink) (g.W.Sink.holds c.join-body.result.1.0) (g.W.Sink.holds c.with_end.result.0) (body_bytes s) end c.with_end.result.1 put c.with_end.ensures.holds)

pub returns-in_default-Err-clause-holds : goal.returns-in_default-Err-clause-holds
returns-in_default-Err-clause-holds g c = λ front h.
    let body = body_bytes c.args.session.now in
    let put = rw c.in_default-Err.is-1 at c.join-body.ensures.second.0 in
    subst (Begins (g.W.Sink.holds c.join-body.result.1.0) front) (file_is c.args.session.now (sha256 body) refl) (begins_more (g.W.Sink.holds c.join-body.result.1.0) front body (sha256 body) (put front h))
