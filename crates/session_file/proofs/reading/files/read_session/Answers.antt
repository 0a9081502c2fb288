use Rattle.std.proofs.Common.{[], Option, sym, subst}
use Rattle.std.specs.Prelude.{IsSomeAnd}
use Rattle.sha2.specs.Hashers.{Holds256}
use Rattle.devices.proofs.PutLaws.{handed_on}
use Rattle.devices.specs.declared.hashing.HashingSink.{HashingSink}
use Rattle.session_file.proofs.StepLaws.{front_halts_body, front_halts_end, front_differs, front_took, end_halts, body_spelled}
use Rattle.session_file.proofs.reading.files.read_session.Goals as goal

pub returns-in_err-session-clause-value : goal.returns-in_err-session-clause-value
returns-in_err-session-clause-value g c = rw (handed_on c.from_residual.result _ c.from_residual.ensures.1) (front_halts_body _ _ c.in_err-session.field-0.0 c.in_err-session.ensures.value)

pub returns-in_err-end-clause-value : goal.returns-in_err-end-clause-value
returns-in_err-end-clause-value g c =
    let p = c.in_ok-session.ensures.value in
    rw (handed_on c.from_residual-in_err-end.result _ c.from_residual-in_err-end.ensures.1) (front_halts_end _ _ c.in_err-end.field-0.0 p (end_halts _ p.part c.in_err-end.field-0.0 c.in_err-end.ensures.value))

pub with_end-requires : goal.with_end-requires
with_end-requires g c =
    let p = c.in_ok-session.ensures.value in
    let holds = subst (λ (o : Option HashingSink). IsSomeAnd o (λ (s : HashingSink). Holds256 s.hasher p.part)) (sym c.in-Some.ensures) (p.moved.hashed [] c.here-hash.ensures) in
    subst (Holds256 c.in-Some.body.hasher) (body_spelled _ _ c.requires p) holds

pub returns-in-Ok-clause-value : goal.returns-in-Ok-clause-value
returns-in-Ok-clause-value g c = rw c.in-Ok.ensures.0 (front_took _ _ c.in_ok-end.end c.requires c.in_ok-session.ensures.value c.in_ok-end.ensures.value c.in-Ok.ensures.1)

pub returns-in-Err-clause-value : goal.returns-in-Err-clause-value
returns-in-Err-clause-value g c = rw c.in-Err.ensures.0 (front_differs _ _ c.in_ok-end.end c.requires c.in_ok-session.ensures.value c.in_ok-end.ensures.value c.in-Err.ensures.1)
