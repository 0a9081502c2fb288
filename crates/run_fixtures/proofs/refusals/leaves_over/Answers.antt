use Rattle.std.proofs.Common.{subst}
use Rattle.run_fixtures.proofs.Asked.{if_ok_then}
use Rattle.run_fixtures.proofs.refusals.leaves_over.Goals as goal

pub returns : goal.returns
returns g c =
    let end = c.is_left.new.recorder in
    let follows = subst (λ r. g.D.Reader.follows r.inner end.inner) c.new-recorder.ensures c.is_left.ensures.follows in
    if_ok_then _ _ c.is_left.result (λ b left yes. (end, follows, left yes)) c.is_left.ensures.left
