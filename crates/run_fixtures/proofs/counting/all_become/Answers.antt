use Rattle.std.proofs.Common.{◌<◌, length, take, sym, subst, arith}
use Rattle.std.proofs.lemmas.List.{take_more}
use Rattle.run_fixtures.specs.Asking.{AllBecome}
use Rattle.run_fixtures.proofs.Asked.{one_more}
use Rattle.run_fixtures.proofs.counting.all_become.Goals as goal

pub loop-ask-preserved : goal.loop-ask-preserved
loop-ask-preserved c =
    let asks = c.args.asks.now in
    let at = c.loop-ask.ask-index in
    let l : at < length asks = omega arith in
    let old = c.args.recorder.now in
    let new = c.becomes.new.recorder in
    subst (λ front. AllBecome front old new) (sym (take_more asks at _ l))
    (one_more (take at asks) _ old c.loop-ask.recorder new c.loop-ask.invariant (c.in_ok-becomes.ensures c.if-not-branch.false))
