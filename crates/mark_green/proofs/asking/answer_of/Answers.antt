use Rattle.std.proofs.Common.{refl}
use Rattle.std.specs.Arc.{arc_value}
use Rattle.mark_green.proofs.Asks.{asked_yours, asked_busy, asked_stopped, asked_refused}
use Rattle.mark_green.proofs.asking.answer_of.Goals as goal

pub returns-in-Ok-Done-clause-kind : goal.returns-in-Ok-Done-clause-kind
returns-in-Ok-Done-clause-kind g c =
    let told = rw (c.in-Ok-Done.is, c.in-Ok-Done.field-0-is) at c.ask.ensures.told in
    g.met.S.Store.of_kind c.ask.new.self c.args.key.now (arc_value c.in-Ok-Done.sealed) told

pub returns-in-Ok-Yours-clause-halts : goal.returns-in-Ok-Yours-clause-halts
returns-in-Ok-Yours-clause-halts g c =
    let a = rw (c.in-Ok-Yours.is, c.in-Ok-Yours.field-0-is) at c.ask.ensures.gives in
    let claims = rw (c.in-Ok-Yours.is, c.in-Ok-Yours.field-0-is) at c.ask.ensures.claims in
    λ r lt. asked_yours c.args.w c.args.key.now _ _ r lt (claims refl) c.lacks.result c.lacks.ensures a

pub returns-in-Ok-Busy-clause-halts : goal.returns-in-Ok-Busy-clause-halts
returns-in-Ok-Busy-clause-halts g c =
    let a = rw (c.in-Ok-Busy.is, c.in-Ok-Busy.field-0-is) at c.ask.ensures.gives in
    λ r lt. asked_busy c.args.w c.args.key.now _ _ r a

pub returns-in-Ok-Stopped-clause-halts : goal.returns-in-Ok-Stopped-clause-halts
returns-in-Ok-Stopped-clause-halts g c =
    let a = rw (c.in-Ok-Stopped.is, c.in-Ok-Stopped.field-0-is) at c.ask.ensures.gives in
    λ r lt. asked_stopped c.args.w c.args.key.now _ _ r a

pub returns-in-Err-clause-halts : goal.returns-in-Err-clause-halts
returns-in-Err-clause-halts g c =
    let a = rw c.in-Err.is at c.ask.ensures.gives in
    λ r lt. asked_refused c.args.w c.args.key.now _ _ r lt c.in-Err.fault a
