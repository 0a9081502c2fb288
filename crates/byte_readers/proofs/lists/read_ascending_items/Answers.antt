use Rattle.std.proofs.Common.{sym, ◌∙◌}
use Rattle.std.proofs.lemmas.Result.{err_from_is_err_and}
use Rattle.byte_readers.specs.Orders.{is_after}
use Rattle.byte_readers.proofs.Loop.{goes_on, is_refused, ends, is_done, ends_both}
use Rattle.byte_readers.proofs.lists.read_ascending_items.Goals as goal

pub returns-in_err-item : goal.returns-in_err-item
returns-in_err-item g c =
    let p = err_from_is_err_and c.from_residual.result c.from_residual.ensures.1 in
    rw (p.1, p.2) (ends c.in_err-item.field-0.0 g.F.Ordered.item_reading (is_after g.F.Ordered.precedes) c.loop.items.items c.args.count c.loop.counter c.loop.rest.now _ c.loop-test.true (ends_both g.met.F.Ordered.tells _ _ c.in_err-item.ensures) c.loop.invariant)

pub loop-preserved : goal.loop-preserved
loop-preserved g c = rw c.in_ok-push.ensures.items (goes_on g.F.Ordered.item_reading (is_after g.F.Ordered.precedes) c.loop.items.items c.args.count c.loop.counter c.loop.rest.now c.in_ok-item.item c.in_ok-item.after.now _ c.loop-test.true (g.met.F.Ordered.tells.reads _ _ _ c.in_ok-item.ensures) (sym (rw c.deref.ensures.value at c.is_after-admitted.ensures) ∙ c.if-not-admitted.false) c.loop.invariant)

pub returns : goal.returns
returns g c = rw c.shrink_to_fit.ensures.items (is_done g.F.Ordered.item_reading (is_after g.F.Ordered.precedes) c.loop.items.items c.args.count c.loop.counter c.loop.rest.now _ c.loop-test.false c.loop.invariant)

pub returns-then-not-admitted : goal.returns-then-not-admitted
returns-then-not-admitted g c = rw c.not_canonical.ensures (is_refused g.F.Ordered.item_reading (is_after g.F.Ordered.precedes) c.loop.items.items c.args.count c.loop.counter c.loop.rest.now c.in_ok-item.item c.in_ok-item.after.now _ c.loop-test.true (g.met.F.Ordered.tells.reads _ _ _ c.in_ok-item.ensures) (sym (rw c.deref.ensures.value at c.is_after-admitted.ensures) ∙ c.if-not-admitted.true) c.loop.invariant)
