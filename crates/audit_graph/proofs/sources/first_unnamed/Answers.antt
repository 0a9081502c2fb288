use Rattle.std.proofs.Common.{◌<◌, length, arith, refl}
use Rattle.std.specs.BTreeSet.{contains}
use Rattle.item_ids.specs.Keys.{key_cmp}
use Rattle.audit_graph.proofs.PlaceRules.{unnamed_here, named_more}
use Rattle.audit_graph.proofs.sources.first_unnamed.Goals as goal

pub returns-then-not-is_admitted : goal.returns-then-not-is_admitted
returns-then-not-is_admitted c =
    let value = c.records-item-items.ensures.value in
    let lt : c.loop-n.n < length c.records-item-items.result.now = omega arith in
    unnamed_here (contains key_cmp c.args.named.now) c.args.session.now c.loop-n.n c.item-item.result (rw value at lt) (rw value at c.item-item.is) c.loop-n.invariant
    (λ h. let e = (rw c.key.ensures at c.if-not-is_admitted.ensures).1 h in absurd (cc))

pub loop-n-preserved : goal.loop-n-preserved
loop-n-preserved c =
    let value = c.records-item-items.ensures.value in
    let lt : c.loop-n.n < length c.records-item-items.result.now = omega arith in
    named_more (contains key_cmp c.args.named.now) c.args.session.now c.loop-n.n c.item-item.result (rw value at lt) (rw value at c.item-item.is) c.loop-n.invariant
    ((rw c.key.ensures at c.if-not-is_admitted.ensures).0 refl)
