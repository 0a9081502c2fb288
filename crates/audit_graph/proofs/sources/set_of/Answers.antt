use Rattle.std.proofs.Common.{◌<◌, ◌∙◌, length, arith, ap, true, if◌then◌else◌}
use Rattle.std.specs.BTreeSet.{contains}
use Rattle.std.specs.Ordering.{is_eq}
use Rattle.item_ids.specs.declared.key.Key.{Key}
use Rattle.item_ids.specs.Keys.{key_cmp}
use Rattle.audit_graph.proofs.PlaceRules.{set_more}
use Rattle.audit_graph.proofs.sources.set_of.Goals as goal

pub loop-key-preserved : goal.loop-key-preserved
loop-key-preserved c =
    let lt : c.loop-key.key-index < length c.args.keys.now = omega arith in
    set_more c.args.keys.now c.loop-key.key-index c.key-item.result lt c.key-item.is (contains key_cmp c.loop-key.set) (contains key_cmp c.insert.new.self) c.loop-key.invariant
    (λ q. c.in_ok-insert.ensures.updates.0 q ∙ ap (λ (k : Key). if is_eq (key_cmp k q) then true else contains key_cmp c.loop-key.set q) c.in_ok-copy.ensures)
