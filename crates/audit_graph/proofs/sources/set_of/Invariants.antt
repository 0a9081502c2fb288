use Rattle.std.proofs.Common.{◌≡◌, true, take}
use Rattle.std.specs.Prelude.{Contains, ◌↔◌}
use Rattle.std.specs.BTreeSet.{contains}
use Rattle.item_ids.specs.declared.key.Key.{Key}
use Rattle.item_ids.specs.Keys.{key_cmp}
use Rattle.audit_graph.proofs.sources.set_of.Given as goal

abbrev pub invariant-loop-key : goal.invariant-loop-key
invariant-loop-key l =
    (q : Key) → (contains key_cmp l.set q ≡ true) ↔ Contains (take l.key-index l.keys) q
