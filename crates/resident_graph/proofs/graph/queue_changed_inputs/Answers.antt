use Rattle.std.proofs.Common.{◌≡◌, ℕ, ◌<◌, false, List, length, Some, subst}
use Rattle.std.specs.declared.alloc.Global.{Global}
use Rattle.std.specs.declared.sync.Arc.{Arc}
use Rattle.std.proofs.lemmas.Result.{on_ok_weaker}
use Rattle.result_bytes.specs.declared.value.Value.{Value}
use Rattle.item_ids.specs.Inputs.{rank}
use Rattle.graph_rules.specs.Keys.{input_of}
use Rattle.resident_graph.specs.Lists.{key_in, value_in, flag_in}
use Rattle.resident_graph.proofs.Keep.{keeps_more, keeps_fresh}
use Rattle.resident_graph.proofs.graph.queue_changed_inputs.Goals as goal

pub returns-clause-keeps : goal.returns-clause-keeps
returns-clause-keeps g c = keeps_more _ _ _ _ _ _ _ _ c.requires _ _ c.queue_stale.ensures.len c.queue_stale.ensures.more c.queue_stale.ensures.queue

pub returns-clause-ok : goal.returns-clause-ok
returns-clause-ok g c =
    let keeps = keeps_more _ _ _ _ _ _ _ _ c.requires _ _ c.queue_stale.ensures.len c.queue_stale.ensures.more c.queue_stale.ensures.queue in
    on_ok_weaker c.queue_stale.result (λ fresh. keeps_fresh _ _ _ _ _ _ _ _ keeps c.args.new.now
    (subst (λ (vs : List (Arc Value Global)). (i : ℕ) → i < length c.args.graph.now.keys.keys → rank (key_in c.args.graph.now.keys.keys i) ≡ 0 → flag_in c.queue_stale.new.queued.items i ≡ false
    → input_of c.args.new.now (key_in c.args.graph.now.keys.keys i) ≡ Some (value_in vs i)) c.as_slice.ensures.value fresh)) c.queue_stale.ensures.ok
