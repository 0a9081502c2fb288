use Rattle.std.proofs.Common.{Contains, sym, subst}
use Rattle.item_ids.specs.declared.key.Key.{Key}
use Rattle.item_ids.specs.Inputs.{rank}
use Rattle.resident_graph.specs.Lists.{list_in}
use Rattle.resident_graph.proofs.Lists.{key_at, queue_more}
use Rattle.resident_graph.proofs.queueing.queue_place.Goals as goal

pub returns-clause-queue : goal.returns-clause-queue
returns-clause-queue c =
    queue_more _ _ _ _ _ c.requires.queue c.push_key.ensures.wider
    (subst (λ (q : Key). Contains (list_in c.push_key.new.queue.items (rank q)) c.args.at) (sym (key_at c.args.keys.now.keys c.args.at c.in-Some.key.now (sym c.in-Some.ensures.key))) c.in_ok-push_key.ensures.ok)
