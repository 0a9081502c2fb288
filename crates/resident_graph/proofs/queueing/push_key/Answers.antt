use Rattle.std.proofs.Common.{ℕ, Contains, ap, ◌∙◌, subst}
use Rattle.std.specs.Prelude.{OnOk}
use Rattle.item_ids.specs.Kinds.{rank_of}
use Rattle.resident_graph.specs.Lists.{list_in}
use Rattle.resident_graph.proofs.queueing.push_key.Goals as goal

pub returns-clause-ok : goal.returns-clause-ok
returns-clause-ok c =
    subst (λ (n : ℕ). OnOk c.push_place.result (Contains (list_in c.push_place.new.queue.items n) c.args.at)) (c.rank-level.ensures ∙ ap rank_of c.kind.ensures) c.push_place.ensures.ok
