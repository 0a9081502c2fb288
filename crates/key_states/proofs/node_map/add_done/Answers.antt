use Rattle.std.proofs.Common.{◌≡◌, ◌++◌, ◌∷◌, [], ◌∙◌, refl}
use Rattle.std.specs.Ordering.{eq_by_cmp}
use Rattle.indexmap.proofs.CallerLemmas.{insert_entry-new}
use Rattle.item_ids.specs.Keys.{key_cmp}
use Rattle.key_states.specs.Nodes.{Node, status_of}
use Rattle.key_states.proofs.NodeRules.{apart_last, status_last, unknown_absent, unknown_missing}
use Rattle.key_states.proofs.PendingRules.{pending_same}
use Rattle.key_states.proofs.node_map.add_done.Goals as goal
use Rattle.key_states.proofs.node_map.add_done.Goals.{Joined-insert-2}

-- the node that is added
abbrev added : Joined-insert-2 → Node
added c = (c.args.key.now, c.args.standing)

nodes_after : (c : Joined-insert-2) → c.insert.new.self.entries ≡ c.args.nodes.now.entries ++ added c ∷ []
nodes_after c =
    c.in-Ok.ensures.entries
    ∙ rw c.in_ok-own.ensures (insert_entry-new (eq_by_cmp key_cmp) c.args.nodes.now c.args.key.now c.args.standing (unknown_missing c.args.nodes.now.entries c.args.key.now c.requires.unknown))

pub returns-in-Ok-clause-apart : goal.returns-in-Ok-clause-apart
returns-in-Ok-clause-apart c = rw (nodes_after c) (apart_last c.args.nodes.now.entries (added c) c.requires.apart (unknown_absent c.args.nodes.now.entries c.args.key.now c.requires.unknown))

pub returns-in-Ok-clause-pending : goal.returns-in-Ok-clause-pending
returns-in-Ok-clause-pending c = rw (nodes_after c) (pending_same c.args.nodes.now.entries (added c) c.args.pending.now.items c.requires.quiet c.requires.pending)

pub returns-in-Ok-clause-ok : goal.returns-in-Ok-clause-ok
returns-in-Ok-clause-ok c = λ k. rw (nodes_after c) (status_last c.args.nodes.now.entries (added c) c.args.key.now k (status_of c.args.standing) refl refl (unknown_absent c.args.nodes.now.entries c.args.key.now c.requires.unknown))
