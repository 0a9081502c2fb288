use Rattle.std.proofs.Common.{◌≡◌, ◌++◌, ◌∷◌, [], ◌∙◌, length, refl}
use Rattle.std.specs.Ordering.{eq_by_cmp}
use Rattle.indexmap.proofs.CallerLemmas.{insert_entry-new}
use Rattle.item_ids.specs.Keys.{key_cmp}
use Rattle.key_states.specs.Nodes.{Node, status_of}
use Rattle.key_states.proofs.NodeRules.{apart_last, status_last, unknown_absent, unknown_missing}
use Rattle.key_states.proofs.PendingRules.{pending_more}
use Rattle.key_states.proofs.node_map.add_node.Goals as goal
use Rattle.key_states.proofs.node_map.add_node.Goals.{After-push_reserved}

-- the node that is added
abbrev added : After-push_reserved → Node
added c = (c.args.key.now, c.args.standing)

nodes_after : (c : After-push_reserved) → c.insert.new.self.entries ≡ c.args.nodes.now.entries ++ added c ∷ []
nodes_after c =
    c.in_ok-insert.ensures.entries
    ∙ rw c.in_ok-own.ensures (insert_entry-new (eq_by_cmp key_cmp) c.args.nodes.now c.args.key.now c.args.standing (unknown_missing c.args.nodes.now.entries c.args.key.now c.requires.unknown))

pending_after : (c : After-push_reserved) → c.push_reserved.new.self.items ≡ c.args.pending.now.items ++ length c.args.nodes.now.entries ∷ []
pending_after c = rw (c.push_reserved.ensures.items, c.reserve.ensures.items, c.len-at.ensures.len) refl

pub returns-clause-apart : goal.returns-clause-apart
returns-clause-apart c = rw (nodes_after c) (apart_last c.args.nodes.now.entries (added c) c.requires.apart (unknown_absent c.args.nodes.now.entries c.args.key.now c.requires.unknown))

pub returns-clause-pending : goal.returns-clause-pending
returns-clause-pending c = rw (nodes_after c, pending_after c) (pending_more c.args.nodes.now.entries (added c) c.args.pending.now.items c.requires.stands c.requires.pending)

pub returns-clause-ok : goal.returns-clause-ok
returns-clause-ok c = λ k. rw (nodes_after c) (status_last c.args.nodes.now.entries (added c) c.args.key.now k (status_of c.args.standing) refl refl (unknown_absent c.args.nodes.now.entries c.args.key.now c.requires.unknown))
