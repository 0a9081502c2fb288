use Rattle.std.proofs.Common.{false, refl}
use Rattle.std.specs.Prelude.{IsTrue}
use Rattle.key_states.proofs.PendingRules.{pending_done, pending_still}
use Rattle.key_states.proofs.NodeRules.{status_put, apart_put}
use Rattle.key_states.proofs.node_map.put_standing.Goals as goal
use Rattle.key_states.proofs.node_map.put_standing.Goals.{then-is_quiet, else-is_quiet}

pub returns-clause-written : goal.returns-clause-written
returns-clause-written c = λ q k f. status_put c.args.nodes.now.entries q k c.args.at c.args.standing f

pub returns-clause-apart : goal.returns-clause-apart
returns-clause-apart c = λ a. apart_put c.args.nodes.now.entries c.args.at c.args.standing a

not_true : IsTrue false → ⊥
not_true e = cc

pub returns-clause-pending : goal.returns-clause-pending
returns-clause-pending c =
    elim c.if-is_quiet.branch [
      | then-is_quiet w ↦ rw (w.pending-is, w.without.ensures) (pending_done c.args.nodes.now.entries c.args.pending.now.items c.args.at c.args.standing c.requires.pending (w.if-is_quiet.ensures.0 refl))
      | else-is_quiet w ↦ rw w.pending-is (pending_still c.args.nodes.now.entries c.args.pending.now.items c.args.at c.args.standing c.requires.pending (c.requires.kept (λ quiet. not_true (w.if-is_quiet.ensures.1 quiet))) (λ quiet. not_true (w.if-is_quiet.ensures.1 quiet)))
    ]
