use Rattle.std.proofs.Common.{◌<◌, length, sym, arith, false}
use Rattle.std.specs.Prelude.{Some}
use Rattle.sessions.specs.Sessions.{key_at, past_entry}
use Rattle.key_states.specs.Nodes.{state_of_nodes}
use Rattle.job_table.proofs.WalkRules.{behind_none, walk_opens, walk_changes, walk_goes_on}
use Rattle.job_table.proofs.walks.walk_edges.Goals as goal

pub loop-i-init : goal.loop-i-init
loop-i-init c = sym (behind_none _)

pub returns-in-Open : goal.returns-in-Open
returns-in-Open c =
    let lt : c.loop-i.i < length c.args.edges.now = omega arith in
    sym (walk_opens (past_entry (Some c.args.past.now)) (state_of_nodes c.args.inputs.now c.args.nodes.now false) (key_at c.args.past.now.records) c.args.edges.now c.loop-i.i lt c.loop-i.invariant (sym c.in-Open.ensures))

pub returns-in-Changed : goal.returns-in-Changed
returns-in-Changed c =
    let lt : c.loop-i.i < length c.args.edges.now = omega arith in
    sym (walk_changes (past_entry (Some c.args.past.now)) (state_of_nodes c.args.inputs.now c.args.nodes.now false) (key_at c.args.past.now.records) c.args.edges.now c.loop-i.i lt c.loop-i.invariant (sym c.in-Changed.ensures))

pub loop-i-preserved : goal.loop-i-preserved
loop-i-preserved c =
    let lt : c.loop-i.i < length c.args.edges.now = omega arith in
    walk_goes_on (past_entry (Some c.args.past.now)) (state_of_nodes c.args.inputs.now c.args.nodes.now false) (key_at c.args.past.now.records) c.args.edges.now c.loop-i.i lt c.loop-i.invariant (sym c.in-Unchanged.ensures)
