use Rattle.std.proofs.Common.{◌<◌, length, arith, false, refl}
use Rattle.key_states.specs.Nodes.{state_of_nodes}
use Rattle.job_table.proofs.StaleRules.{held_later, stale_here, stale_later}
use Rattle.job_table.proofs.reads.first_stale.Goals as goal

pub returns-then-not-is_held : goal.returns-then-not-is_held
returns-then-not-is_held c =
    let lt : c.loop-i.i < length c.args.reads.now = omega arith in
    stale_here (state_of_nodes c.args.inputs.now c.args.nodes.now false) c.args.reads.now c.loop-i.i c.index-reads-i.result lt c.index-reads-i.is c.loop-i.invariant.first (λ done. let e = c.if-not-is_held.ensures.1 done in absurd (cc))

pub loop-i-preserved : goal.loop-i-preserved
loop-i-preserved c =
    let lt : c.loop-i.i < length c.args.reads.now = omega arith in
    let s = state_of_nodes c.args.inputs.now c.args.nodes.now false in
    let done = c.if-not-is_held.ensures.0 refl in
    record {
      all = held_later s c.args.reads.now c.loop-i.i c.index-reads-i.result lt c.index-reads-i.is c.loop-i.invariant.all done;
      first = stale_later s c.args.reads.now c.loop-i.i c.index-reads-i.result lt c.index-reads-i.is c.loop-i.invariant.first done;
    }
