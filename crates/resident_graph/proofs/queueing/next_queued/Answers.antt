use Rattle.std.proofs.Common.{◌<◌, length, arith, length-set, ◌∙◌}
use Rattle.resident_graph.proofs.Lists.{trimmed, empty_below}
use Rattle.resident_graph.proofs.queueing.next_queued.Goals as goal

pub returns-in-Some-clause-queue : goal.returns-in-Some-clause-queue
returns-in-Some-clause-queue c =
    let lt : c.loop-level.level < length c.loop-level.queue.items = omega arith in
    trimmed _ _ _ _ _ _ lt c.index_mut.ensures.value c.trim_level.ensures.kept c.loop-level.invariant.1

pub loop-level-preserved : goal.loop-level-preserved
loop-level-preserved c =
    let lt : c.loop-level.level < length c.loop-level.queue.items = omega arith in (
      length-set _ _ _ ∙ c.loop-level.invariant.0,
      trimmed _ _ _ _ _ _ lt c.index_mut.ensures.value c.trim_level.ensures.kept c.loop-level.invariant.1,
      empty_below _ _ _ lt c.in_default.ensures.none c.loop-level.invariant.2,
    )
