use Rattle.std.proofs.Common.{◌+◌, ◌*◌, ◌-◌, ◌^◌, length}
use Rattle.item_ids.specs.Inputs.{rank}
use Rattle.sessions.specs.Sessions.{key_at}
use Rattle.mark_green.specs.Leaves.{AreTold}
use Rattle.mark_green.specs.Workers.{IsSameWorker}
use Rattle.mark_green.proofs.Held.{Held}
use Rattle.mark_green.proofs.Turning.{Holds}
use Rattle.mark_green.proofs.Working.{SoFar}
use Rattle.mark_green.proofs.worker.Worker.+ensure.Given as goal

abbrev pub decreases-ensure : goal.decreases-ensure
decreases-ensure g l = 9 * rank l.key.now + 8

abbrev pub decreases-work : goal.decreases-work
decreases-work g l = 9 * rank l.key.now + 7

abbrev pub decreases-work_over : goal.decreases-work_over
decreases-work_over g l = 9 * rank l.key.now + 6

abbrev pub decreases-work_by_edges : goal.decreases-work_by_edges
decreases-work_by_edges g l = 9 * rank l.key.now + 5

abbrev pub decreases-walk_edges : goal.decreases-walk_edges
decreases-walk_edges g l = 9 * rank l.key.now + 4

abbrev pub decreases-is_unchanged : goal.decreases-is_unchanged
decreases-is_unchanged g l = 9 * rank (key_at l.past.now.records l.at) + 9

abbrev pub decreases-start : goal.decreases-start
decreases-start g l = 9 * rank l.key.now + 3

abbrev pub decreases-run : goal.decreases-run
decreases-run g l = 9 * rank l.key.now + 2

abbrev pub decreases-turns : goal.decreases-turns
decreases-turns g l = 9 * rank l.key.now + 1

abbrev pub decreases-turn : goal.decreases-turn
decreases-turn g l = 9 * rank l.key.now

abbrev pub decreases-fetch : goal.decreases-fetch
decreases-fetch g l = 9 * rank l.lacked + 8

abbrev pub invariant-walk_edges-edges : goal.invariant-walk_edges-edges
invariant-walk_edges-edges g l =
    IsSameWorker g.S.Store.told l.fn.self l.self
    × SoFar l.past l.fn.self.id l.key l.edges l.at-index (g.S.Store.table l.fn.self.store.now) (g.S.Store.table l.self.store.now)

abbrev pub invariant-turns-again : goal.invariant-turns-again
invariant-turns-again g l =
    IsSameWorker g.S.Store.told l.fn.self l.self
    × Holds l.fn.self.id l.key l.held (g.S.Store.table l.fn.self.store.now) (g.S.Store.table l.self.store.now)
    × Held l.held (g.S.Store.table l.self.store.now)
    × AreTold (g.S.Store.told l.self.store.now) l.held

abbrev pub decreases-turns-again : goal.decreases-turns-again
decreases-turns-again g l = 2 ^ 64 - length l.held
