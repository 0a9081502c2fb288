use Rattle.std.proofs.Common.{◌≡◌, map, take}
use Rattle.graph_rules.specs.Steps.{Legal}
use Rattle.job_table.specs.Tables.{past_of, with_history}
use Rattle.job_table.specs.Kept.{event_of}
use Rattle.job_table.proofs.table.Table.step_all.Given as goal

abbrev pub invariant-loop-i : goal.invariant-loop-i
invariant-loop-i g l = record {
  done : l.self ≡ with_history l.fn.self (map event_of (take l.i l.events));
  legal : Legal (past_of l.fn.self) l.fn.self.project (map event_of (take l.i l.events));
}
