use Rattle.std.proofs.Common.{take}
use Rattle.sessions.specs.Sessions.{session_in}
use Rattle.table_fixtures.specs.Told.{IsLastOf}
use Rattle.table_fixtures.proofs.changes.past_of.Given as goal

abbrev pub invariant-loop-change : goal.invariant-loop-change
invariant-loop-change l = IsLastOf (take l.change-index l.chain) (session_in l.past)
