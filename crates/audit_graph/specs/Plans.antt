-- Which records of a session are to be replayed.
use Rattle.std.specs.Prelude.{ℕ, ◌+◌, Bool, true, false, List, [], ◌∷◌, if◌then◌else◌}
use Rattle.sessions.specs.declared.mark.Mark.{Mark}
use Rattle.sessions.specs.declared.mark.Mark.TheVariants.{Executed}
use Rattle.sessions.specs.Sessions.{RecordValue, SessionValue}

abbrev pub is_executed : Mark → Bool
is_executed Executed = true
is_executed _ = false

-- the indices of the executed records among these, of which the first has the index i
abbrev pub executed_from : ℕ → List RecordValue → List ℕ
executed_from i [] = []
executed_from i (r ∷ rs) =
    if is_executed r.mark then i ∷ executed_from (i + 1) rs else executed_from (i + 1) rs

-- the indices of a session's executed records, in order
abbrev pub executed_in : SessionValue → List ℕ
executed_in s = executed_from 0 s.records
