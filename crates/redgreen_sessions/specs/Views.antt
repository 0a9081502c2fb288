-- Records as the law of accepted chains sees them.
use Rattle.std.specs.Prelude.{ℕ, List, [], map, slice_get, Option, Some, None}
use Rattle.redgreen_rules.specs.Runs.{Told}
use Rattle.redgreen_rules.specs.Sessions as rules
use Rattle.redgreen_sessions.specs.declared.record.Mark.{Mark}
use Rattle.redgreen_sessions.specs.declared.record.Mark.TheVariants.{Input, Green, Executed}
use Rattle.redgreen_sessions.specs.declared.record.Record.{Record}
use Rattle.redgreen_sessions.specs.declared.record.Session.{Session}

abbrev pub mark_of : Mark → rules.Mark
mark_of (Input previous) = rules.Input
mark_of (Green place) = rules.Green
mark_of (Executed previous) = rules.Executed

-- what a read of a record is told
abbrev pub tell_of : Option Record → Told
tell_of None = record { key = []; value = [] }
tell_of (Some r) = record { key = r.key; value = r.value }

abbrev pub tell_at : List Record → ℕ → Told
tell_at records place = tell_of (slice_get records place)

abbrev pub told_at : List Record → List ℕ → List Told
told_at records places = map (tell_at records) places

-- a record among the records of its session
abbrev pub entry_in : List Record → Record → rules.Entry
entry_in records r =
    record { key = r.key; mark = mark_of r.mark; told = told_at records r.reads.items; value = r.value }

abbrev pub entries_of : List Record → rules.Session
entries_of records = map (entry_in records) records

abbrev pub session_of : Session → rules.Session
session_of s = entries_of s.records.items
