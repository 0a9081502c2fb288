-- The keys that an audit runs, and the log of the runner.
use Rattle.std.specs.Prelude.{◌≡◌, ◌⊎◌, ℕ, List, ◌++◌, map, flat_map, length, Result, Ok, Err}
use Rattle.std.specs.List.{AllByRecursion}
use Rattle.item_ids.specs.declared.key.Key.{Key}
use Rattle.recorder.specs.Backed.{BeginsWith}
use Rattle.sessions.specs.Sessions.{SessionValue, IsSession, key_at}
use Rattle.sessions.specs.Spelling.{file_of}
use Rattle.audit_graph.specs.Plans.{executed_in}

-- the keys of a session's executed records, in order
abbrev pub executed_keys : SessionValue → List Key
executed_keys s = map (key_at s.records) (executed_in s)

-- session by session
abbrev pub all_executed_keys : List SessionValue → List Key
all_executed_keys sessions = flat_map executed_keys sessions

-- the log grew by a beginning of these keys
pub record GrowsWithin (all old new : List Key) : Type 0 where
  pub front : List Key
  pub grown : new ≡ old ++ front
  pub begins : BeginsWith front all

-- The log grew by a beginning of the keys of a session's executed records, or not at all.
abbrev pub RunsPart : List Key → List Key → Type 0
RunsPart old new =
    (new ≡ old) ⊎ ((s : SessionValue) × IsSession s × GrowsWithin (executed_keys s) old new)

-- the log grew by these keys; after a refusal by a beginning of them
abbrev pub LogGives : {A E : Type 0} → List Key → List Key → List Key → Result A E → Type 0
LogGives all old new (Ok _) = new ≡ old ++ all
LogGives all old new (Err _) = GrowsWithin all old new

-- The files are those of sessions, and the log grew by just the keys of their executed records, so
-- many, session by session in order.
pub record RunsExecuted (files : List (List ℕ)) (old new : List Key) (runs : ℕ) : Type 0 where
  pub sessions : List SessionValue
  pub each : AllByRecursion IsSession sessions
  pub spelled : map file_of sessions ≡ files
  pub log : new ≡ old ++ all_executed_keys sessions
  pub many : runs ≡ length (all_executed_keys sessions)

-- Some files from the first on are those of sessions, and the log grew by a beginning of the keys of
-- their executed records, session by session in order.
pub record RunsNoOther (files : List (List ℕ)) (old new : List Key) : Type 0 where
  pub sessions : List SessionValue
  pub rest : List (List ℕ)
  pub each : AllByRecursion IsSession sessions
  pub spelled : map file_of sessions ++ rest ≡ files
  pub log : GrowsWithin (all_executed_keys sessions) old new
