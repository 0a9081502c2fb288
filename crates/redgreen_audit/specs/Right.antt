-- Chains that are right for a client's programs, and clients that run alike.
use Rattle.std.specs.Prelude.{◌≡◌, ℕ, List, [], ◌∷◌, ◌++◌, take, slice_get, Option, Some}
use Rattle.std.specs.List.{AllByRecursion}
use Rattle.redgreen_rules.specs.Programs.{Key, Value, Prog, Ret, Ask}
use Rattle.redgreen_rules.specs.Runs.{Told, IsIn, Run, End, Gave, Wanted, Failed}
use Rattle.redgreen_sessions.specs.declared.record.Record.{Record}
use Rattle.redgreen_sessions.specs.declared.record.Session.{Session}
use Rattle.redgreen_rules.specs.Sessions as rules
use Rattle.redgreen_sessions.specs.Marks.{previous_of}
use Rattle.redgreen_sessions.specs.Views.{mark_of, told_at}
use Rattle.redgreen_audit.specs.Answering.{IsUntold}
use Rattle.redgreen_audit.specs.Checks.{HasReads, IsUnchanged, HaveNew, PassEach}
use Rattle.redgreen_audit.specs.Refusals.{records_after}

-- after just these first reads, each of another key, this is what is left of the program
pub data FirstReads (prog : Prog) : List Told → Prog → Type 0 where
  start : FirstReads prog [] prog
  again : (told : List Told) (k : Key) (f : Value → Prog) (v : Value) → FirstReads prog told (Ask k f)
      → IsIn told (record { key = k; value = v }) → FirstReads prog told (f v)
  first : (told : List Told) (k : Key) (f : Value → Prog) (v : Value) → FirstReads prog told (Ask k f)
      → IsUntold told k → FirstReads prog (told ++ record { key = k; value = v } ∷ []) (f v)

-- the run is the whole of what the program does by these answers; no program fails
abbrev pub EndsAfter : Prog → List Told → End → Type 0
EndsAfter prog told (Gave v) = FirstReads prog told (Ret v)
EndsAfter prog told (Wanted k) = (f : Value → Prog) × FirstReads prog told (Ask k f)
EndsAfter prog told Failed = ⊥

-- whatever run the client makes is that of its programs
abbrev pub RunsAlike : {S : Type 0} → (Key → Prog) → (S → Run → S → Type 0) → Type 0
RunsAlike {S} prog_of makes = (s t : S) (run : Run) → makes s run t → EndsAfter (prog_of run.key) run.told run.end

-- a session that passes, and whose executed records are runs of the programs
pub record IsRightSession (prog_of : Key → Prog) (past now : List Record) : Type 0 where
  pub new : HaveNew [] now
  pub each : PassEach past now
  pub runs : (n : ℕ) (item : Record) → slice_get now n ≡ Some item → mark_of item.mark ≡ rules.Executed
      → FirstReads (prog_of item.key) (told_at now item.reads.items) (Ret item.value)

abbrev pub IsRightChain : (Key → Prog) → List Session → Type 0
IsRightChain prog_of chain =
    (k : ℕ) (session : Session) → slice_get chain k ≡ Some session
    → IsRightSession prog_of (records_after [] (take k chain)) session.records.items

-- ---- sessions that a build writes

-- it names the place of its key in the previous session if it has its old value, and else none
pub record NamesPlace (past : List Record) (r : Record) (previous : Option ℕ) : Type 0 where
  pub unchanged : IsUnchanged past r previous
  pub whole : (place : ℕ) (had : Record) → slice_get past place ≡ Some had → had.key ≡ r.key → had.value ≡ r.value
      → previous ≡ Some place

-- reads are places of earlier records, and what is unchanged names its place in the previous session
pub record IsPlaced (past : List Record) (i : ℕ) (r : Record) : Type 0 where
  pub reads : HasReads i r r.mark
  pub names : NamesPlace past r (previous_of r.mark)

abbrev pub ArePlaced : List Record → List Record → Type 0
ArePlaced past now = (i : ℕ) (r : Record) → slice_get now i ≡ Some r → IsPlaced past i r

-- the runs are those of the programs
abbrev pub AreWholeRuns : (Key → Prog) → List Run → Type 0
AreWholeRuns prog_of runs = AllByRecursion (λ run. EndsAfter (prog_of run.key) run.told run.end) runs
