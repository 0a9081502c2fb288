-- One session over the one before: its step, and its executed records replayed.
use Rattle.std.specs.Prelude.{◌≡◌, ◌⊎◌, ℕ, Bool, true, List, length, Option, Result, Ok, Err}
use Rattle.item_ids.specs.declared.kind.Kind.{Kind}
use Rattle.item_ids.specs.declared.key.Key.{Key}
use Rattle.recorder.specs.Backed.{Queries}
use Rattle.sessions.specs.Sessions.{SessionValue, IsSession, IsTakenFrom, entry_at}
use Rattle.sessions.specs.Spelling.{file_of}
use Rattle.session_file.specs.Reading.{file_after}
use Rattle.audit_graph.specs.Plans.{executed_in}
use Rattle.audit_graph.specs.Steps.{IsSessionStep, CheckStepGives}
use Rattle.audit_graph.specs.Replays.{AreReplayed}
use Rattle.audit_graph.specs.declared.fault.AuditFault.{AuditFault}
use Rattle.audit_graph.specs.declared.fault.AuditFault.TheVariants.{File, OutOfMemory}
use Rattle.audit_replay.specs.Reruns.{RefusesPlan}
use Rattle.audit_replay.specs.Logs.{executed_keys, GrowsWithin}

-- Session k over the previous one: it is linked to it and taken from it, it holds the files of a
-- project, its green records stand in the previous one, and its executed ones follow from their
-- edges, by its own profile.
pub record Passes (queries : Queries) (past : Option SessionValue) (k : ℕ)
    (s : SessionValue) : Type 0 where
  pub taken : IsTakenFrom past s
  pub step : IsSessionStep queries.by_profile past k s
  pub replayed : AreReplayed (queries.mean s.terms.profile) (queries.reads s.terms.profile)
      (entry_at s) (λ _. true)

-- the step of session k over the previous one, unless memory runs out before it
abbrev pub StepGives
    : (Kind → Bool) → Option SessionValue → ℕ → SessionValue → Result (List ℕ) AuditFault → Type 0
StepGives by past k s result = CheckStepGives by past k s result ⊎ (result ≡ Err OutOfMemory)

-- The first fault of session k over the previous one: of its step, then of its executed records. Memory may run out
-- at any time.
abbrev pub SessionRefuses
    : Queries → Option SessionValue → ℕ → SessionValue → AuditFault → Type 0
SessionRefuses queries past k s fault =
    CheckStepGives queries.by_profile past k s (Err fault)
    ⊎ (IsSessionStep queries.by_profile past k s
    × RefusesPlan (queries.mean s.terms.profile) (queries.reads s.terms.profile) k s fault)
    ⊎ (fault ≡ OutOfMemory)

-- a session passes, and so many records were run; else its first fault
abbrev pub SessionGives
    : Queries → Option SessionValue → ℕ → SessionValue → Result ℕ AuditFault → Type 0
SessionGives queries past k s (Ok runs) =
    Passes queries past k s × (runs ≡ length (executed_in s))
SessionGives queries past k s (Err fault) = SessionRefuses queries past k s fault

-- ---- one file

-- the file is that of a session over the previous one, of which no more was run than the executed
-- records, in order
pub record RunsWithin (past : Option SessionValue) (file : List ℕ) (old new : List Key)
    (s : SessionValue) : Type 0 where
  pub session : IsSession s
  pub taken : IsTakenFrom past s
  pub spelled : file_of s ≡ file
  pub log : GrowsWithin (executed_keys s) old new

-- the file is that of no session over the previous one
abbrev pub ReadRefuses : Option SessionValue → ℕ → List ℕ → AuditFault → Type 0
ReadRefuses past k file (File j fault) = (j ≡ k) × (file_after past file ≡ Err fault)
ReadRefuses past k file OutOfMemory = Unit {0}
ReadRefuses past k file _ = ⊥

-- The file is that of no session over the previous one, or that of a session with a fault.
abbrev pub FileRefuses
    : Queries → Option SessionValue → ℕ → List ℕ → List Key → List Key → AuditFault
    → Type 0
FileRefuses queries past k file old new (File j fault) =
    (j ≡ k) × (file_after past file ≡ Err fault) × (new ≡ old)
FileRefuses queries past k file old new OutOfMemory =
    (new ≡ old) ⊎ ((s : SessionValue) × RunsWithin past file old new s)
FileRefuses queries past k file old new fault =
    (s : SessionValue) × RunsWithin past file old new s × SessionRefuses queries past k s fault
