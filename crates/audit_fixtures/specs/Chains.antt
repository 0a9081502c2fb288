-- Files of chains that short texts give, and what audits of them say.
use Rattle.std.specs.Prelude.{◌≡◌, ◌⊎◌, ℕ, List, [], ◌∷◌, ◌++◌, length, map, sum, take, slice_get, Option, Some, None, Result, Ok, Err, IfOk}
use Rattle.item_ids.specs.declared.key.Key.{Key}
use Rattle.result_bytes.specs.declared.value.Value.{Value}
use Rattle.recorder.specs.Projects.{Project}
use Rattle.query_rules.specs.Queries.{queries}
use Rattle.profiles.specs.declared.profile.Profile.{Profile}
use Rattle.sessions.specs.Sessions.{SessionValue}
use Rattle.sessions.specs.Spelling.{file_of}
use Rattle.audit_graph.specs.declared.fault.AuditFault.{AuditFault}
use Rattle.audit_graph.specs.declared.fault.AuditFault.TheVariants.{OutOfMemory}
use Rattle.audit_replay.specs.Audits.{IsAccepted, IsRefusedBehind}
use Rattle.audit_replay.specs.declared.chain.Audited.{Audited}
use Rattle.table_fixtures.specs.declared.changes.Change.{Change}
use Rattle.table_fixtures.specs.Told.{InTurn, IsBehind}

-- ---- files

-- the session with these changes is behind the last one, and its file behind the files
pub record IsFiled (change : Change) (before after : Option SessionValue × List (List ℕ))
    : Type 0 where
  pub behind : IsBehind change before.0 after.0
  pub filed : after.1 ≡ before.1 ++ file_of behind.session ∷ []

-- the files of the chain's sessions
pub record AreFilesOf (chain : List Change) (files : List (List ℕ)) : Type 0 where
  pub last : Option SessionValue
  pub filed : InTurn IsFiled chain (None, []) (last, files)

-- how many records are executed in all sessions
abbrev pub runs_told : List Change → ℕ
runs_told chain = sum (map (λ change. length change.executed.now) chain)

-- ---- audits

-- what an audit says: how many sessions there are and records were run, or its refusal
abbrev pub said_by_audit : Result Audited AuditFault → Result (ℕ × ℕ) AuditFault
said_by_audit (Ok a) = Ok (a.sessions, a.runs)
said_by_audit (Err fault) = Err fault

-- the files are accepted by an audit that says this; the log of its runner was old and is new
pub record IsAcceptedAs (files : List (List ℕ)) (old new : List Key) (said : ℕ × ℕ) : Type 0 where
  pub profile : Profile
  pub project : Project
  pub answer : Value
  pub accepted : IsAccepted queries files old new profile project answer said.0 said.1

-- The files are accepted by an audit that finds as many sessions as there are, and runs as many
-- records as are executed in them.
pub record AreAcceptedFiles (chain : List Change) (files : List (List ℕ)) : Type 0 where
  pub old : List Key
  pub new : List Key
  pub accepted : IsAcceptedAs files old new (length chain, runs_told chain)

-- an audit has no memory for one of the files, if all before it pass
pub record IsWithoutMemory (files : List (List ℕ)) : Type 0 where
  pub old : List Key
  pub new : List Key
  pub refused : IsRefusedBehind queries files old new OutOfMemory

-- the files of the chain's sessions are accepted
abbrev pub IsAudited : List Change → Type 0
IsAudited chain = (files : List (List ℕ)) × AreFilesOf chain files × AreAcceptedFiles chain files

-- the file at this place of the chain's files is refused so behind those before it if a byte 0 follows it
pub record IsRefusedLonger (chain : List Change) (at : ℕ) (fault : AuditFault) : Type 0 where
  pub files : List (List ℕ)
  pub files_of : AreFilesOf chain files
  pub file : List ℕ
  pub there : slice_get files at ≡ Some file
  pub log : List Key
  pub refused : IsRefusedBehind queries (take at files ++ (file ++ 0 ∷ []) ∷ []) [] log fault

-- an audit of them by a runner that had run nothing says this
pub record IsSaidOf (chain : List Change) (said : Result (ℕ × ℕ) AuditFault) : Type 0 where
  pub files : List (List ℕ)
  pub files_of : AreFilesOf chain files
  pub accepted : IfOk said (λ both. (log : List Key) × IsAcceptedAs files [] log both)

-- they are accepted, or there is no memory for one of them
abbrev pub IsAuditedOrStays : List Change → Type 0
IsAuditedOrStays chain = (files : List (List ℕ)) × AreFilesOf chain files
    × (AreAcceptedFiles chain files ⊎ IsWithoutMemory files)
