-- What the audit of a list of files answers.
use Rattle.std.specs.Prelude.{◌≡◌, ◌≢◌, ℕ, ◌+◌, List, [], ◌∷◌, ◌++◌, map, length, Contains, Option, Some, None, IfSome}
use Rattle.std.specs.List.{AllByRecursion}
use Rattle.profiles.specs.declared.profile.Profile.{Profile}
use Rattle.item_ids.specs.declared.key.Key.{Key}
use Rattle.item_ids.specs.declared.key.Key.TheVariants.{Answer}
use Rattle.result_bytes.specs.declared.value.Value.{Value}
use Rattle.result_bytes.specs.Values.{canon}
use Rattle.fingerprint.specs.Prints.{print_of}
use Rattle.recorder.specs.Projects.{Project}
use Rattle.recorder.specs.Backed.{Queries}
use Rattle.sessions.specs.Sessions.{Entry, SessionValue, IsSession, AreTaken, entry_at, past_entry}
use Rattle.sessions.specs.Spelling.{file_of}
use Rattle.graph_rules.specs.Pasts.{Past}
use Rattle.graph_rules.specs.Next.{AreSources, IsRightAfter}
use Rattle.audit_graph.specs.Chains.{IsSessionChain}
use Rattle.audit_graph.specs.declared.fault.AuditFault.{AuditFault}
use Rattle.audit_graph.specs.declared.fault.AuditFault.TheVariants.{EmptyChain, NoAnswer, SourcesDiffer}
use Rattle.audit_replay.specs.Logs.{all_executed_keys}
use Rattle.audit_replay.specs.Passes.{Passes, FileRefuses}

-- ---- lists of sessions

-- from number k on each session passes over the one before, and the first of them over the previous
-- session
abbrev pub ArePassed
    : Queries → Option SessionValue → ℕ → List SessionValue → Type 0
ArePassed queries past k [] = Unit {0}
ArePassed queries past k (s ∷ ss) =
    Passes queries past k s × ArePassed queries (Some s) (k + 1) ss

-- each session is right over the one before, and the first of them over the previous session
abbrev pub AreRight : Queries → Option SessionValue → List SessionValue → Type 0
AreRight queries past [] = Unit {0}
AreRight queries past (s ∷ ss) =
    IsRightAfter queries past s × AreRight queries (Some s) ss

-- the last of the sessions, which is the previous session if there is none
abbrev pub last_of : Option SessionValue → List SessionValue → Option SessionValue
last_of past [] = past
last_of past (s ∷ ss) = last_of (Some s) ss

-- what the last of the sessions says about each key
abbrev pub last_entry : List SessionValue → Past
last_entry sessions = past_entry (last_of None sessions)

-- one of the sessions has this result
pub record IsRecorded (sessions : List SessionValue) (v : Value) : Type 0 where
  pub session : SessionValue
  pub there : Contains sessions session
  pub key : Key
  pub entry : Entry
  pub has : entry_at session key ≡ Some entry
  pub value : entry.value ≡ v

-- No two different results that are recorded in the sessions share a fingerprint: those that share
-- one have the same bytes.
abbrev pub AreApart : List SessionValue → Type 0
AreApart sessions =
    (v w : Value) → IsRecorded sessions v → IsRecorded sessions w → print_of v ≡ print_of w → canon v ≡ canon w

-- a session has this value for the key
pub record HasValue (now : Past) (q : Key) (v : Value) : Type 0 where
  pub entry : Entry
  pub has : now q ≡ Some entry
  pub value : entry.value ≡ v

-- the files are those of the sessions, each of which is taken from the one before
pub record HaveFiles (sessions : List SessionValue) (files : List (List ℕ)) : Type 0 where
  pub each : AllByRecursion IsSession sessions
  pub taken : AreTaken None sessions
  pub spelled : map file_of sessions ≡ files

-- ---- what an audit answers

-- The files are those of sessions each of which passes over the one before, and just the executed
-- records were run, so many, session by session in order.
pub record ArePassedFiles (queries : Queries) (files : List (List ℕ))
    (old new : List Key) (sessions : List SessionValue) (runs : ℕ) : Type 0 where
  pub spelled : map file_of sessions ≡ files
  pub each : AllByRecursion IsSession sessions
  pub passed : ArePassed queries None 0 sessions
  pub log : new ≡ old ++ all_executed_keys sessions
  pub many : runs ≡ length (all_executed_keys sessions)

-- the last of the sessions is of this profile
abbrev pub IsLastProfile : List SessionValue → Profile → Type 0
IsLastProfile sessions profile = IfSome (last_of None sessions) (λ s. s.terms.profile ≡ profile)

-- The audit accepts the files, with this answer, in this profile and over this project. The files
-- are those of a chain of sessions, of which the last is of the profile, and holds the answer and
-- the project's files. If no two different results in them share a fingerprint, each session is
-- right over the one before, and the answer is what the project means by it in the profile.
pub record IsAccepted (queries : Queries) (files : List (List ℕ))
    (old new : List Key) (profile : Profile) (project : Project) (answer : Value)
    (count runs : ℕ) : Type 0 where
  pub sessions : List SessionValue
  pub passed : ArePassedFiles queries files old new sessions runs
  pub many : count ≡ length sessions
  pub chain : IsSessionChain sessions
  pub last_is : IsLastProfile sessions profile
  pub sources : AreSources (last_entry sessions) project
  pub held : HasValue (last_entry sessions) Answer answer
  pub right : AreApart sessions → AreRight queries None sessions
  pub means : AreApart sessions → answer ≡ queries.mean profile project Answer

-- The sessions of the first files pass, and the file behind them is refused.
pub record IsRefusedBehind (queries : Queries) (files : List (List ℕ))
    (old new : List Key) (fault : AuditFault) : Type 0 where
  pub front : List SessionValue
  pub file_bytes : List ℕ
  pub rest : List (List ℕ)
  pub spelled : map file_of front ++ file_bytes ∷ rest ≡ files
  pub each : AllByRecursion IsSession front
  pub passed : ArePassed queries None 0 front
  pub refused : FileRefuses queries (last_of None front) (length front) file_bytes
      (old ++ all_executed_keys front) new fault

-- all files pass, and this holds of what the last session says
pub record PassesWith (queries : Queries) (files : List (List ℕ))
    (old new : List Key) (Holds : Past → Type 0) : Type 0 where
  pub sessions : List SessionValue
  pub runs : ℕ
  pub passed : ArePassedFiles queries files old new sessions runs
  pub holds : Holds (last_entry sessions)

-- Why files are refused: there are none, or one of them is refused, or the last has no answer.
abbrev pub AuditRefuses
    : Queries → List (List ℕ) → List Key → List Key → AuditFault → Type 0
AuditRefuses queries files old new EmptyChain = (files ≡ []) × (new ≡ old)
AuditRefuses queries files old new NoAnswer =
    (files ≢ []) × PassesWith queries files old new (λ last. last Answer ≡ None)
AuditRefuses queries files old new SourcesDiffer = ⊥
AuditRefuses queries files old new fault = IsRefusedBehind queries files old new fault

-- The same, or the last session has an answer, and not the files of the project.
abbrev pub AuditRefusesAgainst
    : Queries → List (List ℕ) → List Key → List Key → Project → AuditFault → Type 0
AuditRefusesAgainst queries files old new project SourcesDiffer =
    PassesWith queries files old new
    (λ last. (last Answer ≢ None) × ¬ AreSources last project)
AuditRefusesAgainst queries files old new project fault =
    AuditRefuses queries files old new fault
