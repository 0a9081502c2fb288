-- What an auditor keeps of the sessions that it has taken, and what one more call says about them.
use Rattle.std.specs.Prelude.{◌≡◌, ◌≢◌, ◌⊎◌, ℕ, List, [], ◌∷◌, ◌++◌, map, length, Bool, true, false, Option, Some, None, Result, Ok, Err, MatchOption}
use Rattle.std.specs.Arc.{arc_value}
use Rattle.std.specs.List.{AllByRecursion}
use Rattle.std.specs.declared.alloc.Global.{Global}
use Rattle.std.specs.declared.sync.Arc.{Arc}
use Rattle.item_ids.specs.declared.key.Key.{Key}
use Rattle.item_ids.specs.declared.key.Key.TheVariants.{Source, Answer}
use Rattle.result_bytes.specs.declared.value.Value.{Value}
use Rattle.recorder.specs.Projects.{Project}
use Rattle.recorder.specs.Backed.{Queries}
use Rattle.sessions.specs.Sessions.{SessionValue, IsSession, entry_at}
use Rattle.sessions.specs.Spelling.{file_of}
use Rattle.session_file.specs.Feeding.{Given, CountsIf, is_device}
use Rattle.session_file.specs.declared.fault.FileFault.{FileFault}
use Rattle.session_file.specs.declared.fault.FileFault.TheVariants as files
use Rattle.graph_rules.specs.Pasts.{Past}
use Rattle.graph_rules.specs.Next.{AreSources}
use Rattle.audit_graph.specs.Sources.{HasFiles, HasSources}
use Rattle.audit_graph.specs.declared.fault.AuditFault.{AuditFault}
use Rattle.audit_graph.specs.declared.fault.AuditFault.TheVariants.{EmptyChain, File, NoAnswer, SourcesDiffer, OutOfMemory}
use Rattle.audit_replay.specs.Logs.{executed_keys, all_executed_keys}
use Rattle.audit_replay.specs.Passes.{Passes, FileRefuses, ReadRefuses}
use Rattle.audit_replay.specs.Audits.{AreApart, ArePassedFiles, IsLastProfile, HasValue, last_of, last_entry}
use Rattle.audit_replay.specs.RightChains.{AreRightInChain}
use Rattle.audit_replay.specs.declared.chain.Audited.{Audited}
use Rattle.audit_replay.specs.declared.sum.LastSession.{LastSession}
use Rattle.audit_replay.specs.declared.sum.Sum.{Sum}

-- ---- what is kept

-- the values that a session holds for the sources of these names, in their order
abbrev pub AreTexts : Past → List (List ℕ) → List Value → Type 0
AreTexts now [] [] = Unit {0}
AreTexts now (n ∷ ns) (v ∷ vs) = HasValue now (Source n) v × AreTexts now ns vs
AreTexts now _ _ = ⊥

-- the same, for the names that the session holds
abbrev pub AreTextsIn : Past → List Value → Type 0
AreTextsIn now texts = (names : List (List ℕ)) → HasFiles now names → AreTexts now names texts

-- the value that a session holds for its answer, if it has one
abbrev pub IsAnswer : SessionValue → Option (Arc Value Global) → Type 0
IsAnswer s answer = MatchOption answer (entry_at s Answer ≡ None)
    (λ a. HasValue (entry_at s) Answer (arc_value a))

-- the session, which holds the files of a project, is kept, with the values of their sources and its
-- answer
pub record KeepsSession (kept : LastSession) (s : SessionValue) : Type 0 where
  pub session : kept.session ≡ s
  pub sources : HasSources (entry_at s)
  pub texts : AreTextsIn (entry_at s) (map arc_value kept.texts.items)
  pub answer : IsAnswer s kept.answer

abbrev pub KeepsLast : Option LastSession → Option SessionValue → Type 0
KeepsLast None None = Unit {0}
KeepsLast (Some kept) (Some s) = KeepsSession kept s
KeepsLast _ _ = ⊥

-- What is kept is the sum of the sessions: how many they are, and how many executed records they
-- have, and what is kept of the last one.
pub record IsSumOf (kept : Sum) (sessions : List SessionValue) : Type 0 where
  pub each : AllByRecursion IsSession sessions
  pub count : kept.count ≡ length sessions
  pub runs : kept.runs ≡ length (all_executed_keys sessions)
  pub last : KeepsLast kept.last (last_of None sessions)

-- an auditor that has refused sums nothing
abbrev pub Sums : Result Sum AuditFault → List SessionValue → Type 0
Sums (Ok kept) sessions = IsSumOf kept sessions
Sums (Err fault) sessions = ⊥

-- ---- one more session

-- The file of session s was taken, whole, which passes behind all sessions summed before. They and
-- it are summed now, and are a chain of right sessions if they were one, unless two different
-- results in them share a fingerprint. Just its executed records were run, in order.
pub record TakesSession (queries : Queries) (old new : Result Sum AuditFault)
    (held left : List ℕ → Type 0) (log_old log_new : List Key) (s : SessionValue) : Type 0 where
  pub session : IsSession s
  pub given : Given held left (file_of s)
  pub whole : (bytes : List ℕ) → held bytes → bytes ≡ file_of s
  pub passes : (ss : List SessionValue) → Sums old ss
      → Passes queries (last_of None ss) (length ss) s
  pub sums : (ss : List SessionValue) → Sums old ss → Sums new (ss ++ s ∷ [])
  pub right : (ss : List SessionValue) → Sums old ss → AreRightInChain queries ss
      → AreApart (ss ++ s ∷ []) → AreRightInChain queries (ss ++ s ∷ [])
  pub log : log_new ≡ log_old ++ executed_keys s

-- the fault of file k
abbrev pub file_fault : ℕ → FileFault → AuditFault
file_fault k files.OutOfMemory = OutOfMemory
file_fault k fault = File k fault

-- file k can't be read, since the device failed
pub record IsDeviceFault (k : ℕ) (fault : AuditFault) : Type 0 where
  pub is : fault ≡ File k files.Device

-- the device failed, or the file is that of no session over the previous one
abbrev pub ReadFails : Option SessionValue → ℕ → List ℕ → AuditFault → Type 0
ReadFails past k bytes fault = IsDeviceFault k fault ⊎ ReadRefuses past k bytes fault

-- the device failed, or the file is refused behind the sessions
abbrev pub TakeRefuses
    : Queries → List SessionValue → List ℕ → List Key → List Key → AuditFault → Type 0
TakeRefuses queries ss bytes old new fault =
    (IsDeviceFault (length ss) fault × (new ≡ old))
    ⊎ FileRefuses queries (last_of None ss) (length ss) bytes old new fault

-- just a failure of the device is counted
abbrev pub CountsFault : AuditFault → ℕ → ℕ → Type 0
CountsFault (File k fault) old new = CountsIf (is_device fault) old new
CountsFault _ old new = new ≡ old

abbrev pub CountsTake : {A : Type 0} → Result A AuditFault → ℕ → ℕ → Type 0
CountsTake (Ok a) old new = new ≡ old
CountsTake (Err fault) old new = CountsFault fault old new

-- if the feed gave no byte it is at its end, else it held one
abbrev pub EndsFeed : {E : Type 0} → (List ℕ → Type 0) → (List ℕ → Type 0) → Result Bool E → Type 0
EndsFeed old new (Ok true) = (bytes : List ℕ) → old bytes → (bytes ≡ []) × new bytes
EndsFeed old new (Ok false) = (bytes : List ℕ) → old bytes → bytes ≢ []
EndsFeed old new (Err e) = Unit {0}

-- ---- the end

-- The last of the sessions is of this profile and has this answer, and there are this many
-- sessions, with this many executed records. If they are a chain of right sessions, it is what
-- the last one's files mean by it in the profile.
pub record EndAccepts (queries : Queries) (ss : List SessionValue)
    (a : Audited) : Type 0 where
  pub some : ss ≢ []
  pub sessions : a.sessions ≡ length ss
  pub runs : a.runs ≡ length (all_executed_keys ss)
  pub sources : HasSources (last_entry ss)
  pub last_is : IsLastProfile ss a.profile
  pub held : HasValue (last_entry ss) Answer (arc_value a.answer)
  pub means : AreRightInChain queries ss → (p : Project) → AreSources (last_entry ss) p
      → arc_value a.answer ≡ queries.mean a.profile p Answer

-- there is no session, or the last one has no answer
abbrev pub EndRefuses : List SessionValue → AuditFault → Type 0
EndRefuses ss EmptyChain = ss ≡ []
EndRefuses ss NoAnswer = (ss ≢ []) × (last_entry ss Answer ≡ None)
EndRefuses ss _ = ⊥

-- the same, or the last session has an answer and not the files of the project
abbrev pub EndRefusesAgainst : List SessionValue → Project → AuditFault → Type 0
EndRefusesAgainst ss p SourcesDiffer =
    (last_entry ss Answer ≢ None) × ¬ AreSources (last_entry ss) p
EndRefusesAgainst ss p fault = EndRefuses ss fault

abbrev pub EndGives
    : Queries → List SessionValue → Result Audited AuditFault → Type 0
EndGives queries ss (Ok a) = EndAccepts queries ss a
EndGives queries ss (Err fault) = EndRefuses ss fault

abbrev pub EndGivesAgainst
    : Queries → List SessionValue → Project → Result Audited AuditFault → Type 0
EndGivesAgainst queries ss p (Ok a) = EndAccepts queries ss a × AreSources (last_entry ss) p
EndGivesAgainst queries ss p (Err fault) = EndRefusesAgainst ss p fault

-- ---- files one after the other

-- the files are those of sessions that pass, which are summed, and just whose executed records were
-- run
pub record AreSummed (queries : Queries) (files : List (List ℕ))
    (old new : List Key) (kept : Result Sum AuditFault) : Type 0 where
  pub sessions : List SessionValue
  pub passed : ArePassedFiles queries files old new sessions
      (length (all_executed_keys sessions))
  pub sums : Sums kept sessions
