-- What it says of a chain that an executed record of it differs from its run.
use Rattle.std.specs.Prelude.{◌≡◌, ℕ, List, [], ◌∷◌, ◌++◌, map, length, slice_get, Option, Some, None, true}
use Rattle.std.specs.List.{AllByRecursion}
use Rattle.item_ids.specs.declared.key.Key.{Key}
use Rattle.recorder.specs.Projects.{Project}
use Rattle.recorder.specs.Backed.{Meaning, ReadLists, Queries}
use Rattle.sessions.specs.Sessions.{RecordValue, SessionValue, IsSession, IsTakenFrom, Entry, key_at, entry_at}
use Rattle.sessions.specs.Spelling.{file_of}
use Rattle.graph_rules.specs.Pasts.{Past}
use Rattle.graph_rules.specs.Settings.{Setting}
use Rattle.graph_rules.specs.Next.{AreSources}
use Rattle.audit_graph.specs.Greens.{StandsIfGreen}
use Rattle.audit_graph.specs.Steps.{IsSessionStep, setting_behind}
use Rattle.audit_graph.specs.Replays.{is_before}
use Rattle.audit_graph.specs.declared.fault.AuditFault.{AuditFault}
use Rattle.audit_graph.specs.declared.fault.AuditFault.TheVariants.{OtherRead, UnreadEdges, OtherResult, OutOfMemory}
use Rattle.audit_replay.specs.Audits.{ArePassed, AreApart, AreRight, last_of}

-- The record has the value and the edges that its key means and reads in the project, and if it
-- is green, it stands in the previous session.
pub record IsRightRecord (mean : Meaning) (reads : ReadLists) (over : Setting) (now : Past)
    (p : Project) (r : Entry) : Type 0 where
  pub value : r.value ≡ mean p r.key
  pub edges : r.reads ≡ reads p r.key
  pub green : StandsIfGreen over now r

-- Over the project whose files the session holds, record n doesn't have the value and the edges
-- that its key means and reads in the session's profile, and all records in front of it are right
-- over the previous session.
pub record IsFirstWrong (queries : Queries) (past : Option SessionValue) (s : SessionValue)
    (n : ℕ) : Type 0 where
  pub project : Project
  pub sources : AreSources (entry_at s) project
  pub item : RecordValue
  pub here : slice_get s.records n ≡ Some item
  pub before : (q : Key) (r : Entry) → is_before item.key q ≡ true → entry_at s q ≡ Some r
      → IsRightRecord (queries.mean s.terms.profile) (queries.reads s.terms.profile)
      (setting_behind queries.by_profile past s) (entry_at s) project r
  pub wrong : item.value ≡ queries.mean s.terms.profile project item.key
      → map (key_at s.records) item.edges ≡ queries.reads s.terms.profile project item.key → ⊥

-- File k is that of a session behind sessions that pass: it is taken from the last of them and linked to
-- it, it holds the files of a project, and its green records stand in the last of them. If no two different results in
-- it and in them share a fingerprint, they are right, and record n is the first of its session that
-- is wrong.
pub record HasFirstWrong (queries : Queries) (files : List (List ℕ))
    (k n : ℕ) : Type 0 where
  pub front : List SessionValue
  pub session : SessionValue
  pub rest : List (List ℕ)
  pub spelled : map file_of front ++ file_of session ∷ rest ≡ files
  pub many : length front ≡ k
  pub each : AllByRecursion IsSession front
  pub is : IsSession session
  pub taken : IsTakenFrom (last_of None front) session
  pub passed : ArePassed queries None 0 front
  pub step : IsSessionStep queries.by_profile (last_of None front) k session
  pub wrong : AreApart (front ++ session ∷ [])
      → AreRight queries None front
      × IsFirstWrong queries (last_of None front) session n

-- The refusal follows from the files alone, since the fault says neither that a record differs from
-- its run nor that memory ran out.
abbrev pub IsToldByFiles : AuditFault → Type 0
IsToldByFiles (OtherRead k n i) = ⊥
IsToldByFiles (UnreadEdges k n) = ⊥
IsToldByFiles (OtherResult k n) = ⊥
IsToldByFiles OutOfMemory = ⊥
IsToldByFiles fault = Unit {0}
