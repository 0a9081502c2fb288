-- The session that comes next, and the answer that a session records.
use Rattle.std.specs.Prelude.{◌≡◌, ℕ, List, Option, Some, Result, Ok, Err, string_bytes}
use Rattle.item_ids.specs.declared.key.Key.TheVariants.{Answer}
use Rattle.mj_answer.specs.AnswerValues.{AnswerValue}
use Rattle.result_bytes.specs.declared.value.Value.TheVariants as values
use Rattle.mj_rules.specs.Rules.{Rules}
use Rattle.recorder.specs.Projects.{Project}
use Rattle.query_rules.specs.Queries.{queries}
use Rattle.sessions.specs.declared.terms.Terms.{Terms}
use Rattle.sessions.specs.Sessions.{Entry, SessionValue, IsSession, entry_at, session_in}
use Rattle.graph_rules.specs.Steps.{Event}
use Rattle.graph_rules.specs.NextSessions.{StandsApart, IsNextSession}
use Rattle.mini_java.specs.Sessions.{AreEventsOf}
use Rattle.mini_java.specs.DriveFault.{DriveFault}
use Rattle.mini_java.specs.Reports.{Reports}
use Rattle.session_cache.specs.Opened.{IsReadLast}
use Rattle.session_cache.specs.Starts.{IsLastChain, IsStart, IsStartBehind}
use Rattle.session_cache.specs.declared.start.LastChain.{LastChain}
use Rattle.session_cache.specs.declared.start.Start.{Start}
use Rattle.commands.specs.Lines.{AreNotesOn}
use Rattle.commands.specs.declared.beginning.Beginning.{Beginning}

-- Where a session begins, by what was read of the cache's last chain; past the last chain there is no
-- place for it. The notes are on a file that isn't followed.
pub record BeginsBehind (dir : List ℕ) (last : LastChain) (b : Beginning) : Type 0 where
  pub start : Start
  pub behind : IsStartBehind last start
  pub begins : IsStart start
  pub past : start.past ≡ b.past
  pub place : start.place ≡ b.place
  pub notes : AreNotesOn dir start.note (string_bytes b.notes)

-- it begins behind what was read of opened files, which held this if their type says it
abbrev pub IsBeginning : {File : Type 0} → (File → Option (List ℕ)) → List ℕ → Beginning → Type 0
IsBeginning held dir b =
    (last : LastChain) × IsLastChain last × IsReadLast held last × BeginsBehind dir last b

-- the session's record of the answer has this one
pub record IsAnswerIn (s : SessionValue) (answer : AnswerValue) : Type 0 where
  pub entry : Entry
  pub has : entry_at s Answer ≡ Some entry
  pub value : entry.value ≡ values.Answer answer

-- the session has a record of the answer
abbrev pub RecordsAnswer : SessionValue → Type 0
RecordsAnswer s = (answer : AnswerValue) × IsAnswerIn s answer

-- It is the one next session of these terms, and its answer is the one that the static rules of its
-- profile give the files.
pub record IsNextByRules (terms : Terms) (past : Option SessionValue) (p : Project)
    (s : SessionValue) : Type 0 where
  pub next : IsNextSession queries terms past p s
  pub rules : (answer : AnswerValue) → IsAnswerIn s answer → Rules terms.profile p answer

-- It is a session, and a legal history of a session of these terms over the previous one and the project
-- closes with it. Each outcome in it is one that MiniJava's queries give to their reads, and it records the
-- answer. If it stands apart from the previous session, it is the next one, with the answer of the
-- static rules.
pub record IsMadeOver (terms : Terms) (past : Option SessionValue) (p : Project)
    (s : SessionValue) : Type 0 where
  pub session : IsSession s
  pub history : List Event
  pub events : AreEventsOf queries terms past p history s
  pub answered : RecordsAnswer s
  pub by_rules : StandsApart queries past s → IsNextByRules terms past p s

-- the session comes where it is to begin
abbrev pub IsNextAt : Terms → Beginning → Project → SessionValue → Type 0
IsNextAt terms b p s = IsMadeOver terms (session_in b.past) p s

-- the session of a run, or why there is none
abbrev pub made_in : Result (SessionValue × Reports) DriveFault → Result SessionValue DriveFault
made_in (Ok run) = Ok run.0
made_in (Err fault) = Err fault
