-- What an accepted chain of sessions of MiniJava projects says.
use Rattle.std.specs.Prelude.{◌≡◌, ℕ, List, [], length}
use Rattle.profiles.specs.declared.profile.Profile.{Profile}
use Rattle.item_ids.specs.declared.key.Key.{Key}
use Rattle.item_ids.specs.declared.key.Key.TheVariants.{Answer}
use Rattle.mj_answer.specs.AnswerValues.{AnswerValue}
use Rattle.mj_rules.specs.Rules.{Rules}
use Rattle.result_bytes.specs.declared.value.Value.{Value}
use Rattle.result_bytes.specs.declared.value.Value.TheVariants as values
use Rattle.recorder.specs.Projects.{Project}
use Rattle.query_rules.specs.Queries.{queries}
use Rattle.providers.specs.AnswerValues.{IsAnswerValue}
use Rattle.sessions.specs.Sessions.{SessionValue}
use Rattle.graph_rules.specs.Next.{AreSources}
use Rattle.audit_graph.specs.Chains.{IsSessionChain}
use Rattle.audit_graph.specs.declared.fault.AuditFault.{AuditFault}
use Rattle.audit_replay.specs.Audits.{ArePassedFiles, AuditRefuses, AuditRefusesAgainst, HasValue, IsLastProfile, last_entry}

-- it is the answer that the static rules of the profile give the files
pub record IsOfTheRules (profile : Profile) (files : Project) (v : Value) : Type 0 where
  pub answer : AnswerValue
  pub value : v ≡ values.Answer answer
  pub rules : Rules profile files answer

-- The audit accepts the files with this answer, in this profile, with a runner that was asked
-- nothing before: they are those of a chain of sessions, of which the last is of the profile, and
-- holds the files of a project and the answer. Each session passes over the one before, and just the
-- executed records were run.
pub record IsAcceptedChain (files : List (List ℕ)) (profile : Profile) (answer : Value)
    (count runs : ℕ) : Type 0 where
  pub sessions : List SessionValue
  pub log : List Key
  pub passed : ArePassedFiles queries files [] log sessions runs
  pub many : count ≡ length sessions
  pub chain : IsSessionChain sessions
  pub last_is : IsLastProfile sessions profile
  pub project : Project
  pub sources : AreSources (last_entry sessions) project
  pub held : HasValue (last_entry sessions) Answer answer
  pub value : IsAnswerValue answer

-- the audit refuses the files with this fault, with a runner that was asked nothing before
pub record ChainRefuses (files : List (List ℕ)) (fault : AuditFault) : Type 0 where
  pub log : List Key
  pub refused : AuditRefuses queries files [] log fault

-- The audit accepts the files so, and the last session's files are those of this very project.
pub record IsAcceptedAgainst (project : Project) (files : List (List ℕ)) (profile : Profile)
    (answer : Value) (count runs : ℕ) : Type 0 where
  pub accepted : IsAcceptedChain files profile answer count runs
  pub same : accepted.project ≡ project

-- the same audit refuses the files, or accepts them and the last session's files aren't those of the
-- project
pub record ChainRefusesAgainst (project : Project) (files : List (List ℕ))
    (fault : AuditFault) : Type 0 where
  pub log : List Key
  pub refused : AuditRefusesAgainst queries files [] log project fault
