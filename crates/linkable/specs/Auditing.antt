-- What an audit in memory reports.
use Rattle.std.specs.Prelude.{◌≡◌, ◌≢◌, ◌⊎◌, ◌∷◌, ℕ, List, [], Option, Some, None}
use Rattle.audit_graph.specs.declared.fault.AuditFault.{AuditFault}
use Rattle.audit_graph.specs.declared.fault.AuditFault.TheVariants as chain
use Rattle.audit_replay.specs.Audits.{AreApart, HaveFiles, last_entry}
use Rattle.graph_rules.specs.Next.{AreSources}
use Rattle.mini_java.specs.Headline.{IsOfTheRules}
use Rattle.named_files.specs.Projects.{SourceFile}
use Rattle.packed_files.specs.Runs.{packed_runs}
use Rattle.profiles.specs.declared.profile.Profile.{Profile}
use Rattle.commands.specs.Auditing.{AreAcceptedTexts}
use Rattle.commands.specs.ChainWords.{chain_words}
use Rattle.commands.specs.Chains.{IsAcceptedOver, RefusesOver}
use Rattle.commands.specs.Refusals.{refused_line}
use Rattle.commands.specs.declared.auditing.AuditTexts.{AuditTexts}
use Rattle.result_bytes.specs.declared.value.Value.{Value}
use Rattle.sessions.specs.Sessions.{SessionValue}
use Rattle.linkable.specs.Chains.{AreNoChain}
use Rattle.linkable.specs.Projects.{IsNoProjectIn, IsProjectIn}
use Rattle.linkable.specs.Telling.{Telling, chain_refusal, chain_telling, refusal}

-- the project of the sources that the bytes are, if there are any
abbrev pub AreSourcesIn : List ℕ → Option (List SourceFile) → Type 0
AreSourcesIn [] project = project ≡ None
AreSourcesIn (b ∷ bytes) (Some files) = IsProjectIn (b ∷ bytes) files
AreSourcesIn (b ∷ bytes) None = ⊥

-- If no two different results that the sessions of these files record share a fingerprint, the answer
-- is the one that the static rules of the last one's profile give its files.
abbrev pub IsByTheRules : List (List ℕ) → Profile → Value → Type 0
IsByTheRules files profile v =
    (sessions : List SessionValue) (project : List SourceFile) → HaveFiles sessions files
    → AreApart sessions → AreSources (last_entry sessions) project → IsOfTheRules profile project v

-- The files make an accepted chain, whose texts are given. If there is a project, its files are those
-- of the last session.
pub record TellsAccepted (files : List (List ℕ)) (project : Option (List SourceFile))
    (told : Telling) : Type 0 where
  pub profile : Profile
  pub v : Value
  pub sessions : ℕ
  pub runs : ℕ
  pub accepted : IsAcceptedOver project files profile v sessions runs
  pub headline : IsByTheRules files profile v
  pub texts : AuditTexts
  pub tells : AreAcceptedTexts v sessions runs texts
  pub told_is : told ≡ chain_telling texts

-- The files make no accepted chain, and the report says why, which isn't want of memory.
pub record TellsRefused (files : List (List ℕ)) (project : Option (List SourceFile))
    (told : Telling) : Type 0 where
  pub fault : AuditFault
  pub named : fault ≢ chain.OutOfMemory
  pub refused : RefusesOver project files fault
  pub told_is : told ≡ chain_refusal (refused_line (chain_words fault))

-- The files that the bytes are were audited, over the sources if there are any.
pub record TellsAudited (chain sources : List ℕ) (told : Telling) : Type 0 where
  pub files : List (List ℕ)
  pub packed_are : packed_runs files ≡ chain
  pub project : Option (List SourceFile)
  pub project_is : AreSourcesIn sources project
  pub tells : TellsAccepted files project told ⊎ TellsRefused files project told

-- The sources are a project, or there are none, and one of the chain's files is cut off.
pub record RefusesChain (chain sources line : List ℕ) : Type 0 where
  pub project : Option (List SourceFile)
  pub project_is : AreSourcesIn sources project
  pub cut_off : AreNoChain chain line

-- The line says why there is no audit. The sources are looked at first, then the files of the chain.
abbrev pub RefusesInput : List ℕ → List ℕ → List ℕ → Type 0
RefusesInput chain sources line = IsNoProjectIn sources line ⊎ RefusesChain chain sources line

-- Such a line alone.
pub record TellsNoAudit (chain sources : List ℕ) (told : Telling) : Type 0 where
  pub line : List ℕ
  pub refuses : RefusesInput chain sources line
  pub told_is : told ≡ refusal line

abbrev pub TellsAudit : List ℕ → List ℕ → Telling → Type 0
TellsAudit chain sources told = TellsAudited chain sources told ⊎ TellsNoAudit chain sources told
