-- Previous sessions that are known.
use Rattle.std.proofs.Common.{Option, Some, None}
use Rattle.std.proofs.lemmas.Option.{none-some}
use Rattle.profiles.specs.declared.profile.Profile.{Profile}
use Rattle.named_files.specs.Projects.{IsProject}
use Rattle.recorder.specs.Projects.{Project}
use Rattle.recorder.specs.Backed.{Queries, AreLawful}
use Rattle.sessions.specs.Sessions.{SessionValue, past_entry}
use Rattle.graph_rules.specs.Pasts.{IsGraph}
use Rattle.graph_rules.specs.Settings.{setting_of}
use Rattle.graph_rules.specs.Next.{ArePastMeant, IsKnownPast}
use Rattle.graph_rules.proofs.SettingRules.{kept_held, kept_between}

-- one that has the values and reads of a project by its own profile, and so is none
pub known_past : (queries : Queries) → AreLawful queries → (profile : Profile) (past : Option SessionValue) (old : Project) → IsGraph (past_entry past) → IsProject old → ArePastMeant queries past old
    → IsKnownPast (queries.mean profile) (queries.reads profile) (setting_of queries.by_profile profile past)
known_past queries laws profile None old graph project meant = record {
  project = old;
  past_mean = queries.mean profile;
  past_reads = queries.reads profile;
  is_project = project;
  graph = graph;
  meant = λ q r has. absurd (none-some r has);
  across = λ q r has. absurd (none-some r (kept_held (setting_of queries.by_profile profile None) q r has));
}
known_past queries laws profile (Some s) old graph project meant = record {
  project = old;
  past_mean = queries.mean s.terms.profile;
  past_reads = queries.reads s.terms.profile;
  is_project = project;
  graph = graph;
  meant = meant;
  across = kept_between queries laws profile s;
}
