-- What follows of the sessions whose files are accepted.
use Rattle.std.proofs.Common.{◌≡◌, ◌∙◌, ℕ, List, Option, Some, None, sym, ap, subst}
use Rattle.std.specs.Prelude.{IfSome}
use Rattle.std.proofs.lemmas.Option.{none-some}
use Rattle.profiles.specs.declared.profile.Profile.{Profile}
use Rattle.item_ids.specs.declared.key.Key.{Key}
use Rattle.item_ids.specs.declared.key.Key.TheVariants.{Answer}
use Rattle.result_bytes.specs.declared.value.Value.{Value}
use Rattle.recorder.specs.Projects.{Project}
use Rattle.recorder.specs.Backed.{Queries}
use Rattle.sessions.specs.Sessions.{SessionValue, past_entry}
use Rattle.graph_rules.specs.Next.{ArePastMeant, AreSources}
use Rattle.audit_graph.proofs.SourceRules.{one_project}
use Rattle.audit_replay.specs.Audits.{AreApart, AreRight, HasValue, HaveFiles, IsAccepted, IsLastProfile, last_entry}
use Rattle.audit_replay.proofs.FileRules.{passed_taken}
use Rattle.audit_replay.proofs.SessionFiles.{same_sessions}

-- what a session holds for its answer, if it has the values that a project gives it by its profile
pub meant_by_last : (queries : Queries) (o : Option SessionValue) (profile : Profile) → IfSome o (λ s. s.terms.profile ≡ profile) → (p : Project) → ArePastMeant queries o p
    → (v : Value) → HasValue (past_entry o) Answer v → v ≡ queries.mean profile p Answer
meant_by_last queries None profile is p meant v held = absurd (none-some held.entry held.has)
meant_by_last queries (Some s) profile is p meant v held = sym held.value ∙ ((meant Answer held.entry held.has).0 ∙ ap (λ (x : Profile). queries.mean x p Answer) is)

module _ (queries : Queries) (files : List (List ℕ)) (old new : List Key) (profile : Profile) (p : Project) (answer : Value) (count runs : ℕ)
    (accepted : IsAccepted queries files old new profile p answer count runs) (ss : List SessionValue) (f : HaveFiles ss files) where
  -- they are those that were audited
  audited : accepted.sessions ≡ ss
  audited = same_sessions None accepted.sessions ss accepted.passed.each f.each (passed_taken queries None 0 accepted.sessions accepted.passed.passed) f.taken (accepted.passed.spelled ∙ sym f.spelled)

  pub last_accepted : IsLastProfile ss profile
  last_accepted = subst (λ (xs : List SessionValue). IsLastProfile xs profile) audited accepted.last_is

  pub right_accepted : AreApart ss → AreRight queries None ss
  right_accepted = subst (λ (xs : List SessionValue). AreApart xs → AreRight queries None xs) audited accepted.right

  pub sources_accepted : AreSources (last_entry ss) p
  sources_accepted = subst (λ (xs : List SessionValue). AreSources (last_entry xs) p) audited accepted.sources

  pub means_accepted : (project : Project) → AreApart ss → AreSources (last_entry ss) project → answer ≡ queries.mean profile project Answer
  means_accepted project apart sources =
      let means = subst (λ (xs : List SessionValue). AreApart xs → answer ≡ queries.mean profile p Answer) audited accepted.means apart in
      means ∙ ap (λ (x : Project). queries.mean profile x Answer) (one_project (last_entry ss) p project sources_accepted sources)
