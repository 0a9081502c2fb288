-- The session that a history closes with is the next one; and the refusals.
use Rattle.std.proofs.Common.{◌≡◌, ◌↔◌, ℕ, ◌≤◌, List, Option, Some, Result, Ok, Err, refl, sym, ◌∙◌, arith}
use Rattle.std.specs.Prelude.{MatchResult, IfSome}
use Rattle.named_files.specs.Projects.{IsProject}
use Rattle.recorder.specs.Projects.{Project}
use Rattle.recorder.specs.Backed.{Meaning, ReadLists, Queries, AreLawful}
use Rattle.sessions.specs.declared.terms.Terms.{Terms}
use Rattle.sessions.specs.Sessions.{SessionValue, IsSession, most_number, entries}
use Rattle.graph_rules.specs.Settings.{Setting, setting_of}
use Rattle.graph_rules.specs.Steps.{Event, state_after}
use Rattle.graph_rules.specs.Sound.{IsSound}
use Rattle.graph_rules.proofs.Keeping.{sound_history}
use Rattle.graph_rules.proofs.SessionRules.{no_clash}
use Rattle.graph_rules.proofs.NextRules.{closed_next, closed_as}
use Rattle.shared_table.specs.Closing.{IsFull}
use Rattle.driver.specs.declared.reports.Reports.{Reports}
use Rattle.graph_rules.specs.NextSessions.{StandsApart, IsNextSession}
use Rattle.graph_rules.proofs.OneSession.{one_session}
use Rattle.graph_rules.proofs.NextRight.{known_past}
use Rattle.driver.specs.Sessions.{IsCrew, AreEventsOf, DriveGives}
use Rattle.driver.specs.declared.fault.DriveFault.{DriveFault}
use Rattle.driver.specs.declared.fault.DriveFault.TheVariants as fault

module _ (queries : Queries) (laws : AreLawful queries) (terms : Terms) (past : Option SessionValue) (p : Project) (history : List Event) (s : SessionValue)
    (project : IsProject p) (past_is : IfSome past IsSession) (session : IsSession s) (events : AreEventsOf queries terms past p history s) where
  abbrev mean : Meaning
  mean = queries.mean terms.profile

  abbrev reads : ReadLists
  reads = queries.reads terms.profile

  abbrev over : Setting
  over = setting_of queries.by_profile terms.profile past

  sound : IsSound mean reads over p (state_after over p history)
  sound = sound_history mean reads over p history events.legal events.backed

  pub is_next : StandsApart queries past s → IsNextSession queries terms past p s
  is_next apart = record {
    session = session;
    terms_are = events.closing.terms_are;
    number = events.closing.number;
    link = events.closing.link;
    told = closed_next mean reads (laws.each terms.profile) over p (state_after over p history) (entries s) project
        (known_past queries laws terms.profile past p project past_is apart.past_is) sound events.closing.closed (no_clash past s past_is session apart.apart);
  }

  pub is_the_next : (next : SessionValue) → IsNextSession queries terms past p next → StandsApart queries past next → s ≡ next
  is_the_next next is apart =
      let same : entries s ≡ entries next
      = closed_as mean reads (laws.each terms.profile) over p (state_after over p history) (entries s) project
      (known_past queries laws terms.profile past p project past_is apart.past_is) sound events.closing.closed (entries next) is.told (no_clash past next past_is is.session apart.apart) in
      one_session s next session is.session same (events.closing.terms_are ∙ sym is.terms_are) (events.closing.number ∙ sym is.number) (events.closing.link ∙ sym is.link)

module _ (queries : Queries) (terms : Terms) (past : Option SessionValue) (p : Project) (workers : ℕ) where
  pub no_crew : (result : Result (SessionValue × Reports) DriveFault) → DriveGives queries terms past p workers result → (result ≡ Err fault.Workers) ↔ ¬ IsCrew workers
  no_crew (Ok done) g = ((λ e. absurd cc), (λ n. absurd (n g.0)))
  no_crew (Err fault.Workers) g = ((λ e. g), (λ n. refl))
  no_crew (Err fault.ChainFull) g = ((λ e. absurd cc), (λ n. absurd (n g.0)))
  no_crew (Err fault.OutOfMemory) g = ((λ e. absurd cc), (λ n. absurd (n g.0)))

  pub full_chain : (result : Result (SessionValue × Reports) DriveFault) → DriveGives queries terms past p workers result → IsCrew workers → (result ≡ Err fault.ChainFull) ↔ IsFull past
  full_chain (Ok done) g crew = ((λ e. absurd cc), (λ f. absurd (g.1 f)))
  full_chain (Err fault.Workers) g crew = ((λ e. absurd cc), (λ f. absurd (g crew)))
  full_chain (Err fault.ChainFull) g crew = ((λ e. g.1), (λ f. refl))
  full_chain (Err fault.OutOfMemory) g crew = ((λ e. absurd cc), (λ f. absurd (g.1 f)))

  pub memory_alone : (result : Result (SessionValue × Reports) DriveFault) → DriveGives queries terms past p workers result → IsCrew workers → ¬ IsFull past → MatchResult result (λ _. Unit {0}) (λ why. why ≡ fault.OutOfMemory)
  memory_alone (Ok done) g crew room = tt
  memory_alone (Err fault.Workers) g crew room = absurd (g crew)
  memory_alone (Err fault.ChainFull) g crew room = absurd (room g.1)
  memory_alone (Err fault.OutOfMemory) g crew room = refl

pub last_number : (s : SessionValue) → IsSession s → IsFull (Some s) ↔ (s.number ≡ most_number)
last_number s session = let most = session.number in ((λ (f : most_number ≤ s.number). omega (arith, f, most)), (λ e. omega (arith, e)))
