-- A session whose step was checked and whose executed keys follow from their edges is right.
use Rattle.std.proofs.Common.{◌≡◌, ℕ, Bool, true, Option, Some, None, refl, ap}
use Rattle.std.specs.Ordering.{is_lt}
use Rattle.std.specs.declared.cmp.Ordering.{Ordering}
use Rattle.std.specs.declared.cmp.Ordering.TheVariants.{Less, Equal, Greater}
use Rattle.std.proofs.lemmas.Option.{none-some}
use Rattle.item_ids.specs.declared.key.Key.{Key}
use Rattle.item_ids.specs.Keys.{key_cmp, key_total}
use Rattle.named_files.specs.Projects.{IsProject}
use Rattle.recorder.specs.Projects.{Project}
use Rattle.recorder.specs.Backed.{Queries, AreLawful}
use Rattle.sessions.specs.Sessions.{Entry, SessionValue, IsSession, entry_at, past_entry}
use Rattle.graph_rules.specs.Pasts.{Past, IsGraph}
use Rattle.graph_rules.specs.Next.{ArePastMeant, AreSources, IsRightAfter}
use Rattle.graph_rules.proofs.KnownRules.{known_past}
use Rattle.graph_rules.proofs.SessionRules.{session_graph}
use Rattle.audit_graph.specs.Steps.{IsSessionStep, setting_behind}
use Rattle.audit_graph.specs.Replays.{AreReplayed, AreValuesApart, AreWithLower, is_before}
use Rattle.audit_graph.proofs.Entries.{marked}
use Rattle.audit_graph.proofs.Meant.{front_meant}

pub front_is_meant : (queries : Queries) → AreLawful queries
    → (past : Option SessionValue) (k : ℕ) (s : SessionValue) (old p : Project)
    → IsGraph (past_entry past) → IsProject old → ArePastMeant queries past old
    → IsSession s → IsSessionStep queries.by_profile past k s → AreSources (entry_at s) p
    → AreValuesApart (past_entry past) (entry_at s)
    → (front : Key → Bool) → AreWithLower front → AreReplayed (queries.mean s.terms.profile) (queries.reads s.terms.profile) (entry_at s) front
    → (q : Key) (r : Entry) → front q ≡ true → entry_at s q ≡ Some r → (r.value ≡ queries.mean s.terms.profile p q) × (r.reads ≡ queries.reads s.terms.profile p q)
front_is_meant queries laws past k s old p graph old_project meant session step sources apart front lower replayed =
    front_meant (queries.mean s.terms.profile) (queries.reads s.terms.profile) (laws.each s.terms.profile) (setting_behind queries.by_profile past s) (entry_at s) p
    (known_past queries laws s.terms.profile past old graph old_project meant) (session_graph s session) (marked s session)
    sources step.greens apart front lower replayed

pub step_is_right : (queries : Queries) → AreLawful queries
    → (past : Option SessionValue) (k : ℕ) (s : SessionValue) (old : Project)
    → IsGraph (past_entry past) → IsProject old → ArePastMeant queries past old
    → IsSession s → IsSessionStep queries.by_profile past k s
    → AreValuesApart (past_entry past) (entry_at s)
    → AreReplayed (queries.mean s.terms.profile) (queries.reads s.terms.profile) (entry_at s) (λ _. true)
    → IsRightAfter queries past s
step_is_right queries laws past k s old graph old_project meant session step apart replayed = record {
  project = step.sources.0;
  of_project = record {
    sources = step.sources.1;
    meant = λ q r has. front_is_meant queries laws past k s old step.sources.0 graph old_project meant session step step.sources.1 apart
        (λ _. true) (λ _ _ _ _. refl) replayed q r refl has;
  };
  greens = step.greens;
}

-- ---- keys before a key

pub less_from : (o : Ordering) → is_lt o ≡ true → o ≡ Less
less_from Less e = refl
less_from Equal e = absurd (cc)
less_from Greater e = absurd (cc)

pub before_lower : (k q e : Key) → is_before k q ≡ true → key_cmp e q ≡ Less → is_before k e ≡ true
before_lower k q e before less = ap is_lt (key_total.trans e q k less (less_from (key_cmp q k) before))

-- ---- no previous session

pub none_graph : IsGraph (past_entry None)
none_graph = record {
  key = λ q r has. absurd (none-some r has);
  kind = λ q r has. absurd (none-some r has);
  lower = λ q r has. absurd (none-some r has);
  once = λ q r has. absurd (none-some r has);
  closed = λ q r e has c. absurd (none-some r has);
}

pub none_meant : (queries : Queries) (p : Project) → ArePastMeant queries None p
none_meant queries p = tt

pub none_apart : (now : Past) → AreValuesApart (past_entry None) now
none_apart now k q a b has there same = absurd (none-some a has)
