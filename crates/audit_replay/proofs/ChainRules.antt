-- Sessions of which each passes over the one before are right.
use Rattle.std.proofs.Common.{◌≡◌, ℕ, ◌+◌, true, List, [], ◌∷◌, Option, Some, None, refl, subst}
use Rattle.std.specs.Prelude.{Contains, IfSome}
use Rattle.std.specs.List.{AllByRecursion}
use Rattle.named_files.specs.Projects.{IsProject}
use Rattle.item_ids.specs.declared.key.Key.{Key}
use Rattle.recorder.specs.Projects.{Project}
use Rattle.recorder.specs.Backed.{Queries, AreLawful}
use Rattle.sessions.specs.Sessions.{SessionValue, IsSession, Entry, entry_at, past_entry}
use Rattle.graph_rules.specs.Pasts.{IsGraph}
use Rattle.graph_rules.specs.Next.{ArePastMeant, AreSources, IsRightAfter}
use Rattle.graph_rules.proofs.SessionRules.{session_graph}
use Rattle.audit_graph.specs.Steps.{IsSessionStep}
use Rattle.audit_graph.specs.Replays.{AreValuesApart, AreReplayed, AreWithLower, is_before}
use Rattle.audit_graph.proofs.Entries.{contains_first, contains_later}
use Rattle.audit_graph.proofs.SourceRules.{one_project}
use Rattle.audit_graph.proofs.StepRules.{front_is_meant, step_is_right, none_graph, none_meant, none_apart}
use Rattle.audit_replay.specs.Passes.{Passes}
use Rattle.audit_replay.specs.Audits.{ArePassed, AreRight, AreApart, last_of}
use Rattle.audit_replay.proofs.ApartRules.{AreOneByPrint, one_by_print}

module _ (queries : Queries) (laws : AreLawful queries) (all : List SessionValue) (apart : AreOneByPrint all) where
  -- some project gives the previous session its values and reads, if it is one of any
  abbrev IsKnown : Option SessionValue → Type 0
  IsKnown past = (p : Project) → IsProject p → (old : Project) × IsProject old × ArePastMeant queries past old

  -- so does each project whose files it holds
  abbrev IsMeant : Option SessionValue → Type 0
  IsMeant past = (p : Project) → AreSources (past_entry past) p → ArePastMeant queries past p

  pairwise : (past : Option SessionValue) → IfSome past (Contains all) → (s : SessionValue) → Contains all s → AreValuesApart (past_entry past) (entry_at s)
  pairwise None h s c = none_apart (entry_at s)
  pairwise (Some t) h s c = λ k q a b has here same. apart a.value b.value
      (record { session = t; there = h; key = k; entry = a; has = has; value = refl })
      (record { session = s; there = c; key = q; entry = b; has = here; value = refl }) same

  right_over : (past : Option SessionValue) (k : ℕ) (s : SessionValue) → IsGraph (past_entry past) → IsKnown past → IfSome past (Contains all) → Contains all s → IsSession s → Passes queries past k s
      → IsRightAfter queries past s
  right_over past k s graph known h c session p =
      let old = known p.step.sources.0 p.step.sources.1.project in
      step_is_right queries laws past k s old.0 graph old.1 old.2 session p.step (pairwise past h s c) p.replayed

  known_behind : (past : Option SessionValue) (s : SessionValue) → IsRightAfter queries past s → IsKnown (Some s)
  known_behind past s r p is = (r.project, r.of_project.sources.project, r.of_project.meant)

  meant_behind : (past : Option SessionValue) (s : SessionValue) → IsRightAfter queries past s → IsMeant (Some s)
  meant_behind past s r p sources = subst (ArePastMeant queries (Some s)) (one_project (entry_at s) r.project p r.of_project.sources sources) r.of_project.meant

  -- what is known of the previous session, once it and all before it are right
  abbrev pub IsSound : Option SessionValue → Type 0
  IsSound past = IfSome past (Contains all) × IsGraph (past_entry past) × IsKnown past × IsMeant past

  right_from : (ss : List SessionValue) (past : Option SessionValue) (k : ℕ) → ((s : SessionValue) → Contains ss s → Contains all s) → IsSound past
      → AllByRecursion IsSession ss → ArePassed queries past k ss → AreRight queries past ss × IsSound (last_of past ss)
  right_from [] past k inside sound each passed = (tt, sound)
  right_from (s ∷ ss) past k inside sound each passed =
      let c = inside s (contains_first s ss) in
      let r = right_over past k s sound.1 sound.2 sound.0 c each.0 passed.0 in
      let rest = right_from ss (Some s) (k + 1) (λ t i. inside t (contains_later s ss t i))
      (c, session_graph s each.0, known_behind past s r, meant_behind past s r) each.1 passed.1 in
      ((r, rest.0), rest.1)

  -- sessions among all of which each passes over the one before, from the first on
  pub front_right : (ss : List SessionValue) → ((s : SessionValue) → Contains ss s → Contains all s) → AllByRecursion IsSession ss → ArePassed queries None 0 ss
      → AreRight queries None ss × IsSound (last_of None ss)
  front_right ss inside each passed = right_from ss None 0 inside (tt, none_graph, (λ p is. (p, is, none_meant queries p)), (λ p sources. none_meant queries p)) each passed

  whole_right : AllByRecursion IsSession all → ArePassed queries None 0 all → AreRight queries None all × IsMeant (last_of None all)
  whole_right each passed = let r = front_right all (λ s c. c) each passed in (r.0, r.1.3)

  -- the last of right sessions is one of them, and a project gives it its values and reads
  last_known : (past : Option SessionValue) (ss : List SessionValue) → IfSome past (Contains all) → IsGraph (past_entry past) → IsKnown past → ((t : SessionValue) → Contains ss t → Contains all t)
      → AllByRecursion IsSession ss → AreRight queries past ss → IfSome (last_of past ss) (Contains all) × IsGraph (past_entry (last_of past ss)) × IsKnown (last_of past ss)
  last_known past [] h graph known inside each right = (h, graph, known)
  last_known past (t ∷ ts) h graph known inside each right =
      last_known (Some t) ts (inside t (contains_first t ts)) (session_graph t each.0) (known_behind past t right.0) (λ u c. inside u (contains_later t ts u c)) each.1 right.1

  -- a session that passes behind right ones is right
  pub right_behind : (ss : List SessionValue) (s : SessionValue) → ((t : SessionValue) → Contains ss t → Contains all t) → Contains all s → AllByRecursion IsSession ss → AreRight queries None ss
      → (k : ℕ) → IsSession s → Passes queries (last_of None ss) k s → IsRightAfter queries (last_of None ss) s
  right_behind ss s inside c each right k session p =
      let l = last_known None ss tt none_graph (λ q is. (q, is, none_meant queries q)) inside each right in
      right_over (last_of None ss) k s l.1 l.2 l.0 c session p

  -- the keys before a key, if the executed ones among them follow from their edges
  pub before_means : (past : Option SessionValue) → IsSound past → (k : ℕ) (s : SessionValue) → Contains all s → IsSession s → IsSessionStep queries.by_profile past k s → (p : Project) → AreSources (entry_at s) p
      → (key : Key) → AreWithLower (is_before key) → AreReplayed (queries.mean s.terms.profile) (queries.reads s.terms.profile) (entry_at s) (is_before key)
      → (q : Key) (r : Entry) → is_before key q ≡ true → entry_at s q ≡ Some r → (r.value ≡ queries.mean s.terms.profile p q) × (r.reads ≡ queries.reads s.terms.profile p q)
  before_means past sound k s c session step p sources key lower replayed =
      let old = sound.2 p sources.project in
      front_is_meant queries laws past k s old.0 p sound.1 old.1 old.2 session step sources (pairwise past sound.0 s c) (is_before key) lower replayed

-- sessions among all of which each passes over the one before are right, unless two different
-- results in them share a fingerprint
pub all_right : (queries : Queries) → AreLawful queries → (all : List SessionValue) → AreApart all → AllByRecursion IsSession all → ArePassed queries None 0 all
    → AreRight queries None all × ((p : Project) → AreSources (past_entry (last_of None all)) p → ArePastMeant queries (last_of None all) p)
all_right queries laws all apart each passed = whole_right queries laws all (one_by_print all each apart) each passed

-- the last session has the files of a project
pub last_sources : (queries : Queries) (past : Option SessionValue) (k : ℕ) (s : SessionValue) (ss : List SessionValue) → ArePassed queries past k (s ∷ ss)
    → (p : Project) × AreSources (past_entry (last_of past (s ∷ ss))) p
last_sources queries past k s [] a = a.0.step.sources
last_sources queries past k s (t ∷ ts) a = last_sources queries (Some s) (k + 1) t ts a.1
