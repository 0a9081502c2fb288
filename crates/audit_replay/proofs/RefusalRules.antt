-- Records that differ from their runs are wrong.
use Rattle.std.proofs.Common.{◌≡◌, inl, inr, ℕ, suc, zero, ◌<◌, ◌≤◌, List, [], ◌∷◌, ◌++◌, map, take, length, slice_get, Some, None, Err, refl, sym, ap, ◌∙◌, subst, arith}
use Rattle.std.specs.Prelude.{◌≢◌, Contains}
use Rattle.std.specs.List.{AllByRecursion}
use Rattle.std.specs.declared.cmp.Ordering.TheVariants.{Less}
use Rattle.std.specs.Ordering.{is_lt}
use Rattle.std.proofs.lemmas.List.{length-take-le}
use Rattle.std.proofs.lemmas.List.Elements.{Contains-append_left, Contains-push}
use Rattle.std.proofs.lemmas.Option.{slice_get_within, get_or_from_slice_get}
use Rattle.item_ids.specs.declared.key.Key.{Key}
use Rattle.item_ids.specs.Keys.{key_cmp}
use Rattle.item_ids.specs.Inputs.{rank}
use Rattle.item_ids.proofs.Lists.{all_push}
use Rattle.recorder.specs.Projects.{Project}
use Rattle.recorder.specs.Backed.{Meaning, ReadLists, Queries, AreLawful, ReadValue, keys, Gives, GivesEach}
use Rattle.sessions.specs.Sessions.{SessionValue, IsSession, IsTakenFrom, Entry, entry_of, entry_at}
use Rattle.sessions.specs.Spelling.{file_of}
use Rattle.sessions.proofs.EntryRules.{entry_of_place, has_key}
use Rattle.named_files.specs.Projects.{IsProject}
use Rattle.graph_rules.specs.Pasts.{Past}
use Rattle.graph_rules.proofs.NextRules.{all_at}
use Rattle.graph_rules.proofs.SessionRules.{session_graph}
use Rattle.audit_graph.specs.Steps.{IsSessionStep}
use Rattle.audit_graph.specs.Replays.{AreWithLower, IsHeld, is_before}
use Rattle.audit_graph.specs.declared.fault.AuditFault.TheVariants as faults
use Rattle.audit_graph.proofs.Entries.{nowhere, contains_first, contains_later, contains_cases}
use Rattle.audit_replay.specs.declared.replay.mismatch.Mismatch.{Mismatch}
use Rattle.audit_replay.specs.declared.replay.mismatch.Mismatch.TheVariants.{OtherRead, UnreadEdges, OtherResult, OutOfMemory}
use Rattle.audit_replay.specs.Reruns.{RerunGives, IsFirstMismatch}
use Rattle.audit_replay.specs.Audits.{ArePassed, AreApart, AreRight, IsRefusedBehind, last_of}
use Rattle.audit_replay.specs.Refusals.{IsFirstWrong, HasFirstWrong}
use Rattle.audit_replay.proofs.ApartRules.{one_by_print}
use Rattle.audit_replay.proofs.ChainRules.{front_right, before_means}

contains_take : {X : Type 0} (n : ℕ) (xs : List X) (x : X) → Contains (take n xs) x → Contains xs x
contains_take zero xs x c = absurd (nowhere x c)
contains_take (suc n) [] x c = c
contains_take (suc n) (y ∷ ys) x c = elim (contains_cases y (take n ys) x c) [
  | inl same ↦ subst (Contains (y ∷ ys)) same (contains_first y ys)
  | inr later ↦ contains_later y ys x (contains_take n ys x later)
]

at_end : {X : Type 0} (xs : List X) (x : X) (rest : List X) → slice_get ((xs ++ x ∷ []) ++ rest) (length xs) ≡ Some x
at_end [] x rest = refl
at_end (y ∷ xs) x rest = at_end xs x rest

-- ---- one record

module _ (mean : Meaning) (reads : ReadLists) (now : Past) (p : Project) (project : IsProject p) (r : Entry)
    (meant : (e : Key) (x : Entry) → Contains r.reads e → now e ≡ Some x → x.value ≡ mean p e) where
  gives_each : (told : List ReadValue) → ((e : Key) → Contains (keys told) e → Contains r.reads e) → AllByRecursion (IsHeld now) told → GivesEach (mean p) told
  gives_each [] inside held = tt
  gives_each (t ∷ ts) inside held = (
    sym (meant t.key held.0.0 (inside t.key (contains_first t.key (keys ts))) held.0.1) ∙ held.0.2,
    gives_each ts (λ e c. inside e (contains_later t.key (keys ts) e c)) held.1,
  )

  gives_first : (i : ℕ) (told : List ReadValue) → keys told ≡ take i r.reads → AllByRecursion (IsHeld now) told → Gives mean p told
  gives_first i told edges held = record {
    project = project;
    each = gives_each told (λ e c. contains_take i r.reads e (subst (λ (ks : List Key). Contains ks e) edges c)) held;
  }

  -- the value and the edges aren't both those of the project
  pub differs : (why : Mismatch) → (why ≢ OutOfMemory) → RerunGives mean reads now r (Err why) → r.value ≡ mean p r.key → r.reads ≡ reads p r.key → ⊥
  differs (OtherRead i) other h value edges =
      let next = h.next p (gives_first i h.told h.first.edges h.first.held) in
      let many : length (keys h.told) ≡ i = ap length h.first.edges ∙ length-take-le i r.reads h.first.within in
      h.other (ap (λ (ks : List Key). slice_get ks i) edges
      ∙ (ap (λ (ks : List Key). slice_get ks i) (sym next.1)
      ∙ (ap (λ n. slice_get ((keys h.told ++ h.key ∷ []) ++ next.0) n) (sym many) ∙ at_end (keys h.told) h.key next.0)))
  differs UnreadEdges other h value edges =
      let whole = h.whole p (gives_first h.count h.told h.first.edges h.first.held) in
      let all : length r.reads ≡ length (take h.count r.reads) = ap length (edges ∙ (whole ∙ h.first.edges)) in
      let few = h.few in
      let le : h.count ≤ length r.reads = omega arith in
      let cut = length-take-le h.count r.reads le in
      absurd (omega (arith, all, few, cut))
  differs OtherResult other h value edges =
      let gives : Gives mean p h.told = record {
        project = project;
        each = gives_each h.told (λ e c. subst (λ (ks : List Key). Contains ks e) h.edges.edges c) h.edges.held;
      } in
      h.other (sym (h.backed.means p gives) ∙ sym value)
  differs OutOfMemory other h value edges = other refl

-- ---- a chain

module _ (queries : Queries) (laws : AreLawful queries) (lesser : (a b : Key) → rank a < rank b → key_cmp a b ≡ Less) (lower : (k : Key) → AreWithLower (is_before k)) where
  first_wrong : (front : List SessionValue) (s : SessionValue) → AllByRecursion IsSession front → IsSession s → ArePassed queries None 0 front
      → IsSessionStep queries.by_profile (last_of None front) (length front) s → (n : ℕ) (why : Mismatch) → (why ≢ OutOfMemory) → IsFirstMismatch (queries.mean s.terms.profile) (queries.reads s.terms.profile) s n why
      → AreApart (front ++ s ∷ []) → AreRight queries None front × IsFirstWrong queries (last_of None front) s n
  first_wrong front s each session passed step n why other first apart =
      let all = front ++ s ∷ [] in
      let by_print = one_by_print all (all_push IsSession front s each session) apart in
      let sound = front_right queries laws all by_print front (λ t c. Contains-append_left front (s ∷ []) t c) each passed in
      let p = step.sources.0 in
      let before = before_means queries laws all by_print (last_of None front) sound.1 (length front) s (Contains-push front s) session step p step.sources.1
      first.item.key (lower first.item.key) first.before in
      let within = slice_get_within s.records n first.item first.here in
      let has = entry_of_place s session n first.item within (get_or_from_slice_get s.records n first.item first.item first.here) in
      let r = entry_of s.records first.item in
      let below = (session_graph s session).lower first.item.key r has in (
        sound.0,
        record {
          project = p;
          sources = step.sources.1;
          item = first.item;
          here = first.here;
          before = λ q x b is.
              let key = has_key s session q x is in
              let means = before q x b is in
              record {
                value = means.0 ∙ ap (λ (e : Key). queries.mean s.terms.profile p e) (sym key);
                edges = means.1 ∙ ap (λ (e : Key). queries.reads s.terms.profile p e) (sym key);
                green = step.greens q x is;
              };
          wrong = differs (queries.mean s.terms.profile) (queries.reads s.terms.profile) (entry_at s) p step.sources.1.project r
              (λ e x c is. (before e x (ap is_lt (lesser e first.item.key (all_at (λ k. rank k < rank first.item.key) r.reads below e c))) is).0)
              why other first.differs;
        },
      )

  -- file k is refused for its record n
  module _ (files : List (List ℕ)) (old new : List Key) (k n : ℕ) (why : Mismatch) (other : why ≢ OutOfMemory) where
    refused_at : (front : List SessionValue) (s : SessionValue) (bytes : List ℕ) (rest : List (List ℕ)) → file_of s ≡ bytes → map file_of front ++ bytes ∷ rest ≡ files
        → AllByRecursion IsSession front → IsSession s → IsTakenFrom (last_of None front) s → ArePassed queries None 0 front → IsSessionStep queries.by_profile (last_of None front) (length front) s
        → k ≡ length front → IsFirstMismatch (queries.mean s.terms.profile) (queries.reads s.terms.profile) s n why → HasFirstWrong queries files k n
    refused_at front s bytes rest spells spelled each session taken passed step is first = record {
      front = front;
      session = s;
      rest = rest;
      spelled = ap (λ (b : List ℕ). map file_of front ++ b ∷ rest) spells ∙ spelled;
      many = sym is;
      each = each;
      is = session;
      taken = taken;
      passed = passed;
      step = subst (λ (m : ℕ). IsSessionStep queries.by_profile (last_of None front) m s) (sym is) step;
      wrong = first_wrong front s each session passed step n why other first;
    }

  pub other_read : (files : List (List ℕ)) (old new : List Key) (k n i : ℕ) → IsRefusedBehind queries files old new (faults.OtherRead k n i) → HasFirstWrong queries files k n
  other_read files old new k n i h = elim h.refused.2 [
    | inl none ↦ absurd none
    | inr x ↦ elim x [
      | inl y ↦ refused_at files old new k n (OtherRead i) (λ e. absurd (cc)) h.front h.refused.0 h.file_bytes h.rest h.refused.1.spelled h.spelled h.each h.refused.1.session h.refused.1.taken h.passed y.0 y.1.0 y.1.1
      | inr memory ↦ absurd cc
    ]
  ]

  pub unread_edges : (files : List (List ℕ)) (old new : List Key) (k n : ℕ) → IsRefusedBehind queries files old new (faults.UnreadEdges k n) → HasFirstWrong queries files k n
  unread_edges files old new k n h = elim h.refused.2 [
    | inl none ↦ absurd none
    | inr x ↦ elim x [
      | inl y ↦ refused_at files old new k n UnreadEdges (λ e. absurd (cc)) h.front h.refused.0 h.file_bytes h.rest h.refused.1.spelled h.spelled h.each h.refused.1.session h.refused.1.taken h.passed y.0 y.1.0 y.1.1
      | inr memory ↦ absurd cc
    ]
  ]

  pub other_result : (files : List (List ℕ)) (old new : List Key) (k n : ℕ) → IsRefusedBehind queries files old new (faults.OtherResult k n) → HasFirstWrong queries files k n
  other_result files old new k n h = elim h.refused.2 [
    | inl none ↦ absurd none
    | inr x ↦ elim x [
      | inl y ↦ refused_at files old new k n OtherResult (λ e. absurd (cc)) h.front h.refused.0 h.file_bytes h.rest h.refused.1.spelled h.spelled h.each h.refused.1.session h.refused.1.taken h.passed y.0 y.1.0 y.1.1
      | inr memory ↦ absurd cc
    ]
  ]
