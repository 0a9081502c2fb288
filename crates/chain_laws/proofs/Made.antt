-- What a session that a legal history closes with says of the previous one.
use Rattle.std.proofs.Common.{◌≡◌, ◌≢◌, ◌∙◌, ℕ, suc, ◌+◌, Bool, true, false, cond, List, [], ◌∷◌, ◌++◌, length, slice_get, Option, Some, None, option_map, refl, sym, ap, subst, append-nil, arith}
use Rattle.std.specs.Prelude.{find, not, Contains, IfSome}
use Rattle.std.specs.List.{AllByRecursion}
use Rattle.std.proofs.lemmas.Option.{none-some, same_Some}
use Rattle.std.proofs.lemmas.Slice.Eq.{bytes_eq-Decides}
use Rattle.std.proofs.lemmas.Bool.{not-false}
use Rattle.item_ids.specs.declared.key.Key.{Key}
use Rattle.item_ids.specs.Keys.{kind_of}
use Rattle.item_ids.proofs.Lists.{all_push}
use Rattle.fingerprint.specs.Prints.{print_of}
use Rattle.named_files.specs.Projects.{IsProject}
use Rattle.recorder.specs.Projects.{Project}
use Rattle.recorder.specs.Backed.{Meaning, ReadLists, Queries, AreLawful}
use Rattle.sessions.specs.declared.mark.Mark.{Mark}
use Rattle.sessions.specs.declared.mark.Mark.TheVariants.{Green, Executed}
use Rattle.sessions.specs.declared.terms.Terms.{Terms}
use Rattle.sessions.specs.Sessions.{Entry, SessionValue, IsSession, IsTakenFrom, entries, entry_at, past_entry}
use Rattle.sessions.proofs.EntryRules.{has_key, some_map}
use Rattle.graph_rules.specs.Pasts.{Past, print_in}
use Rattle.graph_rules.specs.Settings.{Setting, has_kind, crossing_kinds, setting_of, kept}
use Rattle.graph_rules.specs.Steps.{Event, State, Status, Done, EdgeState, Open, Unchanged, Changed, Walk, AllUnchanged, OpenAt, ChangedAt, edge_of, edge_at, walk, walk_on, later, past_walk, MayRun, state_after}
use Rattle.graph_rules.specs.Sound.{IsSound, IsSoundAt}
use Rattle.graph_rules.specs.Next.{IsKnownPast, AreNext, IsReadIn}
use Rattle.graph_rules.specs.Next.IsReadIn.{read}
use Rattle.graph_rules.specs.NextSessions.{StandsApart, IsNextSession}
use Rattle.graph_rules.specs.Apart.{HasNoClash}
use Rattle.graph_rules.proofs.SettingRules.{kept_held, kept_some}
use Rattle.graph_rules.proofs.Keeping.{sound_history, unchanged_all}
use Rattle.graph_rules.proofs.NextRules.{from_take, has_mid, last_cons, print_some, take_front, take_next, unchanged_by, unchanged_print}
use Rattle.graph_rules.proofs.NextRight.{known_past}
use Rattle.graph_rules.proofs.SessionRules.{entry_told, no_clash, told_of_entry}
use Rattle.driver.specs.Sessions.{AreEventsOf}
use Rattle.driver.proofs.NextRules.{is_next}
use Rattle.session_text.specs.declared.causes.cause.Cause.TheVariants.{NothingChanged, Red}
use Rattle.session_text.specs.declared.causes.cause.Why.{Why}
use Rattle.session_text.specs.Causes.{AreWhys, IsRightWhy, IsExplained, IsWhy, first_red, have_same_print, is_red, mark_at}
use Rattle.chain_laws.specs.WalkEnds.{EndsWalk}
use Rattle.chain_laws.proofs.NoNeed.{both_have, none_passes}

-- ---- a walk that ends at a changed edge

-- the edges in front of it are unchanged
record IsSplit (past : Past) (state : State) (es : List Key) (j : ℕ) : Type 0 where
  front : List Key
  edge : Key
  rest : List Key
  spelled : es ≡ front ++ edge ∷ rest
  many : length front ≡ j
  unchanged : AllByRecursion (λ e. edge_of past state e ≡ Unchanged) front
  changed : edge_of past state edge ≡ Changed

module _ (past : Past) (state : State) where
  split_on : (e : Key) (es : List Key) (j : ℕ) → ((i : ℕ) → walk past state es ≡ ChangedAt i → IsSplit past state es i)
      → (x : EdgeState) → edge_of past state e ≡ x → (w : Walk) → walk past state es ≡ w → walk_on x w ≡ ChangedAt j → IsSplit past state (e ∷ es) j
  split_on e es j more Open is w end at = absurd cc
  split_on e es j more Changed is w end at = record {
    front = [];
    edge = e;
    rest = es;
    spelled = refl;
    many = cc;
    unchanged = tt;
    changed = is;
  }
  split_on e es j more Unchanged is AllUnchanged end at = absurd cc
  split_on e es j more Unchanged is (OpenAt i) end at = absurd cc
  split_on e es j more Unchanged is (ChangedAt i) end at =
      let later_is : i + 1 ≡ j = cc in
      let m = more i end in
      record {
        front = e ∷ m.front;
        edge = m.edge;
        rest = m.rest;
        spelled = ap (λ (xs : List Key). e ∷ xs) m.spelled;
        many = omega (arith, m.many, later_is);
        unchanged = (is, m.unchanged);
        changed = m.changed;
      }

  split : (es : List Key) (j : ℕ) → walk past state es ≡ ChangedAt j → IsSplit past state es j
  split [] j at = absurd cc
  split (e ∷ es) j at = split_on e es j (split es) (edge_of past state e) refl (walk past state es) refl at

may_run : (w : Walk) → MayRun (Some w) → (j : ℕ) × (w ≡ ChangedAt j)
may_run AllUnchanged h = absurd h
may_run (OpenAt i) h = absurd h
may_run (ChangedAt i) h = (i, refl)

-- the first that passes, if all in front of it fail
first_found : {X : Type 0} (test : X → Bool) (front : List X) (x : X) (rest : List X) → AllByRecursion (λ y. test y ≡ false) front → test x ≡ true → find test (front ++ x ∷ rest) ≡ Some x
first_found test [] x rest none is = ap (λ b. cond b (Some x) (find test rest)) is
first_found {X} test (y ∷ front) x rest none is = ap (λ b. cond b (Some y) (find test (front ++ x ∷ rest))) none.0 ∙ first_found test front x rest none.1 is

place_of : {X : Type 0} (front : List X) (x : X) (rest : List X) → slice_get (front ++ x ∷ rest) (length front) ≡ Some x
place_of [] x rest = refl
place_of (y ∷ front) x rest = place_of front x rest

module _ (queries : Queries) (terms : Terms) (past : Option SessionValue) (p : Project) (history : List Event) (s : SessionValue)
    (session : IsSession s) (events : AreEventsOf queries terms past p history s) where
  abbrev mean : Meaning
  mean = queries.mean terms.profile

  abbrev reads : ReadLists
  reads = queries.reads terms.profile

  abbrev over : Setting
  over = setting_of queries.by_profile terms.profile past

  abbrev state : State
  state = state_after over p history

  -- ---- what the session says is how its keys are done at the end

  at_end : (q : Key) (r : Entry) → entry_at s q ≡ Some r → state.at q ≡ Done r.value r.reads r.mark
  at_end q r has = subst (λ (k : Key). state.at k ≡ Done r.value r.reads r.mark) (has_key s session q r has) (events.closing.closed.each r (entry_told s q r has)).1

  sound_at : (q : Key) (r : Entry) → entry_at s q ≡ Some r → (m : Mark) → r.mark ≡ m → IsSoundAt mean reads over p state q (Done r.value r.reads m)
  sound_at q r has m is =
      let sound : IsSound mean reads over p state = sound_history mean reads over p history events.legal events.backed in
      subst (λ (x : Mark). IsSoundAt mean reads over p state q (Done r.value r.reads x)) is
      (subst (λ (x : Status). IsSoundAt mean reads over p state q x) (at_end q r has) (sound q))

  -- its green records have the results of the previous session
  pub made_taken : IsTakenFrom past s
  made_taken two q r has green =
      let g = (sound_at q r has Green green).1 in
      (g.had, kept_held over q g.had g.past_has, g.value)

  -- ---- why a query was executed

  -- the walk over the edges of an executed key may end at a changed one alone
  walk_of : (q : Key) (had : Entry) → past_entry past q ≡ Some had → has_kind over.crossing (kind_of q) ≡ false → mark_at s q ≡ Some Executed → (j : ℕ) × (walk over.held state had.reads ≡ ChangedAt j)
  walk_of q had is stays run =
      let r = some_map (λ (x : Entry). x.mark) (entry_at s q) Executed run in
      may_run (walk over.held state had.reads)
      (subst (λ (o : Option Entry). MayRun (option_map (λ (x : Entry). walk over.held state x.reads) o)) (kept_some over q had stays is) (sound_at q r.0 r.1 Executed r.2).1.needed)

  -- an edge with one fingerprint in both sessions is unchanged
  same_edge : (e : Key) → is_red past s e ≡ false → edge_of over.held state e ≡ Unchanged
  same_edge e same =
      let b = both_have (past_entry past e) (entry_at s e) (not-false (have_same_print (past_entry past e) (entry_at s e)) same) in
      unchanged_by (print_in over.held e) (state.at e) b.1.value b.1.reads b.1.mark (print_some (past_entry past) e b.0 b.2 ∙ ap (λ print. Some print) b.4) (at_end e b.1 b.3)

  same_edges : (es : List Key) → AllByRecursion (λ e. is_red past s e ≡ false) es → AllByRecursion (λ e. edge_of over.held state e ≡ Unchanged) es
  same_edges [] all = tt
  same_edges (e ∷ es) all = (same_edge e all.0, same_edges es all.1)

  pub stays_in : (q : Key) → has_kind (crossing_kinds queries.by_profile s.terms.profile past) (kind_of q) ≡ false → has_kind over.crossing (kind_of q) ≡ false
  stays_in q stays = subst (λ (t : Terms). has_kind (crossing_kinds queries.by_profile t.profile past) (kind_of q) ≡ false) events.closing.terms_are stays

  pub made_needed : (q : Key) → IsWhy past s (crossing_kinds queries.by_profile s.terms.profile past) q NothingChanged → ⊥
  made_needed q why =
      let had = why.1.0 in
      let w = walk_of q had why.1.1 (stays_in q why.1.2.1) why.0 in
      let all : walk over.held state had.reads ≡ AllUnchanged = unchanged_all over.held state had.reads (same_edges had.reads (none_passes (is_red past s) had.reads why.1.2.0)) in
      absurd (let e : AllUnchanged ≡ ChangedAt w.0 = sym all ∙ w.1 in cc)

  each_needed : (whys : List Why) → AllByRecursion (λ why. IsExplained past s why.key.now × IsRightWhy past s (crossing_kinds queries.by_profile s.terms.profile past) why) whys → AllByRecursion (λ why. why.cause ≢ NothingChanged) whys
  each_needed [] h = tt
  each_needed (w ∷ whys) h = (
    (λ is. made_needed w.key.now (subst (IsWhy past s (crossing_kinds queries.by_profile s.terms.profile past) w.key.now) is h.0.1.cause)),
    each_needed whys h.1,
  )

  pub all_made_needed : (whys : List Why) → AreWhys past s (crossing_kinds queries.by_profile s.terms.profile past) whys → AllByRecursion (λ why. why.cause ≢ NothingChanged) whys
  all_made_needed whys are = each_needed whys are.each

  -- ---- the key that is named, over a right previous session

  module _ (laws : AreLawful queries) (project : IsProject p) (past_is : IfSome past IsSession) (apart : StandsApart queries past s) where
    known : IsKnownPast mean reads over
    known = known_past queries laws terms.profile past p project past_is apart.past_is

    next : AreNext mean reads over p (entries s)
    next = (is_next queries laws terms past p history s project past_is session events apart).told

    -- what is read in the project is in the session, with the project's value
    there : (e : Key) → IsReadIn reads p e → (r : Entry) × (entry_at s e ≡ Some r) × (r.value ≡ mean p e)
    there e inn =
        let x = next.all e inn in
        (x.0, ap (entry_at s) (sym x.2) ∙ told_of_entry s session x.0 x.1, (next.each x.0 x.1).value ∙ ap (mean p) x.2)

    read_there : (q : Key) (r : Entry) → entry_at s q ≡ Some r → IsReadIn reads p q
    read_there q r has = subst (IsReadIn reads p) (has_key s session q r has) (next.each r (entry_told s q r has)).reached

    module _ (q : Key) (had : Entry) (past_has : past_entry past q ≡ Some had) (stays : has_kind over.crossing (kind_of q) ≡ false) (inn : IsReadIn reads p q) where
      abbrev old : Project
      old = known.project

      -- the previous session's value is the one that the project gives
      abbrev Alike : Key → Type 0
      Alike e = known.past_mean old e ≡ mean p e

      same_reads : had.reads ≡ known.past_reads old q
      same_reads = (known.meant q had past_has).1

      -- a previous edge is read in the project if those in front of it have the project's values
      read_next : (front : List Key) (e : Key) (rest : List Key) → had.reads ≡ front ++ e ∷ rest → AllByRecursion Alike front → Contains (reads p q) e
      read_next front e rest is good =
          let here : known.past_reads old q ≡ front ++ e ∷ rest = sym same_reads ∙ is in
          let n = (known.across q had (kept_some over q had stays past_has)).next old p (length front) known.is_project project (rw (here, take_front front (e ∷ rest)) good) in
          from_take (suc (length front)) (reads p q) e (rw (← n, here, take_next front e rest) (has_mid front e []))

      -- an unchanged edge that is read has the project's value, and one fingerprint in both sessions
      unchanged_alike : (e : Key) → Contains had.reads e → Contains (reads p q) e → edge_of over.held state e ≡ Unchanged → Alike e × (is_red past s e ≡ false)
      unchanged_alike e has ins un =
          let x = known.graph.closed q had e past_has has in
          let y = there e (read q e inn ins) in
          let print = unchanged_print (print_in over.held e) y.0.value y.0.reads y.0.mark (ap (edge_at (print_in over.held e)) (sym (at_end e y.0 y.1)) ∙ un) in
          let same : print_of x.0.value ≡ print_of y.0.value = same_Some _ _ (sym (print_some over.held e x.0 x.1) ∙ print) in
          let value : x.0.value ≡ y.0.value = no_clash past s past_is session apart.apart e x.0 y.0 x.1 (entry_told s e y.0 y.1) same in (
            sym (known.meant e x.0 x.1).0 ∙ (value ∙ y.2),
            not_red (past_entry past e) (entry_at s e) x.0 y.0 x.1 y.1 same,
          )
        where
          not_red : (a b : Option Entry) (x y : Entry) → a ≡ Some x → b ≡ Some y → print_of x.value ≡ print_of y.value → not (have_same_print a b) ≡ false
          not_red a b x y is_x is_y same = rw (is_x, is_y, (bytes_eq-Decides (print_of x.value) (print_of y.value)).1 same) refl

      grow : (front todo rest : List Key) → had.reads ≡ front ++ (todo ++ rest) → AllByRecursion (λ e. edge_of over.held state e ≡ Unchanged) todo → AllByRecursion Alike front → AllByRecursion (λ e. is_red past s e ≡ false) front
          → AllByRecursion Alike (front ++ todo) × AllByRecursion (λ e. is_red past s e ≡ false) (front ++ todo)
      grow front [] rest is un good same = rw append-nil (good, same)
      grow front (e ∷ es) rest is un good same =
          let inside : Contains had.reads e = rw is (has_mid front e (es ++ rest)) in
          let here = unchanged_alike e inside (read_next front e (es ++ rest) is good) un.0 in
          rw (← last_cons front e es) (grow (front ++ e ∷ []) es rest (is ∙ sym (last_cons front e (es ++ rest))) un.1 (all_push Alike front e good here.0) (all_push (λ k. is_red past s k ≡ false) front e same here.1))

      -- the changed edge at which the walk ended is red
      changed_red : (e : Key) → Contains had.reads e → edge_of over.held state e ≡ Changed → is_red past s e ≡ true
      changed_red e has changed = either (is_red past s e) refl
        where
          either : (b : Bool) → is_red past s e ≡ b → is_red past s e ≡ true
          either true is = is
          either false is = absurd (let both : Unchanged ≡ Changed = sym (same_edge e is) ∙ changed in cc)

      first_is : (j : ℕ) (x : IsSplit over.held state had.reads j) → first_red past s had ≡ Some x.edge
      first_is j x =
          let front = grow [] x.front (x.edge ∷ x.rest) x.spelled x.unchanged tt tt in
          ap (find (is_red past s)) x.spelled
          ∙ first_found (is_red past s) x.front x.edge x.rest front.1 (changed_red x.edge (rw x.spelled (has_mid x.front x.edge x.rest)) x.changed)

    pub named_ends : (q : Key) (e : Key) → (had : Entry) → past_entry past q ≡ Some had → has_kind over.crossing (kind_of q) ≡ false → mark_at s q ≡ Some Executed → first_red past s had ≡ Some e → EndsWalk over state q e
    named_ends q e had is stays run named =
        let r = some_map (λ (x : Entry). x.mark) (entry_at s q) Executed run in
        let w = walk_of q had is stays run in
        let x = split over.held state had.reads w.0 w.1 in
        let same : x.edge ≡ e = same_Some _ _ (sym (first_is q had is stays (read_there q r.0 r.1) w.0 x) ∙ named) in
        record {
          had = had;
          past_has = kept_some over q had stays is;
          place = w.0;
          here = ap (λ (es : List Key). slice_get es w.0) x.spelled ∙ (ap (slice_get (x.front ++ x.edge ∷ x.rest)) (sym x.many) ∙ (place_of x.front x.edge x.rest ∙ ap (λ (k : Key). Some k) same));
          ended = w.1;
        }
