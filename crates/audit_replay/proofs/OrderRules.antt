-- Executed records that follow from their edges, in the order of the plan.
use Rattle.std.proofs.Common.{◌≡◌, inl, inr, ℕ, suc, zero, ◌+◌, ◌<◌, ◌≤◌, true, false, List, [], ◌∷◌, take, length, slice_get, Some, Err, refl, sym, ap, ◌∙◌, subst, arith}
use Rattle.std.specs.Prelude.{Contains, if◌then◌else◌}
use Rattle.std.specs.List.{AllByRecursion}
use Rattle.std.specs.declared.cmp.Ordering.TheVariants.{Less, Greater}
use Rattle.std.specs.Ordering.{ordering_reverse}
use Rattle.std.proofs.lemmas.Option.{none-some, same_Some, slice_get_within, get_or_from_slice_get}
use Rattle.std.proofs.lemmas.Bool.{cases_order}
use Rattle.std.proofs.lemmas.List.{take_all}
use Rattle.item_ids.specs.declared.key.Key.{Key}
use Rattle.item_ids.specs.Keys.{key_cmp, key_total}
use Rattle.item_ids.specs.Inputs.{rank}
use Rattle.recorder.specs.Backed.{Meaning, ReadLists}
use Rattle.sessions.specs.Marks.{is_input_mark}
use Rattle.sessions.specs.declared.mark.Mark.TheVariants.{Executed}
use Rattle.sessions.specs.Sessions.{RecordValue, SessionValue, IsSession, FitsBehind, AreInside, Entry, entry_at, entry_of}
use Rattle.sessions.proofs.EntryRules.{has_key, edges_here}
use Rattle.graph_rules.proofs.NextRules.{all_at}
use Rattle.audit_graph.specs.Plans.{is_executed, executed_from, executed_in}
use Rattle.audit_graph.specs.Replays.{FollowsFromEdges, AreReplayed, is_before}
use Rattle.audit_graph.proofs.Entries.{told_by, nowhere, contains_cases, contains_first, contains_later, contains_there}
use Rattle.audit_graph.proofs.Meant.{above}
use Rattle.audit_graph.proofs.PlanRules.{plan_tells}
use Rattle.audit_graph.proofs.StepRules.{less_from}
use Rattle.audit_replay.specs.declared.replay.mismatch.Mismatch.{Mismatch}
use Rattle.audit_replay.specs.declared.replay.mismatch.Mismatch.TheVariants.{OtherRead, UnreadEdges, OtherResult, OutOfMemory}
use Rattle.audit_replay.specs.Reruns.{RerunGivesAt, IsFirstMismatch, RefusesPlan, mismatch_fault}
use Rattle.audit_replay.proofs.Lists.{there}

-- ---- the indices ascend

at_least : (i m : ℕ) (rs : List RecordValue) → Contains (executed_from i rs) m → i ≤ m
at_least i m [] c = absurd (nowhere m c)
at_least i m (r ∷ rs) c =
    (elim (is_executed r.mark) as (λ b. Contains (if b then i ∷ executed_from (i + 1) rs else executed_from (i + 1) rs) m → i ≤ m) [
      | true ↦ λ h. elim (contains_cases i (executed_from (i + 1) rs) m h) [
        | inl same ↦ omega (arith, same)
        | inr rest ↦ (let l = at_least (i + 1) m rs rest in omega arith)
      ]
      | false ↦ λ h. (let l = at_least (i + 1) m rs h in omega arith)
    ]) c

-- a lesser index stands in front
with_first : (i : ℕ) (ns : List ℕ) (n m : ℕ) → ((e : ℕ) → Contains ns e → i + 1 ≤ e) → ((k : ℕ) → slice_get ns k ≡ Some n → Contains ns m → Contains (take k ns) m) → m < n
    → (j : ℕ) → slice_get (i ∷ ns) j ≡ Some n → Contains (i ∷ ns) m → Contains (take j (i ∷ ns)) m
with_first i ns n m above rest less zero at h = elim (contains_cases i ns m h) [
  | inl same ↦ absurd (let e = same_Some i n at in omega (arith, less, same))
  | inr later ↦ absurd (let e = same_Some i n at in let l = above m later in omega (arith, less))
]
with_first i ns n m above rest less (suc k) at h = elim (contains_cases i ns m h) [
  | inl same ↦ subst (Contains (i ∷ take k ns)) same (contains_first i (take k ns))
  | inr later ↦ contains_later i (take k ns) m (rest k at later)
]

pub in_front : (i n m : ℕ) (rs : List RecordValue) → m < n → (j : ℕ) → slice_get (executed_from i rs) j ≡ Some n → Contains (executed_from i rs) m → Contains (take j (executed_from i rs)) m
in_front i n m [] less j here c = absurd (none-some n here)
in_front i n m (r ∷ rs) less j here c =
    (elim (is_executed r.mark) as (λ b. slice_get (if b then i ∷ executed_from (i + 1) rs else executed_from (i + 1) rs) j ≡ Some n
    → Contains (if b then i ∷ executed_from (i + 1) rs else executed_from (i + 1) rs) m
    → Contains (take j (if b then i ∷ executed_from (i + 1) rs else executed_from (i + 1) rs)) m) [
      | true ↦ λ at h. with_first i (executed_from (i + 1) rs) n m (λ e x. at_least (i + 1) e rs x) (λ k x y. in_front (i + 1) n m rs less k x y) less j at h
      | false ↦ λ at h. in_front (i + 1) n m rs less j at h
    ]) here c

-- ---- records in order

in_take : {X : Type 0} (xs : List X) (i n : ℕ) (x : X) → slice_get xs i ≡ Some x → i < n → Contains (take n xs) x
in_take [] i n x here less = absurd (none-some x here)
in_take (y ∷ ys) i zero x here less = absurd (omega arith)
in_take (y ∷ ys) zero (suc n) x here less = subst (Contains (y ∷ take n ys)) (same_Some y x here) (contains_first y (take n ys))
in_take (y ∷ ys) (suc i) (suc n) x here less = contains_later y (take n ys) x (in_take ys i n x here (omega arith))

not_itself : (k : Key) → key_cmp k k ≡ Less → ⊥
not_itself k e = absurd (let f : Less ≡ Greater = sym e ∙ (key_total.antisymm k k ∙ ap ordering_reverse e) in cc)

module _ (s : SessionValue) where
  fits_at : IsSession s → (i : ℕ) (x : RecordValue) → slice_get s.records i ≡ Some x → FitsBehind (take i s.records) x
  fits_at session i x here =
      subst (FitsBehind (take i s.records)) (get_or_from_slice_get s.records i x x here) (session.records i x (slice_get_within s.records i x here))

  -- an executed record is that of a key that is no input
  pub rank_above : IsSession s → (i : ℕ) (x : RecordValue) → slice_get s.records i ≡ Some x → x.mark ≡ Executed → 0 < rank x.key
  rank_above session i x here mark = above x.key (sym (ap is_input_mark mark) ∙ (fits_at session i x here).marked)

  -- its edges are indices of records
  pub edges_inside : IsSession s → (i : ℕ) (x : RecordValue) → slice_get s.records i ≡ Some x → AreInside s.records x.edges
  edges_inside session i x here = edges_here s session i x (slice_get_within s.records i x here) (sym (get_or_from_slice_get s.records i x x here))

  -- the keys before a record's are those of the records in front of it
  less_at : IsSession s → (i n : ℕ) (x y : RecordValue) → slice_get s.records i ≡ Some x → slice_get s.records n ≡ Some y → i < n → key_cmp x.key y.key ≡ Less
  less_at session i n x y hi hn less =
      all_at (λ (r : RecordValue). key_cmp r.key y.key ≡ Less) (take n s.records) (fits_at session n y hn).above x (in_take s.records i n x hi less)

  in_front_of : IsSession s → (i n : ℕ) (x y : RecordValue) → slice_get s.records i ≡ Some x → slice_get s.records n ≡ Some y → is_before y.key x.key ≡ true → i < n
  in_front_of session i n x y hi hn before =
      let less = less_from (key_cmp x.key y.key) before in
      elim (cases_order i n) [
        | inl same ↦ absurd (
            let e : x ≡ y = same_Some x y (sym hi ∙ (ap (slice_get s.records) same ∙ hn)) in
            not_itself y.key (ap (λ (z : RecordValue). key_cmp z.key y.key) (sym e) ∙ less))
        | inr b ↦ elim b [
          | inl below ↦ below
          | inr above ↦ absurd (not_itself x.key (key_total.trans x.key y.key x.key less (less_at session n i y x hn hi above)))
        ]
      ]

  -- the indices of the plan are those of executed records
  pub plan_executed : (plan : List ℕ) → plan ≡ executed_in s → (j n : ℕ) → slice_get plan j ≡ Some n → (r : RecordValue) × (slice_get s.records n ≡ Some r) × (r.mark ≡ Executed)
  plan_executed plan is j n here = (plan_tells s n).0 (subst (λ (ns : List ℕ). Contains ns n) is (contains_there plan j n here))

-- ---- what follows

module _ (mean : Meaning) (reads : ReadLists) (s : SessionValue) where
  abbrev pub FollowsAt : ℕ → Type 0
  FollowsAt n = (r : RecordValue) → slice_get s.records n ≡ Some r → FollowsFromEdges mean reads (entry_at s) (entry_of s.records r)

  -- what follows at each of these indices follows for each key that they have
  follows_for : (ns : List ℕ) → AllByRecursion FollowsAt ns → (r : Entry) (i : ℕ) (x : RecordValue) → slice_get s.records i ≡ Some x → entry_of s.records x ≡ r → Contains ns i → FollowsFromEdges mean reads (entry_at s) r
  follows_for ns all r i x here is c = subst (FollowsFromEdges mean reads (entry_at s)) is (all_at FollowsAt ns all i c x here)

  is_there : (i : ℕ) (x : RecordValue) (r : Entry) → slice_get s.records i ≡ Some x → entry_of s.records x ≡ r → r.mark ≡ Executed → Contains (executed_in s) i
  is_there i x r here is mark = (plan_tells s i).1 (x, here, ap (λ (e : Entry). e.mark) is ∙ mark)

  pub all_replayed : AllByRecursion FollowsAt (executed_in s) → AreReplayed mean reads (entry_at s) (λ _. true)
  all_replayed all q r front has mark =
      let t = told_by s q r has in
      let here : slice_get s.records t.0 ≡ Some t.1 = there s.records t.0 t.1 t.2 (sym t.3) in
      follows_for (executed_in s) all r t.0 t.1 here t.4 (is_there t.0 t.1 r here t.4 mark)

  pub front_replayed : IsSession s → (j n : ℕ) (item : RecordValue) → AllByRecursion FollowsAt (take j (executed_in s)) → slice_get (executed_in s) j ≡ Some n → slice_get s.records n ≡ Some item
      → AreReplayed mean reads (entry_at s) (is_before item.key)
  front_replayed session j n item all at here q r before has mark =
      let t = told_by s q r has in
      let hi : slice_get s.records t.0 ≡ Some t.1 = there s.records t.0 t.1 t.2 (sym t.3) in
      let key : t.1.key ≡ q = ap (λ (e : Entry). e.key) t.4 ∙ has_key s session q r has in
      let less = in_front_of s session t.0 n t.1 item hi here (ap (is_before item.key) key ∙ before) in
      follows_for (take j (executed_in s)) all r t.0 t.1 hi t.4
      (in_front 0 n t.0 s.records less j at (is_there t.0 t.1 r hi t.4 mark))

  -- the first of the plan that differs from its run
  pub plan_refused : IsSession s → (plan : List ℕ) → plan ≡ executed_in s → (k j n : ℕ) → slice_get plan j ≡ Some n → AllByRecursion FollowsAt (take j plan)
      → (why : Mismatch) → RerunGivesAt mean reads s n (Err why) → RefusesPlan mean reads k s (mismatch_fault k n why)
  plan_refused session plan is k j n here before why gives = by_cases why gives
    where
      first : (why : Mismatch) → RerunGivesAt mean reads s n (Err why) → IsFirstMismatch mean reads s n why
      first why gives =
          let x = plan_executed s plan is j n here in
          record {
            item = x.0;
            here = x.1;
            executed = x.2;
            before = front_replayed session j n x.0 (subst (λ (ns : List ℕ). AllByRecursion FollowsAt (take j ns)) is before) (ap (λ (ns : List ℕ). slice_get ns j) (sym is) ∙ here) x.1;
            differs = gives x.0 x.1;
          }

      by_cases : (why : Mismatch) → RerunGivesAt mean reads s n (Err why) → RefusesPlan mean reads k s (mismatch_fault k n why)
      by_cases (OtherRead i) gives = (refl, first (OtherRead i) gives)
      by_cases UnreadEdges gives = (refl, first UnreadEdges gives)
      by_cases OtherResult gives = (refl, first OtherResult gives)
      by_cases OutOfMemory gives = tt

  pub plan_replayed : (plan : List ℕ) → plan ≡ executed_in s → (j : ℕ) → length plan ≤ j → AllByRecursion FollowsAt (take j plan) → AreReplayed mean reads (entry_at s) (λ _. true)
  plan_replayed plan is j le all = all_replayed (subst (AllByRecursion FollowsAt) (take_all j plan le ∙ is) all)
