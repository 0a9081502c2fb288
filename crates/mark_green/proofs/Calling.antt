-- The effect of calls, by their answers.
use Rattle.std.proofs.Common.{◌≡◌, ℕ, zero, suc, ◌<◌, List, [], ◌∷◌, refl, sym, ap, ◌∙◌, subst, true, false, Option, Some, None, arith, inl, inr}
use Rattle.std.specs.Prelude.{Result, Ok, Err, if◌then◌else◌, option_map}
use Rattle.std.specs.declared.alloc.Global.{Global}
use Rattle.std.specs.declared.sync.Arc.{Arc}
use Rattle.std.specs.Arc.{arc_value}
use Rattle.std.proofs.lemmas.Bool.{both_ways}
use Rattle.item_ids.specs.declared.key.Key.{Key}
use Rattle.item_ids.specs.Keys.{kind_of}
use Rattle.item_ids.specs.Inputs.{rank}
use Rattle.result_bytes.specs.declared.value.Value.{Value}
use Rattle.sessions.specs.declared.mark.Mark.TheVariants.{Executed}
use Rattle.recorder.specs.Backed.{ReadValue, keys}
use Rattle.recorder.specs.Runs.{OutcomeValue}
use Rattle.sessions.specs.Sessions.{SessionValue, Entry, past_entry}
use Rattle.graph_rules.specs.Settings.{has_kind, kept}
use Rattle.graph_rules.proofs.Orders.{after_all_append}
use Rattle.graph_rules.specs.Steps.{Status, Unknown, Claimed, Running, Done, State, Walk, AllUnchanged, OpenAt, ChangedAt, walk, MayRun, Claim, MarkGreen, Begin, Finish, Fail, opening, IsHeldBy, IsBelow, IsDoneWith, IsNotDone, AreHeld, green}
use Rattle.job_table.specs.Tables.{TableValue, past_of, state_of, IsStep, adds}
use Rattle.job_table.specs.Calls.{AskGives, MarkGives, BeginGives, FinishGives, FailGives, IsFirstStale, walk_in}
use Rattle.job_table.specs.declared.fault.Asked.TheVariants as asked
use Rattle.job_table.specs.declared.fault.TableFault.{TableFault}
use Rattle.job_table.specs.declared.fault.TableFault.TheVariants as table
use Rattle.graph_rules.proofs.SettingRules.{kept_none, kept_across}
use Rattle.job_table.proofs.CallRules.{walk_none}
use Rattle.mark_green.specs.declared.fault.Fault.{Fault}
use Rattle.mark_green.specs.declared.fault.Fault.TheVariants as fault
use Rattle.mark_green.specs.Leaves.{Stops, Stays, WorkerGivesUp, IsOthers, HasStatus}
use Rattle.mark_green.specs.Ensures.{EnsureGives, IsGivenUp, WorkGives, IsWorkFault, IsOfPast, IsOfEdges}
use Rattle.mark_green.proofs.GoingOn.{on_none, on_one, on_then, stops_then, stays_up, stays_same, Changes, changes_by, changed_work, changed_others, changed_leaves, changed_stays, changed_done, changed_stands, leaves_none}

self_below : (n : ℕ) → n < n → ⊥
self_below n lt = omega arith

-- ---- fail

failed_at : (t : TableValue) (w : ℕ) → IsStep t (Fail w) → Stops t (adds t (Fail w))
failed_at t w may = record {
  goes_on = on_one t (Fail w) may;
  failed = ap (λ (s : State). s.failed) (after_all_append (past_of t) (opening t.project) t.history (Fail w ∷ []));
}

failed_gives_up : (t : TableValue) (w : ℕ) → IsStep t (Fail w) → WorkerGivesUp t (adds t (Fail w))
failed_gives_up t w may = record {
  stops = failed_at t w may;
  same = λ k. ap (λ (s : State). s.at k) (after_all_append (past_of t) (opening t.project) t.history (Fail w ∷ []));
}

pub fail_stops : (w : ℕ) (r : Result (Unit {0}) TableFault) (t u : TableValue) → FailGives t w r u → WorkerGivesUp t u
fail_stops w (Ok x) t u f = subst (λ (v : TableValue). WorkerGivesUp t v) (sym f.1) (failed_gives_up t w f.0)
fail_stops w (Err table.Failed) t u f = subst (λ (v : TableValue). WorkerGivesUp t v) (sym f.1) (record { stops = record { goes_on = on_none t; failed = f.0 }; same = λ k. refl })
fail_stops w (Err table.NotYours) t u f = absurd f
fail_stops w (Err table.OutOfRank) t u f = absurd f
fail_stops w (Err (table.EdgeOpen i)) t u f = absurd f
fail_stops w (Err (table.EdgeChanged i)) t u f = absurd f
fail_stops w (Err table.NotInPast) t u f = absurd f
fail_stops w (Err table.NothingChanged) t u f = absurd f
fail_stops w (Err (table.StaleRead i)) t u f = absurd f
fail_stops w (Err table.AcrossProfiles) t u f = absurd f
fail_stops w (Err table.OtherProfile) t u f = absurd f
fail_stops w (Err table.OutOfMemory) t u f = absurd f

-- ---- ask

pub claim_changes : (t : TableValue) (w : ℕ) (q : Key) → IsStep t (Claim w q) → Changes q (Claimed w) t (adds t (Claim w q))
claim_changes t w q may = changes_by t (Claim w q) q (Claimed w) may refl

claim_stands : (t : TableValue) (w : ℕ) (q : Key) → IsStep t (Claim w q) → HasStatus (Claimed w) w q (adds t (Claim w q))
claim_stands t w q may = changed_stands t (adds t (Claim w q)) w q (Claimed w) (claim_changes t w q may) may.0 refl (λ k n h. may.2 k h)

claim_gives : (t v : TableValue) (w : ℕ) (q : Key) (r : Result (Arc Value Global) Fault) → IsStep t (Claim w q) → WorkGives (adds t (Claim w q)) w q r v → EnsureGives t w q r v
claim_gives t v w q (Ok a) may h = (changed_leaves t (adds t (Claim w q)) w q (Claimed w) (claim_changes t w q may) v (arc_value a) may.1 h.0 h.1, h.1)
claim_gives t v w q (Err fault.Stopped) may h = absurd h.0
claim_gives t v w q (Err fault.OutOfMemory) may h = (
  stops_then t (adds t (Claim w q)) v (on_one t (Claim w q) may) h.0,
  changed_stays t (adds t (Claim w q)) w q (Claimed w) (claim_changes t w q may) v may.1 h.1,
  may.0,
)
claim_gives t v w q (Err fault.Busy) may h = (
  on_then t (adds t (Claim w q)) v (on_one t (Claim w q) may) h.0.0,
  changed_stays t (adds t (Claim w q)) w q (Claimed w) (claim_changes t w q may) v may.1 h.1,
  h.0.1,
  changed_others t (adds t (Claim w q)) w q (Claimed w) (claim_changes t w q may) refl h.0.2,
)

pub ask_work : (w : ℕ) (q : Key) (r : Result (Arc Value Global) Fault) (t u v : TableValue) → AskGives t w q (Ok asked.Yours) u → (HasStatus (Claimed w) w q u → WorkGives u w q r v) → EnsureGives t w q r v
ask_work w q r t u v a work =
    let moved = subst (λ (x : TableValue). HasStatus (Claimed w) w q x → WorkGives x w q r v) a.1 work in
    claim_gives t v w q r a.0 (moved (claim_stands t w q a.0))

pub ask_done : (w : ℕ) (q : Key) (v : Arc Value Global) (t u : TableValue) → AskGives t w q (Ok (asked.Done v)) u → EnsureGives t w q (Ok v) u
ask_done w q v t u a = subst (λ (x : TableValue). EnsureGives t w q (Ok v) x) (sym a.2) (leaves_none t, a.1)

pub ask_stopped : (w : ℕ) (q : Key) (t u : TableValue) → AskGives t w q (Ok asked.Stopped) u → EnsureGives t w q (Err fault.Stopped) u
ask_stopped w q t u a = subst (λ (x : TableValue). EnsureGives t w q (Err fault.Stopped) x) (sym a.1) (record { goes_on = on_none t; failed = a.0 }, stays_same t t refl, inl a.0)

busy_at : (t : TableValue) (w : ℕ) (q : Key) (x : Status) → (state_of t).at q ≡ x → IsNotDone x → IsBelow (state_of t) w q → (x ≡ Unknown → ⊥) → IsOthers t w
busy_at t w q Unknown is nd below known = absurd (known refl)
busy_at t w q (Claimed u) is nd below known = record {
  key = q;
  worker = u;
  other = λ e. self_below (rank q) (below q (subst (λ (y : Status). IsHeldBy w y) (sym is) e));
  holds = subst (λ (y : Status). IsHeldBy u y) (sym is) refl;
}
busy_at t w q (Running u) is nd below known = record {
  key = q;
  worker = u;
  other = λ e. self_below (rank q) (below q (subst (λ (y : Status). IsHeldBy w y) (sym is) e));
  holds = subst (λ (y : Status). IsHeldBy u y) (sym is) refl;
}
busy_at t w q (Done v es m) is nd below known = absurd nd

pub ask_others : (w : ℕ) (q : Key) (t u : TableValue) → AskGives t w q (Ok asked.Busy) u → IsOthers t w
ask_others w q t u a = busy_at t w q ((state_of t).at q) refl a.0.1 a.1 a.2

pub ask_busy : (w : ℕ) (q : Key) (t u : TableValue) → AskGives t w q (Ok asked.Busy) u → EnsureGives t w q (Err fault.Busy) u
ask_busy w q t u a = subst (λ (x : TableValue). EnsureGives t w q (Err fault.Busy) x) (sym a.3) (on_none t, stays_same t t refl, a.0.0, ask_others w q t u a)

-- if a call changed nothing
stopped_at : (t u v : TableValue) → u ≡ t → WorkerGivesUp u v → Stops t v
stopped_at t u v e s = subst (λ (x : TableValue). Stops x v) e s.stops

stayed_at : (t u v : TableValue) → u ≡ t → WorkerGivesUp u v → Stays t v
stayed_at t u v e s = stays_up t u v (stays_same t u e) s

pub ask_refused : (w : ℕ) (q : Key) (f : TableFault) (g : Fault) → IsWorkFault f g → (t u v : TableValue) → AskGives t w q (Err f) u → WorkerGivesUp u v → EnsureGives t w q (Err g) v
ask_refused w q table.OutOfMemory g is t u v a s = subst (λ (x : Fault). EnsureGives t w q (Err x) v) (sym is) (stopped_at t u v a.2 s, stayed_at t u v a.2 s, a.0)
ask_refused w q table.OutOfRank g is t u v a s = subst (λ (x : Fault). EnsureGives t w q (Err x) v) (sym is) (stopped_at t u v a.2 s, stayed_at t u v a.2 s, inr a.1)
ask_refused w q table.NotYours g is t u v a s = absurd a
ask_refused w q (table.EdgeOpen i) g is t u v a s = absurd a
ask_refused w q (table.EdgeChanged i) g is t u v a s = absurd a
ask_refused w q table.NotInPast g is t u v a s = absurd a
ask_refused w q table.NothingChanged g is t u v a s = absurd a
ask_refused w q (table.StaleRead i) g is t u v a s = absurd a
ask_refused w q table.AcrossProfiles g is t u v a s = absurd a
ask_refused w q table.OtherProfile g is t u v a s = absurd a
ask_refused w q table.Failed g is t u v a s = absurd a

-- out of memory in the midst of work
pub memory_gives : (t u v : TableValue) (w : ℕ) (q : Key) (g : Fault) → g ≡ fault.OutOfMemory → u ≡ t → WorkerGivesUp u v → WorkGives t w q (Err g) v
memory_gives t u v w q g is e s = subst (λ (x : Fault). WorkGives t w q (Err x) v) (sym is) (stopped_at t u v e s, λ k a n h. stayed_at t u v e s k a h)

-- ---- mark

pub mark_done : (w : ℕ) (q : Key) (v : Arc Value Global) (t u : TableValue) → MarkGives t w q (Ok v) u → WorkGives t w q (Ok v) u
mark_done w q v t u m =
    let c : Changes q (green (kept (past_of t) q)) t (adds t (MarkGreen w q)) = changes_by t (MarkGreen w q) q (green (kept (past_of t) q)) m.0 refl in
    let d : IsDoneWith (arc_value v) ((state_of (adds t (MarkGreen w q))).at q) = subst (λ (x : TableValue). IsDoneWith (arc_value v) ((state_of x).at q)) m.1 m.2 in
    subst (λ (x : TableValue). WorkGives t w q (Ok v) x) (sym m.1) (changed_done t (adds t (MarkGreen w q)) w q (green (kept (past_of t) q)) c (arc_value v) d, d)

some_none : (o : Option Walk) (x : Walk) → o ≡ Some x → o ≡ None → ⊥
some_none o x s n = let e : Some x ≡ None = sym s ∙ n in cc

walk_open : (o : Option Walk) (i : ℕ) → o ≡ Some AllUnchanged → o ≡ Some (OpenAt i) → ⊥
walk_open o i s n = let e : Some AllUnchanged ≡ Some (OpenAt i) = sym s ∙ n in cc

walk_changed : (o : Option Walk) (i : ℕ) → o ≡ Some AllUnchanged → o ≡ Some (ChangedAt i) → ⊥
walk_changed o i s n = let e : Some AllUnchanged ≡ Some (ChangedAt i) = sym s ∙ n in cc

pub mark_refused : (w : ℕ) (q : Key) (f : TableFault) (g : Fault) → IsWorkFault f g → (t u v : TableValue) → HasStatus (Claimed w) w q t → walk_in t q ≡ Some AllUnchanged → MarkGives t w q (Err f) u → WorkerGivesUp u v → WorkGives t w q (Err g) v
mark_refused w q table.OutOfMemory g is t u v st all m s = memory_gives t u v w q g is m.1 s
mark_refused w q table.Failed g is t u v st all m s = absurd (both_ways (state_of t).failed st.failed m.0)
mark_refused w q table.NotYours g is t u v st all m s = absurd (m.1 st.at)
mark_refused w q table.NotInPast g is t u v st all m s = absurd (some_none (walk_in t q) AllUnchanged all (walk_none (past_of t) (state_of t) q (kept_none (past_of t) q m.1)))
mark_refused w q table.AcrossProfiles g is t u v st all m s = absurd (some_none (walk_in t q) AllUnchanged all (walk_none (past_of t) (state_of t) q (kept_across (past_of t) q m.2)))
mark_refused w q (table.EdgeOpen i) g is t u v st all m s = absurd (walk_open (walk_in t q) i all m.1)
mark_refused w q (table.EdgeChanged i) g is t u v st all m s = absurd (walk_changed (walk_in t q) i all m.1)
mark_refused w q table.OutOfRank g is t u v st all m s = absurd m
mark_refused w q table.NothingChanged g is t u v st all m s = absurd m
mark_refused w q (table.StaleRead i) g is t u v st all m s = absurd m
mark_refused w q table.OtherProfile g is t u v st all m s = absurd m

-- ---- mark, if a key may have to wait for its edges, or to run

pub try_done : (w : ℕ) (q : Key) (v : Arc Value Global) (past : Option SessionValue) (t u : TableValue) → MarkGives t w q (Ok v) u → past ≡ t.past → HasStatus (Claimed w) w q t → WorkGives t w q (Ok v) u
try_done w q v past t u m has st = mark_done w q v t u m

-- nothing may be taken over
pub try_runs : (w : ℕ) (q : Key) (f : TableFault) → IsOfPast f → (t u : TableValue) → MarkGives t w q (Err f) u → (u ≡ t) × (walk_in t q ≡ None)
try_runs w q table.NotInPast of t u m = (m.2, walk_none (past_of t) (state_of t) q (kept_none (past_of t) q m.1))
try_runs w q table.AcrossProfiles of t u m = (m.3, walk_none (past_of t) (state_of t) q (kept_across (past_of t) q m.2))
try_runs w q (table.EdgeOpen i) of t u m = absurd of
try_runs w q (table.EdgeChanged i) of t u m = absurd of
try_runs w q table.OutOfMemory of t u m = absurd of
try_runs w q table.Failed of t u m = absurd of
try_runs w q table.NotYours of t u m = absurd of
try_runs w q table.OutOfRank of t u m = absurd of
try_runs w q table.NothingChanged of t u m = absurd of
try_runs w q (table.StaleRead i) of t u m = absurd of
try_runs w q table.OtherProfile of t u m = absurd of

-- a key with a walk is of a kind that doesn't cross
not_crossing : (t : TableValue) (q : Key) (x : Walk) → walk_in t q ≡ Some x → has_kind t.crossing (kind_of q) ≡ false
not_crossing t q x is =
    (elim (has_kind t.crossing (kind_of q)) as (λ b. option_map (λ (r : Entry). walk (past_entry t.past) (state_of t) r.reads) (if b then None else past_entry t.past q) ≡ Some x → b ≡ false) [
      | true ↦ λ e. absurd (cc)
      | false ↦ λ e. refl
    ]) is

-- it may be, and its edges are to be evaluated
pub try_edges : (w : ℕ) (q : Key) (f : TableFault) → IsOfEdges f → (t u : TableValue) → MarkGives t w q (Err f) u → (u ≡ t) × (has_kind t.crossing (kind_of q) ≡ false)
try_edges w q (table.EdgeOpen i) of t u m = (m.2, not_crossing t q (OpenAt i) m.1)
try_edges w q (table.EdgeChanged i) of t u m = (m.2, not_crossing t q (ChangedAt i) m.1)
try_edges w q table.NotInPast of t u m = absurd of
try_edges w q table.AcrossProfiles of t u m = absurd of
try_edges w q table.OutOfMemory of t u m = absurd of
try_edges w q table.Failed of t u m = absurd of
try_edges w q table.NotYours of t u m = absurd of
try_edges w q table.OutOfRank of t u m = absurd of
try_edges w q table.NothingChanged of t u m = absurd of
try_edges w q (table.StaleRead i) of t u m = absurd of
try_edges w q table.OtherProfile of t u m = absurd of

pub try_refused : (w : ℕ) (q : Key) (f : TableFault) (g : Fault) → (IsOfPast f → ⊥) → (IsOfEdges f → ⊥) → IsWorkFault f g → (t u v : TableValue) → MarkGives t w q (Err f) u → WorkerGivesUp u v → HasStatus (Claimed w) w q t → WorkGives t w q (Err g) v
try_refused w q table.OutOfMemory g no_past no_edges is t u v m s st = memory_gives t u v w q g is m.1 s
try_refused w q table.Failed g no_past no_edges is t u v m s st = absurd (both_ways (state_of t).failed st.failed m.0)
try_refused w q table.NotYours g no_past no_edges is t u v m s st = absurd (m.1 st.at)
try_refused w q table.NotInPast g no_past no_edges is t u v m s st = absurd (no_past tt)
try_refused w q table.AcrossProfiles g no_past no_edges is t u v m s st = absurd (no_past tt)
try_refused w q (table.EdgeOpen i) g no_past no_edges is t u v m s st = absurd (no_edges tt)
try_refused w q (table.EdgeChanged i) g no_past no_edges is t u v m s st = absurd (no_edges tt)
try_refused w q table.OutOfRank g no_past no_edges is t u v m s st = absurd m
try_refused w q table.NothingChanged g no_past no_edges is t u v m s st = absurd m
try_refused w q (table.StaleRead i) g no_past no_edges is t u v m s st = absurd m
try_refused w q table.OtherProfile g no_past no_edges is t u v m s st = absurd m

-- ---- begin_run

pub begin_changes : (t : TableValue) (w : ℕ) (q : Key) → IsStep t (Begin w q) → Changes q (Running w) t (adds t (Begin w q))
begin_changes t w q may = changes_by t (Begin w q) q (Running w) may refl

others_above : (t : TableValue) (w : ℕ) (q : Key) (x : Status) → HasStatus x w q t → (k : Key) → (k ≡ q → ⊥) → IsHeldBy w ((state_of t).at k) → rank q < rank k
others_above t w q x st k n h = elim (st.above k h) [
  | inl e ↦ absurd (n e)
  | inr lt ↦ lt
]

begin_gives : (w : ℕ) (q : Key) (r : Result (Arc Value Global) Fault) (t v : TableValue) → HasStatus (Claimed w) w q t → IsStep t (Begin w q) → (HasStatus (Running w) w q (adds t (Begin w q)) → WorkGives (adds t (Begin w q)) w q r v) → WorkGives t w q r v
begin_gives w q r t v st may work =
    let c = begin_changes t w q may in
    let u = adds t (Begin w q) in
    changed_work t u w q (Running w) c v r refl (work (changed_stands t u w q (Running w) c st.failed refl (others_above t w q (Claimed w) st)))

pub begin_work : (w : ℕ) (q : Key) (r : Result (Arc Value Global) Fault) (x : Unit {0}) (t u v : TableValue) → HasStatus (Claimed w) w q t → BeginGives t w q (Ok x) u → (HasStatus (Running w) w q u → WorkGives u w q r v) → WorkGives t w q r v
begin_work w q r x t u v st b work =
    let moved = subst (λ (y : TableValue). HasStatus (Running w) w q y → WorkGives y w q r v) b.1 work in
    begin_gives w q r t v st b.0 moved

may_open : (o : Option Walk) (i : ℕ) → MayRun o → o ≡ Some (OpenAt i) → ⊥
may_open o i may e = let m : MayRun (Some (OpenAt i)) = subst MayRun e may in m

may_unchanged : (o : Option Walk) → MayRun o → o ≡ Some AllUnchanged → ⊥
may_unchanged o may e = let m : MayRun (Some AllUnchanged) = subst MayRun e may in m

pub begin_refused : (w : ℕ) (q : Key) (f : TableFault) (g : Fault) → IsWorkFault f g → (t u v : TableValue) → HasStatus (Claimed w) w q t → MayRun (walk_in t q) → BeginGives t w q (Err f) u → WorkerGivesUp u v → WorkGives t w q (Err g) v
begin_refused w q table.OutOfMemory g is t u v st may b s = memory_gives t u v w q g is b.1 s
begin_refused w q table.Failed g is t u v st may b s = absurd (both_ways (state_of t).failed st.failed b.0)
begin_refused w q table.NotYours g is t u v st may b s = absurd (b.1 st.at)
begin_refused w q (table.EdgeOpen i) g is t u v st may b s = absurd (may_open (walk_in t q) i may b.1)
begin_refused w q table.NothingChanged g is t u v st may b s = absurd (may_unchanged (walk_in t q) may b.1)
begin_refused w q table.OutOfRank g is t u v st may b s = absurd b
begin_refused w q (table.EdgeChanged i) g is t u v st may b s = absurd b
begin_refused w q table.NotInPast g is t u v st may b s = absurd b
begin_refused w q (table.StaleRead i) g is t u v st may b s = absurd b
begin_refused w q table.AcrossProfiles g is t u v st may b s = absurd b
begin_refused w q table.OtherProfile g is t u v st may b s = absurd b

-- ---- finish

finish_at : (w : ℕ) (a : Arc Value Global) (o : OutcomeValue) (t : TableValue) → IsStep t (Finish w o) → arc_value a ≡ o.value → WorkGives t w o.key (Ok a) (adds t (Finish w o))
finish_at w a o t may is =
    let x = Done o.value (keys o.told) Executed in
    let u = adds t (Finish w o) in
    let c : Changes o.key x t u = changes_by t (Finish w o) o.key x may refl in
    let d : IsDoneWith (arc_value a) ((state_of u).at o.key) = subst (λ (y : Status). IsDoneWith (arc_value a) y) (sym c.here) (sym is) in
    (changed_done t u w o.key x c (arc_value a) d, d)

pub finish_done : (w : ℕ) (q : Key) (a : Arc Value Global) (o : OutcomeValue) (x : Unit {0}) → o.key ≡ q → arc_value a ≡ o.value → (t u : TableValue) → FinishGives t w o (Ok x) u → WorkGives t w q (Ok a) u
finish_done w q a o x key is t u f =
    subst (λ (k : Key). WorkGives t w k (Ok a) u) key (subst (λ (y : TableValue). WorkGives t w o.key (Ok a) y) (sym f.1) (finish_at w a o t f.0 is))

not_stale : (s : State) (told : List ReadValue) (i : ℕ) → AreHeld s told → IsFirstStale s told i → ⊥
not_stale s [] i h f = f
not_stale s (r ∷ rs) zero h f = f h.0
not_stale s (r ∷ rs) (suc i) h f = not_stale s rs i h.1 f.1

pub finish_refused : (w : ℕ) (q : Key) (o : OutcomeValue) (f : TableFault) (g : Fault) → o.key ≡ q → IsWorkFault f g → (t u v : TableValue) → o.profile ≡ t.terms.profile → AreHeld (state_of t) o.told → HasStatus (Running w) w q t → FinishGives t w o (Err f) u → WorkerGivesUp u v → WorkGives t w q (Err g) v
finish_refused w q o table.OutOfMemory g key is t u v own held st b s = memory_gives t u v w q g is b.1 s
finish_refused w q o table.Failed g key is t u v own held st b s = absurd (both_ways (state_of t).failed st.failed b.0)
finish_refused w q o table.NotYours g key is t u v own held st b s = absurd (b.1 (ap (state_of t).at key ∙ st.at))
finish_refused w q o (table.StaleRead i) g key is t u v own held st b s = absurd (not_stale (state_of t) o.told i held b.2)
finish_refused w q o table.OtherProfile g key is t u v own held st b s = absurd (b.1 own)
finish_refused w q o (table.EdgeOpen i) g key is t u v own held st b s = absurd b
finish_refused w q o table.NothingChanged g key is t u v own held st b s = absurd b
finish_refused w q o table.OutOfRank g key is t u v own held st b s = absurd b
finish_refused w q o (table.EdgeChanged i) g key is t u v own held st b s = absurd b
finish_refused w q o table.NotInPast g key is t u v own held st b s = absurd b
finish_refused w q o table.AcrossProfiles g key is t u v own held st b s = absurd b

-- ---- a previous edge

below_it : (x : Status) (w : ℕ) (q e : Key) (t : TableValue) → HasStatus x w q t → rank e < rank q → IsBelow (state_of t) w e
below_it x w q e t st lt = λ k h. elim (st.above k h) [
  | inl is ↦ subst (λ (y : Key). rank e < rank y) (sym is) lt
  | inr more ↦ (let below : rank e < rank k = omega (arith, lt, more) in below)
]

pub edge_gives_up : (x : Status) (w : ℕ) (q e : Key) (f : Fault) (t u : TableValue) → HasStatus x w q t → rank e < rank q → EnsureGives t w e (Err f) u → IsGivenUp t w f u × Stays t u
edge_gives_up x w q e fault.Stopped t u st lt h = elim h.2 [
  | inl failed ↦ absurd (both_ways (state_of t).failed st.failed failed)
  | inr own ↦ absurd (own.not_above (below_it x w q e t st lt own.key own.held))
]
edge_gives_up x w q e fault.OutOfMemory t u st lt h = (h.0, h.1)
edge_gives_up x w q e fault.Busy t u st lt h = ((h.0, h.2, h.3), h.1)

-- ---- the effect of a call and then of giving up

pub mark_ok : (w : ℕ) (q : Key) (v : Arc Value Global) (t u : TableValue) → MarkGives t w q (Ok v) u → HasStatus (Claimed w) w q t → walk_in t q ≡ Some AllUnchanged → WorkGives t w q (Ok v) u
mark_ok w q v t u m st all = mark_done w q v t u m

pub mark_ended : (w : ℕ) (q : Key) (f : TableFault) (g : Fault) → IsWorkFault f g → (t u v : TableValue) → MarkGives t w q (Err f) u → WorkerGivesUp u v → HasStatus (Claimed w) w q t → walk_in t q ≡ Some AllUnchanged → WorkGives t w q (Err g) v
mark_ended w q f g is t u v m s st all = mark_refused w q f g is t u v st all m s

pub finish_ok : (w : ℕ) (q : Key) (a : Arc Value Global) (o p : OutcomeValue) (x : Unit {0}) → p ≡ o → o.key ≡ q → arc_value a ≡ o.value → (t u : TableValue) → FinishGives t w p (Ok x) u → HasStatus (Running w) w q t → AreHeld (state_of t) o.told → WorkGives t w q (Ok a) u
finish_ok w q a o p x same key is t u f st held = finish_done w q a o x key is t u (subst (λ (y : OutcomeValue). FinishGives t w y (Ok x) u) same f)

pub finish_ended : (w : ℕ) (q : Key) (o p : OutcomeValue) (f : TableFault) (g : Fault) → p ≡ o → o.key ≡ q → IsWorkFault f g → (t u v : TableValue) → o.profile ≡ t.terms.profile → FinishGives t w p (Err f) u → WorkerGivesUp u v → HasStatus (Running w) w q t → AreHeld (state_of t) o.told → WorkGives t w q (Err g) v
finish_ended w q o p f g same key is t u v own b s st held = finish_refused w q o f g key is t u v own held st (subst (λ (y : OutcomeValue). FinishGives t w y (Err f) u) same b) s

pub stopped_early : (w : ℕ) (q : Key) (told : List ReadValue) (g : Fault) → g ≡ fault.OutOfMemory → (t v : TableValue) → WorkerGivesUp t v → HasStatus (Running w) w q t → AreHeld (state_of t) told → WorkGives t w q (Err g) v
stopped_early w q told g is t v s st held = memory_gives t t v w q g is refl s

pub work_memory : (w : ℕ) (q : Key) (g : Fault) → g ≡ fault.OutOfMemory → (t v : TableValue) → WorkerGivesUp t v → HasStatus (Claimed w) w q t → WorkGives t w q (Err g) v
work_memory w q g is t v s st = memory_gives t t v w q g is refl s

pub start_ok : (w : ℕ) (q : Key) (r : Result (Arc Value Global) Fault) (x : Unit {0}) (t u v : TableValue) → BeginGives t w q (Ok x) u → (HasStatus (Running w) w q u → WorkGives u w q r v) → HasStatus (Claimed w) w q t → MayRun (walk_in t q) → WorkGives t w q r v
start_ok w q r x t u v b work st may = begin_work w q r x t u v st b work

pub start_ended : (w : ℕ) (q : Key) (f : TableFault) (g : Fault) → IsWorkFault f g → (t u v : TableValue) → BeginGives t w q (Err f) u → WorkerGivesUp u v → HasStatus (Claimed w) w q t → MayRun (walk_in t q) → WorkGives t w q (Err g) v
start_ended w q f g is t u v b s st may = begin_refused w q f g is t u v st may b s
