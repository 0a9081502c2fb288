-- The effect of runs.
use Rattle.std.proofs.Common.{◌≡◌, ℕ, ◌<◌, List, [], ◌∷◌, ◌++◌, refl, sym, ap, ◌∙◌, subst, false, Option, Some, None, arith, inl, inr, ◌⊎◌, Contains}
use Rattle.std.specs.Prelude.{Result, Ok, Err}
use Rattle.std.specs.List.{AllByRecursion}
use Rattle.std.proofs.lemmas.List.Elements.{All-contains, All-from_recursion}
use Rattle.std.specs.declared.alloc.Global.{Global}
use Rattle.std.specs.declared.sync.Arc.{Arc}
use Rattle.std.specs.Arc.{arc_value}
use Rattle.std.proofs.lemmas.Bool.{both_ways}
use Rattle.item_ids.specs.declared.key.Key.{Key}
use Rattle.item_ids.specs.Inputs.{rank}
use Rattle.result_bytes.specs.declared.value.Value.{Value}
use Rattle.recorder.specs.Backed.{ReadValue}
use Rattle.recorder.specs.Runs.{OutcomeValue}
use Rattle.graph_rules.specs.Steps.{Claimed, Running, State, IsBelow, IsDoneWith, AreHeld}
use Rattle.job_table.specs.Tables.{TableValue, state_of, IsStep, adds}
use Rattle.job_table.specs.Calls.{AskGives}
use Rattle.job_table.specs.declared.fault.Asked.{Asked}
use Rattle.job_table.specs.declared.fault.Asked.TheVariants as asked
use Rattle.job_table.specs.declared.fault.TableFault.{TableFault}
use Rattle.job_table.specs.declared.fault.TableFault.TheVariants as table
use Rattle.graph_rules.specs.Steps.{Claim}
use Rattle.mark_green.specs.declared.fault.Fault.{Fault}
use Rattle.mark_green.specs.declared.fault.Fault.TheVariants as fault
use Rattle.mark_green.specs.declared.asking.RunStop.{RunStop}
use Rattle.mark_green.specs.declared.asking.RunStop.TheVariants as stop
use Rattle.mark_green.specs.Leaves.{Knows, KnowsChange, GoesOn, Stays, WorkerGivesUp, LeavesClaims, HasStatus}
use Rattle.mark_green.specs.Ensures.{IsGivenUp, WorkGives, FetchGives, TurnGives, RunGives, IsWorkFault, IsFaultOfStop, StopsFor}
use Rattle.mark_green.specs.Moves.{IsDoneIn, StopGives, HaltsAtRead, Moves}
use Rattle.mark_green.proofs.GoingOn.{on_none, on_one, stops_then, stays_up, stays_same, changed_others, changed_leaves, changed_stays, changed_stands, leaves_none, leaves_then, leaves_gives_up, leaves_work, stands_on, gives_up_on, held_on, change_here}
use Rattle.mark_green.proofs.Calling.{claim_changes, ask_others}

-- ---- one read

-- an answer that changes nothing
abbrev pub IsQuiet : Asked → Type 0
IsQuiet asked.Yours = ⊥
IsQuiet _ = Unit {0}

quiet_on : (t u : TableValue) → u ≡ t → GoesOn t u
quiet_on t u e = subst (λ (x : TableValue). GoesOn t x) (sym e) (on_none t)

failed_same : (t u : TableValue) → u ≡ t → (state_of u).failed ≡ (state_of t).failed
failed_same t u e = ap (λ (x : TableValue). (state_of x).failed) e

pub read_done : (w : ℕ) (q : Key) (v : Arc Value Global) (t u : TableValue) → AskGives t w q (Ok (asked.Done v)) u → (u ≡ t) × IsDoneIn q (arc_value v) u
read_done w q v t u a = (a.2, subst (λ (x : TableValue). IsDoneIn q (arc_value v) x) (sym a.2) a.1)

pub same_tables : (w : ℕ) (q : Key) (v : Arc Value Global) (a b : Option TableValue) → KnowsChange (λ t u. AskGives t w q (Ok (asked.Done v)) u) a b → b ≡ a
same_tables w q v None None h = refl
same_tables w q v None (Some u) h = absurd h
same_tables w q v (Some t) None h = absurd h
same_tables w q v (Some t) (Some u) h = ap Some h.2

pub done_tables : (w : ℕ) (q : Key) (v : Arc Value Global) (a b : Option TableValue) → KnowsChange (λ t u. AskGives t w q (Ok (asked.Done v)) u) a b → Knows (IsDoneIn q (arc_value v)) b
done_tables w q v None None h = tt
done_tables w q v None (Some u) h = absurd h
done_tables w q v (Some t) None h = absurd h
done_tables w q v (Some t) (Some u) h = (read_done w q v t u h).1

claim_on : (w : ℕ) (q : Key) (t u : TableValue) → AskGives t w q (Ok asked.Yours) u → GoesOn t u
claim_on w q t u a = subst (λ (x : TableValue). GoesOn t x) (sym a.1) (on_one t (Claim w q) a.0)

claim_failed : (w : ℕ) (q : Key) (t u : TableValue) → AskGives t w q (Ok asked.Yours) u → (state_of u).failed ≡ (state_of t).failed
claim_failed w q t u a = failed_same (adds t (Claim w q)) u a.1 ∙ (claim_changes t w q a.0).failed

pub reads_lacks : (w r : ℕ) (q : Key) (t u : TableValue) → AskGives t w q (Ok asked.Yours) u → GoesOn t u × StopGives t w r (stop.Lacks q) u
reads_lacks w r q t u a = (claim_on w q t u a, a)

-- a claim takes nothing from anybody
claim_stays : (w : ℕ) (q : Key) (t u : TableValue) → AskGives t w q (Ok asked.Yours) u → Stays t u
claim_stays w q t u a =
    let c = claim_changes t w q a.0 in
    subst (λ (x : TableValue). Stays t x) (sym a.1) (changed_stays t (adds t (Claim w q)) w q (Claimed w) c (adds t (Claim w q)) a.0.1 (λ k v n h. refl))

pub reads_lost : (w r : ℕ) (q : Key) (t u : TableValue) → AskGives t w q (Ok asked.Yours) u → GoesOn t u × StopGives t w r stop.OutOfMemory u
reads_lost w r q t u a = (claim_on w q t u a, (claim_failed w q t u a, claim_stays w q t u a))

pub reads_busy : (w r : ℕ) (q : Key) (t u : TableValue) → AskGives t w q (Ok asked.Busy) u → GoesOn t u × StopGives t w r stop.Busy u
reads_busy w r q t u a = (quiet_on t u a.3, (q, a))

pub reads_stopped : (w r : ℕ) (q : Key) (t u : TableValue) → AskGives t w q (Ok asked.Stopped) u → GoesOn t u × StopGives t w r stop.Stopped u
reads_stopped w r q t u a = (quiet_on t u a.1, (q, a))

pub reads_memory : (w r : ℕ) (q : Key) (t u : TableValue) → AskGives t w q (Err table.OutOfMemory) u → GoesOn t u × StopGives t w r stop.OutOfMemory u
reads_memory w r q t u a = (quiet_on t u a.2, (failed_same t u a.2, stays_same t u a.2))

refused_same : (w : ℕ) (q : Key) (f : TableFault) (t u : TableValue) → AskGives t w q (Err f) u → u ≡ t
refused_same w q table.OutOfMemory t u a = a.2
refused_same w q table.OutOfRank t u a = a.2
refused_same w q table.NotYours t u a = absurd a
refused_same w q (table.EdgeOpen i) t u a = absurd a
refused_same w q (table.EdgeChanged i) t u a = absurd a
refused_same w q table.NotInPast t u a = absurd a
refused_same w q table.NothingChanged t u a = absurd a
refused_same w q (table.StaleRead i) t u a = absurd a
refused_same w q table.AcrossProfiles t u a = absurd a
refused_same w q table.OtherProfile t u a = absurd a
refused_same w q table.Failed t u a = absurd a

pub reads_refused : (w r : ℕ) (q : Key) (f : TableFault) → rank q < r → (t u : TableValue) → AskGives t w q (Err f) u → GoesOn t u × StopGives t w r (stop.Refused f) u
reads_refused w r q f lt t u a = (quiet_on t u (refused_same w q f t u a), (q, lt, a))

-- ---- a run

pub run_same : (w r : ℕ) (a b : Option TableValue) → Moves w r None None a b → b ≡ a
run_same w r a b (inl h) = h.1
run_same w r a b (inr h) = absurd h.1

pub run_halts : (w r : ℕ) (x : RunStop) (a b : Option TableValue) → Moves w r None (Some x) a b → HaltsAtRead w r x a b
run_halts w r x a b (inl h) = absurd (no_stop x h.0)
  where
    no_stop : (x : RunStop) → Some x ≡ None → ⊥
    no_stop x e = cc
run_halts w r x a b (inr h) = h.1

pub run_memory : (w r : ℕ) (a b : Option TableValue) → Moves w r None None a b → HaltsAtRead w r stop.OutOfMemory a b
run_memory w r a b m =
    subst (λ (o : Option TableValue). HaltsAtRead w r stop.OutOfMemory a o) (sym (run_same w r a b m))
    (tt, change_here (λ t u. GoesOn t u × StopGives t w r stop.OutOfMemory u) (λ t. (on_none t, (refl, stays_same t t refl))) a)

pub told_in : (s : State) (held : List ReadValue) (q : Key) (v : Value) → AreHeld s held → Contains held (record { key = q; value = v }) → IsDoneWith v (s.at q)
told_in s held q v all c = All-contains (λ (r : ReadValue). IsDoneWith r.value (s.at r.key)) held (record { key = q; value = v }) (All-from_recursion (λ (r : ReadValue). IsDoneWith r.value (s.at r.key)) held all) c

pub told_held : (held : List ReadValue) (t : TableValue) → AreHeld (state_of t) held → (told : List ReadValue)
    → AllByRecursion (λ r. IsDoneIn r.key r.value t ⊎ Contains held (record { key = r.key; value = r.value })) told
    → AreHeld (state_of t) told
told_held held t all [] h = tt
told_held held t all (r ∷ rs) h = (
  elim h.0 [
    | inl d ↦ d
    | inr c ↦ told_in (state_of t) held r.key r.value all c
  ],
  told_held held t all rs h.1,
)

pub told_knows : (held : List ReadValue) (a : Option TableValue) → Knows (λ t. AreHeld (state_of t) held) a → (told : List ReadValue)
    → AllByRecursion (λ r. Knows (IsDoneIn r.key r.value) a ⊎ Contains held (record { key = r.key; value = r.value })) told
    → Knows (λ t. AreHeld (state_of t) told) a
told_knows held None k told h = tt
told_knows held (Some t) k told h = told_held held t k told h

-- ---- a run that stopped

pub halts_held : (w r : ℕ) (x : RunStop) (held : List ReadValue) (a b : Option TableValue) → HaltsAtRead w r x a b → Knows (λ t. AreHeld (state_of t) held) a → Knows (λ t. AreHeld (state_of t) held) b
halts_held w r x held None None h k = tt
halts_held w r x held None (Some u) h k = absurd h.1
halts_held w r x held (Some t) None h k = absurd h.1
halts_held w r x held (Some t) (Some u) h k = held_on t u h.1.0 held k

below_run : (w : ℕ) (q k : Key) (t : TableValue) → HasStatus (Running w) w q t → rank k < rank q → IsBelow (state_of t) w k
below_run w q k t st lt = λ j h. elim (st.above j h) [
  | inl is ↦ subst (λ (y : Key). rank k < rank y) (sym is) lt
  | inr more ↦ (let below : rank k < rank j = omega (arith, lt, more) in below)
]

refused_gives_up : (w : ℕ) (q k : Key) (f : TableFault) (g : Fault) → IsWorkFault f g → (t u v : TableValue) → HasStatus (Running w) w q t → rank k < rank q → AskGives t w k (Err f) u → GoesOn t u → WorkerGivesUp u v → IsGivenUp t w g v × Stays t v
refused_gives_up w q k table.OutOfMemory g is t u v st lt a on s = (subst (λ (x : Fault). IsGivenUp t w x v) (sym is) (stops_then t u v on s.stops), stays_up t u v (stays_same t u a.2) s)
refused_gives_up w q k table.OutOfRank g is t u v st lt a on s = absurd (a.1.not_above (below_run w q k t st lt a.1.key a.1.held))
refused_gives_up w q k table.NotYours g is t u v st lt a on s = absurd a
refused_gives_up w q k (table.EdgeOpen i) g is t u v st lt a on s = absurd a
refused_gives_up w q k (table.EdgeChanged i) g is t u v st lt a on s = absurd a
refused_gives_up w q k table.NotInPast g is t u v st lt a on s = absurd a
refused_gives_up w q k table.NothingChanged g is t u v st lt a on s = absurd a
refused_gives_up w q k (table.StaleRead i) g is t u v st lt a on s = absurd a
refused_gives_up w q k table.AcrossProfiles g is t u v st lt a on s = absurd a
refused_gives_up w q k table.OtherProfile g is t u v st lt a on s = absurd a
refused_gives_up w q k table.Failed g is t u v st lt a on s = absurd a

busy_gives_up : (w : ℕ) (k : Key) (g : Fault) → g ≡ fault.Busy → (t u v : TableValue) → AskGives t w k (Ok asked.Busy) u → v ≡ u → IsGivenUp t w g v × Stays t v
busy_gives_up w k g is t u v a e = (
  subst (λ (x : Fault). IsGivenUp t w x v) (sym is) (subst (λ (x : TableValue). IsGivenUp t w fault.Busy x) (sym (e ∙ a.3)) (on_none t, a.0.0, ask_others w k t u a)),
  stays_same t v (e ∙ a.3),
)

pub stop_gives_up : (w : ℕ) (q : Key) (x : RunStop) (g : Fault) → IsFaultOfStop x g → (t u v : TableValue) → GoesOn t u × StopGives t w (rank q) x u → StopsFor x u v → HasStatus (Running w) w q t → IsGivenUp t w g v × Stays t v
stop_gives_up w q (stop.Lacks k) g is t u v h s st = (subst (λ (y : Fault). IsGivenUp t w y v) (sym is) (stops_then t u v h.0 s.stops), stays_up t u v (claim_stays w k t u h.1) s)
stop_gives_up w q stop.Busy g is t u v h s st = busy_gives_up w h.1.0 g is t u v h.1.1 s
stop_gives_up w q stop.Stopped g is t u v h s st = absurd (both_ways (state_of t).failed st.failed h.1.1.0)
stop_gives_up w q (stop.Refused f) g is t u v h s st = refused_gives_up w q h.1.0 f g is t u v st h.1.1 h.1.2 h.0 s
stop_gives_up w q stop.OutOfMemory g is t u v h s st = (subst (λ (y : Fault). IsGivenUp t w y v) (sym is) (stops_then t u v h.0 s.stops), stays_up t u v h.1.1 s)

-- ---- a key that a run lacked

fetched_at : (w : ℕ) (q k : Key) (r : Result (Unit {0}) Fault) (held : List ReadValue) (t v : TableValue) → HasStatus (Running w) w q t → IsStep t (Claim w k)
    → FetchGives (adds t (Claim w k)) w k r held v → (o : Result (Option OutcomeValue) Fault)
    → ((x : Unit {0}) → r ≡ Ok x → o ≡ Ok None) → ((f : Fault) → r ≡ Err f → o ≡ Err f) → TurnGives t w q o held v
fetched_at w q k (Ok x) held t v st may h o ok err =
    let c = claim_changes t w k may in
    let l : LeavesClaims t v = changed_leaves t (adds t (Claim w k)) w k (Claimed w) c v h.1.0 may.1 h.0 h.1.1 in
    subst (λ (y : Result (Option OutcomeValue) Fault). TurnGives t w q y held v) (sym (ok x refl)) (l, h.2)
fetched_at w q k (Err f) held t v st may h o ok err =
    let c = claim_changes t w k may in
    let g : IsGivenUp t w f v = gives_up_on t (adds t (Claim w k)) v w f c.goes_on (changed_others t (adds t (Claim w k)) w k (Claimed w) c refl) h.0 in
    let s : Stays t v = changed_stays t (adds t (Claim w k)) w k (Claimed w) c v may.1 h.1 in
    subst (λ (y : Result (Option OutcomeValue) Fault). TurnGives t w q y held v) (sym (err f refl)) (g, s)

pub claimed_stands : (w : ℕ) (q k : Key) (t : TableValue) → (state_of t).failed ≡ false → IsStep t (Claim w k) → HasStatus (Claimed w) w k (adds t (Claim w k))
claimed_stands w q k t nf may = changed_stands t (adds t (Claim w k)) w k (Claimed w) (claim_changes t w k may) nf refl (λ j n h. may.2 j h)

pub fetched : (w : ℕ) (q k : Key) (r : Result (Unit {0}) Fault) (old held : List ReadValue) (o : Result (Option OutcomeValue) Fault)
    → ((x : Unit {0}) → r ≡ Ok x → o ≡ Ok None) → ((f : Fault) → r ≡ Err f → o ≡ Err f)
    → (t u v : TableValue) → GoesOn t u × StopGives t w (rank q) (stop.Lacks k) u → (HasStatus (Claimed w) w k u → AreHeld (state_of u) old → FetchGives u w k r held v)
    → HasStatus (Running w) w q t → AreHeld (state_of t) old → TurnGives t w q o held v
fetched w q k r old held o ok err t u v h f st all =
    let a = h.1 in
    let there = held_on t u h.0 old all in
    let moved = subst (λ (x : TableValue). HasStatus (Claimed w) w k x → AreHeld (state_of x) old → FetchGives x w k r held v) a.1 f in
    let here = subst (λ (x : TableValue). AreHeld (state_of x) old) a.1 there in
    fetched_at w q k r held t v st a.0 (moved (claimed_stands w q k t st.failed a.0) here) o ok err

-- ---- results held

one_more : (s : State) (held : List ReadValue) (k : Key) (v : Value) → AreHeld s held → IsDoneWith v (s.at k) → AreHeld s (held ++ record { key = k; value = v } ∷ [])
one_more s [] k v all d = (d, tt)
one_more s (r ∷ rs) k v all d = (all.0, one_more s rs k v all.1 d)

pub work_held : (w : ℕ) (k : Key) (v : Arc Value Global) (old new : List ReadValue) → new ≡ old ++ record { key = k; value = arc_value v } ∷ [] → (x : Unit {0}) → (t u : TableValue) → (HasStatus (Claimed w) w k t → WorkGives t w k (Ok v) u) → HasStatus (Claimed w) w k t → AreHeld (state_of t) old → FetchGives t w k (Ok x) new u
work_held w k v old new is x t u work st all =
    let h = work st in (
      h.0,
      (arc_value v, h.1),
      subst (λ (l : List ReadValue). AreHeld (state_of u) l) (sym is) (one_more (state_of u) old k (arc_value v) (held_on t u h.0.goes_on old all) h.1),
    )

pub work_lost : (w : ℕ) (k : Key) (v : Arc Value Global) (g : Fault) → g ≡ fault.OutOfMemory → (old held : List ReadValue) → (t u z : TableValue) → (HasStatus (Claimed w) w k t → WorkGives t w k (Ok v) u) → WorkerGivesUp u z → HasStatus (Claimed w) w k t → AreHeld (state_of t) old → FetchGives t w k (Err g) held z
work_lost w k v g is old held t u z work s st all =
    let l = (work st).0 in
    (subst (λ (x : Fault). IsGivenUp t w x z) (sym is) (stops_then t u z l.goes_on s.stops), λ j a n h. s.same j ∙ l.stays j a n h)

-- ---- runs, one after the other

pub turns_none : (w : ℕ) (q : Key) (t : TableValue) → HasStatus (Running w) w q t → LeavesClaims t t × AreHeld (state_of t) []
turns_none w q t st = (leaves_none t, tt)

pub turns_more : (w : ℕ) (q : Key) (old new : List ReadValue) (t u v : TableValue) → (HasStatus (Running w) w q t → LeavesClaims t u × AreHeld (state_of u) old) → (HasStatus (Running w) w q u → AreHeld (state_of u) old → TurnGives u w q (Ok None) new v) → HasStatus (Running w) w q t → LeavesClaims t v × AreHeld (state_of v) new
turns_more w q old new t u v so h st =
    let l = so st in
    let m = h (stands_on (Running w) w q t u l.0 st) l.1 in
    (leaves_then t u v l.0 m.0, m.1)

pub turns_up : (w : ℕ) (q : Key) (f : Fault) (old new : List ReadValue) (t u v : TableValue) → (HasStatus (Running w) w q t → LeavesClaims t u × AreHeld (state_of u) old) → (HasStatus (Running w) w q u → AreHeld (state_of u) old → TurnGives u w q (Err f) new v) → HasStatus (Running w) w q t → RunGives t w (Err f) v
turns_up w q f old new t u v so h st =
    let l = so st in leaves_gives_up t u v w f l.0 (h (stands_on (Running w) w q t u l.0 st) l.1)

pub turns_end : (w : ℕ) (q : Key) (o : OutcomeValue) (old new : List ReadValue) (t u v : TableValue) → (HasStatus (Running w) w q t → LeavesClaims t u × AreHeld (state_of u) old) → (HasStatus (Running w) w q u → AreHeld (state_of u) old → TurnGives u w q (Ok (Some o)) new v) → HasStatus (Running w) w q t → LeavesClaims t v × AreHeld (state_of v) o.told
turns_end w q o old new t u v so h st =
    let l = so st in
    let m = h (stands_on (Running w) w q t u l.0 st) l.1 in
    (leaves_then t u v l.0 m.0, m.1)

pub turns_ended : (w : ℕ) (q : Key) (told : List ReadValue) (r : Result (Arc Value Global) Fault) (t v z : TableValue) → (HasStatus (Running w) w q t → LeavesClaims t v × AreHeld (state_of v) told) → (HasStatus (Running w) w q v → AreHeld (state_of v) told → WorkGives v w q r z) → HasStatus (Running w) w q t → WorkGives t w q r z
turns_ended w q told r t v z so e st =
    let l = so st in leaves_work t v z w q r l.0 (e (stands_on (Running w) w q t v l.0 st) l.1)
