-- The effect of runs and of the evaluations that they need, in their order.
use Rattle.std.proofs.Common.{◌≡◌, ℕ, List, [], ◌∷◌, ◌++◌, refl, sym, ap, subst, Option, Some, None}
use Rattle.std.specs.Prelude.{Result, Ok, Err}
use Rattle.std.specs.declared.alloc.Global.{Global}
use Rattle.std.specs.declared.sync.Arc.{Arc}
use Rattle.std.specs.Arc.{arc_value}
use Rattle.item_ids.specs.declared.key.Key.{Key}
use Rattle.item_ids.specs.Inputs.{rank}
use Rattle.result_bytes.specs.declared.value.Value.{Value}
use Rattle.recorder.specs.Backed.{ReadValue}
use Rattle.recorder.specs.Runs.{OutcomeValue}
use Rattle.graph_rules.specs.Steps.{Claimed, Running, MayRun, AreHeld}
use Rattle.job_table.specs.Tables.{TableValue, state_of}
use Rattle.job_table.specs.Calls.{BeginGives, walk_in}
use Rattle.job_table.specs.declared.fault.TableFault.{TableFault}
use Rattle.mark_green.specs.declared.fault.Fault.{Fault}
use Rattle.mark_green.specs.declared.fault.Fault.TheVariants as fault
use Rattle.mark_green.specs.declared.asking.RunStop.{RunStop}
use Rattle.mark_green.specs.declared.asking.RunStop.TheVariants as stop
use Rattle.mark_green.specs.Leaves.{Knows, KnowsChange, WorkerGivesUp, LeavesClaims, HasStatus}
use Rattle.mark_green.specs.Ensures.{WorkGives, FetchGives, TurnGives, RunGives, IsWorkFault, IsFaultOfStop, StopsFor}
use Rattle.mark_green.specs.Moves.{HaltsAtRead}
use Rattle.mark_green.proofs.GoingOn.{leaves_none, change_map, change_then, change_here}
use Rattle.mark_green.proofs.Calling.{work_memory, start_ok, start_ended}
use Rattle.mark_green.proofs.Running.{stop_gives_up, fetched, work_held, work_lost, turns_none, turns_more, turns_up, turns_end, turns_ended}

-- ---- a key that a run lacked

-- evaluating a claimed key, by the tables before and after
abbrev pub Works : ℕ → Key → Result (Arc Value Global) Fault → Option TableValue → Option TableValue → Type 0
Works w q r a b = KnowsChange (λ t u. HasStatus (Claimed w) w q t → WorkGives t w q r u) a b

abbrev pub Fetches : ℕ → Key → Result (Unit {0}) Fault → List ReadValue → List ReadValue → Option TableValue → Option TableValue → Type 0
Fetches w k r old new a b = KnowsChange (λ t u. HasStatus (Claimed w) w k t → AreHeld (state_of t) old → FetchGives t w k r new u) a b

module _ (w : ℕ) (k : Key) (old new : List ReadValue) where
  pub fetch_ok : (v : Arc Value Global) → new ≡ old ++ record { key = k; value = arc_value v } ∷ [] → (x : Unit {0}) → (a b : Option TableValue) → Works w k (Ok v) a b → Fetches w k (Ok x) old new a b
  fetch_ok v is x a b h = change_map _ _ (work_held w k v old new is x) a b h

  pub fetch_lost : (v : Arc Value Global) (g : Fault) → g ≡ fault.OutOfMemory → (a b c : Option TableValue) → Works w k (Ok v) a b → KnowsChange WorkerGivesUp b c → Fetches w k (Err g) old new a c
  fetch_lost v g is a b c h s = change_then _ _ _ (λ t u z. work_lost w k v g is old new t u z) a b c h s

  pub fetch_up : (f : Fault) (a b : Option TableValue) → Works w k (Err f) a b → Fetches w k (Err f) old new a b
  fetch_up f a b h = change_map _ _ (λ t u work st all. work st) a b h

-- ---- one turn

abbrev fault_in : Result (Unit {0}) Fault → Fault
fault_in (Ok x) = fault.Stopped
fault_in (Err f) = f

abbrev no_turn : Fault → Result (Option OutcomeValue) Fault
no_turn f = Err f

abbrev pub Turns : ℕ → Key → Result (Option OutcomeValue) Fault → List ReadValue → List ReadValue → Option TableValue → Option TableValue → Type 0
Turns w q r old new a b = KnowsChange (λ t u. HasStatus (Running w) w q t → AreHeld (state_of t) old → TurnGives t w q r new u) a b

ran_here : (w : ℕ) (q : Key) (o : OutcomeValue) (old new : List ReadValue) (a : Option TableValue)
    → (Knows (λ t. AreHeld (state_of t) old) a → Knows (λ t. AreHeld (state_of t) o.told) a) → Turns w q (Ok (Some o)) old new a a
ran_here w q o old new None h = tt
ran_here w q o old new (Some t) h = λ st all. (leaves_none t, h all)

module _ (w : ℕ) (q : Key) (old new : List ReadValue) where
  pub turn_ran : (o : OutcomeValue) (a b : Option TableValue) → b ≡ a
      → (Knows (λ t. AreHeld (state_of t) old) a → Knows (λ t. AreHeld (state_of t) o.told) a) → Turns w q (Ok (Some o)) old new a b
  turn_ran o a b same told = subst (λ (x : Option TableValue). Turns w q (Ok (Some o)) old new a x) (sym same) (ran_here w q o old new a told)

  pub turn_stopped : (x : RunStop) (g : Fault) → IsFaultOfStop x g → (a b c : Option TableValue) → HaltsAtRead w (rank q) x a b → KnowsChange (StopsFor x) b c → Turns w q (Err g) old new a c
  turn_stopped x g is a b c h s = change_then _ _ _ (λ t u v p f st all. stop_gives_up w q x g is t u v p f st) a b c h.1 s

  pub turn_more : (k : Key) (x : Unit {0}) (a b c : Option TableValue) → HaltsAtRead w (rank q) (stop.Lacks k) a b → Fetches w k (Ok x) old new b c → Turns w q (Ok None) old new a c
  turn_more k x a b c h f = change_then _ _ _ (λ t u v p g st all. fetched w q k (Ok x) old new (Ok None) (λ y e. refl) (λ y e. absurd (is_ok x y e)) t u v p g st all) a b c h.1 f
    where
      is_ok : (x : Unit {0}) (y : Fault) → Ok x ≡ Err y → ⊥
      is_ok x y e = cc

  pub turn_up : (k : Key) (g : Fault) (a b c : Option TableValue) → HaltsAtRead w (rank q) (stop.Lacks k) a b → Fetches w k (Err g) old new b c → Turns w q (Err g) old new a c
  turn_up k g a b c h f = change_then _ _ _ (λ t u v p y st all. fetched w q k (Err g) old new (Err g) (λ x e. absurd (is_err x g e)) (λ x e. ap no_turn (ap fault_in e)) t u v p y st all) a b c h.1 f
    where
      is_err : (x : Unit {0}) (g : Fault) → Err g ≡ Ok x → ⊥
      is_err x g e = cc

-- ---- turns

-- so far the key runs, and these results are held
abbrev pub Holds : ℕ → Key → List ReadValue → Option TableValue → Option TableValue → Type 0
Holds w q held a b = KnowsChange (λ t u. HasStatus (Running w) w q t → LeavesClaims t u × AreHeld (state_of u) held) a b

abbrev pub Ends : ℕ → Key → Result OutcomeValue Fault → Option TableValue → Option TableValue → Type 0
Ends w q r a b = KnowsChange (λ t u. HasStatus (Running w) w q t → RunGives t w r u) a b

module _ (w : ℕ) (q : Key) where
  pub holds_none : (held : List ReadValue) → held ≡ [] → (a : Option TableValue) → Holds w q held a a
  holds_none held none a = subst (λ (l : List ReadValue). Holds w q l a a) (sym none) (change_here _ (turns_none w q) a)

  module _ (old new : List ReadValue) (a b c : Option TableValue) (so : Holds w q old a b) where
    pub holds_more : Turns w q (Ok None) old new b c → Holds w q new a c
    holds_more h = change_then _ _ _ (turns_more w q old new) a b c so h

    pub ends_ok : (o : OutcomeValue) → Turns w q (Ok (Some o)) old new b c → Ends w q (Ok o) a c
    ends_ok o h = change_then _ _ _ (turns_end w q o old new) a b c so h

    pub ends_up : (f : Fault) → Turns w q (Err f) old new b c → Ends w q (Err f) a c
    ends_up f h = change_then _ _ _ (turns_up w q f old new) a b c so h

-- ---- a run and its beginning

abbrev pub Runs : ℕ → Key → Result (Arc Value Global) Fault → Option TableValue → Option TableValue → Type 0
Runs w q r a b = KnowsChange (λ t u. HasStatus (Running w) w q t → WorkGives t w q r u) a b

-- a claimed key that may run
abbrev pub Starts : ℕ → Key → Result (Arc Value Global) Fault → Option TableValue → Option TableValue → Type 0
Starts w q r a b = KnowsChange (λ t u. HasStatus (Claimed w) w q t → MayRun (walk_in t q) → WorkGives t w q r u) a b

abbrev pub Begins : ℕ → Key → Result (Unit {0}) TableFault → Option TableValue → Option TableValue → Type 0
Begins w q r a b = KnowsChange (λ t u. BeginGives t w q r u) a b

module _ (w : ℕ) (q : Key) (r : Result (Arc Value Global) Fault) where
  pub run_ended : (o : OutcomeValue) (a b c : Option TableValue) → Ends w q (Ok o) a b → KnowsChange (λ t u. HasStatus (Running w) w q t → AreHeld (state_of t) o.told → WorkGives t w q r u) b c → Runs w q r a c
  run_ended o a b c so h = change_then _ _ _ (turns_ended w q o.told r) a b c so h

  pub start_run : (x : Unit {0}) (a b c : Option TableValue) → KnowsChange (λ t u. BeginGives t w q (Ok x) u) a b → Runs w q r b c → Starts w q r a c
  start_run x a b c begun h = change_then _ _ _ (start_ok w q r x) a b c begun h

module _ (w : ℕ) (q : Key) where
  pub run_up : (f : Fault) (a b : Option TableValue) → Ends w q (Err f) a b → Runs w q (Err f) a b
  run_up f a b h = change_map _ _ (λ t u so st. (let e = so st in (e.0, λ k a n is. e.1 k a is))) a b h

  pub start_refused : (f : TableFault) (g : Fault) → IsWorkFault f g → (a b c : Option TableValue) → KnowsChange (λ t u. BeginGives t w q (Err f) u) a b → KnowsChange WorkerGivesUp b c → Starts w q (Err g) a c
  start_refused f g is a b c begun s = change_then _ _ _ (start_ended w q f g is) a b c begun s

  pub start_lost : (g : Fault) → g ≡ fault.OutOfMemory → (a b : Option TableValue) → KnowsChange WorkerGivesUp a b → Starts w q (Err g) a b
  start_lost g is a b s = change_map _ _ (λ t u stops st may. work_memory w q g is t u stops st) a b s
