-- Histories that go on, one after the other.
use Rattle.std.proofs.Common.{◌≡◌, ◌≢◌, ℕ, ◌<◌, List, [], ◌∷◌, ◌++◌, refl, sym, ap, ◌∙◌, subst, true, false, Option, Some, None, arith, inl, inr, ◌⊎◌}
use Rattle.std.specs.Prelude.{if◌then◌else◌, Result, Ok, Err}
use Rattle.std.proofs.lemmas.List.{append-nil, append_assoc}
use Rattle.std.specs.declared.alloc.Global.{Global}
use Rattle.std.specs.declared.sync.Arc.{Arc}
use Rattle.std.specs.Arc.{arc_value}
use Rattle.item_ids.specs.declared.key.Key.{Key}
use Rattle.item_ids.specs.Inputs.{rank}
use Rattle.result_bytes.specs.declared.value.Value.{Value}
use Rattle.recorder.specs.Backed.{ReadValue}
use Rattle.graph_rules.specs.Keys.{same_key}
use Rattle.graph_rules.specs.Settings.{Setting}
use Rattle.graph_rules.specs.Steps.{Status, Unknown, Claimed, Running, Done, State, Event, AreSteps, after, with_status, opening, IsHeldBy, IsDoneWith, AreHeld}
use Rattle.graph_rules.proofs.KeyRules.{same_refl, same_is}
use Rattle.graph_rules.proofs.Orders.{steps_append, after_all_append}
use Rattle.graph_rules.proofs.Keeping.{held_keeps}
use Rattle.job_table.specs.Tables.{TableValue, past_of, state_of, IsStep, adds}
use Rattle.mark_green.specs.declared.fault.Fault.{Fault}
use Rattle.mark_green.specs.declared.fault.Fault.TheVariants as fault
use Rattle.mark_green.specs.Leaves.{Knows, KnowsChange, GoesOn, Stops, Stays, StaysBut, WorkerGivesUp, LeavesClaims, LeavesBut, IsOthers, HasStatus}
use Rattle.mark_green.specs.Ensures.{IsGivenUp, WorkGives}
use Rattle.mark_green.specs.Moves.{state_on, keeps_on}

-- ---- what is known of tables

pub change_map : (P Q : TableValue → TableValue → Type 0) → ((t u : TableValue) → P t u → Q t u) → (a b : Option TableValue) → KnowsChange P a b → KnowsChange Q a b
change_map P Q f None None h = tt
change_map P Q f None (Some u) h = h
change_map P Q f (Some t) None h = h
change_map P Q f (Some t) (Some u) h = f t u h

pub change_then : (P Q R : TableValue → TableValue → Type 0) → ((t u v : TableValue) → P t u → Q u v → R t v) → (a b c : Option TableValue) → KnowsChange P a b → KnowsChange Q b c → KnowsChange R a c
change_then P Q R f None None None g h = tt
change_then P Q R f None None (Some v) g h = h
change_then P Q R f None (Some u) c g h = absurd g
change_then P Q R f (Some t) None c g h = absurd g
change_then P Q R f (Some t) (Some u) None g h = absurd h
change_then P Q R f (Some t) (Some u) (Some v) g h = f t u v g h

pub change_here : (P : TableValue → TableValue → Type 0) → ((t : TableValue) → P t t) → (a : Option TableValue) → KnowsChange P a a
change_here P f None = tt
change_here P f (Some t) = f t

-- with what is known of the table before
pub change_with : (K : TableValue → Type 0) (P Q : TableValue → TableValue → Type 0) → ((t u : TableValue) → K t → P t u → Q t u) → (a b : Option TableValue) → Knows K a → KnowsChange P a b → KnowsChange Q a b
change_with K P Q f None None k h = tt
change_with K P Q f None (Some u) k h = h
change_with K P Q f (Some t) None k h = h
change_with K P Q f (Some t) (Some u) k h = f t u k h

pub knows_map : (K L : TableValue → Type 0) → ((t : TableValue) → K t → L t) → (a : Option TableValue) → Knows K a → Knows L a
knows_map K L f None k = tt
knows_map K L f (Some t) k = f t k

-- ---- histories

-- it is worked over the same
pub past_on : (t u : TableValue) → GoesOn t u → past_of u ≡ past_of t
past_on t u g = rw (g.past, g.crossing, g.terms) refl

pub on_none : (t : TableValue) → GoesOn t t
on_none t = record { terms = refl; past = refl; crossing = refl; project = refl; more = []; history = sym (append-nil t.history); steps = tt }

pub on_one : (t : TableValue) (e : Event) → IsStep t e → GoesOn t (adds t e)
on_one t e may = record { terms = refl; past = refl; crossing = refl; project = refl; more = e ∷ []; history = refl; steps = (may, tt) }

pub on_then : (t u v : TableValue) → GoesOn t u → GoesOn u v → GoesOn t v
on_then t u v g h =
    let pasts : past_of u ≡ past_of t = past_on t u g in
    record {
      terms = h.terms ∙ g.terms;
      past = h.past ∙ g.past;
      crossing = h.crossing ∙ g.crossing;
      project = h.project ∙ g.project;
      more = g.more ++ h.more;
      history = h.history ∙ (ap (λ xs. xs ++ h.more) g.history ∙ append_assoc t.history g.more h.more);
      steps = steps_append (past_of t) (state_of t) g.more h.more g.steps
          (subst (λ (s : State). AreSteps (past_of t) s h.more) (state_on t u g) (subst (λ (over : Setting). AreSteps over (state_of u) h.more) pasts h.steps));
    }

pub stops_then : (t u v : TableValue) → GoesOn t u → Stops u v → Stops t v
stops_then t u v g s = record { goes_on = on_then t u v g s.goes_on; failed = s.failed }

pub held_on : (t u : TableValue) → GoesOn t u → (told : List ReadValue) → AreHeld (state_of t) told → AreHeld (state_of u) told
held_on t u g told h = held_keeps (state_of t) (state_of u) (keeps_on t u g) told h

-- ---- one key that stands otherwise

at_here : (s : State) (q : Key) (x : Status) → (with_status s q x).at q ≡ x
at_here s q x = ap (λ b. if b then x else s.at q) (same_refl q)

at_other : (s : State) (q k : Key) (x : Status) → (k ≡ q → ⊥) → (with_status s q x).at k ≡ s.at k
at_other s q k x other =
    (elim (same_key q k) as (λ b. same_key q k ≡ b → (if b then x else s.at k) ≡ s.at k) [
      | true ↦ λ is. absurd (other (sym (same_is q k is)))
      | false ↦ λ is. refl
    ]) refl

-- a key is q, or another
pub which : (q k : Key) → (k ≡ q) ⊎ (k ≡ q → ⊥)
which q k =
    (elim (same_key q k) as (λ b. same_key q k ≡ b → (k ≡ q) ⊎ (k ≡ q → ⊥)) [
      | true ↦ λ is. inl (sym (same_is q k is))
      | false ↦ λ is. inr (λ e. differ (sym is ∙ ap (same_key q) e ∙ same_refl q))
    ]) refl
  where
    differ : false ≡ true → ⊥
    differ e = cc

-- the table continues, and at most one key has another status
pub record Changes (q : Key) (x : Status) (t u : TableValue) : Type 0 where
  pub goes_on : GoesOn t u
  pub failed : (state_of u).failed ≡ (state_of t).failed
  pub here : (state_of u).at q ≡ x
  pub other : (k : Key) → (k ≡ q → ⊥) → (state_of u).at k ≡ (state_of t).at k

pub changes_by : (t : TableValue) (e : Event) (q : Key) (x : Status) → IsStep t e → after (past_of t) (state_of t) e ≡ with_status (state_of t) q x → Changes q x t (adds t e)
changes_by t e q x may is =
    let last : state_of (adds t e) ≡ with_status (state_of t) q x = after_all_append (past_of t) (opening t.project) t.history (e ∷ []) ∙ is in
    record {
      goes_on = on_one t e may;
      failed = ap (λ (s : State). s.failed) last;
      here = ap (λ (s : State). s.at q) last ∙ at_here (state_of t) q x;
      other = λ k n. ap (λ (s : State). s.at k) last ∙ at_other (state_of t) q k x n;
    }

-- ---- what a worker has

self_below : (n : ℕ) → n < n → ⊥
self_below n lt = omega arith

pub done_held : (v : Value) (w : ℕ) (x : Status) → IsDoneWith v x → IsHeldBy w x → ⊥
done_held v w Unknown d h = d
done_held v w (Claimed u) d h = d
done_held v w (Running u) d h = d
done_held v w (Done u es m) d h = h

-- one key has one worker
one_worker : (w u : ℕ) (x : Status) → IsHeldBy w x → IsHeldBy u x → u ≡ w
one_worker w u Unknown h k = absurd h
one_worker w u (Claimed a) h k = sym k ∙ h
one_worker w u (Running a) h k = sym k ∙ h
one_worker w u (Done v es m) h k = absurd h

pub others_back : (t u : TableValue) (w : ℕ) → ((k : Key) (v : ℕ) → IsHeldBy v ((state_of u).at k) → v ≢ w → (state_of u).at k ≡ (state_of t).at k) → IsOthers u w → IsOthers t w
others_back t u w back o = record {
  key = o.key;
  worker = o.worker;
  other = o.other;
  holds = subst (λ (x : Status). IsHeldBy o.worker x) (back o.key o.worker o.holds o.other) o.holds;
}

pub stands_on : (x : Status) (w : ℕ) (q : Key) (t u : TableValue) → LeavesClaims t u → HasStatus x w q t → HasStatus x w q u
stands_on x w q t u l s = record {
  failed = l.failed ∙ s.failed;
  at = l.stays q w (subst (λ (y : Status). IsHeldBy w y) (sym s.at) s.mine) ∙ s.at;
  mine = s.mine;
  above = λ k h. s.above k (subst (λ (y : Status). IsHeldBy w y) (l.held k w h) h);
}

pub leaves_none : (t : TableValue) → LeavesClaims t t
leaves_none t = record { goes_on = on_none t; failed = refl; stays = λ k w h. refl; held = λ k w h. refl }

pub leaves_then : (t u v : TableValue) → LeavesClaims t u → LeavesClaims u v → LeavesClaims t v
leaves_then t u v l m = record {
  goes_on = on_then t u v l.goes_on m.goes_on;
  failed = m.failed ∙ l.failed;
  stays = λ k w h. let e = l.stays k w h in m.stays k w (subst (λ (y : Status). IsHeldBy w y) (sym e) h) ∙ e;
  held = λ k w h. let e = m.held k w h in e ∙ l.held k w (subst (λ (y : Status). IsHeldBy w y) e h);
}

pub gives_up_on : (t u v : TableValue) (w : ℕ) (f : Fault) → GoesOn t u → (IsOthers u w → IsOthers t w) → IsGivenUp u w f v → IsGivenUp t w f v
gives_up_on t u v w fault.Stopped g o h = h
gives_up_on t u v w fault.OutOfMemory g o h = stops_then t u v g h
gives_up_on t u v w fault.Busy g o h = (on_then t u v g h.0, h.1, o h.2)

pub stays_then : (t u v : TableValue) → Stays t u → Stays u v → Stays t v
stays_then t u v s m = λ k w h. let e = s k w h in m k w (subst (λ (y : Status). IsHeldBy w y) (sym e) h) ∙ e

pub stays_but_then : (q : Key) (t u v : TableValue) → Stays t u → StaysBut q u v → StaysBut q t v
stays_but_then q t u v s m = λ k w n h. let e = s k w h in m k w n (subst (λ (y : Status). IsHeldBy w y) (sym e) h) ∙ e

-- what a worker had it has after it gave up, too
pub stays_up : (t u v : TableValue) → Stays t u → WorkerGivesUp u v → Stays t v
stays_up t u v s g = λ k w h. g.same k ∙ s k w h

pub stays_same : (t u : TableValue) → u ≡ t → Stays t u
stays_same t u e = λ k w h. ap (λ (x : TableValue). (state_of x).at k) e

leaves_given_up : (t u v : TableValue) (w : ℕ) (f : Fault) → LeavesClaims t u → IsGivenUp u w f v → IsGivenUp t w f v
leaves_given_up t u v w f l h = gives_up_on t u v w f l.goes_on (others_back t u w (λ k a is n. l.held k a is)) h

pub leaves_gives_up : (t u v : TableValue) (w : ℕ) (f : Fault) → LeavesClaims t u → IsGivenUp u w f v × Stays u v → IsGivenUp t w f v × Stays t v
leaves_gives_up t u v w f l h = (leaves_given_up t u v w f l h.0, stays_then t u v l.stays h.1)

pub leaves_work : (t u v : TableValue) (w : ℕ) (q : Key) (r : Result (Arc Value Global) Fault) → LeavesClaims t u → WorkGives u w q r v → WorkGives t w q r v
leaves_work t u v w q (Ok a) l h = (
  record {
    goes_on = on_then t u v l.goes_on h.0.goes_on;
    failed = h.0.failed ∙ l.failed;
    stays = λ k a n is. let e = l.stays k a is in h.0.stays k a n (subst (λ (y : Status). IsHeldBy a y) (sym e) is) ∙ e;
    held = λ k a is. let e = h.0.held k a is in e ∙ l.held k a (subst (λ (y : Status). IsHeldBy a y) e is);
  },
  h.1,
)
leaves_work t u v w q (Err f) l h = (leaves_given_up t u v w f l h.0, stays_but_then q t u v l.stays h.1)

-- a worker's key that stands otherwise, and is done in the end
module _ (t u : TableValue) (w : ℕ) (q : Key) (x : Status) (c : Changes q x t u) where
  pub changed_others : IsHeldBy w x → IsOthers u w → IsOthers t w
  changed_others mine = others_back t u w (λ k a is n. c.other k (λ e. n (one_worker w a x mine (subst (λ (y : Status). IsHeldBy a y) (ap (state_of u).at e ∙ c.here) is))))

  pub changed_work : (v : TableValue) (r : Result (Arc Value Global) Fault) → IsHeldBy w x → WorkGives u w q r v → WorkGives t w q r v
  changed_work v (Ok a) mine h =
      let not_q : (k : Key) (b : ℕ) → IsHeldBy b ((state_of v).at k) → k ≡ q → ⊥ = λ k b is e. done_held (arc_value a) b ((state_of v).at q) h.1 (subst (λ (y : Key). IsHeldBy b ((state_of v).at y)) e is) in (
        record {
          goes_on = on_then t u v c.goes_on h.0.goes_on;
          failed = h.0.failed ∙ c.failed;
          stays = λ k b n is. let e = c.other k n in h.0.stays k b n (subst (λ (y : Status). IsHeldBy b y) (sym e) is) ∙ e;
          held = λ k b is. h.0.held k b is ∙ c.other k (not_q k b is);
        },
        h.1,
      )
  changed_work v (Err f) mine h = (
    gives_up_on t u v w f c.goes_on (changed_others mine) h.0,
    λ k b n is. let e = c.other k n in h.1 k b n (subst (λ (y : Status). IsHeldBy b y) (sym e) is) ∙ e,
  )

  -- a key that nobody had, while all others stay
  pub changed_stays : (v : TableValue) → (state_of t).at q ≡ Unknown → StaysBut q u v → Stays t v
  changed_stays v was m =
      let was_q : (k : Key) (b : ℕ) → IsHeldBy b ((state_of t).at k) → k ≡ q → ⊥ = λ k b is e. (let f : IsHeldBy b Unknown = subst (λ (y : Status). IsHeldBy b y) (ap (state_of t).at e ∙ was) is in f) in
      λ k b is. let n = was_q k b is in let e = c.other k n in m k b n (subst (λ (y : Status). IsHeldBy b y) (sym e) is) ∙ e

  -- a key that nobody had
  pub changed_leaves : (v : TableValue) (a : Value) → (state_of t).at q ≡ Unknown → LeavesBut q u v → IsDoneWith a ((state_of v).at q) → LeavesClaims t v
  changed_leaves v a was l d =
      let not_q : (k : Key) (b : ℕ) → IsHeldBy b ((state_of v).at k) → k ≡ q → ⊥ = λ k b is e. done_held a b ((state_of v).at q) d (subst (λ (y : Key). IsHeldBy b ((state_of v).at y)) e is) in
      let was_q : (k : Key) (b : ℕ) → IsHeldBy b ((state_of t).at k) → k ≡ q → ⊥ = λ k b is e. (let f : IsHeldBy b Unknown = subst (λ (y : Status). IsHeldBy b y) (ap (state_of t).at e ∙ was) is in f) in
      record {
        goes_on = on_then t u v c.goes_on l.goes_on;
        failed = l.failed ∙ c.failed;
        stays = λ k b is. let n = was_q k b is in let e = c.other k n in l.stays k b n (subst (λ (y : Status). IsHeldBy b y) (sym e) is) ∙ e;
        held = λ k b is. l.held k b is ∙ c.other k (not_q k b is);
      }

  -- a key that is done now
  pub changed_done : (a : Value) → IsDoneWith a ((state_of u).at q) → LeavesBut q t u
  changed_done a d =
      let not_q : (k : Key) (b : ℕ) → IsHeldBy b ((state_of u).at k) → k ≡ q → ⊥ = λ k b is e. done_held a b ((state_of u).at q) d (subst (λ (y : Key). IsHeldBy b ((state_of u).at y)) e is) in
      record {
        goes_on = c.goes_on;
        failed = c.failed;
        stays = λ k b n is. c.other k n;
        held = λ k b is. c.other k (not_q k b is);
      }

  -- the worker's other keys are above
  pub changed_stands : (state_of t).failed ≡ false → IsHeldBy w x → ((k : Key) → (k ≡ q → ⊥) → IsHeldBy w ((state_of t).at k) → rank q < rank k) → HasStatus x w q u
  changed_stands nf mine above = record {
    failed = c.failed ∙ nf;
    at = c.here;
    mine = mine;
    above = λ k is. elim (which q k) [
      | inl e ↦ inl e
      | inr n ↦ inr (above k n (subst (λ (y : Status). IsHeldBy w y) (c.other k n) is))
    ];
  }
