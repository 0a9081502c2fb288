-- A history has enough events for each key that became done in it.
use Rattle.std.proofs.Common.{◌≡◌, ◌≢◌, ℕ, ◌+◌, ◌≤◌, Bool, true, false, List, [], ◌∷◌, map, length, Option, Some, None, refl, sym, ap, subst, ◌∙◌, arith}
use Rattle.std.specs.List.{AllByRecursion}
use Rattle.std.proofs.lemmas.List.Sums.{sum_by-cons}
use Rattle.std.specs.declared.cmp.Ordering.TheVariants.{Less, Equal}
use Rattle.item_ids.specs.declared.key.Key.{Key}
use Rattle.item_ids.specs.Keys.{key_cmp}
use Rattle.item_ids.specs.KeyLists.{NoneTwice}
use Rattle.item_ids.proofs.Apart.{key_itself}
use Rattle.item_ids.proofs.Lists.{all_from}
use Rattle.result_bytes.specs.declared.value.Value.{Value}
use Rattle.recorder.specs.Projects.{Project}
use Rattle.recorder.specs.Backed.{keys}
use Rattle.sessions.specs.declared.mark.Mark.{Mark}
use Rattle.sessions.specs.declared.mark.Mark.TheVariants.{Executed}
use Rattle.sessions.specs.Sessions.{Entry, RecordValue, SessionValue, entries, entry_of}
use Rattle.graph_rules.specs.Graphs.{AreAscendingByKey, AreClosed, IsEntryOf, KeyBefore}
use Rattle.graph_rules.specs.Keys.{same_key, input_of}
use Rattle.graph_rules.specs.Settings.{Setting, kept}
use Rattle.graph_rules.specs.Steps.{Status, Unknown, Claimed, Running, Done, State, Event, Claim, MarkGreen, Begin, Finish, Fail, at_opening, opening, with_status, green, MayStep, AreSteps, Legal, after, after_all, state_after}
use Rattle.graph_rules.proofs.KeyRules.{same_is}
use Rattle.driver.specs.Sessions.{events_for, events_needed}

-- the events that led to how a key stands
abbrev events_at : Status → ℕ
events_at Unknown = 0
events_at (Claimed w) = 1
events_at (Running w) = 2
events_at (Done v es m) = events_for m

-- the same of all these keys
abbrev events_of : State → List Key → ℕ
events_of s [] = 0
events_of s (k ∷ ks) = events_at (s.at k) + events_of s ks

-- ---- one step

module _ (s : State) (q : Key) (x : Status) where
  -- keys that are others stand as they stood
  others_stay : (ks : List Key) → AllByRecursion (λ e. e ≢ q) ks → events_of (with_status s q x) ks ≡ events_of s ks
  others_stay [] h = refl
  others_stay (k ∷ ks) h = at_key (others_stay ks h.1) (same_key q k) refl
    where
      at_key : events_of (with_status s q x) ks ≡ events_of s ks → (b : Bool) → same_key q k ≡ b
          → events_of (with_status s q x) (k ∷ ks) ≡ events_of s (k ∷ ks)
      at_key rest true is = absurd (h.0 (sym (same_is q k is)))
      at_key rest false is = rw (is, rest) refl

  -- a key that stands one event further is one event more
  one_further : events_at x ≤ events_at (s.at q) + 1 → (ks : List Key) → NoneTwice (λ k. k) ks
      → events_of (with_status s q x) ks ≤ events_of s ks + 1
  one_further step [] once = omega arith
  one_further step (k ∷ ks) once = at_key (one_further step ks once.1) (same_key q k) refl
    where
      at_key : events_of (with_status s q x) ks ≤ events_of s ks + 1 → (b : Bool) → same_key q k ≡ b
          → events_of (with_status s q x) (k ∷ ks) ≤ events_of s (k ∷ ks) + 1
      at_key more true is =
          let same : q ≡ k = same_is q k is in
          let rest : events_of (with_status s q x) ks ≡ events_of s ks =
          others_stay ks (subst (λ (z : Key). AllByRecursion (λ e. e ≢ z) ks) (sym same) once.0) in
          let here : events_at (s.at q) ≡ events_at (s.at k) = ap (λ (z : Key). events_at (s.at z)) same in
          rw is (omega (arith, step, rest, here))
      at_key more false is = rw is (omega (arith, more))

green_further : (r : Option Entry) → events_at (green r) ≤ 2
green_further None = omega arith
green_further (Some r) = omega arith

step_further : (over : Setting) (s : State) (e : Event) → MayStep over s e → (ks : List Key) → NoneTwice (λ k. k) ks
    → events_of (after over s e) ks ≤ events_of s ks + 1
step_further over s (Claim w q) may ks once = one_further s q (Claimed w) (omega arith) ks once
step_further over s (MarkGreen w q) may ks once =
    let was : events_at (s.at q) ≡ 1 = ap events_at may.1 in
    let is : events_at (green (kept over q)) ≤ 2 = green_further (kept over q) in
    one_further s q (green (kept over q)) (omega (arith, was, is)) ks once
step_further over s (Begin w q) may ks once =
    let was : events_at (s.at q) ≡ 1 = ap events_at may.1 in
    one_further s q (Running w) (omega (arith, was)) ks once
step_further over s (Finish w o) may ks once =
    let was : events_at (s.at o.key) ≡ 2 = ap events_at may.1 in
    one_further s o.key (Done o.value (keys o.told) Executed) (omega (arith, was)) ks once
step_further over s (Fail w) may ks once = omega arith

-- ---- a whole history

steps_further : (over : Setting) (s : State) (h : List Event) → AreSteps over s h → (ks : List Key) → NoneTwice (λ k. k) ks
    → events_of (after_all over s h) ks ≤ events_of s ks + length h
steps_further over s [] steps ks once = omega arith
steps_further over s (e ∷ h) steps ks once =
    let first : events_of (after over s e) ks ≤ events_of s ks + 1 = step_further over s e steps.0 ks once in
    let rest : events_of (after_all over (after over s e) h) ks ≤ events_of (after over s e) ks + length h =
    steps_further over (after over s e) h steps.1 ks once in
    omega (arith, first, rest)

none_at_opening : (v : Option Value) → events_at (at_opening v) ≡ 0
none_at_opening (Some v) = refl
none_at_opening None = refl

none_of_opening : (p : Project) (ks : List Key) → events_of (opening p) ks ≡ 0
none_of_opening p [] = refl
none_of_opening p (k ∷ ks) =
    let here : events_at (at_opening (input_of p k)) ≡ 0 = none_at_opening (input_of p k) in
    let rest : events_of (opening p) ks ≡ 0 = none_of_opening p ks in
    omega (arith, here, rest)

-- however its keys stand at its end, a history has the events that led there
history_suffices : (over : Setting) (p : Project) (h : List Event) → Legal over p h → (ks : List Key) → NoneTwice (λ k. k) ks
    → events_of (state_after over p h) ks ≤ length h
history_suffices over p h legal ks once =
    let all : events_of (state_after over p h) ks ≤ events_of (opening p) ks + length h =
    steps_further over (opening p) h legal ks once in
    let none : events_of (opening p) ks ≡ 0 = none_of_opening p ks in
    omega (arith, all, none)

-- ---- the records of a session

before_differs : (a b : Key) → KeyBefore a b → b ≢ a
before_differs a b before same =
    let e : key_cmp a b ≡ Equal = key_itself a b (sym same) in
    absurd (less_equal (sym before ∙ e))
  where
    less_equal : Less ≡ Equal → ⊥
    less_equal h = absurd cc

-- records in the order of their keys have each key once
keys_once : (all rs : List RecordValue) → AreAscendingByKey (map (entry_of all) rs)
    → NoneTwice (λ (k : Key). k) (map (λ r. r.key) rs)
keys_once all [] h = tt
keys_once all (r ∷ rs) h = (behind rs h.0, keys_once all rs h.1)
  where
    behind : (xs : List RecordValue) → AllByRecursion (λ e. KeyBefore r.key e.key) (map (entry_of all) xs)
        → AllByRecursion (λ k. k ≢ r.key) (map (λ x. x.key) xs)
    behind [] b = tt
    behind (x ∷ xs) b = (before_differs r.key x.key b.0, behind xs b.1)

mark_events : (x : Status) (v : Value) (es : List Key) (m : Mark) → x ≡ Done v es m → events_at x ≡ events_for m
mark_events x v es m is = ap events_at is

-- the events that records need are those by which their keys became done
records_need : (s : State) (all rs : List RecordValue) → AllByRecursion (IsEntryOf s) (map (entry_of all) rs)
    → events_needed rs ≡ events_of s (map (λ r. r.key) rs)
records_need s all [] h = refl
records_need s all (r ∷ rs) h =
    let here : events_at (s.at r.key) ≡ events_for r.mark = mark_events (s.at r.key) _ _ r.mark h.0 in
    let rest : events_needed rs ≡ events_of s (map (λ x. x.key) rs) = records_need s all rs h.1 in
    let both : events_needed (r ∷ rs) ≡ events_for r.mark + events_needed rs = sum_by-cons (λ x. events_for x.mark) r rs in
    omega (arith, here, rest, both)

pub closed_suffices : (over : Setting) (p : Project) (h : List Event) (s : SessionValue) → Legal over p h
    → AreClosed p (state_after over p h) (entries s) → events_needed s.records ≤ length h
closed_suffices over p h s legal closed =
    let once : NoneTwice (λ (k : Key). k) (map (λ r. r.key) s.records) = keys_once s.records s.records closed.ascending in
    let each : AllByRecursion (IsEntryOf (state_after over p h)) (entries s) =
    all_from (IsEntryOf (state_after over p h)) (entries s) (λ r has. (closed.each r has).1) in
    let need : events_needed s.records ≡ events_of (state_after over p h) (map (λ r. r.key) s.records) =
    records_need (state_after over p h) s.records s.records each in
    let enough : events_of (state_after over p h) (map (λ r. r.key) s.records) ≤ length h =
    history_suffices over p h legal (map (λ r. r.key) s.records) once in
    omega (arith, need, enough)
