-- Results that were given of keys that are done, while the table goes on.
use Rattle.std.proofs.Common.{◌≡◌, ◌⊎◌, inl, inr, ℕ, List, [], ◌∷◌, ◌++◌, sym, subst, Contains, refl, arith}
use Rattle.std.specs.Prelude.{Result, Ok, Err, IfOk, IfErr}
use Rattle.std.specs.List.{AllByRecursion}
use Rattle.std.proofs.lemmas.List.Elements.{All-contains, All-from_recursion}
use Rattle.std.specs.declared.alloc.Global.{Global}
use Rattle.std.specs.declared.sync.Arc.{Arc}
use Rattle.std.specs.Arc.{arc_value}
use mathlib.Core.List.{IsPrefix}
use Rattle.item_ids.specs.declared.key.Key.{Key}
use Rattle.result_bytes.specs.declared.value.Value.{Value}
use Rattle.sessions.specs.declared.mark.Mark.TheVariants as mark
use Rattle.recorder.specs.Backed.{Queries, ReadValue, keys}
use Rattle.recorder.specs.Runs.{OutcomeValue}
use Rattle.graph_rules.specs.Steps.{Claim, MarkGreen, Begin, Finish, Fail, Event, State, Status, Done, IsDoneWith, AreHeld}
use Rattle.job_table.specs.Tables.{TableValue, state_of, IsStep, adds}
use Rattle.job_table.specs.Calls.{AskGives, MarkGives, BeginGives, FinishGives, FailGives}
use Rattle.job_table.specs.declared.fault.Asked.{Asked}
use Rattle.job_table.specs.declared.fault.Asked.TheVariants as asked
use Rattle.job_table.specs.declared.fault.TableFault.{TableFault}
use Rattle.job_table.specs.declared.fault.TableFault.TheVariants as fault
use Rattle.mark_green.specs.Leaves.{ClaimsNoInput, StaysTold, TellsDone, AreTold}
use Rattle.mark_green.proofs.GoingOn.{on_one, held_on, Changes, changes_by}
use Rattle.known_list.proofs.Beginnings.{prefix_contains}
use Rattle.shared_table.specs.Told.{is_told, IsFound}
use Rattle.shared_table.specs.Given.{IsOfSession, IsDoneInSession, AreDoneInSession, IsKnown, IsOwnAnswer}

-- ---- what was given still stands after each call

module _ (w : ℕ) (t u : TableValue) (told : List ReadValue) (held : AreHeld (state_of t) told) where
  none_held : u ≡ t → AreHeld (state_of u) told
  none_held same = subst (λ (x : TableValue). AreHeld (state_of x) told) (sym same) held

  one_held : (e : Event) → IsStep t e → u ≡ adds t e → AreHeld (state_of u) told
  one_held e may is = subst (λ (x : TableValue). AreHeld (state_of x) told) (sym is) (held_on t (adds t e) (on_one t e may) told held)

  pub ask_held : (q : Key) (r : Result Asked TableFault) → AskGives t w q r u → AreHeld (state_of u) told
  ask_held q (Ok asked.Yours) a = one_held (Claim w q) a.0 a.1
  ask_held q r a = none_held (grind arith)

  pub mark_held : (q : Key) (r : Result (Arc Value Global) TableFault) → MarkGives t w q r u → AreHeld (state_of u) told
  mark_held q (Ok v) m = one_held (MarkGreen w q) m.0 m.1
  mark_held q r m = none_held (grind arith)

  pub begin_held : (q : Key) (r : Result (Unit {0}) TableFault) → BeginGives t w q r u → AreHeld (state_of u) told
  begin_held q (Ok x) b = one_held (Begin w q) b.0 b.1
  begin_held q r b = none_held (grind arith)

  pub finish_held : (o : OutcomeValue) (r : Result (Unit {0}) TableFault) → FinishGives t w o r u → AreHeld (state_of u) told
  finish_held o (Ok x) f = one_held (Finish w o) f.0 f.1
  finish_held o r f = none_held (grind arith)

  pub fail_held : (r : Result (Unit {0}) TableFault) → FailGives t w r u → AreHeld (state_of u) told
  fail_held (Ok x) f = one_held (Fail w) f.0 f.1
  fail_held r f = none_held (grind arith)

-- ---- a result that is given

pub found_done : (w : ℕ) (q : Key) (v : Arc Value Global) (t u : TableValue) → AskGives t w q (Ok (asked.Done v)) u → IsDoneWith (arc_value v) ((state_of u).at q)
found_done w q v t u a = subst (λ (x : TableValue). IsDoneWith (arc_value v) ((state_of x).at q)) (sym a.2) a.1

pub marked_done : (w : ℕ) (q : Key) (v : Arc Value Global) (t u : TableValue) → MarkGives t w q (Ok v) u → IsDoneWith (arc_value v) ((state_of u).at q)
marked_done w q v t u m = m.2

pub ended_done : (w : ℕ) (o : OutcomeValue) (x : Unit {0}) (t u : TableValue) → FinishGives t w o (Ok x) u → IsDoneWith o.value ((state_of u).at o.key)
ended_done w o x t u f =
    let s : Status = Done o.value (keys o.told) mark.Executed in
    let c : Changes o.key s t (adds t (Finish w o)) = changes_by t (Finish w o) o.key s f.0 refl in
    subst (λ (y : TableValue). IsDoneWith o.value ((state_of y).at o.key)) (sym f.1) (subst (λ (y : Status). IsDoneWith o.value y) (sym c.here) refl)

-- one result more was given
pub held_one : (s : State) (told : List ReadValue) (q : Key) (v : Value) → AreHeld s told → IsDoneWith v (s.at q) → AreHeld s (told ++ record { key = q; value = v } ∷ [])
held_one s [] q v all d = (d, tt)
held_one s (r ∷ rs) q v all d = (all.0, held_one s rs q v all.1 d)

-- ---- what a worker knows

-- what stands in a table of the session is done in it
pub all_done : (queries : Queries) (opened t : TableValue) → IsOfSession queries opened t → (told : List ReadValue) → AreHeld (state_of t) told → AreDoneInSession queries opened told
all_done queries opened t of [] held = tt
all_done queries opened t of (r ∷ rs) held = (record { table = t; of_session = of; done = held.0 }, all_done queries opened t of rs held.1)

-- a result that is told is done in the session, if all of them are
pub known_in : (queries : Queries) (opened : TableValue) (told : List ReadValue) (q : Key) (v : Value) → AreDoneInSession queries opened told → is_told told q v → IsKnown queries opened told q v
known_in queries opened told q v all there = (
  there,
  All-contains (λ (x : ReadValue). IsDoneInSession queries opened x.key x.value) told (record { key = q; value = v })
      (All-from_recursion (λ (x : ReadValue). IsDoneInSession queries opened x.key x.value) told all) there,
)

-- a worker's reads, all of which it was given, still stand
pub reads_held : (queries : Queries) (opened : TableValue) (s : State) (known told reads : List ReadValue) → AreTold (IsKnown queries opened known) reads → IsPrefix known told → AreHeld s told → AreHeld s reads
reads_held queries opened s known told [] all pre held = tt
reads_held queries opened s known told (r ∷ rs) all pre held = (
  All-contains (λ (x : ReadValue). IsDoneWith x.value (s.at x.key)) told (record { key = r.key; value = r.value })
      (All-from_recursion (λ (x : ReadValue). IsDoneWith x.value (s.at x.key)) told held)
      (prefix_contains known told (record { key = r.key; value = r.value }) pre all.0.0),
  reads_held queries opened s known told rs all.1 pre held,
)

-- results that are kept are among those that a longer list has
pub kept_on : (known longer results : List ReadValue) → IsPrefix known longer → AllByRecursion (λ r. Contains known r) results → AllByRecursion (λ r. Contains longer r) results
kept_on known longer [] pre all = tt
kept_on known longer (r ∷ rs) pre all = (prefix_contains known longer r pre all.0, kept_on known longer rs pre all.1)

pub kept_one : (known results : List ReadValue) (r : ReadValue) → AllByRecursion (λ r. Contains known r) results → Contains known r → AllByRecursion (λ r. Contains known r) (results ++ r ∷ [])
kept_one known [] r all h = (h, tt)
kept_one known (x ∷ xs) r all h = (all.0, kept_one known xs r all.1 h)

-- what a shorter list has given, a longer one has given, too
pub told_on : (queries : Queries) (opened : TableValue) (old mid new : List ReadValue) → IsPrefix old mid → new ≡ mid → StaysTold (IsKnown queries opened old) (IsKnown queries opened new)
told_on queries opened old mid new pre same q v told =
    subst (λ (l : List ReadValue). IsKnown queries opened l q v) (sym same) (prefix_contains old mid (record { key = q; value = v }) pre told.0, told.1)

-- ---- the answer for a key whose result is kept

module _ (v : Value) (q : Key) where
  pub again_told : (told : Key → Value → Type 0) (r : Result Asked TableFault) → IfOk r (λ a. IsFound a v) → told q v → TellsDone told q r
  again_told told (Ok (asked.Done a)) found there = subst (λ (x : Value). told q x) (sym found) there
  again_told told (Ok asked.Yours) found there = tt
  again_told told (Ok asked.Busy) found there = tt
  again_told told (Ok asked.Stopped) found there = tt
  again_told told (Err why) found there = tt

  pub again_claims : (r : Result Asked TableFault) → IfOk r (λ a. IsFound a v) → ClaimsNoInput q r
  again_claims r found = λ yours. absurd (subst (λ (x : Result Asked TableFault). IfOk x (λ a. IsFound a v)) yours found)

  pub own_again : (queries : Queries) (opened : TableValue) (r : Result Asked TableFault) → IsDoneInSession queries opened q v → IfOk r (λ a. IsFound a v) → IfErr r (λ why. why ≡ fault.OutOfMemory) → IsOwnAnswer queries opened q r
  own_again queries opened (Ok (asked.Done a)) done found out = subst (IsDoneInSession queries opened q) (sym found) done
  own_again queries opened (Ok asked.Yours) done found out = found
  own_again queries opened (Ok asked.Busy) done found out = found
  own_again queries opened (Ok asked.Stopped) done found out = found
  own_again queries opened (Err why) done found out = subst (λ (x : TableFault). IsOwnAnswer queries opened q (Err x)) (sym out) tt

-- ---- an answer that is kept, if memory allows it

module _ (q : Key) (a r : Result Asked TableFault) where
  pub kept_claims : (r ≡ a) ⊎ (r ≡ Err fault.OutOfMemory) → ClaimsNoInput q a → ClaimsNoInput q r
  kept_claims (inl same) claims = subst (λ (x : Result Asked TableFault). ClaimsNoInput q x) (sym same) claims
  kept_claims (inr out) claims = λ yours. absurd (cc (yours, out))

  pub kept_given : (queries : Queries) (opened : TableValue) (G : Result Asked TableFault → Type 0) → (r ≡ a) ⊎ (r ≡ Err fault.OutOfMemory) → G a → IsOwnAnswer queries opened q r ⊎ G r
  kept_given queries opened G (inl same) given = inr (subst G (sym same) given)
  kept_given queries opened G (inr out) given = inl (subst (λ (x : Result Asked TableFault). IsOwnAnswer queries opened q x) (sym out) tt)
