-- What a store has given, in runs and in the evaluations that they need.
use Rattle.std.proofs.Common.{◌≡◌, ◌∙◌, List, [], ◌∷◌, ◌++◌, sym, subst, inl, inr}
use Rattle.std.specs.Prelude.{Result, Ok, Err, Option, None, IfOk}
use Rattle.std.proofs.lemmas.List.Elements.{All-contains, All-from_recursion}
use Rattle.item_ids.specs.declared.key.Key.{Key}
use Rattle.result_bytes.specs.declared.value.Value.{Value}
use Rattle.recorder.specs.Backed.{ReadValue}
use Rattle.recorder.specs.Runs.{OutcomeValue}
use Rattle.recorder.specs.declared.runner.RunFault.{RunFault}
use Rattle.job_table.specs.Tables.{TableValue}
use Rattle.mark_green.specs.declared.asking.RunStop.{RunStop}
use Rattle.mark_green.specs.declared.worker.Worker.{Worker}
use Rattle.mark_green.specs.Leaves.{StaysTold, AreTold}
use Rattle.mark_green.specs.Workers.{IsSameWorker}
use Rattle.mark_green.proofs.Once.{AreAnswered}

-- a worker that calls twice is the same one behind both calls
pub same_on : {S R O : Type 0} (told : S → Key → Value → Type 0) (old mid new : Worker S R O) → IsSameWorker told old mid → IsSameWorker told mid new → IsSameWorker told old new
same_on told old mid new first second = record {
  store = second.store ∙ first.store;
  id = second.id ∙ first.id;
  stays = λ q v h. second.stays q v (first.stays q v h);
}

pub told_on : (old new : Key → Value → Type 0) → StaysTold old new → (l : List ReadValue) → AreTold old l → AreTold new l
told_on old new stays [] h = tt
told_on old new stays (r ∷ rs) h = (stays r.key r.value h.0, told_on old new stays rs h.1)

one_told : (told : Key → Value → Type 0) (l : List ReadValue) (k : Key) (v : Value) → AreTold told l → told k v → AreTold told (l ++ record { key = k; value = v } ∷ [])
one_told told [] k v all h = (h, tt)
one_told told (r ∷ rs) k v all h = (all.0, one_told told rs k v all.1 h)

-- one result more that was given is held
pub told_more : (told : Key → Value → Type 0) (old new : List ReadValue) (k : Key) (v : Value) → new ≡ old ++ record { key = k; value = v } ∷ [] → AreTold told old → told k v → AreTold told new
told_more told old new k v is all h = subst (λ (l : List ReadValue). AreTold told l) (sym is) (one_told told old k v all h)

-- the outcome that is shared is the one that was run
pub told_shown : (told : Key → Value → Type 0) (shown o : OutcomeValue) → shown ≡ o → AreTold told o.told → AreTold told shown.told
told_shown told shown o is h = subst (λ (p : OutcomeValue). AreTold told p.told) (sym is) h

pub told_result : (told : Key → Value → Type 0) (shown o : OutcomeValue) (q : Key) (v : Value) → shown ≡ o → o.key ≡ q → v ≡ o.value → told shown.key shown.value → told q v
told_result told shown o q v is key value h =
    subst (λ (k : Key). told k v) key (subst (λ (x : Value). told o.key x) (sym value) (subst (λ (p : OutcomeValue). told p.key p.value) is h))

-- ---- a run

-- what was read was given, if what is held was
told_reads : (held : List ReadValue) (a : Option TableValue) (told : Key → Value → Type 0) → AreTold told held → (reads : List ReadValue) → AreAnswered held a told reads → AreTold told reads
told_reads held a told all [] h = tt
told_reads held a told all (r ∷ rs) h = (
  elim h.0 [
    | inl d ↦ d.1
    | inr c ↦ All-contains (λ (x : ReadValue). told x.key x.value) held (record { key = r.key; value = r.value }) (All-from_recursion (λ (x : ReadValue). told x.key x.value) held all) c
  ],
  told_reads held a told all rs h.1,
)

pub told_by_run : (made : Result OutcomeValue RunFault) (given : Result OutcomeValue RunStop) (q : Key) (last : Option RunStop) (b : Option TableValue) (held reads : List ReadValue) (told : Key → Value → Type 0)
    → IfOk given (λ o. (made ≡ Ok o) × (last ≡ None)) → IfOk made (λ o. (o.key ≡ q) × (o.told ≡ reads)) → AreAnswered held b told reads
    → IfOk given (λ o. AreTold told held → AreTold told o.told)
told_by_run made (Err x) q last b held reads told ok of_run answered = tt
told_by_run made (Ok o) q last b held reads told ok of_run answered =
    let made_is : (o.key ≡ q) × (o.told ≡ reads) = subst (λ (x : Result OutcomeValue RunFault). IfOk x (λ y. (y.key ≡ q) × (y.told ≡ reads))) ok.0 of_run in
    λ all. subst (λ (l : List ReadValue). AreTold told l) (sym made_is.1) (told_reads held b told all reads answered)
