-- Reads compared with a state, from a place on.
use Rattle.std.proofs.Common.{◌≡◌, ◌↔◌, ℕ, suc, ◌+◌, ◌<◌, List, ◌∷◌, drop, length, get_or, sym, ap, ◌∙◌, subst, arith}
use Rattle.std.proofs.Math.Seq.{drop-cons}
use Rattle.result_bytes.specs.declared.value.Value.{Value}
use Rattle.recorder.specs.Backed.{ReadValue}
use Rattle.graph_rules.specs.Steps.{Status, Unknown, Claimed, Running, Done, State, IsDoneWith, AreHeld}
use Rattle.job_table.specs.Calls.{IsFirstStale}

-- a key that is done with one value is done with no other
pub done_with : (a v : Value) (x : Status) → IsDoneWith a x → (a ≡ v) ↔ IsDoneWith v x
done_with a v Unknown d = absurd d
done_with a v (Claimed w) d = absurd d
done_with a v (Running w) d = absurd d
done_with a v (Done u es m) d = ((λ e. d ∙ e), (λ h. sym d ∙ h))

module _ (s : State) (rs : List ReadValue) (i : ℕ) (r : ReadValue) (lt : i < length rs) (is : r ≡ get_or rs i r) where
  here : drop i rs ≡ r ∷ drop (suc i) rs
  here = drop-cons rs i r lt ∙ ap (λ (x : ReadValue). x ∷ drop (suc i) rs) (sym is)

  pub held_later : (AreHeld s (drop i rs) → AreHeld s rs) → IsDoneWith r.value (s.at r.key) → AreHeld s (drop (i + 1) rs) → AreHeld s rs
  held_later all done h =
      let n : i + 1 ≡ suc i = omega arith in
      all (subst (λ (xs : List ReadValue). AreHeld s xs) (sym here) (done, subst (λ (m : ℕ). AreHeld s (drop m rs)) n h))

  pub stale_here : ((j : ℕ) → IsFirstStale s (drop i rs) j → IsFirstStale s rs (i + j)) → (IsDoneWith r.value (s.at r.key) → ⊥) → IsFirstStale s rs i
  stale_here first isnt =
      let e : i + 0 ≡ i = omega arith in
      subst (λ (k : ℕ). IsFirstStale s rs k) e (first 0 (subst (λ (xs : List ReadValue). IsFirstStale s xs 0) (sym here) isnt))

  pub stale_later : ((j : ℕ) → IsFirstStale s (drop i rs) j → IsFirstStale s rs (i + j)) → IsDoneWith r.value (s.at r.key)
      → (j : ℕ) → IsFirstStale s (drop (i + 1) rs) j → IsFirstStale s rs (i + 1 + j)
  stale_later first done j h =
      let e : i + suc j ≡ i + 1 + j = omega arith in
      let n : i + 1 ≡ suc i = omega arith in
      subst (λ (k : ℕ). IsFirstStale s rs k) e (first (suc j) (subst (λ (xs : List ReadValue). IsFirstStale s xs (suc j)) (sym here) (done, subst (λ (m : ℕ). IsFirstStale s (drop m rs) j) n h)))
