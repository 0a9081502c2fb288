-- Rules for loops.
use Rattle.std.proofs.Common.{◌≡◌, ℕ, zero, suc, ◌+◌, ◌<◌, ◌≤◌, List, [], ◌∷◌, length, map, drop, get_or, add-one, drop-cons, sym, ◌∙◌, ap, subst, refl, arith}
use Rattle.std.proofs.Math.Seq.{drop-nil}
use Rattle.item_ids.specs.declared.key.Key.{Key}
use Rattle.result_bytes.specs.declared.value.Value.{Value}
use Rattle.recorder.specs.Recording.{Recording}
use Rattle.recorder.specs.Programs.{Prog, runs, Fits, IsAt, Goes, GivesUp, each, LoopAt}
use Rattle.recorder.specs.declared.runner.RunFault.{RunFault}

each_cons : {A S : Type 0} (step : A → S → (S → Prog) → Prog) (xs : List A) (i : ℕ) (a : A) → i < length xs → a ≡ get_or xs i a → (t : S) (k : S → Prog) → each step (drop i xs) t k ≡ step a t (λ u. each step (drop (i + 1) xs) u k)
unfolding each
each_cons step xs i a h e t k =
    ap (λ l. each step l t k) (drop-cons xs i a h)
    ∙ ap (λ j. step (get_or xs i a) t (λ u. each step (drop j xs) u k)) (sym (add-one i))
    ∙ ap (λ b. step b t (λ u. each step (drop (i + 1) xs) u k)) (sym e)

each_nil : {A S : Type 0} (step : A → S → (S → Prog) → Prog) (xs : List A) (i : ℕ) → length xs ≤ i → (t : S) (k : S → Prog) → each step (drop i xs) t k ≡ k t
unfolding each
each_nil step [] i h t k = ap (λ l. each step l t k) (drop-nil i)
each_nil step (x ∷ xs) zero h t k = absurd (omega (arith, h))
each_nil step (x ∷ xs) (suc i) h t k = each_nil step xs i (omega (arith, h)) t k

module _ {A S D : Type 0} (step : A → S → (S → Prog) → Prog) (xs : List A) (s : S) (old : Recording D) where
  pub loop_start : LoopAt step xs s old 0 s old
  loop_start = record { goes = λ prog k h. h }

  pub loop_more : (i : ℕ) (t u : S) (mid new : Recording D) (a : A) → LoopAt step xs s old i t mid → Goes (step a t) mid u new → i < length xs → a ≡ get_or xs i a → LoopAt step xs s old (i + 1) u new
  loop_more i t u mid new a l g h e = record { goes = λ prog k w. g.goes prog (λ u. each step (drop (i + 1) xs) u k) (subst (IsAt prog mid) (each_cons step xs i a h e t k) (l.goes prog k w)) }

  pub loop_up : (i : ℕ) (t : S) (e : RunFault) (mid new : Recording D) (a : A) → LoopAt step xs s old i t mid → GivesUp (step a t) mid e new → i < length xs → a ≡ get_or xs i a → GivesUp (each step xs s) old e new
  loop_up i t e mid new a l g h is = record { halts = λ prog k w. g.halts prog (λ u. each step (drop (i + 1) xs) u k) (subst (IsAt prog mid) (each_cons step xs i a h is t k) (l.goes prog k w)) }

  pub loop_end : (i : ℕ) (t : S) (new : Recording D) → LoopAt step xs s old i t new → length xs ≤ i → Goes (each step xs s) old t new
  loop_end i t new l h = record { goes = λ prog k w. subst (IsAt prog new) (each_nil step xs i h t k) (l.goes prog k w) }

-- what a loop means, if each step means a change of the state
unfoldable pub fold_of : {A S : Type 0} → (A → S → S) → List A → S → S
fold_of f [] s = s
fold_of f (a ∷ rest) s = fold_of f rest (f a s)

pub each_runs : {A S : Type 0} (step : A → S → (S → Prog) → Prog) (m : Key → Value) (f : A → S → S) → ((a : A) (s : S) (k : S → Prog) → runs (step a s k) m ≡ runs (k (f a s)) m) → (xs : List A) (s : S) (k : S → Prog) → runs (each step xs s k) m ≡ runs (k (fold_of f xs s)) m
unfolding each fold_of
each_runs step m f h [] s k = refl
each_runs step m f h (a ∷ rest) s k = h a s (λ t. each step rest t k) ∙ each_runs step m f h rest (f a s) k

pub each_fits : {A S : Type 0} (q : Key) (step : A → S → (S → Prog) → Prog) → ((a : A) (s : S) (k : S → Prog) → ((t : S) → Fits q (k t)) → Fits q (step a s k)) → (xs : List A) (s : S) (k : S → Prog) → ((t : S) → Fits q (k t)) → Fits q (each step xs s k)
unfolding each
each_fits q step h [] s k g = g s
each_fits q step h (a ∷ rest) s k g = h a s (λ t. each step rest t k) (λ t. each_fits q step h rest t k g)

-- a loop over what is seen of other items
pub each_map : {A B S : Type 0} (step : B → S → (S → Prog) → Prog) (f : A → B) (xs : List A) (s : S) (k : S → Prog) → each step (map f xs) s k ≡ each (λ a. step (f a)) xs s k
unfolding each
each_map step f [] s k = refl
each_map step f (a ∷ rest) s k = λ i. step (f a) s (λ t. each_map step f rest t k i)
