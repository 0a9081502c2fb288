-- Keys that wait for one another have no value.
use Rattle.std.proofs.Common.{◌≡◌, inl, inr, ◌⊎◌, Bool, true, List, [], ◌∷◌, ◌++◌, Option, Some, None, refl, subst}
use Rattle.std.specs.List.{AllByRecursion}
use Rattle.redgreen_rules.specs.Programs.{Key, Value, Prog, Ret, Ask, Inputs, ComesTo, Evaluates, input, query, ret, ask}
use Rattle.redgreen_rules.specs.Runs.{Told, IsIn, Reached, Start, Again, First}
use Rattle.redgreen_rules.proofs.Fresh.{one}
use Rattle.redgreen_table.specs.Cycles.{AreStuck}

all_in : {A : Type 0} (P : A → Type 0) (xs : List A) (x : A) → AllByRecursion P xs → IsIn xs x → P x
all_in P [] x h l = elim l [ ]
all_in P (y ∷ ys) x h (inl e) = subst P e h.0
all_in P (y ∷ ys) x h (inr l) = all_in P ys x h.1 l

all_before : {A : Type 0} (P : A → Type 0) (xs : List A) (x : A) → AllByRecursion P (xs ++ x ∷ []) → AllByRecursion P xs × P x
all_before P [] x h = (tt, h.0)
all_before P (y ∷ ys) x h = let r = all_before P ys x h.1 in ((h.0, r.0), r.1)

some_none : {A : Type 0} {x : A} (o : Option A) → o ≡ Some x → o ≡ None → ⊥
some_none (Some y) a b = cc
some_none None a b = cc

module _ (prog_of : Key → Prog) (inputs : Inputs) where
  -- the program comes to the read of q by answers of fresh runs
  data Path (q : Key) : Prog → Type 0 where
    here : (f : Value → Prog) → Path q (Ask q f)
    there : (k : Key) (f : Value → Prog) (x : Value) → ComesTo prog_of inputs k x → Path q (f x) → Path q (Ask k f)

  path_of : (q : Key) (prog : Prog) (told : List Told) (p : Prog) → Reached prog told p → AllByRecursion (λ t. ComesTo prog_of inputs t.key t.value) told → Path q p → Path q prog
  path_of q prog _ _ Start c p = p
  path_of q prog _ _ (Again told k f x h at) c p =
      path_of q prog told (Ask k f) h c (there k f x (all_in (λ t. ComesTo prog_of inputs t.key t.value) told (record { key = k; value = x }) c at) p)
  path_of q prog _ _ (First told k f x h) c p =
      let b = all_before (λ t. ComesTo prog_of inputs t.key t.value) told (record { key = k; value = x }) c in
      path_of q prog told (Ask k f) h b.0 (there k f x b.1 p)

  next_of : (q k : Key) (f : Value → Prog) → Path q (Ask k f) → (q ≡ k) ⊎ ((x : Value) × ComesTo prog_of inputs k x × Path q (f x))
  next_of q k f (here _) = inl refl
  next_of q k f (there _ _ x c p) = inr (x, c, p)

  nowhere : (q : Key) (v : Value) → Path q (Ret v) → ⊥
  nowhere q v p = elim p [ ]

  module _ (Stuck : Key → Bool) (stuck : AreStuck prog_of inputs Stuck) where
    mutual
      no_value : (k : Key) (v : Value) → ComesTo prog_of inputs k v → Stuck k ≡ true → ⊥
      no_value k v (input _ _ e) s = some_none (inputs k) e ((stuck k s).2).query
      no_value k v (query _ _ e d) s =
          let w = stuck k s in
          no_end (prog_of k) v d w.0 w.1 (path_of w.0 (prog_of k) (w.2).told (Ask w.0 (w.2).next) (w.2).reached (w.2).fresh (here (w.2).next))

      no_end : (p : Prog) (v : Value) → Evaluates prog_of inputs p v → (q : Key) → Stuck q ≡ true → Path q p → ⊥
      no_end _ v (ret _) q s p = nowhere q v p
      no_end _ v (ask k f x _ c e) q s p = elim (next_of q k f p) [
        | inl same ↦ no_value k x c (subst (λ (j : Key). Stuck j ≡ true) same s)
        | inr on ↦ no_end (f x) v e q s (subst (λ (y : Value). Path q (f y)) (one prog_of inputs k on.0 x on.1 c) on.2)
      ]

    pub none : (k : Key) (v : Value) → Stuck k ≡ true → ComesTo prog_of inputs k v → ⊥
    none k v s c = no_value k v c s
