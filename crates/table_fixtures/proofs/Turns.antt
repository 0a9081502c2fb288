-- One after the other.
use Rattle.std.proofs.Common.{ℕ, ◌+◌, ◌<◌, List, [], ◌∷◌, ◌++◌, length, take, get_or, refl, sym, subst}
use Rattle.std.proofs.lemmas.List.{take_more}
use Rattle.table_fixtures.specs.Told.{InTurn}

one_more : {A S : Type 0} (Leads : A → S → S → Type 0) (xs : List A) (x : A) (s t u : S) → InTurn Leads xs s t → Leads x t u
    → InTurn Leads (xs ++ x ∷ []) s u
one_more Leads [] x s t u all one = (u, subst (λ it. Leads x it u) all one, refl)
one_more Leads (y ∷ ys) x s t u all one = (all.0, all.1, one_more Leads ys x all.0 t u all.2 one)

-- if those in front lead in turn, and the next one leads on from there, they lead in turn with it
pub one_further : {A S : Type 0} (Leads : A → S → S → Type 0) (xs : List A) (i : ℕ) (d : A) (s t u : S) → i < length xs
    → InTurn Leads (take i xs) s t → Leads (get_or xs i d) t u → InTurn Leads (take (i + 1) xs) s u
one_further Leads xs i d s t u l all one =
    subst (λ front. InTurn Leads front s u) (sym (take_more xs i d l)) (one_more Leads (take i xs) (get_or xs i d) s t u all one)
