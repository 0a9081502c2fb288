-- Keys that are asked for, and what came of them.
use Rattle.std.proofs.Common.{List, [], ◌∷◌, ◌++◌, Result, Ok, Err, IfOk, refl, subst}
use Rattle.run_fixtures.specs.declared.counting.Ask.{Ask}
use Rattle.run_fixtures.specs.Asking.{Counted, Becomes, AllBecome}

-- one more key behind others with their outcomes
pub one_more : (asks : List Ask) (ask : Ask) (old between new : Counted) → AllBecome asks old between → Becomes ask between new
    → AllBecome (asks ++ ask ∷ []) old new
one_more [] ask old between new all one = (new, subst (λ it. Becomes ask it new) all one, refl)
one_more (first ∷ asks) ask old between new all one = (all.0, all.1, one_more asks ask all.0 between new all.2 one)

-- what a result has, it has if more follows from it
pub if_ok_then : {A E : Type 0} (P Q : A → Type 0) (r : Result A E) → ((a : A) → P a → Q a) → IfOk r P → IfOk r Q
if_ok_then P Q (Ok a) f p = f a p
if_ok_then P Q (Err e) f p = p
