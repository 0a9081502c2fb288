-- Lists of keys: none of them stands there twice, and each is of lower rank than a key.
use Rattle.std.specs.Prelude.{◌≢◌, ◌<◌, List, [], ◌∷◌}
use Rattle.std.specs.List.{AllByRecursion}
use Rattle.steps_keys.specs.declared.key.Key.{Key}
use Rattle.steps_keys.specs.Inputs.{rank}

-- no two of them have the same key
abbrev pub NoneTwice : {A K : Type 0} → (A → K) → List A → Type 0
NoneTwice key [] = Unit {0}
NoneTwice key (x ∷ xs) = AllByRecursion (λ y. key y ≢ key x) xs × NoneTwice key xs

-- each of the keys is of lower rank than q
abbrev pub AreLower : Key → List Key → Type 0
AreLower q ks = AllByRecursion (λ k. rank k < rank q) ks
