-- The first item of a list that lacks something.
use Rattle.std.specs.Prelude.{◌≡◌, ℕ, List, take, slice_get, Some}
use Rattle.std.specs.List.{AllByRecursion}

-- the item at this place lacks it, and those in front have it
pub record IsFirstWithout {A : Type 0} (Has : A → Type 0) (items : List A) (i : ℕ) : Type 0 where
  pub item : A
  pub here : slice_get items i ≡ Some item
  pub before : AllByRecursion Has (take i items)
  pub lacks : ¬ Has item
