-- Which nodes of a list are claimed or running.
use Rattle.std.specs.Prelude.{ℕ, zero, suc, ◌<◌, List, [], ◌∷◌, Contains}
use Rattle.std.specs.List.{AllByRecursion}
use Rattle.item_ids.specs.Inputs.{rank}
use Rattle.graph_rules.specs.Steps.{IsHeldBy}
use Rattle.key_states.specs.Closing.{IsQuiet}
use Rattle.key_states.specs.Nodes.{Node, status_of}

-- a node that is claimed or running stands at this place
abbrev pub IsPendingAt : List Node → ℕ → Type 0
IsPendingAt [] i = ⊥
IsPendingAt (n ∷ ns) zero = ¬ IsQuiet (status_of n.1)
IsPendingAt (n ∷ ns) (suc i) = IsPendingAt ns i

-- just the nodes that are claimed or running have their places among these
pub record ArePending (ns : List Node) (places : List ℕ) : Type 0 where
  pub only : AllByRecursion (IsPendingAt ns) places
  pub whole : (i : ℕ) → IsPendingAt ns i → Contains places i

-- if w has claimed or runs the key that stands at this place, it is above the rank
abbrev pub IsAboveAt : ℕ → ℕ → List Node → ℕ → Type 0
IsAboveAt w r [] i = Unit {0}
IsAboveAt w r (n ∷ ns) zero = IsHeldBy w (status_of n.1) → r < rank n.0
IsAboveAt w r (n ∷ ns) (suc i) = IsAboveAt w r ns i
