-- How a key stands, as callers see it.
use Rattle.std.specs.Prelude.{◌≡◌, List}
use Rattle.std.specs.Arc.{arc_value}
use Rattle.item_ids.specs.declared.key.Key.{Key}
use Rattle.recorder.specs.Projects.{Project}
use Rattle.graph_rules.specs.Steps.{Unknown, IsNotDone, IsDoneWith}
use Rattle.key_states.specs.Nodes.{Node, status_in, status_at}
use Rattle.key_states.specs.declared.nodes.KeyState.{KeyState}
use Rattle.key_states.specs.declared.nodes.KeyState.TheVariants as state

-- it is done with this result, or claimed or running, or none of these
abbrev pub IsKeyState : Project → List Node → Key → KeyState → Type 0
IsKeyState p ns q (state.Done a) = IsDoneWith (arc_value a.now) (status_at p ns q)
IsKeyState p ns q state.Pending =
    IsNotDone (status_at p ns q) × (status_at p ns q ≡ Unknown → ⊥)
IsKeyState p ns q state.Unknown = IsNotDone (status_at p ns q) × (status_in ns q ≡ Unknown)
