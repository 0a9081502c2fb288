-- How keys stand in a list of nodes: pairs of a key and how it stands.
use Rattle.std.specs.Prelude.{◌≡◌, ◌⊎◌, ℕ, zero, suc, ◌<◌, Bool, true, false, List, [], ◌∷◌, Option, Some, None, if◌then◌else◌}
use Rattle.std.specs.Arc.{arc_value}
use Rattle.item_ids.specs.declared.key.Key.{Key}
use Rattle.item_ids.specs.Inputs.{rank}
use Rattle.result_bytes.specs.declared.value.Value.{Value}
use Rattle.recorder.specs.Projects.{Project}
use Rattle.sessions.specs.declared.mark.Mark.TheVariants.{Input}
use Rattle.graph_rules.specs.Keys.{same_key, input_of}
use Rattle.graph_rules.specs.Steps.{Status, Unknown, Claimed, Running, Done, State, IsHeldBy}
use Rattle.key_states.specs.declared.nodes.Standing.{Standing}
use Rattle.key_states.specs.declared.nodes.Standing.TheVariants as standing

abbrev pub Node : Type 0
Node = Key × Standing

abbrev pub status_of : Standing → Status
status_of (standing.Claimed w) = Claimed w
status_of (standing.Running w) = Running w
status_of (standing.Done v es m) = Done (arc_value v) es m

-- how the key stands in a list of nodes
abbrev pub status_in : List Node → Key → Status
status_in [] q = Unknown
status_in (n ∷ ns) q = if same_key n.0 q then status_of n.1 else status_in ns q

-- whether the list has the key
abbrev pub has_key : Key → List Node → Bool
has_key q [] = false
has_key q (n ∷ ns) = if same_key n.0 q then true else has_key q ns

-- no key stands twice
abbrev pub KeysStandOnce : List Node → Type 0
KeysStandOnce [] = Unit {0}
KeysStandOnce (n ∷ ns) = (has_key n.0 ns ≡ false) × KeysStandOnce ns

-- the first node of the key is at this place
abbrev pub IsFirstNode : List Node → Key → ℕ → Type 0
IsFirstNode [] q i = ⊥
IsFirstNode (n ∷ ns) q zero = same_key n.0 q ≡ true
IsFirstNode (n ∷ ns) q (suc i) = (same_key n.0 q ≡ false) × IsFirstNode ns q i

-- whatever w has claimed or runs is above the rank
abbrev pub AllAbove : ℕ → ℕ → List Node → Type 0
AllAbove w r [] = Unit {0}
AllAbove w r (n ∷ ns) = (IsHeldBy w (status_of n.1) → r < rank n.0) × AllAbove w r ns

-- an input is done, another key has this status
abbrev pub unless_input : Option Value → Status → Status
unless_input (Some v) x = Done v [] Input
unless_input None x = x

-- how the key stands, inputs included
abbrev pub status_at : Project → List Node → Key → Status
status_at p ns q = unless_input (input_of p q) (status_in ns q)

-- an input with this value is unknown here, or done
abbrev pub IsInputIn : Value → Status → Type 0
IsInputIn v x = (x ≡ Unknown) ⊎ (x ≡ Done v [] Input)

-- inputs that are here are done
abbrev pub AreDoneInputs : Project → List Node → Type 0
AreDoneInputs p ns = (q : Key) (v : Value) → input_of p q ≡ Some v → IsInputIn v (status_in ns q)

-- the nodes of a table that is opened: inputs that are done
pub record AreOpened (p : Project) (ns : List Node) : Type 0 where
  pub inputs : AreDoneInputs p ns
  pub others : (q : Key) → input_of p q ≡ None → status_in ns q ≡ Unknown

-- the state that a project and nodes stand for
abbrev pub state_of_nodes : Project → List Node → Bool → State
state_of_nodes p ns failed = record { at = status_at p ns; failed = failed }
