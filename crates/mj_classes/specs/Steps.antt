-- Walks among places, from each of which one step leads.
use Rattle.std.specs.Prelude.{get_or, ◌≡◌, ◌↔◌, ℕ, zero, suc, ◌<◌, ◌≤◌, Bool, true, false, List, length, if◌then◌else◌}

-- the place to which a step leads
abbrev pub led : List ℕ → ℕ → ℕ
led steps at = get_or steps at at

-- the place to which so many steps lead
abbrev pub led_far : (ℕ → ℕ) → ℕ → ℕ → ℕ
led_far step zero at = at
led_far step (suc n) at = led_far step n (step at)

-- each step leads to a place from which one leads
abbrev pub StayWithin : List ℕ → Type 0
StayWithin steps = (at : ℕ) → at < length steps → led steps at < length steps

-- The list has for each place the one to which many steps lead, as many as there are places, or more.
pub record LeadFar (step : ℕ → ℕ) (places : ℕ) (far : List ℕ) : Type 0 where
  pub count : ℕ
  pub enough : places ≤ count
  pub all : length far ≡ places
  pub each : (at : ℕ) → at < places → led far at ≡ led_far step count at

-- a step, but from a place with a flag
abbrev pub halted : List Bool → List ℕ → ℕ → ℕ
halted flags steps at = if get_or flags at false then at else led steps at

-- some steps lead from the place back to it
abbrev pub ComesBack : List ℕ → ℕ → Type 0
ComesBack steps at = (n : ℕ) × (led_far (led steps) (suc n) at ≡ at)

-- the places with a flag are those to which steps lead back
pub record FlagReturns (steps : List ℕ) (flags : List Bool) : Type 0 where
  pub all : length flags ≡ length steps
  pub each : (at : ℕ) → at < length steps → (get_or flags at false ≡ true) ↔ ComesBack steps at

-- the list has for each place the one to which a step leads that halts at the flags
pub record AreHalted (flags : List Bool) (steps halts : List ℕ) : Type 0 where
  pub all : length halts ≡ length steps
  pub each : (at : ℕ) → at < length steps → led halts at ≡ halted flags steps at

-- the list has for each place the one where a walk ends that halts at places to which steps lead back
pub record LeadToTurns (steps turns : List ℕ) : Type 0 where
  pub flags : List Bool
  pub back : FlagReturns steps flags
  pub far : LeadFar (halted flags steps) (length steps) turns
