-- The result of one step of a driver.
use Rattle.std.specs.Prelude.{◌≡◌}
use Rattle.std.specs.Arc.{arc_value}
use Rattle.item_ids.specs.declared.key.Key.{Key}
use Rattle.result_bytes.specs.declared.value.Value.{Value}
use Rattle.query_fixtures.specs.declared.steps.Step.{Step}
use Rattle.query_fixtures.specs.declared.steps.Step.TheVariants.{Done, Wants}

-- a result that is the value of the key, or a key that is wanted first
abbrev pub IsStepOf : (Key → Value) → Key → Step → Type 0
IsStepOf mean q (Done a) = arc_value a ≡ mean q
IsStepOf mean q (Wants k) = Unit {0}
