use Rattle.std.proofs.Common.{◌≡◌, ℕ, ◌<◌, length}
use Rattle.mj_classes.specs.Steps.{led, led_far}
use Rattle.mj_classes.proofs.steps.lead_far.Given as goal

abbrev pub invariant-loop : goal.invariant-loop
invariant-loop l = record {
  all : length l.far.items ≡ length l.steps;
  each : (at : ℕ) → at < length l.steps → led l.far.items at ≡ led_far (led l.steps) l.count at;
  some : l.counter < l.count;
}
