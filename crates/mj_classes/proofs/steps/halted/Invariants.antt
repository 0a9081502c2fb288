use Rattle.std.proofs.Common.{◌≡◌, ℕ, ◌<◌, length}
use Rattle.mj_classes.specs.Steps.{led, halted}
use Rattle.mj_classes.proofs.steps.halted.Given as goal

abbrev pub invariant-loop-at : goal.invariant-loop-at
invariant-loop-at l = record { all : length l.halts.items ≡ l.at; each : (at : ℕ) → at < l.at → led l.halts.items at ≡ halted l.flags l.steps at }
