use Rattle.std.proofs.Common.{◌≡◌, ℕ, ◌<◌, length}
use Rattle.mj_classes.specs.Steps.{led}
use Rattle.mj_classes.specs.Walks.{LeadsUp}
use Rattle.mj_classes.proofs.declarations.steps_up.Given as goal

abbrev pub invariant-loop-at : goal.invariant-loop-at
invariant-loop-at l = record { all : length l.steps.items ≡ l.at; each : (at : ℕ) → at < l.at → LeadsUp l.superclasses at (led l.steps.items at) }
