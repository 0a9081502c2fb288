-- What contracts see of a step.
use Rattle.std.specs.Prelude.{ℕ, List}

pub record StepValue : Type 0 where
  pub name : List ℕ
  pub reads : List (List ℕ)
