-- What a result of some kind has, and nothing where the result is of another kind.
use Rattle.std.specs.Prelude.{ℕ, List, [], Option, None}
use Rattle.steps_values.specs.Payloads.{StepValue}
use Rattle.steps_values.specs.declared.value.Value.{Value}
use Rattle.steps_values.specs.declared.value.Value.TheVariants.{Files, Source, Plan, Compile, Link, Answer}

-- the names of the files
abbrev pub files_in : Value → List (List ℕ)
files_in (Files names) = names
files_in _ = []

-- the bytes of a file, of what a step makes or of what the build makes
abbrev pub text_in : Value → Option (List ℕ)
text_in (Source bytes) = bytes
text_in (Compile bytes) = bytes
text_in (Link bytes) = bytes
text_in (Answer bytes) = bytes
text_in _ = None

-- the steps of the build
abbrev pub plan_in : Value → Option (List StepValue)
plan_in (Plan steps) = steps
plan_in _ = None
