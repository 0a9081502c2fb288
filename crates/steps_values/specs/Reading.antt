-- Reading the items that values are made of, from left to right.
use Rattle.std.specs.Prelude.{ℕ, Bool, not, ◌||◌, List, [], length, take, drop, Ok, Err, nat_lt, ◌==◌, if◌then◌else◌}
use Rattle.std.specs.Str.{bytes_eq}
use Rattle.std.specs.List.{list_any}
use Rattle.byte_readers.specs.declared.breach.Breach.TheVariants.{Short}
use Rattle.byte_readers.specs.Reading.{◌>>=◌, Decoder, not_canonical, any, eight_at, name_at, pair_at, made_at, list_from, list_at}
use Rattle.named_files.specs.Projects.{most_files}
use Rattle.steps_values.specs.Payloads.{StepValue}

-- whether no name in front is this one
abbrev pub is_new : List (List ℕ) → List ℕ → Bool
is_new front name = not (list_any (λ other. bytes_eq other name) front)

abbrev pub is_file_count : ℕ → Bool
is_file_count n = not (n == 0 || nat_lt most_files n)

-- the number of files is looked at before any name
unfoldable pub file_names_at : Decoder (List (List ℕ))
file_names_at bytes = do
  n ← eight_at bytes
  if is_file_count n.0 then list_from name_at is_new [] n.0 n.1 else not_canonical bytes

unfoldable pub text_at : Decoder (List ℕ)
text_at bytes = do
  n ← eight_at bytes
  if nat_lt (length n.1) n.0 then Err Short else Ok (take n.0 n.1, drop n.0 n.1)

abbrev pub step_value : List ℕ × List (List ℕ) → StepValue
step_value x = record { name = x.0; reads = x.1 }

unfoldable pub step_at : Decoder StepValue
step_at bytes = made_at step_value (pair_at name_at (list_at name_at any)) bytes

unfoldable pub plan_at : Decoder (List StepValue)
plan_at bytes = list_at step_at any bytes
