-- The files of a chain of sessions, one behind the other.
use Rattle.std.specs.Prelude.{◌≡◌, ℕ, List, ◌++◌, codes, decimal}
use Rattle.packed_files.specs.FlawWords.{flaw_words}
use Rattle.packed_files.specs.Runs.{IsFlawedRun}
use Rattle.packed_files.specs.declared.flaws.Flaw.{Flaw}

-- refused: session file 2: 11.9 Trailing
abbrev pub file_line : ℕ → List ℕ → List ℕ
file_line number words =
    codes "refused: session file " ++ decimal number ++ codes ": " ++ words ++ codes "\n"

-- The line is on the first of the files that is cut off.
pub record AreNoChain (bytes line : List ℕ) : Type 0 where
  pub number : ℕ
  pub flaw : Flaw
  pub flawed : IsFlawedRun bytes number flaw
  pub line_is : line ≡ file_line number (flaw_words flaw)
