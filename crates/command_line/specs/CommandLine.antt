-- What a command line asks for, by its arguments alone.
use Rattle.std.specs.Prelude.{◌≡◌, IsTrue, List, None, Some, drop, slice_get}
use Rattle.command_line.specs.Given.{IsGivenBy, are_of, given_in}
use Rattle.command_line.specs.Runnable.{subcommand_of}
use Rattle.command_line.specs.Subcommands.{Text, word_for, options_of}
use Rattle.command_line.specs.declared.asked.Subcommand.{Subcommand}
use Rattle.command_line.specs.declared.asked.Words.{Words}

-- the subcommand is the argument after the program's name
abbrev pub AsksFor : List Text → Subcommand → Type 0
AsksFor given subcommand = slice_get given 1 ≡ Some (word_for subcommand)

-- What was read is what the arguments ask for: the subcommand, and of its options and FILEs what the
-- arguments behind it give. They give no other options.
pub record Asks (given : List Text) (w : Words) : Type 0 where
  pub subcommand : AsksFor given (subcommand_of w)
  pub known : IsTrue (are_of (options_of (subcommand_of w)) (given_in None (drop 2 given)))
  pub gives : IsGivenBy (given_in None (drop 2 given)) w
