-- Which arguments ask for help or for the version.
use Rattle.std.specs.Prelude.{◌||◌, Bool, false, IsTrue, List, [], ◌∷◌}
use Rattle.std.specs.Prelude.{codes, drop, if◌then◌else◌, nat_eq, slice_get}
use Rattle.std.specs.List.{starts_with}
use Rattle.std.specs.Option.{option_map_or}
use Rattle.std.specs.Str.{bytes_eq}
use Rattle.command_line.specs.Plain.{dashes}
use Rattle.command_line.specs.Subcommands.{Text}
use Rattle.command_line.specs.declared.asked.WordsFault.{WordsFault}
use Rattle.command_line.specs.declared.asked.WordsFault.TheVariants as fault

-- `--help`, `--version`, or an argument that begins with `-h` or `-V`
abbrev pub is_request : Text → Bool
is_request word = bytes_eq word (codes "--help") || (bytes_eq word (codes "--version")
    || (starts_with nat_eq word (codes "-h") || starts_with nat_eq word (codes "-V")))

-- there is one in front of the first `--`
abbrev pub has_request : List Text → Bool
has_request [] = false
has_request (word ∷ rest) =
    if bytes_eq word dashes then false else is_request word || has_request rest

-- the argument after the program's name is `help`, or an argument after the name is such a request
abbrev pub asks_for_help : List Text → Bool
asks_for_help given = option_map_or (λ word. bytes_eq word (codes "help")) (slice_get given 1) false
    || has_request (drop 1 given)

-- it isn't told: the arguments are refused, or memory ran out
abbrev pub IsNoHelp : WordsFault → Type 0
IsNoHelp (fault.Help text) = ⊥
IsNoHelp _ = Unit {0}

-- help or the version is told only if this is so
abbrev pub IsHelpIf : Bool → WordsFault → Type 0
IsHelpIf asked (fault.Help text) = IsTrue asked
IsHelpIf asked _ = Unit {0}

-- help or the version is told only if it is asked for
abbrev pub IsHelpAsked : List Text → WordsFault → Type 0
IsHelpAsked given = IsHelpIf (asks_for_help given)
