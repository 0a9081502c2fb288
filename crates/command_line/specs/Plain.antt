-- Plain arguments: a subcommand with its FILEs, and no option.
use Rattle.std.specs.Prelude.{◌≡◌, ◌==◌, ◌&&◌, ◌||◌, Bool, true, false, not, List, [], ◌∷◌}
use Rattle.std.specs.Prelude.{Option, Some, None, codes, if◌then◌else◌, is_some, map, option_and_then}
use Rattle.std.specs.Prelude.{string_bytes}
use Rattle.std.specs.Str.{bytes_eq}
use Rattle.command_line.specs.Runnable.{files_of_words, subcommand_of}
use Rattle.command_line.specs.Subcommands.{Text, is_one_or_more, word_for, wants_files_alone}
use Rattle.command_line.specs.declared.asked.Subcommand.{Subcommand}
use Rattle.command_line.specs.declared.asked.Words.{Words}
use Rattle.command_line.specs.declared.asked.Words.TheVariants as words

-- `--`, behind which every argument is a FILE
abbrev pub dashes : Text
dashes = codes "--"

abbrev pub has_more : Text → Bool
has_more [] = false
has_more (b ∷ rest) = true

-- the argument begins with `-`, and more follows
abbrev pub is_option : Text → Bool
is_option [] = false
is_option (b ∷ rest) = b == 45 && has_more rest

-- an argument before the first `--` is an option
abbrev pub has_option : List Text → Bool
has_option [] = false
has_option (word ∷ rest) =
    if bytes_eq word dashes then false else is_option word || has_option rest

-- the FILEs among the arguments: all but the first `--`
abbrev pub files_of : List Text → List Text
files_of [] = []
files_of (word ∷ rest) = if bytes_eq word dashes then rest else word ∷ files_of rest

-- the arguments after the subcommand, which is the argument after the program's name
abbrev pub words_behind : Subcommand → List Text → Option (List Text)
words_behind subcommand [] = None
words_behind subcommand (name ∷ []) = None
words_behind subcommand (name ∷ word ∷ rest) =
    if bytes_eq (word_for subcommand) word then Some rest else None

-- there is no option, and the FILEs are enough for the subcommand
abbrev pub are_plain : Subcommand → List Text → Bool
are_plain subcommand rest =
    wants_files_alone subcommand && (is_one_or_more (files_of rest) && not (has_option rest))

abbrev pub taken_by : Subcommand → List Text → Option (List Text)
taken_by subcommand rest = if are_plain subcommand rest then Some (files_of rest) else None

-- the FILEs that plain arguments give to the subcommand
abbrev pub files_for : Subcommand → List Text → Option (List Text)
files_for subcommand given = option_and_then (taken_by subcommand) (words_behind subcommand given)

-- the arguments give the subcommand FILEs that are enough for it, and no option
abbrev pub asks_plainly : Subcommand → List Text → Bool
asks_plainly subcommand given = is_some (files_for subcommand given)

-- the options are as they stand if nothing is said
abbrev pub HasDefaults : Words → Type 0
HasDefaults (words.Scratch w) = (w.profile ≡ 1) × (w.messages ≡ false)
HasDefaults (words.Check w) =
    (w.jobs ≡ 1) × (w.profile ≡ 1) × (w.form ≡ 1) × (w.messages ≡ false)
HasDefaults (words.Audit w) = (map string_bytes w.sources.items ≡ []) × (w.progress ≡ false)
HasDefaults (words.Show w) = (w.dot ≡ false) × (w.of ≡ None)
HasDefaults (words.Why w) = w.of ≡ None
HasDefaults (words.Explain asked) = Unit {0}

-- What was read is the subcommand with just these FILEs.
pub record IsPlain (subcommand : Subcommand) (files : List Text) (w : Words) : Type 0 where
  pub asked : subcommand_of w ≡ subcommand
  pub named : files_of_words w ≡ files
  pub defaults : HasDefaults w
