-- The program's subcommands.
use Rattle.std.specs.Prelude.{◌||◌, ℕ, Bool, true, false, List, [], ◌∷◌, codes}
use Rattle.std.specs.Str.{bytes_eq}
use Rattle.command_line.specs.declared.asked.Subcommand.{Subcommand}
use Rattle.command_line.specs.declared.asked.Subcommand.TheVariants.{Scratch, Check, Audit, Show, Why, Explain}

abbrev pub Text : Type 0
Text = List ℕ

-- the argument that asks for it
abbrev pub word_for : Subcommand → Text
word_for Scratch = codes "scratch"
word_for Check = codes "check"
word_for Audit = codes "audit"
word_for Show = codes "show"
word_for Why = codes "why"
word_for Explain = codes "explain"

-- the names of its options
abbrev pub options_of : Subcommand → List Text
options_of Scratch = codes "profile" ∷ codes "messages" ∷ []
options_of Check = codes "cache" ∷ codes "jobs" ∷ codes "form" ∷ codes "profile"
    ∷ codes "messages" ∷ []
options_of Audit = codes "source" ∷ codes "progress" ∷ []
options_of Show = codes "of" ∷ codes "dot" ∷ []
options_of Why = codes "of" ∷ []
options_of Explain = []

-- an option without a value
abbrev pub is_flag : Text → Bool
is_flag name = bytes_eq name (codes "messages") || (bytes_eq name (codes "progress")
    || bytes_eq name (codes "dot"))

-- an option that may be given again
abbrev pub is_repeatable : Text → Bool
is_repeatable name = bytes_eq name (codes "source")

-- FILEs, or codes, are all that it wants; `check` wants a cache, too
abbrev pub wants_files_alone : Subcommand → Bool
wants_files_alone Check = false
wants_files_alone _ = true

abbrev pub is_one_or_more : List Text → Bool
is_one_or_more [] = false
is_one_or_more (file ∷ rest) = true
