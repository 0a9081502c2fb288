-- The lines of a run that is refused.
use Rattle.std.specs.Prelude.{◌≡◌, ℕ, List, [], ◌++◌, codes, string_bytes}
use Rattle.session_text.specs.FaultWords.{fault_words}
use Rattle.code_words.specs.Explained.{unknown_text_of}
use Rattle.command_line.specs.declared.asked.WordsFault.TheVariants as words
use Rattle.commands.specs.ChainWords.{chain_words}
use Rattle.commands.specs.Refusals.{refusal_words, refused_line}
use Rattle.program_run.specs.declared.failure.Failure.{Failure}
use Rattle.program_run.specs.declared.failure.Failure.TheVariants as failure

-- cannot read PATH
abbrev pub unreadable_line : List ℕ → List ℕ
unreadable_line name = codes "cannot read " ++ name ++ codes "\n"

-- cannot write PATH, behind the notes
abbrev pub unwritten_line : List ℕ → List ℕ → List ℕ
unwritten_line notes path = notes ++ codes "cannot write " ++ path ++ codes "\n"

-- no record Diags M
abbrev pub no_record_line : List ℕ → List ℕ
no_record_line key = codes "no record " ++ key ++ codes "\n"

-- what is said of a failure; help goes to standard output, and out of memory has no text here
abbrev pub IsFailureText : Failure → List ℕ → Type 0
IsFailureText (failure.Words (words.Refused why)) text = text ≡ string_bytes why
IsFailureText (failure.Words _) text = text ≡ []
IsFailureText (failure.CannotRead name) text = text ≡ unreadable_line (string_bytes name)
IsFailureText (failure.CannotWrite notes path) text =
    text ≡ unwritten_line (string_bytes notes) (string_bytes path)
IsFailureText failure.Untold text = text ≡ []
IsFailureText (failure.NoRecord key) text = text ≡ no_record_line (string_bytes key)
IsFailureText (failure.UnknownCode code) text = text ≡ unknown_text_of (string_bytes code)
IsFailureText (failure.Project fault) text = text ≡ refusal_words fault
IsFailureText (failure.Chain fault) text = text ≡ refused_line (chain_words fault)
IsFailureText (failure.SessionFile fault) text = text ≡ refused_line (fault_words fault)
IsFailureText failure.OutOfMemory text = ⊥
