-- The lines of an answer's diagnostics.
use Rattle.std.specs.Prelude.{◌≡◌, ◌==◌, ◌&&◌, ◌++◌, ℕ, Bool, if◌then◌else◌, List, [], Option, Some, None, option_map, codes, decimal, flat_map, length}
use Rattle.std.specs.List.{list_all}
use Rattle.mj_lexer.specs.Places.{line_of, column_of}
use Rattle.mj_rules.specs.AnswerWords.{AnswerValue, code_number}
use Rattle.named_files.specs.Projects.{SourceFile}
use Rattle.code_words.specs.Sentences.{sentence_of}
use Rattle.diagnostic_lines.specs.Places.{TextPlace}
use Rattle.diagnostic_lines.specs.FaultLines.{AreLinesOf}
use Rattle.diagnostic_lines.specs.declared.faults.FaultLine.{FaultLine}
use Rattle.diagnostic_lines.specs.Excerpts.{excerpt}

-- neither the project nor a class has a diagnostic
abbrev pub is_clean : AnswerValue → Bool
is_clean answer =
    length answer.faults == 0 && list_all (λ class. length class.faults == 0) answer.classes

-- the file, the line and the column there, if the diagnostic has them
abbrev pub place_words : Option (List ℕ) → Option TextPlace → List ℕ
place_words (Some file) (Some at) =
    file ++ codes ":" ++ decimal (line_of at.text at.byte) ++ codes ":"
    ++ decimal (column_of at.text at.byte)
place_words (Some file) None = file
place_words None at = codes "project"

-- Main.java:3:7: E304
abbrev pub head_text : FaultLine → List ℕ
head_text line =
    place_words (option_map (λ file. file.now) line.file) line.at ++ codes ": E"
    ++ decimal (code_number line.code)

abbrev pub line_text : FaultLine → List ℕ
line_text line = head_text line ++ codes "\n"

abbrev pub excerpt_if_any : Option TextPlace → List ℕ
excerpt_if_any None = []
excerpt_if_any (Some at) = excerpt at

-- Main.java:3:7: E304: an operand of +, - or * isn't an int
-- and below it its line in the file, if it has a place there
abbrev pub message_text : FaultLine → List ℕ
message_text line =
    head_text line ++ codes ": " ++ sentence_of line.code ++ codes "\n" ++ excerpt_if_any line.at

abbrev pub line_with : Bool → FaultLine → List ℕ
line_with messages line = if messages then message_text line else line_text line

-- the lines of the answer's diagnostics, each at its place in the files, with messages or without
pub record IsFaultText (messages : Bool) (files : List SourceFile) (answer : AnswerValue)
    (text : List ℕ) : Type 0 where
  pub lines : List FaultLine
  pub each : AreLinesOf files answer lines
  pub joined : text ≡ flat_map (line_with messages) lines
