-- Where the diagnostics of an answer stand in the texts of a project's files.
use Rattle.std.specs.Prelude.{◌≡◌, ◌≢◌, ◌++◌, ℕ, List, map, flat_map, Option, Some, None, option_map, option_and_then, find, slice_get}
use Rattle.std.specs.Str.{bytes_eq}
use Rattle.mj_lexer.specs.declared.token.Token.{Token}
use Rattle.mj_lexer.specs.Lexing.{tokens_of}
use Rattle.mj_tree.specs.Trees.{Name}
use Rattle.mj_tree.specs.declared.place.Place.{Place}
use Rattle.mj_tree.specs.declared.place.Place.TheVariants as places
use Rattle.mj_parser.specs.Locations.{token_of}
use Rattle.file_index.specs.Reading.{IsStop}
use Rattle.mj_answer.specs.declared.code.Code.{Code}
use Rattle.mj_answer.specs.declared.code.Code.TheVariants.{E103}
use Rattle.mj_answer.specs.declared.diagnostic.Diagnostic.{Diagnostic}
use Rattle.mj_answer.specs.AnswerValues.{AnswerValue}
use Rattle.mj_members.specs.Declarations.{ClassDecl}
use Rattle.mj_classes.specs.Declarations.{decl}
use Rattle.named_files.specs.Projects.{SourceFile}
use Rattle.mj_rules.specs.Sentences.{classes_in}
use Rattle.diagnostic_lines.specs.Pairs.{Pairwise}
use Rattle.diagnostic_lines.specs.Places.{TextPlace, in_text}
use Rattle.diagnostic_lines.specs.declared.faults.FaultLine.{FaultLine}

-- ---- bytes in a text

-- the first byte of a token
abbrev pub token_byte : List Token → ℕ → Option ℕ
token_byte ts number = option_map (λ t. t.start) (slice_get ts number)

abbrev pub byte_among : ℕ → Place → List Token → Option ℕ
byte_among class place ts = option_and_then (token_byte ts) (token_of ts class place)

-- that of the token of a place in the class with this number
unfoldable pub byte_in : List ℕ → ℕ → Place → Option ℕ
byte_in text class place = option_and_then (byte_among class place) (tokens_of text)

-- a place in the class with this number
abbrev pub place_in : List ℕ → ℕ → Place → Option TextPlace
place_in text class place = in_text text (byte_in text class place)

-- the byte of the text's error
pub record IsStopPlace (text : List ℕ) (at : Option TextPlace) : Type 0 where
  pub stop : Option ℕ
  pub is_stop : IsStop text stop
  pub at_stop : at ≡ in_text text stop

-- ---- files

-- a file's name, and a place in its text
pub record Spot : Type 0 where
  pub file : Option (List ℕ)
  pub at : Option TextPlace

abbrev pub nowhere : Spot
nowhere = record { file = None; at = None }

-- a place in the class with this number of a file
abbrev pub spot_in_file : Option SourceFile → ℕ → Place → Spot
spot_in_file None class place = nowhere
spot_in_file (Some f) class place =
    record { file = Some f.name; at = place_in f.bytes class place }

-- a place in a class
abbrev pub spot_in_class : List SourceFile → Option ClassDecl → Place → Spot
spot_in_class files None place = nowhere
spot_in_class files (Some k) place = spot_in_file (slice_get files k.file) k.number place

-- the file of a name
abbrev pub file_named : List SourceFile → Name → Option SourceFile
file_named files name = find (λ f. bytes_eq f.name name) files

-- Of two files with main classes the later one has its diagnostic at its main class, a file that is
-- no sentence where its error is.
pub record IsFileSpot (f : SourceFile) (code : Code) (spot : Spot) : Type 0 where
  pub file : spot.file ≡ Some f.name
  pub main : code ≡ E103 → spot.at ≡ place_in f.bytes 0 places.Class
  pub stop : code ≢ E103 → IsStopPlace f.bytes spot.at

abbrev pub IsSpotOfFile : Option SourceFile → Code → Spot → Type 0
IsSpotOfFile None code spot = spot ≡ nowhere
IsSpotOfFile (Some f) code spot = IsFileSpot f code spot

-- ---- diagnostics

-- where a diagnostic of the project stands
abbrev pub IsSpotOfProject : List SourceFile → Code → Place → Spot → Type 0
IsSpotOfProject files code (places.File name) spot = IsSpotOfFile (file_named files name) code spot
IsSpotOfProject files code (places.ClassOf name number) spot =
    spot ≡ spot_in_file (file_named files name) 0 (places.ClassOf name number)
IsSpotOfProject files code places.Project spot = spot ≡ nowhere
IsSpotOfProject files code places.Class spot = spot ≡ nowhere
IsSpotOfProject files code (places.Field number) spot = spot ≡ nowhere
IsSpotOfProject files code (places.Method number) spot = spot ≡ nowhere
IsSpotOfProject files code (places.Inside method token) spot = spot ≡ nowhere

-- a diagnostic with the name of its class; one of the project itself has none
pub record AnswerDiagnostic : Type 0 where
  pub class : Option Name
  pub fault : Diagnostic

abbrev pub of_project : Diagnostic → AnswerDiagnostic
of_project fault = record { class = None; fault = fault }

abbrev pub of_class : Name → Diagnostic → AnswerDiagnostic
of_class name fault = record { class = Some name; fault = fault }

-- the diagnostics of an answer: the project's own, then those of each class
abbrev pub findings : AnswerValue → List AnswerDiagnostic
findings answer =
    map of_project answer.faults
    ++ flat_map (λ class. map (of_class class.name) class.faults) answer.classes

-- A diagnostic of a class stands in the first class of its name.
abbrev pub IsSpotOf : List SourceFile → Option Name → Diagnostic → Spot → Type 0
IsSpotOf files None fault spot = IsSpotOfProject files fault.code fault.place spot
IsSpotOf files (Some class) fault spot =
    spot ≡ spot_in_class files (decl (classes_in files) class) fault.place

abbrev pub spot_of_line : FaultLine → Spot
spot_of_line line = record { file = option_map (λ f. f.now) line.file; at = line.at }

pub record IsLineOf (files : List SourceFile) (finding : AnswerDiagnostic) (line : FaultLine) : Type 0 where
  pub code : line.code ≡ finding.fault.code
  pub spot : IsSpotOf files finding.class finding.fault (spot_of_line line)

-- a line for each diagnostic of the answer, in its order
abbrev pub AreLinesOf : List SourceFile → AnswerValue → List FaultLine → Type 0
AreLinesOf files answer lines = Pairwise (IsLineOf files) (findings answer) lines

-- The class of this name is the one with this number of a file, or stands in none.
abbrev pub StandsIn : List SourceFile → Name → Option SourceFile → ℕ → Type 0
StandsIn files name file number =
    (place : Place)
    → spot_in_class files (decl (classes_in files) name) place ≡ spot_in_file file number place

-- lines with those of these diagnostics of such a class behind them
abbrev pub AddsLines : Option SourceFile → ℕ → List Diagnostic → List FaultLine → List FaultLine → Type 0
AddsLines file number faults old new =
    (files : List SourceFile) (name : Name) (before : List AnswerDiagnostic)
    → StandsIn files name file number → Pairwise (IsLineOf files) before old
    → Pairwise (IsLineOf files) (before ++ map (of_class name) faults) new
