-- What is answered to whoever asks for codes.
use Rattle.std.specs.Prelude.{◌≡◌, ℕ, List, [], ◌∷◌, ◌++◌, Option, None, Some, Result, Ok, Err, codes, find, flat_map, is_some, not, option_map, unwrap_or, String, string_bytes}
use Rattle.std.specs.declared.alloc.Global.{Global}
use Rattle.code_words.specs.declared.asking.ExplainFault.{ExplainFault}
use Rattle.code_words.specs.declared.asking.ExplainFault.TheVariants.{Unknown, OutOfMemory}
use Rattle.code_words.specs.Words.{chain_files_codes, chain_records_codes, declarations_codes, file_parts_codes, file_records_codes, operands_codes, project_codes, projects_codes, text_of, uses_codes}

-- the first argument that is no code
abbrev pub first_unknown : List (String Global) → Option (String Global)
first_unknown words = find (λ word. not (is_some (text_of (string_bytes word)))) words

-- the text of an argument; of one that is no code it is empty
abbrev pub word_text : String Global → List ℕ
word_text word = unwrap_or (text_of (string_bytes word)) []

-- the texts of these arguments, with an empty line between two
abbrev pub explained : List (String Global) → List ℕ
explained [] = []
explained (word ∷ others) =
    word_text word ++ flat_map (λ other. codes "\n" ++ word_text other) others

-- the fault of an argument that is no code
abbrev pub IsWordFault : List ℕ → ExplainFault → Type 0
IsWordFault word (Unknown copy) = string_bytes copy ≡ word
IsWordFault word OutOfMemory = Unit {0}

-- the answer to these arguments: their texts if each is a code, else the first that is none
abbrev pub ExplainGives : List (String Global) → Result (String Global) ExplainFault → Type 0
ExplainGives words (Ok text) =
    (first_unknown words ≡ None) × (string_bytes text ≡ explained words)
ExplainGives words (Err (Unknown word)) =
    option_map string_bytes (first_unknown words) ≡ Some (string_bytes word)
ExplainGives words (Err OutOfMemory) = Unit {0}

-- a line with the codes of a group
unfoldable pub codes_line : List (List ℕ) → List ℕ
codes_line group = codes " " ++ flat_map (λ c. codes " " ++ c) group ++ codes "\n"

-- the codes of diagnostics by their groups, and the numbers of refusals
abbrev pub diagnostic_lines : List ℕ
diagnostic_lines =
    codes_line project_codes ++ codes_line declarations_codes ++ codes_line operands_codes
    ++ codes_line uses_codes

abbrev pub refusal_lines : List ℕ
refusal_lines =
    codes_line projects_codes ++ codes_line file_parts_codes ++ codes_line file_records_codes
    ++ codes_line chain_files_codes ++ codes_line chain_records_codes

-- what is said of an argument that is no code: that it is none, and all that there are
abbrev pub unknown_text_of : List ℕ → List ℕ
unknown_text_of word =
    codes "error: unknown code '" ++ word ++ codes "'\n\nThe codes are\n"
    ++ diagnostic_lines ++ codes "and the refusals\n" ++ refusal_lines
