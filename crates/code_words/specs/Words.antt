-- The table of codes: in groups, each code with its text.
use Rattle.std.specs.Prelude.{ℕ, List, Option, map, option_and_then, position, slice_get}
use Rattle.std.specs.Option.{option_or}
use Rattle.std.specs.Str.{bytes_eq}
use Rattle.code_words.specs.declared.texts.chains.TheConstants.{CHAIN_FILES_CODES, CHAIN_FILES_TEXTS, CHAIN_RECORDS_CODES, CHAIN_RECORDS_TEXTS}
use Rattle.code_words.specs.declared.texts.declarations.TheConstants.{DECLARATIONS_CODES, DECLARATIONS_TEXTS}
use Rattle.code_words.specs.declared.texts.files.TheConstants.{FILE_PARTS_CODES, FILE_PARTS_TEXTS, FILE_RECORDS_CODES, FILE_RECORDS_TEXTS}
use Rattle.code_words.specs.declared.texts.phrases.TheConstants.{OPERANDS_CODES, OPERANDS_TEXTS, USES_CODES, USES_TEXTS}
use Rattle.code_words.specs.declared.texts.project.TheConstants.{PROJECT_CODES, PROJECT_TEXTS}
use Rattle.code_words.specs.declared.texts.projects.TheConstants.{PROJECTS_CODES, PROJECTS_TEXTS}

-- the text that stands at the place of the first of these codes that is the argument
unfoldable pub text_in : List (List ℕ) → List (List ℕ) → List ℕ → Option (List ℕ)
text_in cs texts word = option_and_then (slice_get texts) (position (λ c. bytes_eq c word) cs)

-- the codes of each group, and their texts
abbrev pub project_codes : List (List ℕ)
project_codes = map (λ c. c.now) PROJECT_CODES

abbrev pub project_texts : List (List ℕ)
project_texts = map (λ c. c.now) PROJECT_TEXTS

abbrev pub declarations_codes : List (List ℕ)
declarations_codes = map (λ c. c.now) DECLARATIONS_CODES

abbrev pub declarations_texts : List (List ℕ)
declarations_texts = map (λ c. c.now) DECLARATIONS_TEXTS

abbrev pub operands_codes : List (List ℕ)
operands_codes = map (λ c. c.now) OPERANDS_CODES

abbrev pub operands_texts : List (List ℕ)
operands_texts = map (λ c. c.now) OPERANDS_TEXTS

abbrev pub uses_codes : List (List ℕ)
uses_codes = map (λ c. c.now) USES_CODES

abbrev pub uses_texts : List (List ℕ)
uses_texts = map (λ c. c.now) USES_TEXTS

abbrev pub projects_codes : List (List ℕ)
projects_codes = map (λ c. c.now) PROJECTS_CODES

abbrev pub projects_texts : List (List ℕ)
projects_texts = map (λ c. c.now) PROJECTS_TEXTS

abbrev pub file_parts_codes : List (List ℕ)
file_parts_codes = map (λ c. c.now) FILE_PARTS_CODES

abbrev pub file_parts_texts : List (List ℕ)
file_parts_texts = map (λ c. c.now) FILE_PARTS_TEXTS

abbrev pub file_records_codes : List (List ℕ)
file_records_codes = map (λ c. c.now) FILE_RECORDS_CODES

abbrev pub file_records_texts : List (List ℕ)
file_records_texts = map (λ c. c.now) FILE_RECORDS_TEXTS

abbrev pub chain_files_codes : List (List ℕ)
chain_files_codes = map (λ c. c.now) CHAIN_FILES_CODES

abbrev pub chain_files_texts : List (List ℕ)
chain_files_texts = map (λ c. c.now) CHAIN_FILES_TEXTS

abbrev pub chain_records_codes : List (List ℕ)
chain_records_codes = map (λ c. c.now) CHAIN_RECORDS_CODES

abbrev pub chain_records_texts : List (List ℕ)
chain_records_texts = map (λ c. c.now) CHAIN_RECORDS_TEXTS

-- the text of the code of a diagnostic of a project or of a declaration
abbrev pub declared_text : List ℕ → Option (List ℕ)
declared_text word = option_or (text_in project_codes project_texts word)
    (text_in declarations_codes declarations_texts word)

-- the text of the code of a diagnostic of a phrase
abbrev pub phrase_text : List ℕ → Option (List ℕ)
phrase_text word =
    option_or (text_in operands_codes operands_texts word) (text_in uses_codes uses_texts word)

-- the text of a diagnostic's code
abbrev pub diagnostic_text : List ℕ → Option (List ℕ)
diagnostic_text word = option_or (declared_text word) (phrase_text word)

-- the text of the number of a refusal of a session's file
abbrev pub file_text : List ℕ → Option (List ℕ)
file_text word = option_or (text_in file_parts_codes file_parts_texts word)
    (text_in file_records_codes file_records_texts word)

-- the text of the number of a refusal of a chain
abbrev pub chain_text : List ℕ → Option (List ℕ)
chain_text word = option_or (text_in chain_files_codes chain_files_texts word)
    (text_in chain_records_codes chain_records_texts word)

-- the text of the number of a refusal of a session's file or of a chain
abbrev pub session_text : List ℕ → Option (List ℕ)
session_text word = option_or (file_text word) (chain_text word)

-- the text of a refusal's number
abbrev pub refusal_text : List ℕ → Option (List ℕ)
refusal_text word = option_or (text_in projects_codes projects_texts word) (session_text word)

-- the text that an argument asks for, if it is a code
abbrev pub text_of : List ℕ → Option (List ℕ)
text_of word = option_or (diagnostic_text word) (refusal_text word)
