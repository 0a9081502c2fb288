-- What the arguments behind a subcommand give, by the arguments alone.
use Rattle.std.specs.Prelude.{◌≡◌, ℕ, Bool, true, false, List, [], ◌∷◌, Option, Some, None}
use Rattle.std.specs.Prelude.{codes, if◌then◌else◌, map, option_map, string_bytes}
use Rattle.std.specs.List.{list_all, list_any}
use Rattle.std.specs.Str.{bytes_eq}
use Rattle.std.specs.Str.Parse.{digits_value, without_leading_plus}
use Rattle.clap.specs.Lexer.{long_of}
use Rattle.command_line.specs.Plain.{dashes}
use Rattle.command_line.specs.Runnable.{files_of_words}
use Rattle.command_line.specs.Subcommands.{Text, is_flag}
use Rattle.command_line.specs.declared.asked.AuditWords.{AuditWords}
use Rattle.command_line.specs.declared.asked.CheckWords.{CheckWords}
use Rattle.command_line.specs.declared.asked.ScratchWords.{ScratchWords}
use Rattle.command_line.specs.declared.asked.ShowWords.{ShowWords}
use Rattle.command_line.specs.declared.asked.Words.{Words}
use Rattle.command_line.specs.declared.asked.Words.TheVariants as words

-- a value behind the name of its option; a FILE has none
abbrev pub GivenValue : Type 0
GivenValue = Option Text × Text

-- `--NAME=VALUE` gives its VALUE, `--NAME` the next argument, and a flag `true`
abbrev pub given_to : Text → Option Text → List GivenValue → (Text → List GivenValue) → List GivenValue
given_to name (Some value) rest behind = (Some name, value) ∷ rest
given_to name None rest behind =
    if is_flag name then (Some name, codes "true") ∷ rest else behind name

-- any other argument is a FILE
abbrev pub given_by : Text → Option (Text × Option Text) → List GivenValue → (Text → List GivenValue)
    → List GivenValue
given_by word None rest behind = (None, word) ∷ rest
given_by word (Some p) rest behind = given_to p.0 p.1 rest behind

-- the values in their order; if an option waits for one, the first argument is its value. Behind
-- the first `--` every argument is a FILE
abbrev pub given_in : Option Text → List Text → List GivenValue
given_in waiting [] = []
given_in (Some name) (word ∷ rest) = (Some name, word) ∷ given_in None rest
given_in None (word ∷ rest) = if bytes_eq word dashes then map (λ file. (None, file)) rest
    else given_by word (long_of word) (given_in None rest) (λ name. given_in (Some name) rest)

abbrev pub is_of : Option Text → Option Text → Bool
is_of None None = true
is_of (Some name) (Some other) = bytes_eq name other
is_of _ _ = false

-- the values of an option, or the FILEs
abbrev pub values_of : Option Text → List GivenValue → List Text
values_of name [] = []
values_of name (given ∷ rest) =
    if is_of name given.0 then given.1 ∷ values_of name rest else values_of name rest

-- it is a FILE's, or one of these options
abbrev pub is_one_of : List Text → Option Text → Bool
is_one_of names None = true
is_one_of names (Some name) = list_any (bytes_eq name) names

-- no other options are given than these
abbrev pub are_of : List Text → List GivenValue → Bool
are_of names given = list_all (λ one. is_one_of names one.0) given

-- the number that the digits of a text write
abbrev pub decimal_value : Text → ℕ
decimal_value text = digits_value 10 (without_leading_plus text)

-- the one number that was given, and 1 if none was
abbrev pub IsNumberOf : List Text → ℕ → Type 0
IsNumberOf [] n = n ≡ 1
IsNumberOf (text ∷ []) n = n ≡ decimal_value text
IsNumberOf _ n = ⊥

-- a flag was given
abbrev pub IsFlagOf : List Text → Bool → Type 0
IsFlagOf texts b = b ≡ list_any (bytes_eq (codes "true")) texts

-- the one text that was given, and none if none was
abbrev pub IsTextOf : List Text → Option Text → Type 0
IsTextOf [] text = text ≡ None
IsTextOf (given ∷ []) text = text ≡ Some given
IsTextOf _ text = ⊥

-- The profile is the number of its option, and the flag is set if it was given.
pub record AreOptionsOfScratch (given : List GivenValue) (w : ScratchWords) : Type 0 where
  pub profile : IsNumberOf (values_of (Some (codes "profile")) given) w.profile
  pub messages : IsFlagOf (values_of (Some (codes "messages")) given) w.messages

-- The folder of the cache is the one value of `--cache`, the numbers are those of their
-- options, and the flag is set if it was given.
pub record AreOptionsOfCheck (given : List GivenValue) (w : CheckWords) : Type 0 where
  pub cache : values_of (Some (codes "cache")) given ≡ string_bytes w.cache ∷ []
  pub jobs : IsNumberOf (values_of (Some (codes "jobs")) given) w.jobs
  pub profile : IsNumberOf (values_of (Some (codes "profile")) given) w.profile
  pub form : IsNumberOf (values_of (Some (codes "form")) given) w.form
  pub messages : IsFlagOf (values_of (Some (codes "messages")) given) w.messages

-- The sources are the values of `--source` in their order, and the flag is set if it was given.
pub record AreOptionsOfAudit (given : List GivenValue) (w : AuditWords) : Type 0 where
  pub sources : values_of (Some (codes "source")) given ≡ map string_bytes w.sources.items
  pub progress : IsFlagOf (values_of (Some (codes "progress")) given) w.progress

-- The flag is set if it was given, and the record is the one that `--of` names.
pub record AreOptionsOfShow (given : List GivenValue) (w : ShowWords) : Type 0 where
  pub dot : IsFlagOf (values_of (Some (codes "dot")) given) w.dot
  pub of_key : IsTextOf (values_of (Some (codes "of")) given) (option_map string_bytes w.of)

-- the values of the options
abbrev pub AreOptionsOf : List GivenValue → Words → Type 0
AreOptionsOf given (words.Scratch w) = AreOptionsOfScratch given w
AreOptionsOf given (words.Check w) = AreOptionsOfCheck given w
AreOptionsOf given (words.Audit w) = AreOptionsOfAudit given w
AreOptionsOf given (words.Show w) = AreOptionsOfShow given w
AreOptionsOf given (words.Why w) =
    IsTextOf (values_of (Some (codes "of")) given) (option_map string_bytes w.of)
AreOptionsOf given (words.Explain asked) = Unit {0}

-- The values are those of the options, and the FILEs are all other arguments.
pub record IsGivenBy (given : List GivenValue) (w : Words) : Type 0 where
  pub options : AreOptionsOf given w
  pub files : values_of None given ≡ files_of_words w
