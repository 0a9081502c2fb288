-- What the matches of a parse have of a subcommand.
use Rattle.std.specs.Prelude.{◌≡◌, ℕ, Bool, false, List, [], None, Some, IsTrue, codes, map}
use Rattle.std.specs.Prelude.{option_map, string_bytes, unwrap_or}
use Rattle.std.specs.Str.{bytes_eq}
use Rattle.std.specs.Option.{option_map_or}
use Rattle.clap.specs.Words.{Row, Text, all_of, first_of}
use Rattle.clap.specs.Words.{subcommand_name_of, subcommand_rows_of}
use Rattle.clap.specs.declared.ArgMatches.{ArgMatches}
use Rattle.command_line.specs.Given.{decimal_value}
use Rattle.command_line.specs.Runnable.{IsRunnable, files_of_words, subcommand_of}
use Rattle.command_line.specs.Subcommands.{is_one_or_more, word_for, wants_files_alone}
use Rattle.command_line.specs.declared.asked.AuditWords.{AuditWords}
use Rattle.command_line.specs.declared.asked.CheckWords.{CheckWords}
use Rattle.command_line.specs.declared.asked.ScratchWords.{ScratchWords}
use Rattle.command_line.specs.declared.asked.ShowWords.{ShowWords}
use Rattle.command_line.specs.declared.asked.Subcommand.{Subcommand}
use Rattle.command_line.specs.declared.asked.Words.{Words}
use Rattle.command_line.specs.declared.asked.Words.TheVariants as words

-- the values of an argument
abbrev pub values_in : Text → List Row → List Text
values_in id rows = unwrap_or (all_of id rows) []

-- the FILEs
abbrev pub files_in : List Row → List Text
files_in rows = values_in (codes "FILE") rows

-- the number that an option has, and 1 if it has none
abbrev pub option_number : Text → List Row → ℕ
option_number id rows = option_map_or decimal_value (first_of id rows) 1

-- a flag was given
abbrev pub has_flag : Text → List Row → Bool
has_flag id rows = option_map_or (bytes_eq (codes "true")) (first_of id rows) false

-- The profile is the number of its option, and the flag is set if it was given.
pub record IsScratchIn (rows : List Row) (w : ScratchWords) : Type 0 where
  pub profile : option_number (codes "profile") rows ≡ w.profile
  pub messages : has_flag (codes "messages") rows ≡ w.messages

-- The folder of the cache is the first value of its option, the numbers are those of theirs,
-- and the flag is set if it was given.
pub record IsCheckIn (rows : List Row) (w : CheckWords) : Type 0 where
  pub cache : first_of (codes "cache") rows ≡ Some (string_bytes w.cache)
  pub jobs : option_number (codes "jobs") rows ≡ w.jobs
  pub profile : option_number (codes "profile") rows ≡ w.profile
  pub form : option_number (codes "form") rows ≡ w.form
  pub messages : has_flag (codes "messages") rows ≡ w.messages

-- The sources are the values of their option, and the flag is set if it was given.
pub record IsAuditIn (rows : List Row) (w : AuditWords) : Type 0 where
  pub sources : values_in (codes "source") rows ≡ map string_bytes w.sources.items
  pub progress : has_flag (codes "progress") rows ≡ w.progress

-- The flag is set if it was given, and the record is the first value of its option.
pub record IsShowIn (rows : List Row) (w : ShowWords) : Type 0 where
  pub dot : has_flag (codes "dot") rows ≡ w.dot
  pub of_key : first_of (codes "of") rows ≡ option_map string_bytes w.of

-- the values of the options are those in the rows
abbrev pub AreOptionsIn : List Row → Words → Type 0
AreOptionsIn rows (words.Scratch w) = IsScratchIn rows w
AreOptionsIn rows (words.Check w) = IsCheckIn rows w
AreOptionsIn rows (words.Audit w) = IsAuditIn rows w
AreOptionsIn rows (words.Show w) = IsShowIn rows w
AreOptionsIn rows (words.Why w) = first_of (codes "of") rows ≡ option_map string_bytes w.of
AreOptionsIn rows (words.Explain asked) = Unit {0}

-- These arguments can be run: they are the subcommand with these FILEs and its options' values.
pub record AreWordsOf (subcommand : Subcommand) (files : List Text) (rows : List Row) (w : Words)
    : Type 0 where
  pub runnable : IsRunnable w
  pub asked : subcommand_of w ≡ subcommand
  pub named : files ≡ files_of_words w
  pub options : AreOptionsIn rows w

-- the rows of the subcommand that was met
abbrev pub met_rows : ArgMatches → List Row
met_rows m = option_map_or (λ (p : Text × List Row). p.1) (subcommand_rows_of m) []

-- These arguments are the subcommand that was met, with its FILEs and the values of its options.
pub record AreMet (m : ArgMatches) (w : Words) : Type 0 where
  pub name : subcommand_name_of m ≡ Some (word_for (subcommand_of w))
  pub files : files_in (met_rows m) ≡ files_of_words w
  pub options : AreOptionsIn (met_rows m) w

-- The rows have FILEs that are enough for the subcommand, no profile and no record's key.
pub record AreEnough (subcommand : Subcommand) (rows : List Row) : Type 0 where
  pub alone : IsTrue (wants_files_alone subcommand)
  pub files : IsTrue (is_one_or_more (files_in rows))
  pub profile : first_of (codes "profile") rows ≡ None
  pub of_key : first_of (codes "of") rows ≡ None
