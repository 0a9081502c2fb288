-- What the parse of a command line reads of the program and its subcommands.
use Rattle.std.specs.Prelude.{ℕ, List, Some, [], ◌∷◌, pos, true, codes, fold}
use Rattle.clap.specs.Lexer.{usize_max}
use Rattle.clap.specs.Simple.{on_top}
use Rattle.clap.specs.Words.{App, Rule, Text, new_app, new_rule, with_rule, with_subcommand}
use Rattle.clap.specs.declared.builder.ArgAction.TheVariants.{Append, SetTrue}
use Rattle.clap.specs.declared.builder.ValueParser.TheVariants as parser
use Rattle.command_line.specs.Runnable.{most_form, most_jobs, most_profile}
use Rattle.command_line.specs.Subcommands.{word_for}
use Rattle.command_line.specs.declared.asked.Subcommand.{Subcommand}
use Rattle.command_line.specs.declared.asked.Subcommand.TheVariants.{Scratch, Check, Audit, Show, Why, Explain}

-- one FILE or code, or more
abbrev pub files_rule : Rule
files_rule = record (new_rule (codes "FILE")) {
  value_names = 1;
  required = true;
  range = Some (record { start_inclusive = 1; end_inclusive = usize_max });
  action = Some Append;
}

-- an option with one value
abbrev pub option_rule : Text → Rule
option_rule name = record (new_rule name) { long = Some name; value_names = 1 }

-- DIR
abbrev pub cache_rule : Rule
cache_rule = record (option_rule (codes "cache")) { required = true }

-- N, of 1 to `most`
abbrev pub number_rule : Text → ℕ → Rule
number_rule name most =
    record (option_rule name) { parser = Some (parser.Signed (pos 1) (pos most)) }

abbrev pub profile_rule : Rule
profile_rule = number_rule (codes "profile") most_profile

-- an option without a value
abbrev pub flag_rule : Text → Rule
flag_rule name = record (new_rule name) { long = Some name; action = Some SetTrue }

-- FILE, each time that it is given
abbrev pub source_rule : Rule
source_rule = record (option_rule (codes "source")) { action = Some Append }

-- KEY
abbrev pub key_rule : Rule
key_rule = option_rule (codes "of")

-- the options of a subcommand
abbrev pub option_rules : Subcommand → List Rule
option_rules Scratch = profile_rule ∷ flag_rule (codes "messages") ∷ []
option_rules Check = cache_rule ∷ number_rule (codes "jobs") most_jobs
    ∷ number_rule (codes "form") most_form ∷ profile_rule ∷ flag_rule (codes "messages") ∷ []
option_rules Audit = source_rule ∷ flag_rule (codes "progress") ∷ []
option_rules Show = key_rule ∷ flag_rule (codes "dot") ∷ []
option_rules Why = key_rule ∷ []
option_rules Explain = []

-- a subcommand before its FILEs
abbrev pub options_app : Subcommand → App
options_app subcommand = fold with_rule (new_app (word_for subcommand)) (option_rules subcommand)

abbrev pub subcommand_app : Subcommand → App
subcommand_app subcommand = with_rule (options_app subcommand) files_rule

-- the program, before its subcommands
abbrev pub required_app : App
required_app = on_top (λ s. record s {
  has_version = true;
  subcommand_required = true;
}) (new_app (codes "mjrg"))

-- the program with `scratch` and `check`
abbrev pub checker_app : App
checker_app = with_subcommand
    (with_subcommand required_app (subcommand_app Scratch).top) (subcommand_app Check).top

-- and with the subcommands on chains
abbrev pub chains_app : App
chains_app = with_subcommand (with_subcommand
    (with_subcommand checker_app (subcommand_app Audit).top) (subcommand_app Show).top)
    (subcommand_app Why).top

abbrev pub program_app : App
program_app = with_subcommand chains_app (subcommand_app Explain).top
