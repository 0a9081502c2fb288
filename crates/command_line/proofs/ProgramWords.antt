-- How the arguments after the program's name are read.
use Rattle.std.proofs.Common.{◌≡◌, ◌∙◌, ◌≤◌, ◌<◌, ◌&&◌, ◌||◌, ◌==◌, ◌++◌, inl, inr, ℕ, Bool, true, false, List, [], ◌∷◌, Option, Some, None, cond, codes, refl, sym, ap, ap₂, length, arith, append-nil, append_assoc, not, option_map, is_some, string_bytes, subst, true≢false}
use Rattle.std.proofs.lemmas.Bool.{not-true, and_parts}
use Rattle.std.proofs.lemmas.Option.{none-some, same_Some}
use Rattle.std.specs.Prelude.{drop, fold, if◌then◌else◌, option_and_then, slice_get}
use Rattle.std.specs.List.{list_any}
use Rattle.std.specs.Option.{option_map_or}
use Rattle.std.specs.Str.{bytes_eq}
use Rattle.std.proofs.lemmas.Slice.Eq.{bytes_eq-Decides}
use Rattle.clap.specs.Faults.{check_fault, defaults_fault, entered_fault, fault_of, other_fault, settle_fault, step_fault, turn_fault, walk_fault, word_fault}
use Rattle.clap.specs.Kinds.{or_else}
use Rattle.clap.specs.Lexer.{long_of, usize_max}
use Rattle.clap.specs.Simple.{Shape, built, entered, names_of, subcommand_rows}
use Rattle.clap.specs.Walk.{Held, Names, Row, Step, Walk, after_step, finished, idle, long_or_other, nothing_held, rows_after, settled, subcommand_met, subcommand_or_other, trailing, value, walk_from, walked, word_met}
use Rattle.clap.specs.Words.{App, HasKind, HasMatchesOf, Kinds, Text, first_of, is_simple, is_simple_and_free, kind_of, subcommand_name_of, subcommand_of, subcommand_rows_of}
use Rattle.clap.specs.declared.Error.{Error}
use Rattle.clap.specs.declared.error.ErrorKind.TheVariants.{OutOfMemory}
use Rattle.clap.specs.declared.ArgMatches.{ArgMatches}
use Rattle.clap.specs.declared.parser.matches.ArgMatches.TheViews.{out-ArgMatches, out-SubCommand}
use Rattle.clap.specs.declared.parser.matches.SubCommand.{SubCommand}
use Rattle.std.specs.Box.{box_value}
use Rattle.std.specs.Prelude.{Box, String}
use Rattle.command_line.specs.CommandLine.{Asks, AsksFor}
use Rattle.command_line.specs.Given.{AreOptionsOf, IsFlagOf, IsNumberOf, IsTextOf, are_of, decimal_value, given_in, values_of}
use Rattle.command_line.specs.Matches.{AreEnough, AreMet, AreOptionsIn, has_flag, option_number, met_rows}
use Rattle.command_line.specs.Plain.{HasDefaults, IsPlain, are_plain, asks_plainly, dashes, files_for, files_of, has_option, taken_by}
use Rattle.command_line.specs.Program.{program_app}
use Rattle.command_line.specs.Runnable.{subcommand_of as asked_of}
use Rattle.command_line.specs.Subcommands.{is_flag, is_one_or_more, is_repeatable, word_for, options_of, wants_files_alone}
use Rattle.command_line.specs.declared.asked.Subcommand.{Subcommand}
use Rattle.command_line.specs.declared.asked.Subcommand.TheVariants.{Scratch, Check, Audit, Show, Why, Explain}
use Rattle.command_line.specs.declared.asked.Words.{Words}
use Rattle.command_line.specs.declared.asked.Words.TheVariants as asked_words
use Rattle.command_line.proofs.Faults.{IsFault, first_fault, is_fault, next_fault}
use Rattle.command_line.proofs.Options.{HasFlagsAlone, read_plain}
use Rattle.command_line.proofs.PlainWords.{are_optional, files_within, level_taken, plain_files, plain_options}
use Rattle.command_line.proofs.Rules.{Flag, dot_flag, flag_of, messages_flag, names, options, progress_flag, rules_with}
use Rattle.command_line.proofs.ToldRows.{first_told, told}
use Rattle.command_line.proofs.Uses.{is_few}
use Rattle.command_line.proofs.Walks.{IsRead, level, read}

-- ---- the program

abbrev program : App
program = built program_app

abbrev top : Shape
top = program.top

abbrev commands : Names
commands = names_of program

flags_alone : HasFlagsAlone top
flags_alone = record {
  long = λ name. (bytes_eq (codes "help") name || false, (bytes_eq (codes "version") name || false, refl));
  short = λ x. (104 == x || false, (86 == x || false, refl));
}

-- the kinds at the end of a walk with these kinds
abbrev end_fault : Walk → Kinds → Kinds
end_fault w kinds = or_else kinds (or_else (entered_fault program w.stopped)
    (or_else (settle_fault top.rules top.args_override_self w.held)
    (or_else (defaults_fault (settled top.rules w.held).rows top.rules)
    (check_fault top (finished top.rules w.held) (is_some (entered program w.stopped))))))

abbrev start : Walk
start = walk_from nothing_held

abbrev walk_of : List Text → Walk
walk_of words = fold (walked top.rules commands) start words

abbrev kinds_of : List Text → Kinds
kinds_of words = walk_fault top commands start words

is_end : (name : Text) (words : List Text) → fault_of program_app (name ∷ words) ≡ end_fault (walk_of words) (kinds_of words)
is_end name words = refl

walk_is_fault : (name : Text) (words : List Text) → IsFault (kinds_of words) → IsFault (fault_of program_app (name ∷ words))
walk_is_fault name words fault = first_fault (kinds_of words) (end_fault (walk_of words) []) fault

-- ---- the subcommand

abbrev found_if : Bool → Text → Option (Text × List Text) → Option (Text × List Text)
found_if t name other = cond (t || false) (Some (name, [])) other

-- the subcommand was met, with the arguments after it
abbrev stopped_at : Text → List Text → Walk
stopped_at command words = record start { stopped = Some (command, words) }

stopped_walk : (command : Text) (before words : List Text) → fold (walked top.rules commands) (stopped_at command before) words ≡ stopped_at command (before ++ words)
unfolding walked
stopped_walk command before [] = ap (stopped_at command) (sym (append-nil before))
stopped_walk command before (word ∷ rest) =
    stopped_walk command (before ++ word ∷ []) rest ∙ ap (stopped_at command) (append_assoc before (word ∷ []) rest)

stopped_passes : (command : Text) (before words : List Text) → walk_fault top commands (stopped_at command before) words ≡ []
unfolding walk_fault walked
stopped_passes command before [] = refl
stopped_passes command before (word ∷ rest) = stopped_passes command (before ++ word ∷ []) rest

abbrev met_step : Option Text → Text → Held × Step
met_step m word = subcommand_or_other top.rules m idle 1 word nothing_held

abbrev turn_of : Option Text → Text → Kinds
turn_of m word = or_else (other_fault top m word nothing_held) (step_fault top 1 (met_step m word).0 (met_step m word).1)

-- the faults of a subcommand on the arguments after it
abbrev level_of : Subcommand → List Text → Kinds
level_of c rest = level (word_for c) (options c) (flag_of c) rest

-- its rows
unfoldable rows_of : Subcommand → List Text → List Row
rows_of c rest = rows_after (rules_with (options c) (flag_of c)) [] rest

name_walked : (c : Subcommand) → walked top.rules commands start (word_for c) ≡ stopped_at (word_for c) []
unfolding walked
name_walked Scratch = refl
name_walked Check = refl
name_walked Audit = refl
name_walked Show = refl
name_walked Why = refl
name_walked Explain = refl

name_turn : (c : Subcommand) → turn_fault top commands start (word_for c) ≡ []
name_turn Scratch = refl
name_turn Check = refl
name_turn Audit = refl
name_turn Show = refl
name_turn Why = refl
name_turn Explain = refl

level_is : (c : Subcommand) (rest : List Text) → end_fault (stopped_at (word_for c) rest) [] ≡ or_else (level_of c rest) []
unfolding defaults_fault
level_is Scratch rest = refl
level_is Check rest = refl
level_is Audit rest = refl
level_is Show rest = refl
level_is Why rest = refl
level_is Explain rest = refl

rows_are : (c : Subcommand) (rest : List Text) → entered program (Some (word_for c, rest)) ≡ Some (word_for c, rows_of c rest)
unfolding rows_of
rows_are Scratch rest = refl
rows_are Check rest = refl
rows_are Audit rest = refl
rows_are Show rest = refl
rows_are Why rest = refl
rows_are Explain rest = refl

module _ (c : Subcommand) (rest : List Text) where
  walk_is : walk_of (word_for c ∷ rest) ≡ stopped_at (word_for c) rest
  walk_is = ap (λ (w : Walk). fold (walked top.rules commands) w rest) (name_walked c) ∙ stopped_walk (word_for c) [] rest

  kinds_are : kinds_of (word_for c ∷ rest) ≡ []
  unfolding walk_fault
  kinds_are =
      ap (λ k. or_else k (walk_fault top commands (walked top.rules commands start (word_for c)) rest)) (name_turn c)
      ∙ (ap (λ (w : Walk). walk_fault top commands w rest) (name_walked c) ∙ stopped_passes (word_for c) [] rest)

  -- the faults are those of the subcommand
  fault_is : (name : Text) → fault_of program_app (name ∷ word_for c ∷ rest) ≡ or_else (level_of c rest) []
  fault_is name = ap₂ end_fault walk_is kinds_are ∙ level_is c rest

  entered_is_of : (name : Text) → subcommand_of program_app (name ∷ word_for c ∷ rest) ≡ Some (word_for c, rows_of c rest)
  entered_is_of name = ap (λ (w : Walk). entered program w.stopped) walk_is ∙ rows_are c rest

or_none : (kinds : Kinds) → or_else kinds [] ≡ kinds
or_none [] = refl
or_none (kind ∷ rest) = refl

-- ---- any other argument

-- an argument that goes to no positional is refused
stray : (h : Held) → IsFault (step_fault top 1 h value)
stray h = is_fault _ _

module _ (name command : Text) (no_name : (c : Subcommand) → bytes_eq (word_for c) command ≡ false) where
  passed : (c : Subcommand) (other : Option (Text × List Text)) → found_if (bytes_eq (word_for c) command) (word_for c) other ≡ other
  passed c other = ap (λ t. found_if t (word_for c) other) (no_name c)

  abbrev from : Subcommand → Option (Text × List Text) → Option (Text × List Text)
  from c other = found_if (bytes_eq (word_for c) command) (word_for c) other

  abbrev help_if : Bool → Option (Text × List Text)
  help_if t = found_if t (codes "help") None

  none_found : (t : Bool) → from Scratch (from Check (from Audit (from Show (from Why (from Explain (help_if t)))))) ≡ help_if t
  none_found t =
      passed Scratch (from Check (from Audit (from Show (from Why (from Explain (help_if t))))))
      ∙ (passed Check (from Audit (from Show (from Why (from Explain (help_if t)))))
      ∙ (passed Audit (from Show (from Why (from Explain (help_if t))))
      ∙ (passed Show (from Why (from Explain (help_if t)))
      ∙ (passed Why (from Explain (help_if t)) ∙ passed Explain (help_if t)))))

  met_help : (t : Bool) → bytes_eq (codes "help") command ≡ t → subcommand_met commands idle command ≡ option_map (λ (s : Text × List Text). s.0) (help_if t)
  met_help t is = ap (option_map (λ (s : Text × List Text). s.0)) (none_found (bytes_eq (codes "help") command) ∙ ap help_if is)

  turn_is_fault : (rest : List Text) → IsFault (turn_fault top commands start command) → IsFault (fault_of program_app (name ∷ command ∷ rest))
  unfolding walk_fault
  turn_is_fault rest fault = walk_is_fault name (command ∷ rest)
      (first_fault (turn_fault top commands start command) (walk_fault top commands (walked top.rules commands start command) rest) fault)

  help_refused : bytes_eq (codes "help") command ≡ true → (rest : List Text) → IsFault (fault_of program_app (name ∷ command ∷ rest))
  help_refused is_help rest =
      let met : subcommand_met commands idle command ≡ Some (codes "help") = met_help true is_help in
      turn_is_fault rest (λ none. first_fault (other_fault top (Some (codes "help")) command nothing_held) (step_fault top 1 (met_step (Some (codes "help")) command).0 (met_step (Some (codes "help")) command).1)
      (is_fault _ _) (sym (ap (λ m. turn_of m command) met) ∙ none))

  module _ (no_help : bytes_eq (codes "help") command ≡ false) where
    no_command : subcommand_met commands idle command ≡ None
    no_command = met_help false no_help

    abbrev behind_dashes : Walk
    behind_dashes = record start { is_trailing = true }

    abbrev step_if : Bool → Held × Step
    step_if t = if t then (nothing_held, trailing 1) else long_or_other top.rules idle command (long_of command) nothing_held

    dashes_walked : bytes_eq command dashes ≡ true → walked top.rules commands start command ≡ behind_dashes
    unfolding walked
    dashes_walked is =
        ap (λ m. after_step top.rules command start (met_step m command).0 (met_step m command).1) no_command
        ∙ ap (λ t. after_step top.rules command start (step_if t).0 (step_if t).1) is

    dashes_refused : bytes_eq command dashes ≡ true → (rest : List Text) → IsFault (fault_of program_app (name ∷ command ∷ rest))
    unfolding walk_fault defaults_fault
    dashes_refused is [] none =
        next_fault (kinds_of (command ∷ [])) (end_fault behind_dashes []) (is_fault _ _)
        (sym (ap (λ (w : Walk). end_fault w (kinds_of (command ∷ []))) (dashes_walked is)) ∙ none)
    dashes_refused is (word ∷ rest) none =
        walk_is_fault name (command ∷ word ∷ rest)
        (next_fault (turn_fault top commands start command) (walk_fault top commands (walked top.rules commands start command) (word ∷ rest))
        (λ later. first_fault (step_fault top 1 nothing_held value) (walk_fault top commands (walked top.rules commands behind_dashes word) rest) (stray nothing_held)
        (sym (ap (λ (w : Walk). walk_fault top commands w (word ∷ rest)) (dashes_walked is)) ∙ later))) none

    word_refused : bytes_eq command dashes ≡ false → (rest : List Text) → IsFault (fault_of program_app (name ∷ command ∷ rest))
    word_refused no_dashes rest =
        let met = word_met top.rules commands false idle 1 command nothing_held in
        let first = word_fault top commands false idle command nothing_held in
        elim (read_plain top commands idle 1 command [] None no_command no_dashes flags_alone) [
          | inl fault ↦ turn_is_fault rest (first_fault first (step_fault top 1 met.0 met.1) fault)
          | inr is ↦ turn_is_fault rest (next_fault first (step_fault top 1 met.0 met.1)
              (λ none. stray nothing_held (sym (ap (λ (m : Held × Step). step_fault top 1 m.0 m.1) is) ∙ none)))
        ]

    plain_refused : (t : Bool) → bytes_eq command dashes ≡ t → (rest : List Text) → IsFault (fault_of program_app (name ∷ command ∷ rest))
    plain_refused true is rest = dashes_refused is rest
    plain_refused false is rest = word_refused is rest

  other_refused : (t : Bool) → bytes_eq (codes "help") command ≡ t → (rest : List Text) → IsFault (fault_of program_app (name ∷ command ∷ rest))
  other_refused true is rest = help_refused is rest
  other_refused false is rest = plain_refused is (bytes_eq command dashes) refl rest

no_word : (words : List Text) → length words < 2 → IsFault (fault_of program_app words)
unfolding walk_fault defaults_fault
no_word [] few = is_fault _ _
no_word (name ∷ []) few = is_fault _ _
no_word (name ∷ command ∷ rest) few = absurd (omega arith)

-- ---- all arguments

-- what a parse that succeeds is of
record IsFoundIn (words : List Text) : Type 0 where
  subcommand : Subcommand
  asked : AsksFor words subcommand
  passes : level_of subcommand (drop 2 words) ≡ []
  entered_is : subcommand_of program_app words ≡ Some (word_for subcommand, rows_of subcommand (drop 2 words))

found_at : (c : Subcommand) (name command : Text) (rest : List Text) → bytes_eq (word_for c) command ≡ true → fault_of program_app (name ∷ command ∷ rest) ≡ []
    → IsFoundIn (name ∷ command ∷ rest)
found_at c name command rest is none =
    let same : word_for c ≡ command = (bytes_eq-Decides (word_for c) command).0 is in
    let faults : fault_of program_app (name ∷ command ∷ rest) ≡ or_else (level_of c rest) [] =
    ap (λ w. fault_of program_app (name ∷ w ∷ rest)) (sym same) ∙ fault_is c rest name in
    record {
      subcommand = c;
      asked = ap (λ w. Some w) (sym same);
      passes = sym (or_none (level_of c rest)) ∙ (sym faults ∙ none);
      entered_is = ap (λ w. subcommand_of program_app (name ∷ w ∷ rest)) (sym same) ∙ entered_is_of c rest name;
    }

found_by : (name command : Text) (rest : List Text) (s k a w y e : Bool)
    → bytes_eq (codes "scratch") command ≡ s → bytes_eq (codes "check") command ≡ k → bytes_eq (codes "audit") command ≡ a
    → bytes_eq (codes "show") command ≡ w → bytes_eq (codes "why") command ≡ y → bytes_eq (codes "explain") command ≡ e
    → fault_of program_app (name ∷ command ∷ rest) ≡ [] → IsFoundIn (name ∷ command ∷ rest)
found_by name command rest true k a w y e is_s is_k is_a is_w is_y is_e none = found_at Scratch name command rest is_s none
found_by name command rest false true a w y e is_s is_k is_a is_w is_y is_e none = found_at Check name command rest is_k none
found_by name command rest false false true w y e is_s is_k is_a is_w is_y is_e none = found_at Audit name command rest is_a none
found_by name command rest false false false true y e is_s is_k is_a is_w is_y is_e none = found_at Show name command rest is_w none
found_by name command rest false false false false true e is_s is_k is_a is_w is_y is_e none = found_at Why name command rest is_y none
found_by name command rest false false false false false true is_s is_k is_a is_w is_y is_e none = found_at Explain name command rest is_e none
found_by name command rest false false false false false false is_s is_k is_a is_w is_y is_e none =
    absurd (other_refused name command no_name (bytes_eq (codes "help") command) refl rest none)
  where
    no_name : (c : Subcommand) → bytes_eq (word_for c) command ≡ false
    no_name Scratch = is_s
    no_name Check = is_k
    no_name Audit = is_a
    no_name Show = is_w
    no_name Why = is_y
    no_name Explain = is_e

found : (words : List Text) → fault_of program_app words ≡ [] → IsFoundIn words
found [] none = absurd (no_word [] (omega arith) none)
found (name ∷ []) none = absurd (no_word (name ∷ []) (omega arith) none)
found (name ∷ command ∷ rest) none =
    found_by name command rest (bytes_eq (codes "scratch") command) (bytes_eq (codes "check") command) (bytes_eq (codes "audit") command)
    (bytes_eq (codes "show") command) (bytes_eq (codes "why") command) (bytes_eq (codes "explain") command) refl refl refl refl refl refl none

-- ---- the matches

module _ {Z : Type 0} where
  name-subcommand_rows : (met : Option (Box SubCommand Z)) → option_map (λ b. (out-SubCommand (box_value b)).name.now) met ≡ option_map (λ (p : Text × List Row). p.0) (subcommand_rows met)
  name-subcommand_rows None = refl
  name-subcommand_rows (Some b) = refl

-- the arguments ask for the subcommand that was met, whose rows have what the arguments behind it give
pub record HasRead (words : List Text) (m : ArgMatches) : Type 0 where
  pub subcommand : Subcommand
  pub asked : AsksFor words subcommand
  pub name : subcommand_name_of m ≡ Some (word_for subcommand)
  pub read : IsRead (options subcommand) (flag_of subcommand) (drop 2 words) (met_rows m)

found_read : (words : List Text) (m : ArgMatches) → subcommand_rows_of m ≡ subcommand_of program_app words → IsFoundIn words → HasRead words m
unfolding rows_of
found_read words m matches is =
    let met = matches ∙ is.entered_is in
    let rows = ap (λ o. option_map_or (λ (p : Text × List Row). p.1) o []) met in
    record {
      subcommand = is.subcommand;
      asked = is.asked;
      name = name-subcommand_rows (out-ArgMatches m).subcommand ∙ ap (option_map (λ (p : Text × List Row). p.0)) met;
      read = subst (IsRead (options is.subcommand) (flag_of is.subcommand) (drop 2 words)) (sym rows) (read (word_for is.subcommand) (options is.subcommand) (flag_of is.subcommand) (drop 2 words) is.passes);
    }

-- a parse that succeeds
pub has_read : (app : App) (words : List Text) (m : ArgMatches) → app ≡ program_app → (is_simple_and_free app ≡ true → fault_of app words ≡ [])
    → HasMatchesOf app words m → HasRead words m
has_read app words m program_is kinds matches =
    let none = ap (λ a. fault_of a words) (sym program_is) ∙ kinds (ap is_simple_and_free program_is) in
    found_read words m ((matches (ap is_simple program_is)).1 ∙ ap (λ a. subcommand_of a words) program_is) (found words none)

-- the subcommand of a name
abbrev named : Text → Option Subcommand
named name = cond (bytes_eq (codes "scratch") name) (Some Scratch) (cond (bytes_eq (codes "check") name) (Some Check)
    (cond (bytes_eq (codes "audit") name) (Some Audit) (cond (bytes_eq (codes "show") name) (Some Show)
    (cond (bytes_eq (codes "why") name) (Some Why) (cond (bytes_eq (codes "explain") name) (Some Explain) None)))))

named_as : (c : Subcommand) → named (word_for c) ≡ Some c
named_as Scratch = refl
named_as Check = refl
named_as Audit = refl
named_as Show = refl
named_as Why = refl
named_as Explain = refl

-- no two subcommands have one name
same_subcommand : (c d : Subcommand) → word_for c ≡ word_for d → c ≡ d
same_subcommand c d same = same_Some c d (sym (named_as c) ∙ (ap named same ∙ named_as d))

-- ---- what was met is what the arguments ask for

names_are : (c : Subcommand) → names (options c) (flag_of c) ≡ options_of c
names_are Scratch = refl
names_are Check = refl
names_are Audit = refl
names_are Show = refl
names_are Why = refl
names_are Explain = refl

one_value : (vs : List Text) (x : Text) → is_few vs ≡ true → slice_get vs 0 ≡ Some x → vs ≡ x ∷ []
one_value [] x few first = absurd (none-some x first)
one_value (v ∷ []) x few first = ap (λ y. y ∷ []) (same_Some v x first)
one_value (v ∷ u ∷ vs) x few first = absurd (true≢false (sym few))

number_of : (vs : List Text) (n : ℕ) → is_few vs ≡ true → option_map_or decimal_value (slice_get vs 0) 1 ≡ n → IsNumberOf vs n
number_of [] n few is = sym is
number_of (v ∷ []) n few is = sym is
number_of (v ∷ u ∷ vs) n few is = absurd (true≢false (sym few))

text_of : (vs : List Text) (text : Option Text) → is_few vs ≡ true → slice_get vs 0 ≡ text → IsTextOf vs text
text_of [] text few is = sym is
text_of (v ∷ []) text few is = sym is
text_of (v ∷ u ∷ vs) text few is = absurd (true≢false (sym few))

module _ (words : List Text) (c : Subcommand) (rows : List Row) (is : IsRead (options c) (flag_of c) words rows) where
  -- the number of an option
  number_read : (name : Text) (n : ℕ) → bytes_eq (codes "FILE") name ≡ false → is_repeatable name ≡ false → is_flag name ≡ false
      → option_number name rows ≡ n → IsNumberOf (values_of (Some name) (given_in None words)) n
  number_read name n part once valued number = subst (λ vs. IsNumberOf vs n) (is.values (Some name) part valued)
      (number_of (told name rows) n (is.few name part once valued) (sym (ap (λ o. option_map_or decimal_value o 1) (first_told name rows)) ∙ number))

  value_read : (name v : Text) → bytes_eq (codes "FILE") name ≡ false → is_repeatable name ≡ false → is_flag name ≡ false
      → first_of name rows ≡ Some v → values_of (Some name) (given_in None words) ≡ v ∷ []
  value_read name v part once valued first = sym (is.values (Some name) part valued)
      ∙ one_value (told name rows) v (is.few name part once valued) (sym (first_told name rows) ∙ first)

  text_read : (name : Text) (text : Option Text) → bytes_eq (codes "FILE") name ≡ false → is_repeatable name ≡ false → is_flag name ≡ false
      → first_of name rows ≡ text → IsTextOf (values_of (Some name) (given_in None words)) text
  text_read name text part once valued first = subst (λ vs. IsTextOf vs text) (is.values (Some name) part valued)
      (text_of (told name rows) text (is.few name part once valued) (sym (first_told name rows) ∙ first))

  flag_read : (g : Flag) (b : Bool) → flag_of c ≡ Some g → has_flag g.name rows ≡ b → IsFlagOf (values_of (Some g.name) (given_in None words)) b
  flag_read g b has set = sym set ∙ is.set g has

  options_read : (w : Words) → c ≡ asked_of w → AreOptionsIn rows w → AreOptionsOf (given_in None words) w
  options_read (asked_words.Scratch w) same met = record {
    profile = number_read (codes "profile") w.profile refl refl refl met.profile;
    messages = flag_read messages_flag w.messages (ap flag_of same) met.messages;
  }
  options_read (asked_words.Check w) same met = record {
    cache = value_read (codes "cache") (string_bytes w.cache) refl refl refl met.cache;
    jobs = number_read (codes "jobs") w.jobs refl refl refl met.jobs;
    profile = number_read (codes "profile") w.profile refl refl refl met.profile;
    form = number_read (codes "form") w.form refl refl refl met.form;
    messages = flag_read messages_flag w.messages (ap flag_of same) met.messages;
  }
  options_read (asked_words.Audit w) same met = record {
    sources = sym (is.values (Some (codes "source")) refl refl) ∙ met.sources;
    progress = flag_read progress_flag w.progress (ap flag_of same) met.progress;
  }
  options_read (asked_words.Show w) same met = record {
    dot = flag_read dot_flag w.dot (ap flag_of same) met.dot;
    of_key = text_read (codes "of") (option_map string_bytes w.of) refl refl refl met.of_key;
  }
  options_read (asked_words.Why w) same met = text_read (codes "of") (option_map string_bytes w.of) refl refl refl met
  options_read (asked_words.Explain asked) same met = tt

-- the arguments that were met are those that were asked for
pub asked_are_met : (words : List Text) (m : ArgMatches) (w : Words) → HasRead words m → AreMet m w → Asks words w
asked_are_met words m w is met =
    let same : is.subcommand ≡ asked_of w = same_subcommand is.subcommand (asked_of w) (same_Some _ _ (sym is.name ∙ met.name)) in
    let rest = drop 2 words in
    record {
      subcommand = is.asked ∙ ap (λ c. Some (word_for c)) same;
      known = subst (λ names. are_of names (given_in None rest) ≡ true) (names_are is.subcommand ∙ ap options_of same) is.read.known;
      gives = record {
        options = options_read rest is.subcommand (met_rows m) is.read w same met.options;
        files = sym (is.read.values None tt refl) ∙ met.files;
      };
    }

-- ---- plain arguments

-- the FILEs are enough, and there is no option
pub record ArePlain (c : Subcommand) (rest files : List Text) : Type 0 where
  pub alone : wants_files_alone c ≡ true
  pub enough : is_one_or_more (files_of rest) ≡ true
  pub no_option : has_option rest ≡ false
  pub files_are : files_of rest ≡ files

abbrev taken_if : Bool → List Text → Option (List Text)
taken_if t rest = if t then Some (files_of rest) else None

plain_rest : (c : Subcommand) (rest files : List Text) (t : Bool) → are_plain c rest ≡ t → taken_if t rest ≡ Some files → ArePlain c rest files
plain_rest c rest files true is taken =
    let first = and_parts (wants_files_alone c) (is_one_or_more (files_of rest) && not (has_option rest)) is in
    let second = and_parts (is_one_or_more (files_of rest)) (not (has_option rest)) first.1 in
    record { alone = first.0; enough = second.0; no_option = not-true (has_option rest) second.1; files_are = same_Some _ _ taken }
plain_rest c rest files false is taken = absurd (none-some files taken)

abbrev behind_if : Subcommand → Bool → List Text → Option (List Text)
behind_if c t rest = option_and_then (taken_by c) (if t then Some rest else None)

-- the subcommand is asked for, with plain arguments behind it
pub record AsksPlainly (c : Subcommand) (words files : List Text) : Type 0 where
  pub asked : AsksFor words c
  pub plain : ArePlain c (drop 2 words) files

plain_by : (c : Subcommand) (name command : Text) (rest files : List Text) (t : Bool) → bytes_eq (word_for c) command ≡ t → behind_if c t rest ≡ Some files
    → AsksPlainly c (name ∷ command ∷ rest) files
plain_by c name command rest files true is taken = record {
  asked = ap (λ w. Some w) (sym ((bytes_eq-Decides (word_for c) command).0 is));
  plain = plain_rest c rest files (are_plain c rest) refl taken;
}
plain_by c name command rest files false is taken = absurd (none-some files taken)

pub asks : (c : Subcommand) (words files : List Text) → files_for c words ≡ Some files → AsksPlainly c words files
asks c [] files is = absurd (none-some files is)
asks c (name ∷ []) files is = absurd (none-some files is)
asks c (name ∷ command ∷ rest) files is = plain_by c name command rest files (bytes_eq (word_for c) command) refl is

is_given : (o : Option (List Text)) → is_some o ≡ true → (files : List Text) × (o ≡ Some files)
is_given None is = absurd (true≢false (sym is))
is_given (Some files) is = (files, refl)

pub asks_some : (c : Subcommand) (words : List Text) → asks_plainly c words ≡ true → (files : List Text) × (files_for c words ≡ Some files)
asks_some c words plain = is_given (files_for c words) plain

optional : (c : Subcommand) → wants_files_alone c ≡ true → are_optional (options c)
optional Scratch alone = refl
optional Check alone = absurd (true≢false (sym alone))
optional Audit alone = refl
optional Show alone = refl
optional Why alone = refl
optional Explain alone = refl

-- arguments that ask plainly are taken
taken : (c : Subcommand) (words files : List Text) → AsksPlainly c words files → length words ≤ usize_max → fault_of program_app words ≡ []
taken c [] files plain most = absurd (none-some _ plain.asked)
taken c (name ∷ []) files plain most = absurd (none-some _ plain.asked)
taken c (name ∷ command ∷ rest) files is most =
    let same : command ≡ word_for c = same_Some _ _ is.asked in
    let within = files_within rest in
    ap (λ w. fault_of program_app (name ∷ w ∷ rest)) same
    ∙ (fault_is c rest name
    ∙ ap (λ k. or_else k []) (level_taken (word_for c) (options c) (flag_of c) (optional c is.plain.alone) rest is.plain.no_option is.plain.enough (omega (arith, within, most))))

-- a parse of arguments that ask plainly fails only because memory runs out
pub only_memory : (app : App) (c : Subcommand) (words files : List Text) (e : Error) → app ≡ program_app → files_for c words ≡ Some files → length words ≤ usize_max
    → (is_simple_and_free app ≡ true → HasKind (fault_of app words) e) → kind_of e ≡ OutOfMemory
only_memory app c words files e program_is plain most has =
    let none = ap (λ a. fault_of a words) program_is ∙ taken c words files (asks c words files plain) most in
    elim (subst (λ kinds. HasKind kinds e) none (has (ap is_simple_and_free program_is))) [ inl is ↦ is | inr never ↦ absurd never ]

-- ---- what is read of plain arguments

none_from : {Z : Type 0} (o : Option (String Z)) → option_map string_bytes o ≡ None → o ≡ None
none_from None none = refl
none_from (Some s) none = absurd (none-some (string_bytes s) (sym none))

module _ (c : Subcommand) (words files : List Text) (plain : files_for c words ≡ Some files) where
  abbrev asked_plainly : AsksPlainly c words files
  asked_plainly = asks c words files plain

  number_of_none : (name : Text) (n : ℕ) → IsNumberOf (values_of (Some name) (given_in None (drop 2 words))) n → n ≡ 1
  number_of_none name n number = subst (λ vs. IsNumberOf vs n) (plain_options name (drop 2 words) asked_plainly.plain.no_option) number

  no_text : {Z : Type 0} (name : Text) (o : Option (String Z)) → IsTextOf (values_of (Some name) (given_in None (drop 2 words))) (option_map string_bytes o) → o ≡ None
  no_text name o text = none_from o (subst (λ vs. IsTextOf vs (option_map string_bytes o)) (plain_options name (drop 2 words) asked_plainly.plain.no_option) text)

  no_flag : (name : Text) (b : Bool) → IsFlagOf (values_of (Some name) (given_in None (drop 2 words))) b → b ≡ false
  no_flag name b set = set ∙ ap (list_any (bytes_eq (codes "true"))) (plain_options name (drop 2 words) asked_plainly.plain.no_option)

  defaults : (w : Words) → AreOptionsOf (given_in None (drop 2 words)) w → HasDefaults w
  defaults (asked_words.Scratch w) gives = (number_of_none (codes "profile") w.profile gives.profile, no_flag (codes "messages") w.messages gives.messages)
  defaults (asked_words.Check w) gives = (
    number_of_none (codes "jobs") w.jobs gives.jobs,
    number_of_none (codes "profile") w.profile gives.profile,
    number_of_none (codes "form") w.form gives.form,
    no_flag (codes "messages") w.messages gives.messages,
  )
  defaults (asked_words.Audit w) gives = (
    sym gives.sources ∙ plain_options (codes "source") (drop 2 words) asked_plainly.plain.no_option,
    no_flag (codes "progress") w.progress gives.progress,
  )
  defaults (asked_words.Show w) gives = (no_flag (codes "dot") w.dot gives.dot, no_text (codes "of") w.of gives.of_key)
  defaults (asked_words.Why w) gives = no_text (codes "of") w.of gives
  defaults (asked_words.Explain asked) gives = tt

  -- what plain arguments ask for is just this
  pub plain_asked : (w : Words) → Asks words w → IsPlain c files w
  plain_asked w asks = record {
    asked = same_subcommand (asked_of w) c (same_Some _ _ (sym asks.subcommand ∙ asked_plainly.asked));
    named = sym asks.gives.files ∙ (plain_files (drop 2 words) asked_plainly.plain.no_option ∙ asked_plainly.plain.files_are);
    defaults = defaults w asks.gives.options;
  }

  module _ (m : ArgMatches) (is : HasRead words m) where
    pub plain_named : subcommand_name_of m ≡ Some (word_for c)
    plain_named = is.name ∙ (sym is.asked ∙ asked_plainly.asked)

    -- the rows have no value of an option
    nothing_first : (name : Text) → bytes_eq (codes "FILE") name ≡ false → is_flag name ≡ false → first_of name (met_rows m) ≡ None
    nothing_first name part valued = first_told name (met_rows m)
        ∙ ap (λ vs. slice_get vs 0) (is.read.values (Some name) part valued ∙ plain_options name (drop 2 words) asked_plainly.plain.no_option)

    -- the rows have FILEs that are enough
    pub plain_enough : AreEnough c (met_rows m)
    plain_enough = record {
      alone = asked_plainly.plain.alone;
      files = ap is_one_or_more (is.read.values None tt refl ∙ plain_files (drop 2 words) asked_plainly.plain.no_option) ∙ asked_plainly.plain.enough;
      profile = nothing_first (codes "profile") refl refl;
      of_key = nothing_first (codes "of") refl refl;
    }
