-- Arguments with no option, and with FILEs that are enough, are taken.
use Rattle.std.proofs.Common.{◌≡◌, ◌∙◌, ◌≤◌, ◌<◌, ◌&&◌, ◌||◌, ◌==◌, ◌++◌, ℕ, Bool, true, false, List, [], ◌∷◌, Option, Some, None, codes, refl, sym, ap, length, arith, append-nil, append_assoc, map, nat_lt, not, subst, true≢false}
use Rattle.std.specs.Prelude.{fold, if◌then◌else◌}
use Rattle.std.specs.List.{list_any}
use Rattle.std.specs.Option.{option_map_or}
use Rattle.std.specs.Str.{bytes_eq}
use Rattle.std.proofs.lemmas.Bool.Decides.{nat_tests}
use Rattle.std.proofs.lemmas.Bool.{or_parts}
use Rattle.clap.specs.Faults.{check_fault, default_fault, defaults_fault, flag_word_fault, given_default_fault, settle_fault, step_fault, turn_fault, use_fault, walk_fault, word_fault}
use Rattle.clap.specs.Kinds.{or_else, range_kinds, values_kinds}
use Rattle.clap.specs.Lexer.{long_of, usize_max}
use Rattle.clap.specs.Simple.{Shape}
use Rattle.clap.specs.Takes.{is_given}
use Rattle.clap.specs.Walk.{Held, Row, Step, Walk, after_step, finished, has_row, long_or_other, nothing_held, settled, trailing, used_by_id, value, walk, walked, with_default, word_met}
use Rattle.clap.specs.Words.{Kinds, Rule, Text}
use Rattle.clap.specs.declared.builder.ValueParser.TheVariants as parser
use Rattle.clap.specs.declared.error.ErrorKind.TheVariants.{MissingRequiredArgument}
use Rattle.command_line.specs.Given.{GivenValue, given_by, given_in, values_of}
use Rattle.command_line.specs.Plain.{dashes, files_of, has_option, is_option}
use Rattle.command_line.specs.Subcommands.{is_one_or_more}
use Rattle.command_line.proofs.Options.{help, not_long, plain_fault, plain_met}
use Rattle.command_line.proofs.Rules.{Flag, Opt, file, file_by_id, flag_as, rule, rules_with, shape_with}
use Rattle.command_line.proofs.Uses.{defaults_are, flag_part, with_defaults, with_files}
use Rattle.command_line.proofs.Walks.{Pending, dashes_walked, file_kinds_are, file_taken, held, level, no_command, nothing, pending_of, plain_is, rows_before, some, state, trailing_word, waiting_of, with_file}

abbrev option_if : Bool → Text → List Text → Bool
option_if t word rest = if t then false else is_option word || has_option rest

abbrev files_if : Bool → Text → List Text → List Text
files_if t word rest = if t then rest else word ∷ files_of rest

-- ---- what plain arguments give

abbrev files_given : List Text → List GivenValue
files_given files = map (λ file. (None, file)) files

abbrev given_if : Bool → Text → List Text → List GivenValue
given_if t word rest = if t then files_given rest else given_by word (long_of word) (given_in None rest) (λ name. given_in (Some name) rest)

plain_by : (word : Text) (rest : List Text) (t : Bool) → (has_option rest ≡ false → given_in None rest ≡ files_given (files_of rest))
    → option_if t word rest ≡ false → given_if t word rest ≡ files_given (files_if t word rest)
plain_by word rest true later none = refl
plain_by word rest false later none =
    let parts = or_parts (is_option word) (has_option rest) none in
    ap (λ l. given_by word l (given_in None rest) (λ name. given_in (Some name) rest)) (not_long word parts.0)
    ∙ ap (λ given. (None, word) ∷ given) (later parts.1)

plain_given : (words : List Text) → has_option words ≡ false → given_in None words ≡ files_given (files_of words)
plain_given [] none = refl
plain_given (word ∷ rest) none = plain_by word rest (bytes_eq word dashes) (plain_given rest) none

just_files : (files : List Text) → values_of None (files_given files) ≡ files
just_files [] = refl
just_files (f ∷ files) = ap (λ fs. f ∷ fs) (just_files files)

no_values : (name : Text) (files : List Text) → values_of (Some name) (files_given files) ≡ []
no_values name [] = refl
no_values name (f ∷ files) = no_values name files

-- the FILEs, and of options none
pub plain_files : (words : List Text) → has_option words ≡ false → values_of None (given_in None words) ≡ files_of words
plain_files words none = ap (values_of None) (plain_given words none) ∙ just_files (files_of words)

pub plain_options : (name : Text) (words : List Text) → has_option words ≡ false → values_of (Some name) (given_in None words) ≡ []
plain_options name words none = ap (values_of (Some name)) (plain_given words none) ∙ no_values name (files_of words)

-- ---- the walk over them

module _ (command : Text) (opts : List Opt) (flag : Option Flag) where
  abbrev s : Shape
  s = shape_with command opts flag

  abbrev rules : List Rule
  rules = rules_with opts flag

  abbrev pending : List Text → Pending opts flag
  pending [] = nothing
  pending (f ∷ files) = some f files

  abbrev held_at : List Text → Held
  held_at files = held command opts flag [] (pending files)

  -- these FILEs were read
  abbrev at : List Text → Bool → Walk
  at files t = state command opts flag [] (pending files) t

  abbrev file_at : List Row → Pending opts flag → Bool → Walk
  file_at rows p t = state command opts flag rows p t

  file_next : (files : List Text) (t : Bool) (word : Text) → file_at (rows_before command opts flag [] (pending files)) (with_file command opts flag (pending files) word) t ≡ at (files ++ word ∷ []) t
  file_next [] t word = refl
  file_next (f ∷ files) t word = refl

  next_file : (files : List Text) (t : Bool) (word : Text) → after_step rules word (at files t) (held_at files) value ≡ at (files ++ word ∷ []) t
  next_file files t word = file_taken command opts flag [] (pending files) t word ∙ file_next files t word

  file_passes : (files : List Text) → step_fault s 1 (held_at files) value ≡ []
  file_passes [] = file_kinds_are command opts flag [] nothing
  file_passes (f ∷ files) = file_kinds_are command opts flag [] (some f files)

  trailing_taken : (files : List Text) (word : Text) → walked rules [] (at files true) word ≡ at (files ++ word ∷ []) true
  trailing_taken files word = trailing_word command opts flag [] (pending files) word ∙ file_next files true word

  abbrev met_at : List Text → Text → Held × Step
  met_at files word = word_met rules [] false (waiting_of command opts flag (pending files)) 1 word (held_at files)

  abbrev faults_at : List Text → Text → Kinds
  faults_at files word = word_fault s [] false (waiting_of command opts flag (pending files)) word (held_at files)

  value_is : (files : List Text) (word : Text) → is_option word ≡ false → bytes_eq word dashes ≡ false → met_at files word ≡ (held_at files, value)
  value_is [] word other no_dashes =
      plain_met s [] (waiting_of command opts flag nothing) 1 word [] None (no_command command opts flag nothing word) no_dashes other ∙ plain_is command opts flag [] nothing word
  value_is (f ∷ files) word other no_dashes =
      plain_met s [] (waiting_of command opts flag (some f files)) 1 word [] (pending_of command opts flag (some f files)) (no_command command opts flag (some f files) word) no_dashes other
      ∙ plain_is command opts flag [] (some f files) word

  word_passes : (files : List Text) (word : Text) → is_option word ≡ false → bytes_eq word dashes ≡ false → faults_at files word ≡ []
  word_passes files word other no_dashes =
      plain_fault s [] (waiting_of command opts flag (pending files)) 1 word [] (pending_of command opts flag (pending files)) (no_command command opts flag (pending files) word) no_dashes other

  abbrev turn_of : List Text → Kinds → Held × Step → Kinds
  turn_of files kinds met = or_else kinds (step_fault s 1 met.0 met.1)

  plain_passes : (files : List Text) (word : Text) → is_option word ≡ false → bytes_eq word dashes ≡ false → turn_fault s [] (at files false) word ≡ []
  plain_passes files word other no_dashes =
      ap (λ k. turn_of files k (met_at files word)) (word_passes files word other no_dashes)
      ∙ (ap (turn_of files []) (value_is files word other no_dashes) ∙ file_passes files)

  plain_taken : (files : List Text) (word : Text) → is_option word ≡ false → bytes_eq word dashes ≡ false → walked rules [] (at files false) word ≡ at (files ++ word ∷ []) false
  unfolding walked
  plain_taken files word other no_dashes =
      ap (λ (m : Held × Step). after_step rules word (at files false) m.0 m.1) (value_is files word other no_dashes) ∙ next_file files false word

  -- `--`
  abbrev dashes_if : Bool → List Text → Text → Held × Step
  dashes_if t files word =
      if t then (held_at files, trailing 1) else long_or_other rules (waiting_of command opts flag (pending files)) word (long_of word) (held_at files)

  abbrev fault_if : Bool → List Text → Text → Kinds
  fault_if t files word = if t then [] else flag_word_fault rules false (long_of word) word (held_at files)

  dashes_met : (files : List Text) (word : Text) → met_at files word ≡ dashes_if (bytes_eq word dashes) files word
  dashes_met [] word = refl
  dashes_met (f ∷ files) word = refl

  dashes_fault : (files : List Text) (word : Text) → faults_at files word ≡ fault_if (bytes_eq word dashes) files word
  dashes_fault [] word = refl
  dashes_fault (f ∷ files) word = refl

  dashes_pass : (files : List Text) (word : Text) → bytes_eq word dashes ≡ true → turn_fault s [] (at files false) word ≡ []
  dashes_pass files word is =
      ap (λ k. turn_of files k (met_at files word)) (dashes_fault files word ∙ ap (λ t. fault_if t files word) is)
      ∙ ap (turn_of files []) (dashes_met files word ∙ ap (λ t. dashes_if t files word) is)

  -- ---- all arguments

  -- the arguments pass, and behind them these FILEs are held
  record Pass (w : Walk) (words files : List Text) : Type 0 where
    passes : walk_fault s [] w words ≡ []
    ends : (fold (walked rules []) w words).held ≡ held_at files

  -- behind an argument that passes
  pass_behind : (w next : Walk) (word : Text) (rest files : List Text) → turn_fault s [] w word ≡ [] → walked rules [] w word ≡ next → Pass next rest files → Pass w (word ∷ rest) files
  unfolding walk_fault
  pass_behind w next word rest files none is later = record {
    passes = ap (λ k. or_else k (walk_fault s [] (walked rules [] w word) rest)) none ∙ (ap (λ x. walk_fault s [] x rest) is ∙ later.passes);
    ends = ap (λ (x : Walk). (fold (walked rules []) x rest).held) is ∙ later.ends;
  }

  pass_nothing : (files : List Text) (t : Bool) → Pass (at files t) [] (files ++ [])
  unfolding walk_fault
  pass_nothing files t = record { passes = refl; ends = ap held_at (sym (append-nil files)) }

  abbrev PassesTo : List Text → List Text → Bool → List Text → Type 0
  PassesTo files words t all = Pass (at files t) words all

  trailing_pass : (files words : List Text) → Pass (at files true) words (files ++ words)
  trailing_pass files [] = pass_nothing files true
  trailing_pass files (word ∷ rest) =
      let later = trailing_pass (files ++ word ∷ []) rest in
      pass_behind (at files true) (at (files ++ word ∷ []) true) word rest (files ++ word ∷ rest) (file_passes files) (trailing_taken files word)
      (subst (Pass (at (files ++ word ∷ []) true) rest) (append_assoc files (word ∷ []) rest) later)

  pass_by : (files : List Text) (word : Text) (rest : List Text) (t : Bool) → bytes_eq word dashes ≡ t
      → ((more : List Text) → has_option rest ≡ false → Pass (at more false) rest (more ++ files_of rest))
      → option_if t word rest ≡ false → Pass (at files false) (word ∷ rest) (files ++ files_if t word rest)
  pass_by files word rest true is later none =
      pass_behind (at files false) (at files true) word rest (files ++ rest) (dashes_pass files word is)
      (dashes_walked command opts flag [] (pending files) word rest is) (trailing_pass files rest)
  pass_by files word rest false is later none =
      let parts = or_parts (is_option word) (has_option rest) none in
      pass_behind (at files false) (at (files ++ word ∷ []) false) word rest (files ++ word ∷ files_of rest) (plain_passes files word parts.0 is) (plain_taken files word parts.0 is)
      (subst (Pass (at (files ++ word ∷ []) false) rest) (append_assoc files (word ∷ []) (files_of rest)) (later (files ++ word ∷ []) parts.1))

  walk_pass : (files words : List Text) → has_option words ≡ false → Pass (at files false) words (files ++ files_of words)
  walk_pass files [] none = pass_nothing files false
  walk_pass files (word ∷ rest) none = pass_by files word rest (bytes_eq word dashes) refl (λ more. walk_pass more rest) none

-- ---- after the walk

values_pass : (files : List Text) → values_kinds false parser.String files ≡ []
values_pass [] = refl
values_pass (f ∷ files) = values_pass files

enough : (n : ℕ) → 0 < n → n ≤ usize_max → range_kinds 1 usize_max n ≡ []
enough n least most =
    let not_none : (n == 0) ≡ false = grind (arith, nat_tests) in
    let not_few : nat_lt n 1 ≡ false = grind (arith, nat_tests) in
    let not_many : nat_lt usize_max n ≡ false = grind (arith, nat_tests) in
    rw (not_none, not_few, not_many) refl

abbrev several_fault : Kinds → List Text → Kinds
several_fault range files = or_else range (values_kinds false parser.String files)

several_pass : (f : Text) (files : List Text) → length (f ∷ files) ≤ usize_max → use_fault false file (f ∷ files) [] ≡ []
several_pass f files most =
    ap (λ k. several_fault k (f ∷ files)) (enough (length (f ∷ files)) (omega arith) most) ∙ values_pass (f ∷ files)

abbrev none_if : Bool → Kinds → Kinds
none_if t kinds = if t || true then [] else kinds

none_is : (t : Bool) (kinds : Kinds) → none_if t kinds ≡ []
none_is true kinds = refl
none_is false kinds = refl

-- the defaults pass
end_passes_by : (rows : List Row) → defaults_fault rows (rules_with [] None) ≡ []
unfolding defaults_fault
end_passes_by rows =
    let next = with_default rows file in
    ap (λ k. or_else k (or_else (default_fault next help) [])) (none_is (has_row (codes "FILE") rows) (given_default_fault file []))
    ∙ ap (λ k. or_else k []) (none_is (has_row (codes "help") next) (given_default_fault help []))

abbrev flag_if : Bool → Kinds
flag_if t = if t || false then [] else []

flag_is : (t : Bool) → flag_if t ≡ []
flag_is true = refl
flag_is false = refl

no_default_faults : (opts : List Opt) (flag : Option Flag) (rows : List Row) → defaults_fault rows (rules_with opts flag) ≡ []
unfolding defaults_fault
no_default_faults [] (Some g) rows =
    ap (λ k. or_else k (defaults_fault (with_default rows (flag_as g)) (rules_with [] None))) (flag_is (has_row g.name rows))
    ∙ end_passes_by (with_default rows (flag_as g))
no_default_faults [] None rows = end_passes_by rows
no_default_faults (o ∷ rest) flag rows =
    let next = with_default rows (rule o) in
    ap (λ k. or_else k (defaults_fault next (rules_with rest flag))) (none_is (has_row o.name rows) (given_default_fault (rule o) []))
    ∙ no_default_faults rest flag next

-- no option has to be given
abbrev pub are_optional : List Opt → Type 0
are_optional opts = list_any (λ o. o.required) opts ≡ false

abbrev is_wanted : List Row → Rule → Bool
is_wanted rows a = a.required && not (is_given a.id rows)

nothing_wanted : (opts : List Opt) (flag : Option Flag) (rows : List Row) → are_optional opts → is_given (codes "FILE") rows ≡ true → list_any (is_wanted rows) (rules_with opts flag) ≡ false
nothing_wanted [] (Some g) rows optional given = ap (λ t. not t || (false || false)) given
nothing_wanted [] None rows optional given = ap (λ t. not t || (false || false)) given
nothing_wanted (o ∷ rest) flag rows optional given =
    let parts = or_parts o.required (list_any (λ x. x.required) rest) optional in
    ap (λ t. (t && not (is_given o.name rows)) || list_any (is_wanted rows) (rules_with rest flag)) parts.0
    ∙ nothing_wanted rest flag rows parts.1 given

files_are_given : (f : Text) (files : List Text) (flag : Option Flag) → is_given (codes "FILE") (with_defaults flag (with_files f files [])) ≡ true
files_are_given f files (Some g) = rw (flag_part g) refl
files_are_given f files None = refl

module _ (command : Text) (opts : List Opt) (flag : Option Flag) (optional : are_optional opts) where
  abbrev end_fault : Held → Kinds
  end_fault h = or_else (settle_fault (rules_with opts flag) false h)
      (or_else (defaults_fault (settled (rules_with opts flag) h).rows (rules_with opts flag))
      (check_fault (shape_with command opts flag) (finished (rules_with opts flag) h) false))

  abbrev wanted_fault : Bool → Kinds
  wanted_fault t = if t then MissingRequiredArgument ∷ [] else []

  module _ (f : Text) (files : List Text) (most : length (f ∷ files) ≤ usize_max) where
    abbrev h : Held
    h = held command opts flag [] (some f files)

    settle_is : settle_fault (rules_with opts flag) false h ≡ []
    settle_is = ap (λ a. option_map_or (λ r. use_fault false r (f ∷ files) []) a []) (file_by_id opts flag) ∙ several_pass f files most

    rows_are : finished (rules_with opts flag) h ≡ with_defaults flag (with_files f files [])
    rows_are = defaults_are opts flag (settled (rules_with opts flag) h).rows
        ∙ ap (λ a. with_defaults flag (used_by_id a (f ∷ files) [])) (file_by_id opts flag)

    check_is : check_fault (shape_with command opts flag) (finished (rules_with opts flag) h) false ≡ []
    check_is =
        ap (λ rows. check_fault (shape_with command opts flag) rows false) rows_are
        ∙ ap wanted_fault (nothing_wanted opts flag (with_defaults flag (with_files f files [])) optional (files_are_given f files flag))

    files_pass : end_fault h ≡ []
    files_pass =
        ap (λ k. or_else k (or_else (defaults_fault (settled (rules_with opts flag) h).rows (rules_with opts flag)) (check_fault (shape_with command opts flag) (finished (rules_with opts flag) h) false))) settle_is
        ∙ (ap (λ k. or_else k (check_fault (shape_with command opts flag) (finished (rules_with opts flag) h) false)) (no_default_faults opts flag (settled (rules_with opts flag) h).rows)
        ∙ check_is)

  end_passes : (files : List Text) → is_one_or_more files ≡ true → length files ≤ usize_max → end_fault (held_at command opts flag files) ≡ []
  end_passes [] least most = absurd (true≢false (sym least))
  end_passes (f ∷ files) least most = files_pass f files most

  pub level_taken : (words : List Text) → has_option words ≡ false → is_one_or_more (files_of words) ≡ true → length (files_of words) ≤ usize_max → level command opts flag words ≡ []
  level_taken words none least most =
      let pass = walk_pass command opts flag [] words none in
      ap (λ k. or_else k (end_fault (walk (rules_with opts flag) [] nothing_held words).held)) pass.passes
      ∙ (ap end_fault pass.ends ∙ end_passes (files_of words) least most)

pub files_within : (words : List Text) → length (files_of words) ≤ length words
files_within [] = omega arith
files_within (word ∷ rest) =
    let inner = files_within rest in
    elim (bytes_eq word dashes) as (λ t. length (if t then rest else word ∷ files_of rest) ≤ length (word ∷ rest)) [ true ↦ omega arith | false ↦ omega (arith, inner) ]
