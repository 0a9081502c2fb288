-- How the walk reads one argument of a command that has no option but `help` and `version`.
use Rattle.std.proofs.Common.{◌≡◌, ◌∙◌, ◌⊎◌, ◌==◌, inl, inr, ℕ, Bool, true, false, List, [], ◌∷◌, Option, Some, None, cond, refl, sym, ap, length}
use Rattle.std.specs.Prelude.{drop, encode_utf8, slice_get, if◌then◌else◌, option_and_then}
use Rattle.std.specs.Option.{option_map_or}
use Rattle.std.specs.Str.{bytes_eq, chars}
use Rattle.std.proofs.Math.Bool.{and-true}
use Rattle.clap.specs.Faults.{bundle_fault, bundle_step_fault, flag_word_fault, flags_fault, long_fault, other_fault, react_fault, settle_fault, short_fault, use_fault, word_fault}
use Rattle.clap.specs.Lexer.{long_of, long_of_rest, short_of, short_of_rest, strip_byte}
use Rattle.clap.specs.Simple.{Shape, filled, help_rule, version_rule}
use Rattle.clap.specs.Walk.{Held, Names, Outcome, Row, Step, Waiting, after_flag, arg_by_long, arg_by_short, bundle, bundle_met, bundle_step, long_or_other, plain, plain_word, reacted, settled, short_or_plain, subcommand_met, subcommand_or_other, trailing, word_met}
use Rattle.clap.specs.Words.{Kinds, Rule, Text}
use Rattle.command_line.specs.Plain.{dashes, is_option}
use Rattle.command_line.proofs.Faults.{IsFault, first_fault, is_fault, next_fault}

-- ---- what an argument looks like

pub not_long : (word : Text) → is_option word ≡ false → long_of word ≡ None
not_long [] other = refl
not_long (b ∷ []) other =
    elim (b == 45) as (λ t. option_and_then long_of_rest (option_and_then (strip_byte 45) (if t then Some [] else None)) ≡ None) [ true ↦ refl | false ↦ refl ]
not_long (b ∷ x ∷ rest) other =
    ap (λ t. option_and_then long_of_rest (option_and_then (strip_byte 45) (if t then Some (x ∷ rest) else None))) (sym (and-true (b == 45)) ∙ other)

pub not_short : (word : Text) → is_option word ≡ false → short_of word ≡ None
not_short [] other = refl
not_short (b ∷ []) other =
    elim (b == 45) as (λ t. option_and_then short_of_rest (if t then Some [] else None) ≡ None) [ true ↦ refl | false ↦ refl ]
not_short (b ∷ x ∷ rest) other =
    ap (λ t. option_and_then short_of_rest (if t then Some (x ∷ rest) else None)) (sym (and-true (b == 45)) ∙ other)

-- ---- the options `help` and `version`

abbrev pub help : Rule
help = filled help_rule

abbrev pub version : Rule
version = filled version_rule

-- one of the two, or none
abbrev pub flag_if : Bool → Bool → Option Rule
flag_if is_help is_version = cond is_help (Some help) (cond is_version (Some version) None)

-- a rule that is one of the two, or none
abbrev pub IsFlag : Option Rule → Type 0
IsFlag rule = (is_help : Bool) × ((is_version : Bool) × (rule ≡ flag_if is_help is_version))

-- a short name names `help`, `version` or nothing
abbrev pub HasShortFlags : Shape → Type 0
HasShortFlags s = (x : ℕ) → IsFlag (arg_by_short s.rules x)

-- a long name and a short one name `help`, `version` or nothing
pub record HasFlagsAlone (s : Shape) : Type 0 where
  pub long : (name : Text) → IsFlag (arg_by_long s.rules name)
  pub short : HasShortFlags s

-- who asks for help or for the version gets no subcommand
help_is_fault : (rules : List Rule) (again : Bool) (h : Held) → IsFault (react_fault rules again help [] h)
help_is_fault rules again h =
    next_fault (settle_fault rules again h) (use_fault again help [] (settled rules h).rows) (is_fault _ _)

version_is_fault : (rules : List Rule) (again : Bool) (h : Held) → IsFault (react_fault rules again version [] h)
version_is_fault rules again h =
    next_fault (settle_fault rules again h) (use_fault again version [] (settled rules h).rows) (is_fault _ _)

pub long_is_fault : (rules : List Rule) (again is_help is_version : Bool) (text : Option Text) (h : Held)
    → IsFault (long_fault rules again (flag_if is_help is_version) text h)
long_is_fault rules again false false text h = is_fault _ _
long_is_fault rules again false true (Some x) h = is_fault _ _
long_is_fault rules again false true None h = version_is_fault rules again h
long_is_fault rules again true is_version (Some x) h = is_fault _ _
long_is_fault rules again true is_version None h = help_is_fault rules again h

short_is_fault : (rules : List Rule) (again is_help is_version : Bool) (rest : Text) (h : Held) (more : Held → Kinds)
    → IsFault (short_fault rules again (flag_if is_help is_version) rest h more)
short_is_fault rules again false false rest h more = is_fault _ _
short_is_fault rules again false true rest h more =
    first_fault (react_fault rules again version [] h) (more (reacted rules version [] h)) (version_is_fault rules again h)
short_is_fault rules again true is_version rest h more =
    first_fault (react_fault rules again help [] h) (more (reacted rules help [] h)) (help_is_fault rules again h)

-- ---- one argument

-- what is held if no flag of a bundle is to be passed over
abbrev pub quiet : List Row → Option (Text × List Text) → Held
quiet rows pending = record { rows = rows; pending = pending; skip = 0 }

abbrev trailing_if : Bool → Held → ℕ → Held × Step → Held × Step
trailing_if t h position other = if t then (h, trailing position) else other

abbrev unless : Bool → Kinds → Kinds
unless t kinds = if t then [] else kinds

-- an argument that names no command and isn't `--`, if no option waits for it
module _ (s : Shape) (names : Names) (waiting : Waiting) (position : ℕ) (word : Text) (rows : List Row) (pending : Option (Text × List Text))
    (no_command : subcommand_met names waiting word ≡ None) (no_dashes : bytes_eq word dashes ≡ false) where
  pub flag_met : word_met s.rules names false waiting position word (quiet rows pending) ≡ long_or_other s.rules waiting word (long_of word) (quiet rows pending)
  flag_met =
      ap (λ m. subcommand_or_other s.rules m waiting position word (quiet rows pending)) no_command
      ∙ ap (λ t. trailing_if t (quiet rows pending) position (long_or_other s.rules waiting word (long_of word) (quiet rows pending))) no_dashes

  pub flag_fault : word_fault s names false waiting word (quiet rows pending) ≡ flag_word_fault s.rules s.args_override_self (long_of word) word (quiet rows pending)
  flag_fault =
      ap (λ m. other_fault s m word (quiet rows pending)) no_command
      ∙ ap (λ t. unless t (flag_word_fault s.rules s.args_override_self (long_of word) word (quiet rows pending))) no_dashes

  short_met : long_of word ≡ None → word_met s.rules names false waiting position word (quiet rows pending) ≡ short_or_plain s.rules waiting word (short_of word) (quiet rows pending)
  short_met long = flag_met ∙ ap (λ l. long_or_other s.rules waiting word l (quiet rows pending)) long

  short_fault_is : long_of word ≡ None → word_fault s names false waiting word (quiet rows pending)
      ≡ option_map_or (λ flags. bundle_fault s.rules s.args_override_self flags (quiet rows pending)) (short_of word) []
  short_fault_is long = flag_fault ∙ ap (λ l. flag_word_fault s.rules s.args_override_self l word (quiet rows pending)) long

  pub plain_met : is_option word ≡ false → word_met s.rules names false waiting position word (quiet rows pending) ≡ plain_word s.rules waiting word (quiet rows pending)
  plain_met other = short_met (not_long word other) ∙ ap (λ o. short_or_plain s.rules waiting word o (quiet rows pending)) (not_short word other)

  pub plain_fault : is_option word ≡ false → word_fault s names false waiting word (quiet rows pending) ≡ []
  plain_fault other = short_fault_is (not_long word other)
      ∙ ap (λ o. option_map_or (λ flags. bundle_fault s.rules s.args_override_self flags (quiet rows pending)) o []) (not_short word other)

  -- the argument is refused, or is a plain argument
  abbrev pub IsReadPlain : Type 0
  IsReadPlain = IsFault (word_fault s names false waiting word (quiet rows pending))
      ⊎ (word_met s.rules names false waiting position word (quiet rows pending) ≡ plain_word s.rules waiting word (quiet rows pending))

  long_read : HasFlagsAlone s → (p : Text × Option Text) → long_of word ≡ Some p → IsReadPlain
  long_read only p long = inl (λ none. long_is_fault s.rules s.args_override_self (only.long p.0).0 (only.long p.0).1.0 p.1 (quiet rows pending)
      (sym (ap (λ a. long_fault s.rules s.args_override_self a p.1 (quiet rows pending)) (only.long p.0).1.1)
      ∙ (sym (flag_fault ∙ ap (λ l. flag_word_fault s.rules s.args_override_self l word (quiet rows pending)) long) ∙ none)))

  -- a bundle that begins with no character is a plain argument
  no_bundle : (flags : Text) → bundle s.rules flags (quiet rows pending) ≡ (quiet rows pending, plain) → long_of word ≡ None → short_of word ≡ Some flags → IsReadPlain
  no_bundle flags none long short = inr (short_met long
      ∙ (ap (λ o. short_or_plain s.rules waiting word o (quiet rows pending)) short
      ∙ ap (λ (m : Held × Outcome). after_flag s.rules waiting word m.0 m.1) none))

  bundle_read : HasShortFlags s → (flags : Text) (first : Option ℕ) → slice_get (chars flags) 0 ≡ first → long_of word ≡ None → short_of word ≡ Some flags → IsReadPlain
  unfolding bundle_met flags_fault
  bundle_read only [] first is long short = no_bundle [] refl long short
  bundle_read only (x ∷ rest) None is long short =
      no_bundle (x ∷ rest) (ap (λ o. bundle_step s.rules o (x ∷ rest) 0 plain (quiet rows pending) (bundle_met s.rules (length rest))) is) long short
  bundle_read only (x ∷ rest) (Some c) is long short = inl (λ none.
      let left = drop (length (encode_utf8 c)) (x ∷ rest) in
      let more = flags_fault s.rules s.args_override_self (length rest) left 0 in
      short_is_fault s.rules s.args_override_self (only c).0 (only c).1.0 left (quiet rows pending) more
      (sym (ap (λ a. short_fault s.rules s.args_override_self a left (quiet rows pending) more) (only c).1.1)
      ∙ (sym (short_fault_is long
      ∙ (ap (λ o. option_map_or (λ flags. bundle_fault s.rules s.args_override_self flags (quiet rows pending)) o []) short
      ∙ ap (λ o. bundle_step_fault s.rules s.args_override_self o (x ∷ rest) 0 (quiet rows pending) (flags_fault s.rules s.args_override_self (length rest))) is)) ∙ none)))

  pub short_read : HasShortFlags s → (flags : Option Text) → short_of word ≡ flags → long_of word ≡ None → IsReadPlain
  short_read only None short long = inr (short_met long ∙ ap (λ o. short_or_plain s.rules waiting word o (quiet rows pending)) short)
  short_read only (Some flags) short long = bundle_read only flags (slice_get (chars flags) 0) refl long short

  read_by : HasFlagsAlone s → (l : Option (Text × Option Text)) → long_of word ≡ l → IsReadPlain
  read_by only (Some p) long = long_read only p long
  read_by only None long = short_read only.short (short_of word) refl long

  pub read_plain : HasFlagsAlone s → IsReadPlain
  read_plain only = read_by only (long_of word) refl
