-- The arguments of a subcommand, as the program builds them: its options, its flag, FILE and `help`.
use Rattle.std.proofs.Common.{◌≡◌, ◌∙◌, ◌⊎◌, ◌||◌, ◌==◌, inl, inr, ℕ, Bool, true, false, List, [], ◌∷◌, Option, Some, None, cond, codes, refl, sym, ap}
use Rattle.std.specs.Prelude.{pos, if◌then◌else◌}
use Rattle.std.specs.List.{list_any}
use Rattle.std.specs.Str.{bytes_eq}
use Rattle.std.proofs.lemmas.Slice.Eq.{bytes_eq-Decides}
use Rattle.clap.specs.Simple.{Shape, filled, new_shape, with_index}
use Rattle.clap.specs.Walk.{arg_by_id, arg_by_index, arg_by_long, arg_by_short}
use Rattle.clap.specs.Words.{Rule, Text, new_rule}
use Rattle.clap.specs.declared.builder.ArgAction.{ArgAction}
use Rattle.clap.specs.declared.builder.ArgAction.TheVariants.{Append, Set}
use Rattle.clap.specs.declared.builder.ValueParser.{ValueParser}
use Rattle.clap.specs.declared.builder.ValueParser.TheVariants as parsers
use Rattle.command_line.specs.Program.{files_rule, flag_rule}
use Rattle.command_line.specs.Runnable.{most_form, most_jobs, most_profile}
use Rattle.command_line.specs.Subcommands.{is_flag, is_repeatable}
use Rattle.command_line.specs.declared.asked.Subcommand.{Subcommand}
use Rattle.command_line.specs.declared.asked.Subcommand.TheVariants.{Scratch, Check, Audit, Show, Why, Explain}
use Rattle.command_line.proofs.Options.{IsFlag, help}

-- ---- an option

-- what a parse reads of an option with a value: its name, which isn't FILE's, what reads the value, and whether it has to be given
pub record Opt : Type 0 where
  pub name : Text
  pub apart : bytes_eq name (codes "FILE") ≡ false
  pub valued : is_flag name ≡ false
  pub parser : ValueParser
  pub required : Bool

abbrev pub action_if : Bool → ArgAction
action_if repeats = if repeats then Append else Set

-- its rule, as it is built
abbrev pub rule : Opt → Rule
rule o = record (new_rule o.name) {
  long = Some o.name;
  action = Some (action_if (is_repeatable o.name));
  range = Some (record { start_inclusive = 1; end_inclusive = 1 });
  value_names = 1;
  parser = Some o.parser;
  required = o.required;
}

-- ---- a flag

-- what a parse reads of an option without a value: its name, which isn't FILE's
pub record Flag : Type 0 where
  pub name : Text
  pub apart : bytes_eq name (codes "FILE") ≡ false
  pub flagged : is_flag name ≡ true
  pub once : is_repeatable name ≡ false

-- its rule, as it is built
abbrev pub flag_as : Flag → Rule
flag_as g = filled (flag_rule g.name)

-- ---- all arguments

-- the rule of FILE
abbrev pub file : Rule
file = with_index 1 (filled files_rule)

-- the options, then the flag if there is one, FILE and `help`
abbrev pub rules_with : List Opt → Option Flag → List Rule
rules_with [] (Some g) = flag_as g ∷ file ∷ help ∷ []
rules_with [] None = file ∷ help ∷ []
rules_with (o ∷ rest) flag = rule o ∷ rules_with rest flag

abbrev pub names : List Opt → Option Flag → List Text
names [] (Some g) = g.name ∷ []
names [] None = []
names (o ∷ rest) flag = o.name ∷ names rest flag

abbrev pub shape_with : Text → List Opt → Option Flag → Shape
shape_with name opts flag = record (new_shape name) {
  rules = rules_with opts flag;
  disable_help_subcommand = true;
  is_built = true;
}

-- ---- who is found

pub file_by_index : (opts : List Opt) (flag : Option Flag) → arg_by_index (rules_with opts flag) 1 ≡ Some file
file_by_index [] (Some g) = refl
file_by_index [] None = refl
file_by_index (o ∷ rest) flag = file_by_index rest flag

pub file_by_id : (opts : List Opt) (flag : Option Flag) → arg_by_id (rules_with opts flag) (codes "FILE") ≡ Some file
file_by_id [] (Some g) = ap (λ t. cond t (Some (flag_as g)) (Some file)) g.apart
file_by_id [] None = refl
file_by_id (o ∷ rest) flag =
    ap (λ t. cond t (Some (rule o)) (arg_by_id (rules_with rest flag) (codes "FILE"))) o.apart ∙ file_by_id rest flag

pub short_flags : (opts : List Opt) (flag : Option Flag) (x : ℕ) → IsFlag (arg_by_short (rules_with opts flag) x)
short_flags [] (Some g) x = (104 == x || false, (false, refl))
short_flags [] None x = (104 == x || false, (false, refl))
short_flags (o ∷ rest) flag x = short_flags rest flag x

-- an option has this name, and is found by it
pub record IsFound (opts : List Opt) (flag : Option Flag) (name : Text) : Type 0 where
  pub option : Opt
  pub named : option.name ≡ name
  pub by_long : arg_by_long (rules_with opts flag) name ≡ Some (rule option)
  pub by_id : arg_by_id (rules_with opts flag) name ≡ Some (rule option)
  pub among : list_any (bytes_eq name) (names opts flag) ≡ true

-- the flag has this name, and is found by it
pub record IsFlagged (opts : List Opt) (flag : Option Flag) (name : Text) : Type 0 where
  pub option : Flag
  pub named : option.name ≡ name
  pub by_long : arg_by_long (rules_with opts flag) name ≡ Some (flag_as option)
  pub among : list_any (bytes_eq name) (names opts flag) ≡ true

-- a long name names `help`, or nothing
abbrev pub IsOther : List Opt → Option Flag → Text → Type 0
IsOther opts flag name = (t : Bool) × (arg_by_long (rules_with opts flag) name ≡ cond t (Some help) None)

-- a long name is that of an option, of the flag, or another
abbrev pub IsLong : List Opt → Option Flag → Text → Type 0
IsLong opts flag name = IsFound opts flag name ⊎ (IsFlagged opts flag name ⊎ IsOther opts flag name)

pub same_bytes : (a b : Text) → a ≡ b → bytes_eq a b ≡ true
same_bytes a b same = (bytes_eq-Decides a b).1 same

or_true : (t : Bool) → (t || true) ≡ true
or_true true = refl
or_true false = refl

abbrev long_if : Bool → Opt → List Opt → Option Flag → Text → Option Rule
long_if t o rest flag name = cond (t || false) (Some (rule o)) (arg_by_long (rules_with rest flag) name)

abbrev id_if : Bool → Opt → List Opt → Option Flag → Text → Option Rule
id_if t o rest flag name = cond t (Some (rule o)) (arg_by_id (rules_with rest flag) name)

module _ (o : Opt) (rest : List Opt) (flag : Option Flag) (name : Text) where
  found_first : bytes_eq o.name name ≡ true → IsFound (o ∷ rest) flag name
  found_first is =
      let same : o.name ≡ name = (bytes_eq-Decides o.name name).0 is in
      record {
        option = o;
        named = same;
        by_long = ap (λ t. long_if t o rest flag name) is;
        by_id = ap (λ t. id_if t o rest flag name) is;
        among = ap (λ t. t || list_any (bytes_eq name) (names rest flag)) (same_bytes name o.name (sym same));
      }

  later_among : list_any (bytes_eq name) (names rest flag) ≡ true → list_any (bytes_eq name) (names (o ∷ rest) flag) ≡ true
  later_among among = ap (λ t. bytes_eq name o.name || t) among ∙ or_true (bytes_eq name o.name)

  found_later : bytes_eq o.name name ≡ false → IsFound rest flag name → IsFound (o ∷ rest) flag name
  found_later is later = record {
    option = later.option;
    named = later.named;
    by_long = ap (λ t. long_if t o rest flag name) is ∙ later.by_long;
    by_id = ap (λ t. id_if t o rest flag name) is ∙ later.by_id;
    among = later_among later.among;
  }

  flagged_later : bytes_eq o.name name ≡ false → IsFlagged rest flag name → IsFlagged (o ∷ rest) flag name
  flagged_later is later = record {
    option = later.option;
    named = later.named;
    by_long = ap (λ t. long_if t o rest flag name) is ∙ later.by_long;
    among = later_among later.among;
  }

  long_by : (t : Bool) → bytes_eq o.name name ≡ t → IsLong rest flag name → IsLong (o ∷ rest) flag name
  long_by true is later = inl (found_first is)
  long_by false is (inl found) = inl (found_later is found)
  long_by false is (inr (inl found)) = inr (inl (flagged_later is found))
  long_by false is (inr (inr other)) = inr (inr (other.0, ap (λ t. long_if t o rest flag name) is ∙ other.1))

abbrev flag_if : Bool → Flag → Text → Option Rule
flag_if t g name = cond (t || false) (Some (flag_as g)) (cond (bytes_eq (codes "help") name || false) (Some help) None)

flag_by : (g : Flag) (name : Text) (t : Bool) → bytes_eq g.name name ≡ t → IsLong [] (Some g) name
flag_by g name true is =
    let same : g.name ≡ name = (bytes_eq-Decides g.name name).0 is in
    inr (inl (record {
      option = g;
      named = same;
      by_long = ap (λ t. flag_if t g name) is;
      among = ap (λ t. t || false) (same_bytes name g.name (sym same));
    }))
flag_by g name false is = inr (inr (bytes_eq (codes "help") name || false, ap (λ t. flag_if t g name) is))

pub is_long : (opts : List Opt) (flag : Option Flag) (name : Text) → IsLong opts flag name
is_long [] (Some g) name = flag_by g name (bytes_eq g.name name) refl
is_long [] None name = inr (inr (bytes_eq (codes "help") name || false, refl))
is_long (o ∷ rest) flag name = long_by o rest flag name (bytes_eq o.name name) refl (is_long rest flag name)

-- ---- the subcommands

abbrev number : (name : Text) → bytes_eq name (codes "FILE") ≡ false → is_flag name ≡ false → ℕ → Opt
number name apart valued most = record {
  name = name;
  apart = apart;
  valued = valued;
  parser = parsers.Signed (pos 1) (pos most);
  required = false;
}

abbrev text : (name : Text) → bytes_eq name (codes "FILE") ≡ false → is_flag name ≡ false → Bool → Opt
text name apart valued required = record {
  name = name;
  apart = apart;
  valued = valued;
  parser = parsers.String;
  required = required;
}

abbrev key : Opt
key = text (codes "of") refl refl false

abbrev profile : Opt
profile = number (codes "profile") refl refl most_profile

-- the options with a value
abbrev pub options : Subcommand → List Opt
options Scratch = profile ∷ []
options Check = text (codes "cache") refl refl true ∷ number (codes "jobs") refl refl most_jobs
    ∷ number (codes "form") refl refl most_form ∷ profile ∷ []
options Audit = text (codes "source") refl refl false ∷ []
options Show = key ∷ []
options Why = key ∷ []
options Explain = []

abbrev pub messages_flag : Flag
messages_flag = record { name = codes "messages"; apart = refl; flagged = refl; once = refl }

abbrev pub progress_flag : Flag
progress_flag = record { name = codes "progress"; apart = refl; flagged = refl; once = refl }

abbrev pub dot_flag : Flag
dot_flag = record { name = codes "dot"; apart = refl; flagged = refl; once = refl }

-- the flag, if it has one
abbrev pub flag_of : Subcommand → Option Flag
flag_of Scratch = Some messages_flag
flag_of Check = Some messages_flag
flag_of Audit = Some progress_flag
flag_of Show = Some dot_flag
flag_of Why = None
flag_of Explain = None
