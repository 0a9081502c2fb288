-- What one use of an argument adds to the rows of a parse.
use Rattle.std.proofs.Common.{◌≡◌, ◌∙◌, ◌||◌, ◌&&◌, ◌++◌, Bool, true, false, List, [], ◌∷◌, Option, Some, None, codes, refl, sym, ap, subst, append-nil, true≢false}
use Rattle.std.proofs.lemmas.Bool.{false_from_ne_true}
use Rattle.std.proofs.lemmas.Slice.Eq.{bytes_eq-Decides}
use Rattle.std.specs.Prelude.{fold, if◌then◌else◌, slice_get}
use Rattle.std.specs.List.{list_any}
use Rattle.std.specs.Option.{option_map_or}
use Rattle.std.specs.Str.{bytes_eq}
use Rattle.clap.specs.Faults.{action_fault, use_fault}
use Rattle.clap.specs.Kinds.{or_else}
use Rattle.clap.specs.Walk.{Row, has_row, reading_by, used, used_as, with_default, with_values, without}
use Rattle.clap.specs.Words.{Kinds, Text}
use Rattle.clap.specs.declared.builder.value_parser.Reading.{Reading}
use Rattle.clap.specs.declared.error.ErrorKind.TheVariants.{ArgumentConflict}
use Rattle.clap.specs.declared.parser.ValueSource.TheVariants.{CommandLine, DefaultValue}
use Rattle.command_line.specs.Matches.{has_flag}
use Rattle.command_line.specs.Subcommands.{is_flag, is_repeatable}
use Rattle.command_line.proofs.Faults.{is_fault}
use Rattle.command_line.proofs.Rules.{Flag, Opt, action_if, file, flag_as, rule, rules_with, same_bytes}
use Rattle.command_line.proofs.ToldRows.{first_told, others_told, told, told_none, values_told, without_none}

-- ---- what values are for

-- an option by its name, or FILE
abbrev pub Part : Type 0
Part = Option Text

abbrev pub id_of : Part → Text
id_of (Some name) = name
id_of None = codes "FILE"

-- the option isn't named as FILE
abbrev pub IsPart : Part → Type 0
IsPart None = Unit {0}
IsPart (Some name) = bytes_eq (codes "FILE") name ≡ false

pub other_way : (a b : Text) → bytes_eq a b ≡ false → bytes_eq b a ≡ false
other_way a b apart = false_from_ne_true (bytes_eq b a)
    (λ same. true≢false (sym (same_bytes a b (sym ((bytes_eq-Decides b a).0 same))) ∙ apart))

-- a value of the option of this name, for a part
abbrev value_if : Bool → Text → List Text
value_if t v = if t then v ∷ [] else []

abbrev pub value_for : Part → Text → Text → List Text
value_for None name v = []
value_for (Some other) name v = value_if (bytes_eq other name) v

-- ---- a value is added

module _ (name : Text) (apart : bytes_eq name (codes "FILE") ≡ false) (how : Reading) (v : Text) (rows : List Row) where
  abbrev added : List Row
  added = with_values name how CommandLine (v ∷ []) rows

  added_named : (other : Text) (t : Bool) → bytes_eq other name ≡ t → told other added ≡ told other rows ++ value_if t v
  added_named other true is = subst (λ x. told x added ≡ told x rows ++ v ∷ []) (sym ((bytes_eq-Decides other name).0 is))
      (values_told name how CommandLine (v ∷ []) (same_bytes name name refl) rows)
  added_named other false is =
      others_told name other how CommandLine (v ∷ []) (other_way other name is) rows ∙ sym (append-nil (told other rows))

  -- then only its values are more
  added_told : (b : Part) → told (id_of b) added ≡ told (id_of b) rows ++ value_for b name v
  added_told None = others_told name (codes "FILE") how CommandLine (v ∷ []) apart rows ∙ sym (append-nil (told (codes "FILE") rows))
  added_told (Some other) = added_named other (bytes_eq other name) refl

abbrev repeat_if : Bool → Kinds → Kinds
repeat_if t other = or_else (if t && true then ArgumentConflict ∷ [] else []) other

no_repeat : (t : Bool) (other : Kinds) → repeat_if t other ≡ [] → t ≡ false
no_repeat false other none = refl
no_repeat true other none = absurd (is_fault _ _ none)

-- what replaces nothing is added
added_alone : (name : Text) (how : Reading) (v : Text) (rows : List Row) → has_row name rows ≡ false
    → with_values name how CommandLine (v ∷ []) (without name rows) ≡ with_values name how CommandLine (v ∷ []) rows
added_alone name how v rows fresh = ap (λ rs. with_values name how CommandLine (v ∷ []) rs) (without_none name rows fresh)

-- ---- an option is used with its value

abbrev pub with_use : Opt → Text → List Row → List Row
with_use o v rows = used (rule o) (v ∷ []) rows

abbrev pub use_kinds : Opt → Text → List Row → Kinds
use_kinds o v rows = use_fault false (rule o) (v ∷ []) rows

abbrev use_if : Opt → Text → List Row → Bool → Kinds
use_if o v rows repeats = action_fault (action_if repeats) false (rule o) (v ∷ []) rows

-- it wasn't used before, unless it may be used again
fresh : (o : Opt) (v : Text) (rows : List Row) → use_kinds o v rows ≡ [] → is_repeatable o.name ≡ false → has_row o.name rows ≡ false
fresh o v rows none once = no_repeat (has_row o.name rows) _ (sym (ap (use_if o v rows) once) ∙ none)

abbrev how_of : Opt → Reading
how_of o = reading_by (rule o)

added_by : (o : Opt) (v : Text) (rows : List Row) → use_kinds o v rows ≡ [] → (t : Bool) → is_repeatable o.name ≡ t
    → used_as (action_if t) o.name (how_of o) (v ∷ []) rows ≡ with_values o.name (how_of o) CommandLine (v ∷ []) rows
added_by o v rows none true again = refl
added_by o v rows none false once = added_alone o.name (how_of o) v rows (fresh o v rows none once)

as_added : (o : Opt) (v : Text) (rows : List Row) → use_kinds o v rows ≡ [] → with_use o v rows ≡ with_values o.name (how_of o) CommandLine (v ∷ []) rows
as_added o v rows none = added_by o v rows none (is_repeatable o.name) refl

pub use_told : (o : Opt) (v : Text) (rows : List Row) → use_kinds o v rows ≡ [] → (b : Part) → told (id_of b) (with_use o v rows) ≡ told (id_of b) rows ++ value_for b o.name v
use_told o v rows none b = ap (told (id_of b)) (as_added o v rows none) ∙ added_told o.name o.apart (how_of o) v rows b

-- ---- a flag is used

abbrev how_of_flag : Flag → Reading
how_of_flag g = reading_by (flag_as g)

abbrev pub with_flag : Flag → List Row → List Row
with_flag g rows = used (flag_as g) [] rows

abbrev pub flag_kinds : Flag → List Row → Kinds
flag_kinds g rows = use_fault false (flag_as g) [] rows

flag_fresh : (g : Flag) (rows : List Row) → flag_kinds g rows ≡ [] → has_row g.name rows ≡ false
flag_fresh g rows none = no_repeat (has_row g.name rows) _ none

pub flag_told : (g : Flag) (rows : List Row) → flag_kinds g rows ≡ [] → (b : Part) → told (id_of b) (with_flag g rows) ≡ told (id_of b) rows ++ value_for b g.name (codes "true")
flag_told g rows none b =
    ap (told (id_of b)) (added_alone g.name (how_of_flag g) (codes "true") rows (flag_fresh g rows none))
    ∙ added_told g.name g.apart (how_of_flag g) (codes "true") rows b

-- ---- FILEs are used

abbrev pub how_of_files : Reading
how_of_files = reading_by file

abbrev pub with_files : Text → List Text → List Row → List Row
with_files f files rows = with_values (codes "FILE") how_of_files CommandLine (f ∷ files) rows

abbrev pub files_for : Part → Text → List Text → List Text
files_for None f files = f ∷ files
files_for (Some name) f files = []

pub files_told : (f : Text) (files : List Text) (rows : List Row) (b : Part) → IsPart b → told (id_of b) (with_files f files rows) ≡ told (id_of b) rows ++ files_for b f files
files_told f files rows None part = values_told (codes "FILE") how_of_files CommandLine (f ∷ files) refl rows
files_told f files rows (Some name) part =
    others_told (codes "FILE") name how_of_files CommandLine (f ∷ files) part rows ∙ sym (append-nil (told name rows))

-- ---- an option has at most one value, unless it may be given again

abbrev pub is_few : List Text → Bool
is_few [] = true
is_few (v ∷ []) = true
is_few _ = false

abbrev pub AreFew : List Row → Type 0
AreFew rows = (name : Text) → IsPart (Some name) → is_repeatable name ≡ false → is_few (told name rows) ≡ true

few_more : (name v other : Text) (rows : List Row) → (is_repeatable name ≡ false → has_row name rows ≡ false) → is_repeatable other ≡ false → is_few (told other rows) ≡ true
    → (t : Bool) → bytes_eq other name ≡ t → is_few (told other rows ++ value_if t v) ≡ true
few_more name v other rows first once few true is =
    let same : other ≡ name = (bytes_eq-Decides other name).0 is in
    ap (λ x. is_few (x ++ v ∷ [])) (ap (λ n. told n rows) same ∙ told_none name rows (first (sym (ap is_repeatable same) ∙ once)))
few_more name v other rows first once few false is = ap is_few (append-nil (told other rows)) ∙ few

pub use_few : (o : Opt) (v : Text) (rows : List Row) → use_kinds o v rows ≡ [] → AreFew rows → AreFew (with_use o v rows)
use_few o v rows none few name part once =
    ap is_few (use_told o v rows none (Some name)) ∙ few_more o.name v name rows (fresh o v rows none) once (few name part once) (bytes_eq name o.name) refl

pub flag_few : (g : Flag) (rows : List Row) → flag_kinds g rows ≡ [] → AreFew rows → AreFew (with_flag g rows)
flag_few g rows none few name part once =
    ap is_few (flag_told g rows none (Some name))
    ∙ few_more g.name (codes "true") name rows (λ _. flag_fresh g rows none) once (few name part once) (bytes_eq name g.name) refl

pub files_few : (f : Text) (files : List Text) (rows : List Row) → AreFew rows → AreFew (with_files f files rows)
files_few f files rows few name part once =
    ap is_few (files_told f files rows (Some name) part ∙ append-nil (told name rows)) ∙ few name part once

-- ---- the defaults: only a flag has one

abbrev passed_if : Bool → List Row → List Row
passed_if t rows = if t then rows else rows

passed_is : (t : Bool) (rows : List Row) → passed_if t rows ≡ rows
passed_is true rows = refl
passed_is false rows = refl

abbrev unless_used : Flag → Bool → List Row → List Row
unless_used g t rows = if t then rows else with_values g.name (how_of_flag g) DefaultValue (codes "false" ∷ []) rows

-- the rows with it, if there is a flag
abbrev pub with_defaults : Option Flag → List Row → List Row
with_defaults (Some g) rows = unless_used g (has_row g.name rows) rows
with_defaults None rows = rows

end_is : (rows : List Row) → fold with_default rows (rules_with [] None) ≡ rows
end_is rows =
    let next = passed_if (has_row (codes "FILE") rows) rows in
    passed_is (has_row (codes "help") next) next ∙ passed_is (has_row (codes "FILE") rows) rows

pub defaults_are : (opts : List Opt) (flag : Option Flag) (rows : List Row) → fold with_default rows (rules_with opts flag) ≡ with_defaults flag rows
defaults_are [] (Some g) rows = end_is (with_defaults (Some g) rows)
defaults_are [] None rows = end_is rows
defaults_are (o ∷ rest) flag rows =
    ap (λ rs. fold with_default rs (rules_with rest flag)) (passed_is (has_row o.name rows) rows) ∙ defaults_are rest flag rows

-- what has a value isn't the flag
other_kind : (g : Flag) (name : Text) → is_flag name ≡ false → bytes_eq g.name name ≡ false
other_kind g name valued = false_from_ne_true (bytes_eq g.name name)
    (λ same. true≢false (sym g.flagged ∙ (ap is_flag ((bytes_eq-Decides g.name name).0 same) ∙ valued)))

-- other arguments have nothing more
apart_by : (g : Flag) (t : Bool) (name : Text) (rows : List Row) → bytes_eq g.name name ≡ false → told name (unless_used g t rows) ≡ told name rows
apart_by g true name rows apart = refl
apart_by g false name rows apart = others_told g.name name (how_of_flag g) DefaultValue (codes "false" ∷ []) apart rows

pub defaults_apart : (flag : Option Flag) (name : Text) (rows : List Row) → is_flag name ≡ false → told name (with_defaults flag rows) ≡ told name rows
defaults_apart (Some g) name rows valued = apart_by g (has_row g.name rows) name rows (other_kind g name valued)
defaults_apart None name rows valued = refl

-- the flag is set if its one value is `true`
abbrev is_set : List Text → Bool
is_set vs = option_map_or (bytes_eq (codes "true")) (slice_get vs 0) false

set_once : (vs : List Text) → is_few vs ≡ true → is_set vs ≡ list_any (bytes_eq (codes "true")) vs
set_once [] few = refl
set_once (v ∷ []) few = or_false (bytes_eq (codes "true") v)
  where
    or_false : (t : Bool) → t ≡ (t || false)
    or_false true = refl
    or_false false = refl
set_once (v ∷ u ∷ vs) few = absurd (true≢false (sym few))

set_by : (g : Flag) (rows : List Row) (t : Bool) → has_row g.name rows ≡ t → is_few (told g.name rows) ≡ true
    → is_set (told g.name (unless_used g t rows)) ≡ list_any (bytes_eq (codes "true")) (told g.name rows)
set_by g rows true is few = set_once (told g.name rows) few
set_by g rows false is few =
    let nothing_told = told_none g.name rows is in
    ap is_set (values_told g.name (how_of_flag g) DefaultValue (codes "false" ∷ []) (same_bytes g.name g.name refl) rows ∙ ap (λ x. x ++ codes "false" ∷ []) nothing_told)
    ∙ sym (ap (list_any (bytes_eq (codes "true"))) nothing_told)

-- a flag's name isn't FILE's
pub flag_part : (g : Flag) → IsPart (Some g.name)
flag_part g = other_way g.name (codes "FILE") g.apart

pub flag_set : (g : Flag) (rows : List Row) → AreFew rows → has_flag g.name (with_defaults (Some g) rows) ≡ list_any (bytes_eq (codes "true")) (told g.name rows)
flag_set g rows few =
    ap (λ o. option_map_or (bytes_eq (codes "true")) o false) (first_told g.name (with_defaults (Some g) rows))
    ∙ set_by g rows (has_row g.name rows) refl (few g.name (flag_part g) g.once)
