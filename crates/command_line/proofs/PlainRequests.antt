-- When help isn't asked for.
use Rattle.std.proofs.Common.{◌≡◌, ◌∙◌, ◌||◌, ◌&&◌, ◌==◌, ℕ, Bool, true, false, List, [], ◌∷◌, Some, refl, sym, subst}
use Rattle.std.specs.Prelude.{if◌then◌else◌, nat_eq}
use Rattle.std.specs.Str.{bytes_eq}
use Rattle.std.proofs.Math.Bool.{and-true}
use Rattle.std.proofs.lemmas.Bool.{eqb-false, ne_eqb, or_from, or_parts}
use Rattle.std.proofs.lemmas.Option.{none-some, same_Some}
use Rattle.command_line.specs.Plain.{dashes, files_for, has_option, is_option}
use Rattle.command_line.specs.Requests.{asks_for_help, has_request, is_request}
use Rattle.command_line.specs.Subcommands.{Text, word_for}
use Rattle.command_line.specs.declared.asked.Subcommand.{Subcommand}
use Rattle.command_line.specs.declared.asked.Subcommand.TheVariants.{Scratch, Check, Audit, Show, Why, Explain}
use Rattle.command_line.proofs.ProgramWords.{AsksPlainly, asks}

-- ---- one argument

-- no request begins with another byte, or has one byte alone
other_byte : (t u p q r s : Bool) → t ≡ false → u ≡ false → ((t && p) || ((t && q) || ((u && r) || (u && s)))) ≡ false
other_byte false false p q r s first again = refl
other_byte true u p q r s first again = absurd cc
other_byte t true p q r s first again = absurd cc

one_byte : (t u : Bool) → ((t && false) || ((t && false) || ((u && false) || (u && false)))) ≡ false
one_byte true true = refl
one_byte true false = refl
one_byte false true = refl
one_byte false false = refl

other_way : (b : ℕ) → (b == 45) ≡ false → nat_eq 45 b ≡ false
other_way b apart = ne_eqb 45 b (λ same. eqb-false b 45 apart (sym same))

-- what isn't an option is no request
plain_word : (word : Text) → is_option word ≡ false → is_request word ≡ false
plain_word [] other = refl
plain_word (b ∷ []) other = one_byte (b == 45) (nat_eq 45 b)
plain_word (b ∷ x ∷ rest) other =
    let apart : (b == 45) ≡ false = sym (and-true (b == 45)) ∙ other in
    other_byte (b == 45) (nat_eq 45 b) _ _ _ _ apart (other_way b apart)

-- ---- all arguments

abbrev option_if : Bool → Text → List Text → Bool
option_if t word rest = if t then false else is_option word || has_option rest

abbrev request_if : Bool → Text → List Text → Bool
request_if t word rest = if t then false else is_request word || has_request rest

plain_by : (word : Text) (rest : List Text) (t : Bool) → (has_option rest ≡ false → has_request rest ≡ false) → option_if t word rest ≡ false → request_if t word rest ≡ false
plain_by word rest true later none = refl
plain_by word rest false later none =
    let parts = or_parts (is_option word) (has_option rest) none in
    or_from (is_request word) (has_request rest) (plain_word word parts.0) (later parts.1)

plain_words : (words : List Text) → has_option words ≡ false → has_request words ≡ false
plain_words [] none = refl
plain_words (word ∷ rest) none = plain_by word rest (bytes_eq word dashes) (plain_words rest) none

-- the name of a subcommand asks for nothing
named : (c : Subcommand) (name : Text) (rest : List Text) → asks_for_help (name ∷ word_for c ∷ rest) ≡ has_request rest
named Scratch name rest = refl
named Check name rest = refl
named Audit name rest = refl
named Show name rest = refl
named Why name rest = refl
named Explain name rest = refl

plain_asks : (c : Subcommand) (given files : List Text) → AsksPlainly c given files → asks_for_help given ≡ false
plain_asks c [] files is = absurd (none-some _ is.asked)
plain_asks c (name ∷ []) files is = absurd (none-some _ is.asked)
plain_asks c (name ∷ command ∷ rest) files is =
    let same : word_for c ≡ command = sym (same_Some _ _ is.asked) in
    subst (λ (w : Text). asks_for_help (name ∷ w ∷ rest) ≡ false) same (named c name rest ∙ plain_words rest is.plain.no_option)

-- plain arguments don't ask for help
pub plain_asks_none : (c : Subcommand) (given files : List Text) → files_for c given ≡ Some files → asks_for_help given ≡ false
plain_asks_none c given files plain = plain_asks c given files (asks c given files plain)
