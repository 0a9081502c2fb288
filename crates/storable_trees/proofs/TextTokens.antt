-- What the tokens of a text are: names are names, values are at most the greatest, and there are no more tokens than bytes.
use Rattle.std.proofs.Common.{◌≡◌, ℕ, zero, suc, ◌+◌, ◌<◌, ◌≤◌, true, List, [], ◌∷◌, length, take, refl, sym, subst, arith, lit<}
use Rattle.std.specs.Prelude.{All}
use Rattle.std.specs.List.{list_all, slice_index}
use Rattle.std.proofs.lemmas.List.{length-drop}
use Rattle.std.proofs.lemmas.List.Elements.{All-nil, All-cons}
use Rattle.std.proofs.lemmas.Str.{IsUtf8-from_ascii, is_utf8-from_IsUtf8}
use Rattle.std.specs.Str.{IsAscii}
use Rattle.std.proofs.lemmas.Bool.{and_parts}
use Rattle.mj_lexer.specs.declared.token.TokenKind.{TokenKind}
use Rattle.mj_lexer.specs.declared.token.TokenKind.TheVariants.{Identifier, Literal}
use Rattle.mj_lexer.specs.declared.token.TokenKind.TheVariants as kinds
use Rattle.mj_lexer.specs.declared.token.Token.{Token}
use Rattle.mj_lexer.specs.declared.front.Front.TheVariants.{Word}
use Rattle.mj_lexer.specs.Bytes.{is_letter, is_name_byte, greatest_literal}
use Rattle.mj_lexer.specs.Fronts.{IsWithin}
use Rattle.mj_lexer.specs.Pieces.{is_word, IsToken, IsShort}
use Rattle.mj_lexer.specs.Lexes.{limit, Cuts, here, blank, word, Lexes}
use Rattle.mj_lexer.proofs.Only.{front_is}
use Rattle.mj_lexer.proofs.Within.{letter_in_name, front_within}
use Rattle.mj_lexer.proofs.Names.{name_byte_small}
use Rattle.byte_readers.specs.Names.{IsName}

abbrev pub KindFits : TokenKind → Type 0
KindFits (Identifier name) = IsName name
KindFits (Literal value) = value ≤ greatest_literal
KindFits (kinds.Terminal terminal) = Unit {0}

abbrev pub TokenFits : Token → Type 0
TokenFits token = KindFits token.kind

ascii_bytes : (bytes : List ℕ) → list_all is_name_byte bytes ≡ true → (i : ℕ) → slice_index bytes i < 128
ascii_bytes [] e i = lit< tt
ascii_bytes (b ∷ bytes) e zero = name_byte_small b (and_parts (is_name_byte b) (list_all is_name_byte bytes) e).0
ascii_bytes (b ∷ bytes) e (suc i) = ascii_bytes bytes (and_parts (is_name_byte b) (list_all is_name_byte bytes) e).1 i

ascii_word : (bytes : List ℕ) → is_word bytes ≡ true → IsAscii bytes
ascii_word [] e = absurd cc
ascii_word (b ∷ bytes) e =
    let parts = and_parts (is_letter b) (list_all is_name_byte bytes) e in
    ascii_bytes (b ∷ bytes) (rw (letter_in_name b parts.0, parts.1) refl)

some_word : (bytes : List ℕ) → is_word bytes ≡ true → 0 < length bytes
some_word [] e = absurd cc
some_word (b ∷ bytes) e = omega arith

name_word : (bytes : List ℕ) → is_word bytes ≡ true → length bytes ≤ 255 → IsName bytes
name_word bytes e short = record {
  some = some_word bytes e;
  short = short;
  text = is_utf8-from_IsUtf8 bytes (IsUtf8-from_ascii bytes (ascii_word bytes e));
}

kind_fits : (bytes : List ℕ) (kind : TokenKind) → IsToken bytes kind → IsShort kind → KindFits kind
kind_fits bytes (Identifier name) is short =
    let same = is.1 in
    subst IsName (sym same) (name_word bytes is.0 (rw same at short))
kind_fits bytes (Literal value) is short = let same = is.1 in omega arith
kind_fits bytes (kinds.Terminal terminal) is short = tt

-- tokens that fit, no more than the bytes of the text
record AreOf (text : List ℕ) (tokens : List Token) : Type 0 where
  pub fit : All TokenFits tokens
  pub few : length tokens ≤ length text

cut_tokens : {at : ℕ} {text : List ℕ} {tokens : List Token} {till : ℕ} {rest : List ℕ} → Cuts at text tokens till rest → AreOf text tokens
cut_tokens here = record { fit = All-nil TokenFits; few = omega arith }
cut_tokens {text = text} (blank n s c) =
    let behind = cut_tokens c in
    let few = behind.few in
    record { fit = behind.fit; few = omega (arith, length-drop n text) }
cut_tokens {at = at} {text = text} (word kind n s c) =
    let behind = cut_tokens c in
    let few = behind.few in
    let within : (0 < n) × (n ≤ length text) = subst (IsWithin (length text)) (front_is text (Word kind n) s) (front_within text) in
    record { fit = All-cons TokenFits (record { kind = kind; start = at; end = at + n }) _ (kind_fits (take n text) kind s.1 s.2) behind.fit; few = omega (arith, length-drop n text) }

pub tokens_fit : (text : List ℕ) (tokens : List Token) → Lexes text tokens → All TokenFits tokens
tokens_fit text tokens lexes = (cut_tokens lexes.cut).fit

pub tokens_few : (text : List ℕ) (tokens : List Token) → Lexes text tokens → length tokens ≤ limit
tokens_few text tokens lexes = let short = lexes.short in let few = (cut_tokens lexes.cut).few in omega arith
