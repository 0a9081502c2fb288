-- The first bytes of tokens.
use Rattle.std.proofs.Common.{◌≡◌, ℕ, List, [], Option, Some, None, refl, sym, ap, ◌∙◌, option_and_then}
use Rattle.mj_lexer.specs.declared.token.Token.{Token}
use Rattle.mj_lexer.specs.Lexing.{tokens_of}
use Rattle.mj_tree.specs.declared.place.Place.{Place}
use Rattle.mj_parser.specs.Locations.{token_of}
use Rattle.file_index.specs.Reading.{tokens_or_none}
use Rattle.diagnostic_lines.specs.FaultLines.{token_byte, byte_among, byte_in}

-- if there are no tokens, no place has one
no_byte : (found : Option ℕ) → None ≡ option_and_then (token_byte []) found
no_byte None = refl
no_byte (Some n) = refl

-- a place is sought among the tokens that there are
pub byte_found : (text : List ℕ) (class : ℕ) (place : Place) → byte_in text class place ≡ byte_among class place (tokens_or_none text)
unfolding byte_in
byte_found text class place = by (tokens_of text) refl
  where
    by : (o : Option (List Token)) → tokens_of text ≡ o → option_and_then (byte_among class place) (tokens_of text) ≡ byte_among class place (tokens_or_none text)
    by None e = rw e (no_byte (token_of [] class place))
    by (Some ts) e = rw e refl

pub no_place : (text : List ℕ) (ts : List Token) (class : ℕ) (place : Place) → ts ≡ tokens_or_none text → None ≡ token_of ts class place → None ≡ byte_in text class place
no_place text ts class place e none = ap (option_and_then (token_byte ts)) none ∙ (ap (byte_among class place) e ∙ sym (byte_found text class place))

pub one_place : (text : List ℕ) (ts : List Token) (class : ℕ) (place : Place) (n : ℕ) (byte : Option ℕ) → ts ≡ tokens_or_none text → Some n ≡ token_of ts class place
    → byte ≡ token_byte ts n → byte ≡ byte_in text class place
one_place text ts class place n byte e found is = is ∙ (ap (option_and_then (token_byte ts)) found ∙ (ap (byte_among class place) e ∙ sym (byte_found text class place)))
