-- The pieces that a text is cut into, and that the one at its front is the longest that stands
-- there.
use Rattle.std.specs.Prelude.{◌≡◌, ◌≢◌, ℕ, ◌<◌, ◌≤◌, Bool, false, ◌&&◌, IsTrue, List, [], ◌∷◌, ◌++◌, length, take, Some, ◌⊎◌}
use Rattle.std.specs.List.{list_all}
use Rattle.mj_lexer.specs.declared.token.TokenKind.{TokenKind}
use Rattle.mj_lexer.specs.declared.token.TokenKind.TheVariants.{Identifier, Literal}
use Rattle.mj_lexer.specs.declared.token.TokenKind.TheVariants as kinds
use Rattle.mj_lexer.specs.declared.token.Terminal.{Terminal}
use Rattle.mj_lexer.specs.declared.front.Problem.TheVariants as problems
use Rattle.mj_lexer.specs.declared.front.Front.{Front}
use Rattle.mj_lexer.specs.declared.front.Front.TheVariants.{Nothing, Blank, Word, Wrong}
use Rattle.ordered_names.specs.Names.{most_name_bytes}
use Rattle.mj_lexer.specs.Bytes.{is_white, is_letter, is_digit, is_name_byte, is_line_byte, literal_value}
use Rattle.mj_lexer.specs.Words.{text_of}
use Rattle.mj_lexer.specs.Fronts.{after_comment}

-- a letter, then letters, digits and underscores
abbrev pub is_word : List ℕ → Bool
is_word [] = false
is_word (b ∷ bytes) = is_letter b && list_all is_name_byte bytes

-- decimal digits, one or more
abbrev pub is_number : List ℕ → Bool
is_number [] = false
is_number (b ∷ bytes) = is_digit b && list_all is_digit bytes

-- a byte of white space, `//` with the bytes of its line, or `/*` with all up to where it is closed
pub data IsBlank : List ℕ → Type 0 where
  white : {b : ℕ} → IsTrue (is_white b) → IsBlank (b ∷ [])
  line_comment : {bytes : List ℕ} → IsTrue (list_all is_line_byte bytes) → IsBlank (47 ∷ 47 ∷ bytes)
  closed_comment : {bytes : List ℕ} → after_comment 1 bytes ≡ Some [] → IsBlank (47 ∷ 42 ∷ bytes)

-- a word that isn't reserved, a number, or what a symbol or a reserved word is written as
abbrev pub IsToken : List ℕ → TokenKind → Type 0
IsToken bytes (Identifier name) =
    IsTrue (is_word bytes) × (name ≡ bytes) × ((terminal : Terminal) → text_of terminal ≢ bytes)
IsToken bytes (Literal value) = IsTrue (is_number bytes) × (value ≡ literal_value bytes)
IsToken bytes (kinds.Terminal terminal) = bytes ≡ text_of terminal

abbrev pub IsPiece : List ℕ → Type 0
IsPiece bytes = IsBlank bytes ⊎ ((kind : TokenKind) × IsToken bytes kind)

-- no piece at the front of the text is longer
pub record IsLongest (text : List ℕ) (n : ℕ) : Type 0 where
  pub within : n ≤ length text
  pub longest : (bytes rest : List ℕ) → text ≡ bytes ++ rest → IsPiece bytes → length bytes ≤ n

abbrev pub HasNoPiece : List ℕ → Type 0
HasNoPiece text = (bytes rest : List ℕ) → text ≡ bytes ++ rest → IsPiece bytes → ⊥

abbrev pub OpensComment : List ℕ → Type 0
OpensComment text = (rest : List ℕ) × (text ≡ 47 ∷ 42 ∷ rest)

-- an identifier has at most this many bytes
abbrev pub IsShort : TokenKind → Type 0
IsShort (Identifier name) = length name ≤ most_name_bytes
IsShort (Literal value) = Unit {0}
IsShort (kinds.Terminal terminal) = Unit {0}

-- this stands at the front of the text
abbrev pub StandsInFront : List ℕ → Front → Type 0
StandsInFront text Nothing = text ≡ []
StandsInFront text (Blank n) = IsLongest text n × IsBlank (take n text)
StandsInFront text (Word kind n) = IsLongest text n × IsToken (take n text) kind × IsShort kind
StandsInFront text (Wrong problems.Name) =
    (n : ℕ) × IsLongest text n × IsToken (take n text) (Identifier (take n text))
    × (most_name_bytes < n)
StandsInFront text (Wrong problems.Comment) = OpensComment text × HasNoPiece text
StandsInFront text (Wrong problems.Byte) = (text ≢ []) × (OpensComment text → ⊥) × HasNoPiece text
