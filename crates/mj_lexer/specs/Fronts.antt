-- What stands at the front of a text.
use Rattle.std.specs.Prelude.{◌≡◌, ℕ, zero, suc, ◌+◌, ◌-◌, ◌<◌, ◌≤◌, ◌==◌, nat_lt, List, [], ◌∷◌, length, take, Option, Some, None, if◌then◌else◌}
use Rattle.std.specs.List.{prefix_len}
use Rattle.mj_lexer.specs.declared.token.TokenKind.TheVariants as kinds
use Rattle.mj_lexer.specs.declared.token.Terminal.{Terminal}
use Rattle.mj_lexer.specs.declared.token.Terminal.TheVariants.{And}
use Rattle.mj_lexer.specs.declared.front.Problem.TheVariants as problems
use Rattle.mj_lexer.specs.declared.front.Front.{Front}
use Rattle.mj_lexer.specs.declared.front.Front.TheVariants.{Nothing, Blank, Word, Wrong}
use Rattle.ordered_names.specs.Names.{most_name_bytes}
use Rattle.mj_lexer.specs.Bytes.{is_white, is_letter, is_digit, is_name_byte, is_line_byte, literal_value, opens, closes}
use Rattle.mj_lexer.specs.Words.{symbol_of, kind_of_word}

-- the text behind the end of a comment at this depth; read two bytes at a time
abbrev pub after_comment : ℕ → List ℕ → Option (List ℕ)
after_comment zero text = Some text
after_comment (suc depth) [] = None
after_comment (suc depth) (b ∷ []) = None
after_comment (suc depth) (b ∷ c ∷ text) =
    if opens b c then after_comment (suc (suc depth)) text else (
    if closes b c then after_comment depth text else after_comment (suc depth) (c ∷ text))

abbrev pub found_symbol : Option Terminal → Front
found_symbol None = Wrong problems.Byte
found_symbol (Some terminal) = Word (kinds.Terminal terminal) 1

abbrev pub found_comment : List ℕ → Option (List ℕ) → Front
found_comment text None = Wrong problems.Comment
found_comment text (Some rest) = Blank (length text - length rest)

-- behind a slash: a comment to the end of the line, or one that is closed
abbrev pub slash_front : List ℕ → Front
slash_front [] = Wrong problems.Byte
slash_front (b ∷ text) =
    if b == 47 then Blank (2 + prefix_len is_line_byte text) else (
    if b == 42 then found_comment (47 ∷ b ∷ text) (after_comment 1 text) else Wrong problems.Byte)

-- && or nothing
abbrev pub and_front : List ℕ → Front
and_front [] = Wrong problems.Byte
and_front (b ∷ text) = if b == 38 then Word (kinds.Terminal And) 2 else Wrong problems.Byte

abbrev pub name_front : List ℕ → ℕ → Front
name_front text n =
    if nat_lt most_name_bytes n then Wrong problems.Name else Word (kind_of_word (take n text)) n

abbrev pub number_front : List ℕ → ℕ → Front
number_front text n = Word (kinds.Literal (literal_value (take n text))) n

unfoldable pub front_of : List ℕ → Front
front_of [] = Nothing
front_of (b ∷ text) =
    if is_white b then Blank 1 else (
    if is_letter b then name_front (b ∷ text) (prefix_len is_name_byte (b ∷ text)) else (
    if is_digit b then number_front (b ∷ text) (prefix_len is_digit (b ∷ text)) else (
    if b == 47 then slash_front text else (
    if b == 38 then and_front text else found_symbol (symbol_of b)))))

-- a piece has some bytes, and no more than there are
abbrev pub IsWithin : ℕ → Front → Type 0
IsWithin len Nothing = len ≡ 0
IsWithin len (Blank n) = (0 < n) × (n ≤ len)
IsWithin len (Word kind n) = (0 < n) × (n ≤ len)
IsWithin len (Wrong problem) = Unit {0}
