-- A piece that stands at the front of a text is taken from there, and maybe more.
use Rattle.std.proofs.Common.{◌≡◌, ℕ, zero, suc, ◌≤◌, Bool, true, false, ◌&&◌, List, [], ◌∷◌, ◌++◌, length, Option, Some, refl, sym, subst, arith, length-append, inl, inr}
use Rattle.std.specs.Prelude.{if◌then◌else◌, nat_lt, nat_le}
use Rattle.std.specs.List.{prefix_len, list_all}
use Rattle.std.proofs.lemmas.Bool.Decides.{nat_tests}
use Rattle.std.proofs.lemmas.Bool.{and_parts}
use Rattle.mj_lexer.specs.declared.token.TokenKind.{TokenKind}
use Rattle.mj_lexer.specs.declared.token.TokenKind.TheVariants.{Identifier, Literal}
use Rattle.mj_lexer.specs.declared.token.TokenKind.TheVariants as kinds
use Rattle.mj_lexer.specs.declared.token.Terminal.{Terminal}
use Rattle.mj_lexer.specs.declared.token.Terminal.TheVariants.{LeftBrace, RightBrace, LeftParenthesis, RightParenthesis, LeftBracket, RightBracket, Semicolon, Comma, Dot, Assign, And, Less, Plus, Minus, Times, Not, Class, Public, Static, Void, Extends, Return, Int, Boolean, If, Else, While, True, False, This, New}
use Rattle.mj_lexer.specs.declared.front.Problem.TheVariants as problems
use Rattle.mj_lexer.specs.declared.front.Front.{Front}
use Rattle.mj_lexer.specs.declared.front.Front.TheVariants.{Nothing, Blank, Word, Wrong}
use Rattle.mj_lexer.specs.Bytes.{is_white, is_letter, is_digit, is_name_byte, is_line_byte, opens, closes}
use Rattle.mj_lexer.specs.Words.{text_of, reserved_of}
use Rattle.mj_lexer.specs.Fronts.{after_comment, name_front, number_front, front_of}
use Rattle.mj_lexer.specs.Pieces.{is_word, is_number, IsBlank, white, line_comment, closed_comment, IsToken, IsPiece}
use Rattle.mj_lexer.proofs.Within.{either_way}

-- a reserved word is a word of the table, and a symbol is found whatever stands behind it
pub data TerminalIs (terminal : Terminal) : Type 0 where
  symbol : is_word (text_of terminal) ≡ false → is_number (text_of terminal) ≡ false → ((rest : List ℕ) → front_of (text_of terminal ++ rest) ≡ Word (kinds.Terminal terminal) (length (text_of terminal))) → TerminalIs terminal
  reserved : is_word (text_of terminal) ≡ true → nat_le (length (text_of terminal)) 255 ≡ true → reserved_of (text_of terminal) ≡ Some terminal → TerminalIs terminal

pub terminal_is : (terminal : Terminal) → TerminalIs terminal
unfolding front_of reserved_of
terminal_is LeftBrace = symbol refl refl (λ rest. refl)
terminal_is RightBrace = symbol refl refl (λ rest. refl)
terminal_is LeftParenthesis = symbol refl refl (λ rest. refl)
terminal_is RightParenthesis = symbol refl refl (λ rest. refl)
terminal_is LeftBracket = symbol refl refl (λ rest. refl)
terminal_is RightBracket = symbol refl refl (λ rest. refl)
terminal_is Semicolon = symbol refl refl (λ rest. refl)
terminal_is Comma = symbol refl refl (λ rest. refl)
terminal_is Dot = symbol refl refl (λ rest. refl)
terminal_is Assign = symbol refl refl (λ rest. refl)
terminal_is And = symbol refl refl (λ rest. refl)
terminal_is Less = symbol refl refl (λ rest. refl)
terminal_is Plus = symbol refl refl (λ rest. refl)
terminal_is Minus = symbol refl refl (λ rest. refl)
terminal_is Times = symbol refl refl (λ rest. refl)
terminal_is Not = symbol refl refl (λ rest. refl)
terminal_is Class = reserved refl refl refl
terminal_is Public = reserved refl refl refl
terminal_is Static = reserved refl refl refl
terminal_is Void = reserved refl refl refl
terminal_is Extends = reserved refl refl refl
terminal_is Return = reserved refl refl refl
terminal_is Int = reserved refl refl refl
terminal_is Boolean = reserved refl refl refl
terminal_is If = reserved refl refl refl
terminal_is Else = reserved refl refl refl
terminal_is While = reserved refl refl refl
terminal_is True = reserved refl refl refl
terminal_is False = reserved refl refl refl
terminal_is This = reserved refl refl refl
terminal_is New = reserved refl refl refl

-- this many bytes at least are taken from the front of the text
abbrev pub Takes : List ℕ → ℕ → Front → Type 0
Takes text n Nothing = ⊥
Takes text n (Blank m) = n ≤ m
Takes text n (Word kind m) = n ≤ m
Takes text n (Wrong problems.Name) = n ≤ prefix_len is_name_byte text
Takes text n (Wrong problems.Comment) = ⊥
Takes text n (Wrong problems.Byte) = ⊥

-- bytes that all pass are a part of the prefix that passes
pub passing_prefix : (p : ℕ → Bool) (bytes rest : List ℕ) → list_all p bytes ≡ true → length bytes ≤ prefix_len p (bytes ++ rest)
passing_prefix p [] rest e = omega arith
passing_prefix p (b ∷ bytes) rest e = by_first (p b) refl e (passing_prefix p bytes rest)
  where
    by_first : (t : Bool) → p b ≡ t → (t && list_all p bytes) ≡ true → (list_all p bytes ≡ true → length bytes ≤ prefix_len p (bytes ++ rest)) → length (b ∷ bytes) ≤ prefix_len p (b ∷ bytes ++ rest)
    by_first true f e behind = let l = behind e in rw f (omega arith)
    by_first false f e behind = absurd cc

pub letter_not_white : (b : ℕ) → is_letter b ≡ true → is_white b ≡ false
letter_not_white b e = grind (arith, nat_tests)

pub digit_not_white : (b : ℕ) → is_digit b ≡ true → is_white b ≡ false
digit_not_white b e = grind (arith, nat_tests)

pub digit_no_letter : (b : ℕ) → is_digit b ≡ true → is_letter b ≡ false
digit_no_letter b e = grind (arith, nat_tests)

pub front_of-letter : (b : ℕ) (text : List ℕ) → is_letter b ≡ true → front_of (b ∷ text) ≡ name_front (b ∷ text) (prefix_len is_name_byte (b ∷ text))
unfolding front_of
front_of-letter b text e = rw (letter_not_white b e, e) refl

pub front_of-digit : (b : ℕ) (text : List ℕ) → is_digit b ≡ true → front_of (b ∷ text) ≡ number_front (b ∷ text) (prefix_len is_digit (b ∷ text))
unfolding front_of
front_of-digit b text e = rw (digit_not_white b e, digit_no_letter b e, e) refl

white_taken : (b : ℕ) (text : List ℕ) → is_white b ≡ true → Takes (b ∷ text) 1 (front_of (b ∷ text))
unfolding front_of
white_taken b text e = rw e (omega arith)

line_comment_taken : (bytes rest : List ℕ) → list_all is_line_byte bytes ≡ true → Takes (47 ∷ 47 ∷ bytes ++ rest) (length (47 ∷ 47 ∷ bytes)) (front_of (47 ∷ 47 ∷ bytes ++ rest))
unfolding front_of
line_comment_taken bytes rest e = let l = passing_prefix is_line_byte bytes rest e in omega arith

-- what stands behind a comment doesn't change where it ends
pub after_comment-append : (depth : ℕ) (bytes rest left : List ℕ) → after_comment depth bytes ≡ Some left → after_comment depth (bytes ++ rest) ≡ Some (left ++ rest)
after_comment-append zero bytes rest left e = let same : bytes ≡ left = cc in rw same refl
after_comment-append (suc depth) [] rest left e = absurd cc
after_comment-append (suc depth) (b ∷ []) rest left e = absurd cc
after_comment-append (suc depth) (b ∷ c ∷ bytes) rest left e =
    by_two (opens b c) (closes b c) _ _ _ _ _ _ e
    (after_comment-append (suc (suc depth)) bytes rest left) (after_comment-append depth bytes rest left) (after_comment-append (suc depth) (c ∷ bytes) rest left)
  where
    by_two : (s t : Bool) (x y z u v w : Option (List ℕ)) → (if s then x else (if t then y else z)) ≡ Some left
        → (x ≡ Some left → u ≡ Some (left ++ rest)) → (y ≡ Some left → v ≡ Some (left ++ rest)) → (z ≡ Some left → w ≡ Some (left ++ rest))
        → (if s then u else (if t then v else w)) ≡ Some (left ++ rest)
    by_two true t x y z u v w e p q r = p e
    by_two false true x y z u v w e p q r = q e
    by_two false false x y z u v w e p q r = r e

closed_comment_taken : (bytes rest : List ℕ) → after_comment 1 bytes ≡ Some [] → Takes (47 ∷ 42 ∷ bytes ++ rest) (length (47 ∷ 42 ∷ bytes)) (front_of (47 ∷ 42 ∷ bytes ++ rest))
unfolding front_of
closed_comment_taken bytes rest e = rw (after_comment-append 1 bytes rest [] e) (omega (arith, length-append bytes rest))

word_taken : (bytes rest : List ℕ) → is_word bytes ≡ true → Takes (bytes ++ rest) (length bytes) (front_of (bytes ++ rest))
word_taken [] rest e = absurd cc
word_taken (b ∷ bytes) rest e =
    let parts = and_parts (is_letter b) (list_all is_name_byte bytes) e in
    let l = passing_prefix is_name_byte (b ∷ bytes) rest (rw (parts.0, parts.1) refl) in
    let P : Front → Type 0 = Takes (b ∷ bytes ++ rest) (length (b ∷ bytes)) in
    subst P (sym (front_of-letter b (bytes ++ rest) parts.0)) (either_way P (nat_lt 255 (prefix_len is_name_byte (b ∷ bytes ++ rest))) _ _ (λ _. l) (λ _. l))

number_taken : (bytes rest : List ℕ) → is_number bytes ≡ true → Takes (bytes ++ rest) (length bytes) (front_of (bytes ++ rest))
number_taken [] rest e = absurd cc
number_taken (b ∷ bytes) rest e =
    let parts = and_parts (is_digit b) (list_all is_digit bytes) e in
    subst (Takes (b ∷ bytes ++ rest) (length (b ∷ bytes))) (sym (front_of-digit b (bytes ++ rest) parts.0)) (passing_prefix is_digit (b ∷ bytes) rest (rw (parts.0, parts.1) refl))

terminal_taken : (terminal : Terminal) (rest : List ℕ) → TerminalIs terminal → Takes (text_of terminal ++ rest) (length (text_of terminal)) (front_of (text_of terminal ++ rest))
terminal_taken terminal rest (symbol single other e) = rw (e rest) (omega arith)
terminal_taken terminal rest (reserved word short e) = word_taken (text_of terminal) rest word

token_taken : (bytes rest : List ℕ) (kind : TokenKind) → IsToken bytes kind → Takes (bytes ++ rest) (length bytes) (front_of (bytes ++ rest))
token_taken bytes rest (Identifier name) is = word_taken bytes rest is.0
token_taken bytes rest (Literal value) is = number_taken bytes rest is.0
token_taken bytes rest (kinds.Terminal terminal) is =
    subst (λ (bytes : List ℕ). Takes (bytes ++ rest) (length bytes) (front_of (bytes ++ rest))) (sym is) (terminal_taken terminal rest (terminal_is terminal))

blank_taken : (bytes rest : List ℕ) → IsBlank bytes → Takes (bytes ++ rest) (length bytes) (front_of (bytes ++ rest))
blank_taken [] rest blank = elim blank [ ]
blank_taken (b ∷ []) rest (white e) = white_taken b rest e
blank_taken (b ∷ c ∷ bytes) rest (line_comment e) = line_comment_taken bytes rest e
blank_taken (b ∷ c ∷ bytes) rest (closed_comment e) = closed_comment_taken bytes rest e

pub piece_taken : (bytes rest : List ℕ) → IsPiece bytes → Takes (bytes ++ rest) (length bytes) (front_of (bytes ++ rest))
piece_taken bytes rest (inl blank) = blank_taken bytes rest blank
piece_taken bytes rest (inr token) = token_taken bytes rest token.0 token.1
