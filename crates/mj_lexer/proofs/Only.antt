-- One thing alone stands at the front of a text.
use Rattle.std.proofs.Common.{◌≡◌, ◌≢◌, ℕ, ◌+◌, ◌-◌, ◌<◌, ◌≤◌, Bool, true, false, List, [], ◌∷◌, length, take, drop, Option, Some, None, refl, sym, ap, ◌∙◌, subst, arith, inl, inr}
use Rattle.std.specs.Prelude.{nat_lt}
use Rattle.std.specs.List.{prefix_len, list_all}
use Rattle.std.proofs.lemmas.List.{take-append-drop, take_all, append-nil, length-take}
use Rattle.std.proofs.lemmas.List.Sums.{prefix_len-le-length}
use Rattle.std.proofs.lemmas.Bool.Decides.{nat_tests}
use Rattle.std.proofs.lemmas.Bool.{and_parts}
use Rattle.mj_lexer.specs.declared.token.TokenKind.{TokenKind}
use Rattle.mj_lexer.specs.declared.token.TokenKind.TheVariants.{Identifier, Literal}
use Rattle.mj_lexer.specs.declared.token.TokenKind.TheVariants as kinds
use Rattle.mj_lexer.specs.declared.token.Terminal.{Terminal}
use Rattle.mj_lexer.specs.declared.front.Problem.TheVariants as problems
use Rattle.mj_lexer.specs.declared.front.Front.{Front}
use Rattle.mj_lexer.specs.declared.front.Front.TheVariants.{Nothing, Blank, Word, Wrong}
use Rattle.mj_lexer.specs.Bytes.{is_letter, is_digit, is_name_byte, is_line_byte}
use Rattle.mj_lexer.specs.Words.{text_of, reserved_of, kind_of_word}
use Rattle.mj_lexer.specs.Fronts.{name_front, number_front, front_of}
use Rattle.mj_lexer.specs.Pieces.{is_word, is_number, IsBlank, white, line_comment, closed_comment, IsToken, IsPiece, IsLongest, HasNoPiece, OpensComment, IsShort, StandsInFront}
use Rattle.mj_lexer.proofs.Taken.{TerminalIs, symbol, reserved, terminal_is, piece_taken, passing_prefix, front_of-letter, front_of-digit}
use Rattle.mj_lexer.proofs.Longest.{reserved_text, front_stands}

-- ---- a piece alone is read as that piece

whole_prefix : (p : ℕ → Bool) (bytes : List ℕ) → list_all p bytes ≡ true → prefix_len p bytes ≡ length bytes
whole_prefix p bytes e =
    let most = prefix_len-le-length p bytes in
    let least : length bytes ≤ prefix_len p bytes = rw append-nil at (passing_prefix p bytes [] e) in
    omega arith

blank_alone : (bytes : List ℕ) → IsBlank bytes → front_of bytes ≡ Blank (length bytes)
unfolding front_of
blank_alone [] blank = elim blank [ ]
blank_alone (b ∷ []) (white e) = rw e refl
blank_alone (b ∷ c ∷ bytes) (line_comment e) = let n : 2 + prefix_len is_line_byte bytes ≡ length (b ∷ c ∷ bytes) = omega (arith, whole_prefix is_line_byte bytes e) in ap Blank n
blank_alone (b ∷ c ∷ bytes) (closed_comment e) = let n : length (b ∷ c ∷ bytes) - 0 ≡ length (b ∷ c ∷ bytes) = omega arith in rw (e, n) refl

word_alone : (bytes : List ℕ) → is_word bytes ≡ true → front_of bytes ≡ name_front bytes (length bytes)
word_alone [] e = absurd cc
word_alone (b ∷ bytes) e =
    let parts = and_parts (is_letter b) (list_all is_name_byte bytes) e in
    front_of-letter b bytes parts.0 ∙ ap (name_front (b ∷ bytes)) (whole_prefix is_name_byte (b ∷ bytes) (rw (parts.0, parts.1) refl))

number_alone : (bytes : List ℕ) → is_number bytes ≡ true → front_of bytes ≡ number_front bytes (length bytes)
number_alone [] e = absurd cc
number_alone (b ∷ bytes) e =
    let parts = and_parts (is_digit b) (list_all is_digit bytes) e in
    front_of-digit b bytes parts.0 ∙ ap (number_front (b ∷ bytes)) (whole_prefix is_digit (b ∷ bytes) (rw (parts.0, parts.1) refl))

short_word : (bytes : List ℕ) → is_word bytes ≡ true → length bytes ≤ 255 → front_of bytes ≡ Word (kind_of_word bytes) (length bytes)
short_word bytes word short =
    let no : nat_lt 255 (length bytes) ≡ false = grind (arith, nat_tests) in
    let all : take (length bytes) bytes ≡ bytes = take_all (length bytes) bytes (omega arith) in
    word_alone bytes word ∙ rw (no, all) refl

long_word : (bytes : List ℕ) → is_word bytes ≡ true → 255 < length bytes → front_of bytes ≡ Wrong problems.Name
long_word bytes word long =
    let yes : nat_lt 255 (length bytes) ≡ true = grind (arith, nat_tests) in
    word_alone bytes word ∙ rw yes refl

none_reserved : (bytes : List ℕ) → ((terminal : Terminal) → text_of terminal ≢ bytes) → reserved_of bytes ≡ None
none_reserved bytes others = by_found (reserved_of bytes) refl
  where
    by_found : (found : Option Terminal) → reserved_of bytes ≡ found → reserved_of bytes ≡ None
    by_found None e = e
    by_found (Some terminal) e = absurd (others terminal (sym (reserved_text bytes terminal e)))

terminal_alone : (terminal : Terminal) → TerminalIs terminal → front_of (text_of terminal) ≡ Word (kinds.Terminal terminal) (length (text_of terminal))
terminal_alone terminal (symbol single other e) = rw append-nil at (e [])
terminal_alone terminal (reserved word short e) = short_word (text_of terminal) word (grind (arith, nat_tests)) ∙ rw e refl

token_alone : (bytes : List ℕ) (kind : TokenKind) → IsToken bytes kind → IsShort kind → front_of bytes ≡ Word kind (length bytes)
token_alone bytes (Identifier name) is short =
    let same = is.1 in
    let len : length bytes ≤ 255 = omega (arith, ap length same) in
    let none = none_reserved bytes is.2 in
    short_word bytes is.0 len ∙ rw (none, same) refl
token_alone bytes (Literal value) is short =
    let all : take (length bytes) bytes ≡ bytes = take_all (length bytes) bytes (omega arith) in
    number_alone bytes is.0 ∙ rw (all, is.1) refl
token_alone bytes (kinds.Terminal terminal) is short = subst (λ (bytes : List ℕ). front_of bytes ≡ Word (kinds.Terminal terminal) (length bytes)) (sym is) (terminal_alone terminal (terminal_is terminal))

-- ---- so what stands is read from the longest piece, or there is none

data Reading (text : List ℕ) (front : Front) : Type 0 where
  piece : (n : ℕ) → IsLongest text n → IsPiece (take n text) → front_of (take n text) ≡ front → Reading text front
  at_end : text ≡ [] → front ≡ Nothing → Reading text front
  in_comment : OpensComment text → HasNoPiece text → front ≡ Wrong problems.Comment → Reading text front
  at_byte : text ≢ [] → (OpensComment text → ⊥) → HasNoPiece text → front ≡ Wrong problems.Byte → Reading text front

piece_len : (text : List ℕ) (n : ℕ) → IsLongest text n → length (take n text) ≡ n
piece_len text n l = let w = l.within in omega (arith, length-take n text)

reading : (text : List ℕ) (front : Front) → StandsInFront text front → Reading text front
reading text Nothing e = at_end e refl
reading text (Blank n) (l, is) = piece n l (inl is) (blank_alone (take n text) is ∙ ap Blank (piece_len text n l))
reading text (Word kind n) (l, is, short) = piece n l (inr (kind, is)) (token_alone (take n text) kind is short ∙ ap (Word kind) (piece_len text n l))
reading text (Wrong problems.Name) (n, l, is, long) = piece n l (inr (Identifier (take n text), is)) (long_word (take n text) is.0 (omega (arith, piece_len text n l)))
reading text (Wrong problems.Comment) (opening, none) = in_comment opening none refl
reading text (Wrong problems.Byte) (some, closed, none) = at_byte some closed none refl

none_at_end : HasNoPiece []
unfolding front_of
none_at_end [] rest e is = piece_taken [] [] is
none_at_end (b ∷ bytes) rest e is = cc

apart : (text : List ℕ) (n : ℕ) → IsPiece (take n text) → HasNoPiece text → ⊥
apart text n is none = none (take n text) (drop n text) (sym (take-append-drop n text)) is

apart_at_end : (text : List ℕ) (n : ℕ) → IsPiece (take n text) → text ≡ [] → ⊥
apart_at_end text n is e = apart text n is (subst HasNoPiece (sym e) none_at_end)

not_longer : (text : List ℕ) (n m : ℕ) → IsLongest text n → IsPiece (take n text) → IsLongest text m → n ≤ m
not_longer text n m l is k = let most = k.longest (take n text) (drop n text) (sym (take-append-drop n text)) is in omega (arith, piece_len text n l)

one_reading : (text : List ℕ) (f g : Front) → Reading text f → Reading text g → f ≡ g
one_reading text f g (piece n l is e) (piece m k js i) =
    let a = not_longer text n m l is k in
    let b = not_longer text m n k js l in
    let same : n ≡ m = omega arith in
    cc
one_reading text f g (piece n l is e) (at_end i j) = absurd (apart_at_end text n is i)
one_reading text f g (piece n l is e) (in_comment o none i) = absurd (apart text n is none)
one_reading text f g (piece n l is e) (at_byte some c none i) = absurd (apart text n is none)
one_reading text f g (at_end e i) (piece n l is j) = absurd (apart_at_end text n is e)
one_reading text f g (at_end e i) (at_end h j) = i ∙ sym j
one_reading text f g (at_end e i) (in_comment o none j) = let h = o.1 in absurd cc
one_reading text f g (at_end e i) (at_byte some c none j) = absurd (some e)
one_reading text f g (in_comment o none e) (piece n l is i) = absurd (apart text n is none)
one_reading text f g (in_comment o none e) (at_end i j) = let h = o.1 in absurd cc
one_reading text f g (in_comment o none e) (in_comment p other i) = e ∙ sym i
one_reading text f g (in_comment o none e) (at_byte some c other i) = absurd (c o)
one_reading text f g (at_byte some c none e) (piece n l is i) = absurd (apart text n is none)
one_reading text f g (at_byte some c none e) (at_end i j) = absurd (some i)
one_reading text f g (at_byte some c none e) (in_comment o other i) = absurd (c o)
one_reading text f g (at_byte some c none e) (at_byte others d other i) = e ∙ sym i

pub one_front : (text : List ℕ) (f g : Front) → StandsInFront text f → StandsInFront text g → f ≡ g
one_front text f g a b = one_reading text f g (reading text f a) (reading text g b)

-- so it stands there exactly if it is read
pub stands_there : (text : List ℕ) (front : Front) → front_of text ≡ front → StandsInFront text front
stands_there text front e = subst (StandsInFront text) e (front_stands text)

pub front_is : (text : List ℕ) (front : Front) → StandsInFront text front → front_of text ≡ front
front_is text front stands = one_front text (front_of text) front (front_stands text) stands
