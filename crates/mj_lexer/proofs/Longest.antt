-- What stands at the front of a text is the longest piece there.
use Rattle.std.proofs.Common.{◌≡◌, ◌≢◌, ℕ, zero, suc, ◌+◌, ◌-◌, ◌<◌, ◌≤◌, Bool, true, false, ◌==◌, List, [], ◌∷◌, ◌++◌, length, take, Option, Some, None, refl, sym, ap, ◌∙◌, subst, arith, length-append, inl, inr, ◌⊎◌}
use Rattle.std.specs.Prelude.{if◌then◌else◌, nat_lt, codes}
use Rattle.std.specs.List.{prefix_len, list_all}
use Rattle.std.specs.Str.{bytes_eq}
use Rattle.std.proofs.lemmas.List.{take-append-le, take_all}
use Rattle.std.proofs.lemmas.List.Sums.{prefix_len-le-length}
use Rattle.std.proofs.lemmas.List.Folds.{length-prefix_len}
use Rattle.std.proofs.lemmas.Bool.Decides.{nat_tests}
use Rattle.std.proofs.lemmas.Slice.Eq.{bytes_eq-Decides}
use Rattle.mj_lexer.specs.declared.token.TokenKind.TheVariants.{Identifier}
use Rattle.mj_lexer.specs.declared.token.Terminal.{Terminal}
use Rattle.mj_lexer.specs.declared.token.Terminal.TheVariants.{LeftBrace, RightBrace, LeftParenthesis, RightParenthesis, LeftBracket, RightBracket, Semicolon, Comma, Dot, Assign, Less, Plus, Minus, Times, Not, Class, Public, Static, Void, Extends, Return, Int, Boolean, If, Else, While, True, False, This, New}
use Rattle.mj_lexer.specs.declared.front.Problem.TheVariants as problems
use Rattle.mj_lexer.specs.declared.front.Front.{Front}
use Rattle.mj_lexer.specs.declared.front.Front.TheVariants.{Nothing, Blank, Word, Wrong}
use Rattle.mj_lexer.specs.Bytes.{is_white, is_letter, is_digit, is_name_byte, is_line_byte, opens, closes}
use Rattle.mj_lexer.specs.Words.{text_of, symbol_of, reserved_of, kind_of_word}
use Rattle.mj_lexer.specs.Fronts.{after_comment, found_symbol, found_comment, slash_front, and_front, name_front, number_front, front_of, IsWithin}
use Rattle.mj_lexer.specs.Pieces.{is_word, IsBlank, white, line_comment, closed_comment, IsToken, IsLongest, HasNoPiece, OpensComment, IsShort, StandsInFront}
use Rattle.mj_lexer.proofs.Within.{either_way, letter_in_name, front_within}
use Rattle.mj_lexer.proofs.Taken.{TerminalIs, symbol, reserved, terminal_is, Takes, piece_taken}

-- whatever is found is written as these bytes
abbrev IsWrittenAs : List ℕ → Option Terminal → Type 0
IsWrittenAs bytes found = (terminal : Terminal) → found ≡ Some terminal → bytes ≡ text_of terminal

found_if : (bytes : List ℕ) (t : Bool) (first : Terminal) (others : Option Terminal) → (t ≡ true → bytes ≡ text_of first) → IsWrittenAs bytes others → IsWrittenAs bytes (if t then Some first else others)
found_if bytes true first others is behind terminal e = let same : first ≡ terminal = cc in subst (λ (u : Terminal). bytes ≡ text_of u) same (is refl)
found_if bytes false first others is behind terminal e = behind terminal e

same_byte : (b k : ℕ) → (b == k) ≡ true → b ≡ k
same_byte b k e = grind (arith, nat_tests)

byte_text : (b k : ℕ) (terminal : Terminal) → (b == k) ≡ true → text_of terminal ≡ k ∷ [] → b ∷ [] ≡ text_of terminal
byte_text b k terminal e is = let same = same_byte b k e in cc

same_bytes : (xs ys : List ℕ) → bytes_eq xs ys ≡ true → xs ≡ ys
same_bytes xs ys e = (bytes_eq-Decides xs ys).0 e

symbol_text : (b : ℕ) → IsWrittenAs (b ∷ []) (symbol_of b)
symbol_text b =
    found_if (b ∷ []) (b == 123) LeftBrace _ (λ e. byte_text b 123 LeftBrace e refl) (
    found_if (b ∷ []) (b == 125) RightBrace _ (λ e. byte_text b 125 RightBrace e refl) (
    found_if (b ∷ []) (b == 40) LeftParenthesis _ (λ e. byte_text b 40 LeftParenthesis e refl) (
    found_if (b ∷ []) (b == 41) RightParenthesis _ (λ e. byte_text b 41 RightParenthesis e refl) (
    found_if (b ∷ []) (b == 91) LeftBracket _ (λ e. byte_text b 91 LeftBracket e refl) (
    found_if (b ∷ []) (b == 93) RightBracket _ (λ e. byte_text b 93 RightBracket e refl) (
    found_if (b ∷ []) (b == 59) Semicolon _ (λ e. byte_text b 59 Semicolon e refl) (
    found_if (b ∷ []) (b == 44) Comma _ (λ e. byte_text b 44 Comma e refl) (
    found_if (b ∷ []) (b == 46) Dot _ (λ e. byte_text b 46 Dot e refl) (
    found_if (b ∷ []) (b == 61) Assign _ (λ e. byte_text b 61 Assign e refl) (
    found_if (b ∷ []) (b == 60) Less _ (λ e. byte_text b 60 Less e refl) (
    found_if (b ∷ []) (b == 43) Plus _ (λ e. byte_text b 43 Plus e refl) (
    found_if (b ∷ []) (b == 45) Minus _ (λ e. byte_text b 45 Minus e refl) (
    found_if (b ∷ []) (b == 42) Times _ (λ e. byte_text b 42 Times e refl) (
    found_if (b ∷ []) (b == 33) Not _ (λ e. byte_text b 33 Not e refl) (
    λ terminal e. absurd cc)))))))))))))))

pub reserved_text : (bytes : List ℕ) → IsWrittenAs bytes (reserved_of bytes)
unfolding reserved_of
reserved_text bytes =
    found_if bytes (bytes_eq bytes (codes "class")) Class _ (λ e. same_bytes bytes (codes "class") e) (
    found_if bytes (bytes_eq bytes (codes "public")) Public _ (λ e. same_bytes bytes (codes "public") e) (
    found_if bytes (bytes_eq bytes (codes "static")) Static _ (λ e. same_bytes bytes (codes "static") e) (
    found_if bytes (bytes_eq bytes (codes "void")) Void _ (λ e. same_bytes bytes (codes "void") e) (
    found_if bytes (bytes_eq bytes (codes "extends")) Extends _ (λ e. same_bytes bytes (codes "extends") e) (
    found_if bytes (bytes_eq bytes (codes "return")) Return _ (λ e. same_bytes bytes (codes "return") e) (
    found_if bytes (bytes_eq bytes (codes "int")) Int _ (λ e. same_bytes bytes (codes "int") e) (
    found_if bytes (bytes_eq bytes (codes "boolean")) Boolean _ (λ e. same_bytes bytes (codes "boolean") e) (
    found_if bytes (bytes_eq bytes (codes "if")) If _ (λ e. same_bytes bytes (codes "if") e) (
    found_if bytes (bytes_eq bytes (codes "else")) Else _ (λ e. same_bytes bytes (codes "else") e) (
    found_if bytes (bytes_eq bytes (codes "while")) While _ (λ e. same_bytes bytes (codes "while") e) (
    found_if bytes (bytes_eq bytes (codes "true")) True _ (λ e. same_bytes bytes (codes "true") e) (
    found_if bytes (bytes_eq bytes (codes "false")) False _ (λ e. same_bytes bytes (codes "false") e) (
    found_if bytes (bytes_eq bytes (codes "this")) This _ (λ e. same_bytes bytes (codes "this") e) (
    found_if bytes (bytes_eq bytes (codes "new")) New _ (λ e. same_bytes bytes (codes "new") e) (
    λ terminal e. absurd cc)))))))))))))))

-- a word that isn't found among the reserved ones is none of them
not_reserved : (bytes : List ℕ) → is_word bytes ≡ true → (reserved_of bytes ≡ None) ⊎ (255 < length bytes) → (terminal : Terminal) → text_of terminal ≢ bytes
not_reserved bytes word none terminal is = by_terminal (terminal_is terminal) none
  where
    by_terminal : TerminalIs terminal → (reserved_of bytes ≡ None) ⊎ (255 < length bytes) → ⊥
    by_terminal (symbol single other e) none = let a = ap is_word is in absurd cc
    by_terminal (reserved other short e) (inl none) = let a = ap reserved_of is in absurd cc
    by_terminal (reserved other short e) (inr long) = let a = ap length is in let b : length (text_of terminal) ≤ 255 = grind (arith, nat_tests) in omega arith

-- of what stands at the front of a text: that it is a piece, or what is wrong
abbrev Sound : List ℕ → Front → Type 0
Sound text Nothing = text ≡ []
Sound text (Blank n) = IsBlank (take n text)
Sound text (Word kind n) = IsToken (take n text) kind × IsShort kind
Sound text (Wrong problems.Name) = let n = prefix_len is_name_byte text in (255 < n) × IsToken (take n text) (Identifier (take n text))
Sound text (Wrong problems.Comment) = OpensComment text
Sound text (Wrong problems.Byte) = (text ≢ []) × (OpensComment text → ⊥)

take-prefix_len : (p : ℕ → Bool) (b : ℕ) (text : List ℕ) → p b ≡ true → take (prefix_len p (b ∷ text)) (b ∷ text) ≡ b ∷ take (prefix_len p text) text
take-prefix_len p b text e = let one : 1 + prefix_len p text ≡ suc (prefix_len p text) = omega arith in rw (e, one) refl

prefix_passes : (p : ℕ → Bool) (text : List ℕ) → list_all p (take (prefix_len p text) text) ≡ true
prefix_passes p [] = refl
prefix_passes p (b ∷ text) = by_first (p b) refl (prefix_passes p text)
  where
    by_first : (t : Bool) → p b ≡ t → list_all p (take (prefix_len p text) text) ≡ true → list_all p (take (prefix_len p (b ∷ text)) (b ∷ text)) ≡ true
    by_first true e behind = rw (take-prefix_len p b text e) (rw (e, behind) refl)
    by_first false e behind = rw e refl

word_is_token : (bytes : List ℕ) → is_word bytes ≡ true → length bytes ≤ 255 → IsToken bytes (kind_of_word bytes) × IsShort (kind_of_word bytes)
word_is_token bytes word short = by_found (reserved_of bytes) refl
  where
    by_found : (found : Option Terminal) → reserved_of bytes ≡ found → IsToken bytes (kind_of_word bytes) × IsShort (kind_of_word bytes)
    by_found None e = let others = not_reserved bytes word (inl e) in rw e ((word, refl, others), short)
    by_found (Some terminal) e = let is = reserved_text bytes terminal e in rw e (is, tt)

name_sound : (b : ℕ) (text : List ℕ) → is_letter b ≡ true → Sound (b ∷ text) (name_front (b ∷ text) (prefix_len is_name_byte (b ∷ text)))
name_sound b text letter =
    let n = prefix_len is_name_byte (b ∷ text) in
    let word : is_word (take n (b ∷ text)) ≡ true = rw (take-prefix_len is_name_byte b text (letter_in_name b letter)) (rw (letter, prefix_passes is_name_byte text) refl) in
    let len : length (take n (b ∷ text)) ≡ n = length-prefix_len is_name_byte (b ∷ text) in
    either_way (Sound (b ∷ text)) (nat_lt 255 n) _ _
    (λ e. let long : 255 < n = grind (arith, nat_tests) in (long, (word, refl, not_reserved (take n (b ∷ text)) word (inr (omega arith)))))
    (λ e. let short : n ≤ 255 = grind (arith, nat_tests) in word_is_token (take n (b ∷ text)) word (omega arith))

number_sound : (b : ℕ) (text : List ℕ) → is_digit b ≡ true → Sound (b ∷ text) (number_front (b ∷ text) (prefix_len is_digit (b ∷ text)))
number_sound b text digit = ((rw (take-prefix_len is_digit b text digit) (rw (digit, prefix_passes is_digit text) refl), refl), tt)

-- a comment that ends has a part of the text up to there
record Ending (depth : ℕ) (text left : List ℕ) : Type 0 where
  pub bytes : List ℕ
  pub whole : text ≡ bytes ++ left
  pub ends : after_comment depth bytes ≡ Some []

ending : (depth : ℕ) (text left : List ℕ) → after_comment depth text ≡ Some left → Ending depth text left
ending zero text left e = record { bytes = []; whole = cc; ends = refl }
ending (suc depth) [] left e = absurd cc
ending (suc depth) (b ∷ []) left e = absurd cc
ending (suc depth) (b ∷ c ∷ text) left e =
    by_two (opens b c) (closes b c) refl refl e (ending (suc (suc depth)) text left) (ending depth text left) (ending (suc depth) (c ∷ text) left)
  where
    behind_other : (opens b c ≡ false) → (closes b c ≡ false) → (bytes : List ℕ) → c ∷ text ≡ bytes ++ left → after_comment (suc depth) bytes ≡ Some [] → Ending (suc depth) (b ∷ c ∷ text) left
    behind_other o k [] whole ends = absurd cc
    behind_other o k (d ∷ bytes) whole ends =
        let same : c ≡ d = cc in
        record { bytes = b ∷ d ∷ bytes; whole = ap (λ (xs : List ℕ). b ∷ xs) whole; ends = rw (← same, o, k) ends }

    by_two : (s t : Bool) → opens b c ≡ s → closes b c ≡ t
        → (if s then after_comment (suc (suc depth)) text else (if t then after_comment depth text else after_comment (suc depth) (c ∷ text))) ≡ Some left
        → (after_comment (suc (suc depth)) text ≡ Some left → Ending (suc (suc depth)) text left)
        → (after_comment depth text ≡ Some left → Ending depth text left)
        → (after_comment (suc depth) (c ∷ text) ≡ Some left → Ending (suc depth) (c ∷ text) left)
        → Ending (suc depth) (b ∷ c ∷ text) left
    by_two true t o k e p q r = let in_it = p e in record { bytes = b ∷ c ∷ in_it.bytes; whole = ap (λ (xs : List ℕ). b ∷ c ∷ xs) in_it.whole; ends = rw o in_it.ends }
    by_two false true o k e p q r = let in_it = q e in record { bytes = b ∷ c ∷ in_it.bytes; whole = ap (λ (xs : List ℕ). b ∷ c ∷ xs) in_it.whole; ends = rw (o, k) in_it.ends }
    by_two false false o k e p q r = let in_it = r e in behind_other o k in_it.bytes in_it.whole in_it.ends

comment_sound : (text : List ℕ) (found : Option (List ℕ)) → after_comment 1 text ≡ found → Sound (47 ∷ 42 ∷ text) (found_comment (47 ∷ 42 ∷ text) found)
comment_sound text None e = (text, refl)
comment_sound text (Some left) e =
    let it = ending 1 text left e in
    let n : length (47 ∷ 42 ∷ text) - length left ≡ suc (suc (length it.bytes)) = omega (arith, ap length it.whole, length-append it.bytes left) in
    let front : take (length it.bytes) text ≡ it.bytes = ap (take (length it.bytes)) it.whole ∙ (take-append-le (length it.bytes) it.bytes left (omega arith) ∙ take_all (length it.bytes) it.bytes (omega arith)) in
    rw (n, front) (closed_comment it.ends)

line_comment_sound : (text : List ℕ) → Sound (47 ∷ 47 ∷ text) (Blank (2 + prefix_len is_line_byte text))
line_comment_sound text =
    let n : 2 + prefix_len is_line_byte text ≡ suc (suc (prefix_len is_line_byte text)) = omega arith in
    rw n (line_comment (prefix_passes is_line_byte text))

-- a text whose first bytes open no comment
no_comment : (b : ℕ) (text : List ℕ) → (b == 47) ≡ false → OpensComment (b ∷ text) → ⊥
no_comment b text e opening = let f : b ≡ 47 = cc (opening.1) in let g : (47 == 47) ≡ false = subst (λ (n : ℕ). (n == 47) ≡ false) f e in cc

no_comment_here : (b c : ℕ) (text : List ℕ) → (c == 42) ≡ false → OpensComment (b ∷ c ∷ text) → ⊥
no_comment_here b c text e opening = let f : c ≡ 42 = cc (opening.1) in let g : (42 == 42) ≡ false = subst (λ (n : ℕ). (n == 42) ≡ false) f e in cc

slash_sound : (text : List ℕ) → Sound (47 ∷ text) (slash_front text)
slash_sound [] = (λ e. cc, λ opening. let e = opening.1 in cc)
slash_sound (b ∷ text) =
    either_way (Sound (47 ∷ b ∷ text)) (b == 47) _ _
    (λ e. subst (λ (c : ℕ). Sound (47 ∷ c ∷ text) (Blank (2 + prefix_len is_line_byte text))) (sym (same_byte b 47 e)) (line_comment_sound text))
    (λ _. either_way (Sound (47 ∷ b ∷ text)) (b == 42) _ _
    (λ e. subst (λ (c : ℕ). Sound (47 ∷ c ∷ text) (found_comment (47 ∷ c ∷ text) (after_comment 1 text))) (sym (same_byte b 42 e)) (comment_sound text (after_comment 1 text) refl))
    (λ e. (λ f. cc, no_comment_here 47 b text e)))

and_sound : (text : List ℕ) → Sound (38 ∷ text) (and_front text)
and_sound [] = (λ e. cc, no_comment 38 [] refl)
and_sound (b ∷ text) =
    either_way (Sound (38 ∷ b ∷ text)) (b == 38) _ _
    (λ e. let same = same_byte b 38 e in rw same (refl, tt))
    (λ e. (λ f. cc, no_comment 38 (b ∷ text) refl))

symbol_sound : (b : ℕ) (text : List ℕ) → (b == 47) ≡ false → (found : Option Terminal) → symbol_of b ≡ found → Sound (b ∷ text) (found_symbol found)
symbol_sound b text other None e = (λ f. cc, no_comment b text other)
symbol_sound b text other (Some terminal) e = (symbol_text b terminal e, tt)

front_sound : (text : List ℕ) → Sound text (front_of text)
unfolding front_of
front_sound [] = refl
front_sound (b ∷ text) =
    either_way (Sound (b ∷ text)) (is_white b) _ _ (λ e. white e)
    (λ _. either_way (Sound (b ∷ text)) (is_letter b) _ _ (λ e. name_sound b text e)
    (λ _. either_way (Sound (b ∷ text)) (is_digit b) _ _ (λ e. number_sound b text e)
    (λ _. either_way (Sound (b ∷ text)) (b == 47) _ _ (λ e. subst (λ (c : ℕ). Sound (c ∷ text) (slash_front text)) (sym (same_byte b 47 e)) (slash_sound text))
    (λ other. either_way (Sound (b ∷ text)) (b == 38) _ _ (λ e. subst (λ (c : ℕ). Sound (c ∷ text) (and_front text)) (sym (same_byte b 38 e)) (and_sound text))
    (λ _. symbol_sound b text other (symbol_of b) refl)))))

longest_taken : (text : List ℕ) (n : ℕ) → n ≤ length text → ((m : ℕ) → Takes text m (front_of text) → m ≤ n) → IsLongest text n
longest_taken text n le most = record {
  within = le;
  longest = λ bytes rest e piece. most (length bytes) (subst (λ (t : List ℕ). Takes t (length bytes) (front_of t)) (sym e) (piece_taken bytes rest piece));
}

none_taken : (text : List ℕ) → ((m : ℕ) → Takes text m (front_of text) → ⊥) → HasNoPiece text
none_taken text none bytes rest e piece = none (length bytes) (subst (λ (t : List ℕ). Takes t (length bytes) (front_of t)) (sym e) (piece_taken bytes rest piece))

pub front_stands : (text : List ℕ) → StandsInFront text (front_of text)
front_stands text = by_front (front_of text) refl (front_sound text) (front_within text)
  where
    by_front : (front : Front) → front_of text ≡ front → Sound text front → IsWithin (length text) front → StandsInFront text front
    by_front Nothing e sound within = sound
    by_front (Blank n) e sound within = (longest_taken text n within.1 (λ m taken. subst (Takes text m) e taken), sound)
    by_front (Word kind n) e sound within = (longest_taken text n within.1 (λ m taken. subst (Takes text m) e taken), sound.0, sound.1)
    by_front (Wrong problems.Name) e sound within =
        (prefix_len is_name_byte text, longest_taken text _ (prefix_len-le-length is_name_byte text) (λ m taken. subst (Takes text m) e taken), sound.1, sound.0)
    by_front (Wrong problems.Comment) e sound within = (sound, none_taken text (λ m taken. subst (Takes text m) e taken))
    by_front (Wrong problems.Byte) e sound within = (sound.0, sound.1, none_taken text (λ m taken. subst (Takes text m) e taken))
