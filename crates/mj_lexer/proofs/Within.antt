-- A piece has some bytes, and no more than there are.
use Rattle.std.proofs.Common.{◌≡◌, ℕ, zero, suc, ◌<◌, ◌≤◌, Bool, true, false, ◌==◌, List, [], ◌∷◌, length, Option, Some, None, refl, arith}
use Rattle.std.specs.Prelude.{if◌then◌else◌, nat_lt}
use Rattle.std.specs.List.{prefix_len}
use Rattle.std.proofs.lemmas.List.Sums.{prefix_len-le-length}
use Rattle.mj_lexer.specs.declared.token.Terminal.{Terminal}
use Rattle.mj_lexer.specs.Bytes.{is_white, is_letter, is_digit, is_name_byte, is_line_byte, opens, closes}
use Rattle.mj_lexer.specs.Words.{symbol_of}
use Rattle.mj_lexer.specs.Fronts.{after_comment, found_symbol, found_comment, slash_front, and_front, name_front, front_of, IsWithin}

-- one of two, of which each has its reason
pub either_way : {A : Type 0} (P : A → Type 0) (t : Bool) (x y : A) → (t ≡ true → P x) → (t ≡ false → P y) → P (if t then x else y)
either_way P true x y p q = p refl
either_way P false x y p q = q refl

-- what is left, if anything, has at most so many bytes
abbrev IsLeft : ℕ → Option (List ℕ) → Type 0
IsLeft n None = Unit {0}
IsLeft n (Some rest) = length rest ≤ n

is_left_wider : (m n : ℕ) → m ≤ n → (found : Option (List ℕ)) → IsLeft m found → IsLeft n found
is_left_wider m n le None left = tt
is_left_wider m n le (Some rest) left = omega arith

after_comment_is_left : (depth : ℕ) (text : List ℕ) → IsLeft (length text) (after_comment depth text)
after_comment_is_left zero text = omega arith
after_comment_is_left (suc depth) [] = tt
after_comment_is_left (suc depth) (b ∷ []) = tt
after_comment_is_left (suc depth) (b ∷ c ∷ text) =
    either_way (IsLeft (length (b ∷ c ∷ text))) (opens b c) _ _
    (λ _. is_left_wider (length text) _ (omega arith) (after_comment (suc (suc depth)) text) (after_comment_is_left (suc (suc depth)) text))
    (λ _. either_way (IsLeft (length (b ∷ c ∷ text))) (closes b c) _ _
    (λ _. is_left_wider (length text) _ (omega arith) (after_comment depth text) (after_comment_is_left depth text))
    (λ _. is_left_wider (length (c ∷ text)) _ (omega arith) (after_comment (suc depth) (c ∷ text)) (after_comment_is_left (suc depth) (c ∷ text))))

symbol_within : (n : ℕ) (found : Option Terminal) → 0 < n → IsWithin n (found_symbol found)
symbol_within n None pos = tt
symbol_within n (Some terminal) pos = (omega arith, omega arith)

comment_within : (b c : ℕ) (text : List ℕ) (found : Option (List ℕ)) → IsLeft (length text) found → IsWithin (length (b ∷ c ∷ text)) (found_comment (47 ∷ c ∷ text) found)
comment_within b c text None left = tt
comment_within b c text (Some rest) left = (omega arith, omega arith)

slash_within : (b : ℕ) (text : List ℕ) → IsWithin (length (b ∷ text)) (slash_front text)
slash_within b [] = tt
slash_within b (c ∷ text) =
    either_way (IsWithin (length (b ∷ c ∷ text))) (c == 47) _ _
    (λ _. (omega arith, omega (arith, prefix_len-le-length is_line_byte text)))
    (λ _. either_way (IsWithin (length (b ∷ c ∷ text))) (c == 42) _ _
    (λ _. comment_within b c text (after_comment 1 text) (after_comment_is_left 1 text))
    (λ _. tt))

and_within : (b : ℕ) (text : List ℕ) → IsWithin (length (b ∷ text)) (and_front text)
and_within b [] = tt
and_within b (c ∷ text) = either_way (IsWithin (length (b ∷ c ∷ text))) (c == 38) _ _ (λ _. (omega arith, omega arith)) (λ _. tt)

-- a prefix that begins here
some_prefix : (p : ℕ → Bool) (b : ℕ) (text : List ℕ) → p b ≡ true → 0 < prefix_len p (b ∷ text)
some_prefix p b text e = rw e (omega arith)

name_within : (text : List ℕ) (n : ℕ) → 0 < n → n ≤ length text → IsWithin (length text) (name_front text n)
name_within text n pos le = either_way (IsWithin (length text)) (nat_lt 255 n) _ _ (λ _. tt) (λ _. (pos, le))

pub letter_in_name : (b : ℕ) → is_letter b ≡ true → is_name_byte b ≡ true
letter_in_name b e = rw e refl

pub front_within : (text : List ℕ) → IsWithin (length text) (front_of text)
unfolding front_of
front_within [] = refl
front_within (b ∷ text) =
    either_way (IsWithin (length (b ∷ text))) (is_white b) _ _ (λ _. (omega arith, omega arith))
    (λ _. either_way (IsWithin (length (b ∷ text))) (is_letter b) _ _
    (λ e. name_within (b ∷ text) _ (some_prefix is_name_byte b text (letter_in_name b e)) (prefix_len-le-length is_name_byte (b ∷ text)))
    (λ _. either_way (IsWithin (length (b ∷ text))) (is_digit b) _ _
    (λ e. (some_prefix is_digit b text e, prefix_len-le-length is_digit (b ∷ text)))
    (λ _. either_way (IsWithin (length (b ∷ text))) (b == 47) _ _ (λ _. slash_within b text)
    (λ _. either_way (IsWithin (length (b ∷ text))) (b == 38) _ _ (λ _. and_within b text)
    (λ _. symbol_within _ (symbol_of b) (omega arith))))))
