-- Lines and their items.
use Rattle.std.proofs.Common.{◌≡◌, ℕ, ◌<◌, ◌^◌, ◌==◌, Bool, true, false, nat_lt, cond, List, [], ◌∷◌, ◌++◌, map, flat_map, codes, decimal, refl, sym, ap, subst, ◌∙◌, arith}
use Rattle.std.specs.List.{AllByRecursion, slice_split, join_with_byte}
use Rattle.std.specs.Int.{IsInRange}
use Rattle.std.specs.Str.{bytes_eq}
use Rattle.std.specs.Str.Parse.{digits_value}
use Rattle.std.proofs.lemmas.List.{append-nil}
use Rattle.std.proofs.lemmas.List.Concat.{flat_map-cons}
use Rattle.std.proofs.lemmas.List.Elements.{All-from_recursion}
use Rattle.std.proofs.lemmas.List.Splits.{slice_split_none, slice_split_at, join_with_byte-slice_split}
use Rattle.std.proofs.lemmas.Bool.{ltb-true, ne_eqb}
use Rattle.std.proofs.lemmas.Str.Parse.{IsNumeralModel, numerals_by_value}
use Rattle.std.proofs.lemmas.Fmt.{digits_decimal, decimal_is_IsNumeral}
use Rattle.redgreen_words.specs.declared.word.Word.{Word}
use Rattle.redgreen_words.specs.declared.word.Word.TheVariants.{Run, Value, Input, Stale, Accepted, Refused, Audit, Read, Done, Fail, Bytes, Stop}
use Rattle.redgreen_words.specs.Words.{spell, line_of, items_of, AreSmall, IsOneLine}

-- ---- each byte of an item

abbrev pub AreGreater : List ℕ → Type 0
AreGreater bytes = AllByRecursion (λ b. 32 < b) bytes

digits : IsNumeralModel (AllByRecursion (IsInRange 48 57)) (digits_value 10)
digits = numerals_by_value (AllByRecursion (IsInRange 48 57)) (record {
  empty = tt;
  parts = λ c cs h. (h.0, h.1);
  more = λ c cs h all. (h, all);
})

greater_digits : (bytes : List ℕ) → AllByRecursion (IsInRange 48 57) bytes → AreGreater bytes
greater_digits [] all = tt
greater_digits (b ∷ bytes) all =
    let low = all.0.0 in
    (omega (arith, low), greater_digits bytes all.1)

pub decimal_digits : (n : ℕ) → n < 2 ^ 64 → AllByRecursion (IsInRange 48 57) (decimal n)
decimal_digits n lt = digits_decimal digits n lt

pub decimal_greater : (n : ℕ) → n < 2 ^ 64 → AreGreater (decimal n)
decimal_greater n lt = greater_digits (decimal n) (decimal_digits n lt)

pub decimal_same : (n m : ℕ) → n < 2 ^ 64 → m < 2 ^ 64 → decimal n ≡ decimal m → n ≡ m
decimal_same n m ln lm e = sym ((decimal_is_IsNumeral n ln).1) ∙ ap (digits_value 10) e ∙ (decimal_is_IsNumeral m lm).1

abbrev are_greater : List ℕ → Bool
are_greater [] = true
are_greater (b ∷ bytes) = cond (nat_lt 32 b) (are_greater bytes) false

greater_if : (b : ℕ) (t : Bool) (u : Bool) → nat_lt 32 b ≡ t → cond t u false ≡ true → (32 < b) × (u ≡ true)
greater_if b true u e h = (ltb-true 32 b e, h)
greater_if b false u e h = absurd cc

greater_by_test : (bytes : List ℕ) → are_greater bytes ≡ true → AreGreater bytes
greater_by_test [] e = tt
greater_by_test (b ∷ bytes) e =
    let h = greater_if b (nat_lt 32 b) (are_greater bytes) refl e in
    (h.0, greater_by_test bytes h.1)

word_tests : (word : Word) → are_greater (spell word) ≡ true
word_tests Run = refl
word_tests Value = refl
word_tests Input = refl
word_tests Stale = refl
word_tests Accepted = refl
word_tests Refused = refl
word_tests Audit = refl
word_tests Read = refl
word_tests Done = refl
word_tests Fail = refl
word_tests Bytes = refl
word_tests Stop = refl

pub word_greater : (word : Word) → AreGreater (spell word)
word_greater word = greater_by_test (spell word) (word_tests word)

-- ---- the word of its bytes

abbrev word_with : List ℕ → Word
word_with bytes =
    cond (bytes_eq bytes (codes "run")) Run (cond (bytes_eq bytes (codes "value")) Value
    (cond (bytes_eq bytes (codes "input")) Input (cond (bytes_eq bytes (codes "stale")) Stale
    (cond (bytes_eq bytes (codes "accepted")) Accepted (cond (bytes_eq bytes (codes "refused")) Refused
    (cond (bytes_eq bytes (codes "audit")) Audit (cond (bytes_eq bytes (codes "read")) Read
    (cond (bytes_eq bytes (codes "done")) Done (cond (bytes_eq bytes (codes "fail")) Fail
    (cond (bytes_eq bytes (codes "bytes")) Bytes Stop))))))))))

word_back : (word : Word) → word_with (spell word) ≡ word
word_back Run = refl
word_back Value = refl
word_back Input = refl
word_back Stale = refl
word_back Accepted = refl
word_back Refused = refl
word_back Audit = refl
word_back Read = refl
word_back Done = refl
word_back Fail = refl
word_back Bytes = refl
word_back Stop = refl

pub word_same : (word other : Word) → spell word ≡ spell other → word ≡ other
word_same word other e = sym (word_back word) ∙ ap word_with e ∙ word_back other

pub each_word : (P : Word → Type 0) → P Run → P Value → P Input → P Stale → P Accepted → P Refused → P Audit → P Read → P Done → P Fail → P Bytes → P Stop → (word : Word) → P word
each_word P a b c d e f g h i j k l Run = a
each_word P a b c d e f g h i j k l Value = b
each_word P a b c d e f g h i j k l Input = c
each_word P a b c d e f g h i j k l Stale = d
each_word P a b c d e f g h i j k l Accepted = e
each_word P a b c d e f g h i j k l Refused = f
each_word P a b c d e f g h i j k l Audit = g
each_word P a b c d e f g h i j k l Read = h
each_word P a b c d e f g h i j k l Done = i
each_word P a b c d e f g h i j k l Fail = j
each_word P a b c d e f g h i j k l Bytes = k
each_word P a b c d e f g h i j k l Stop = l

-- ---- lines

abbrev pub spaced : ℕ → List ℕ
spaced n = 32 ∷ decimal n

one_line_both : (xs ys : List ℕ) → IsOneLine xs → IsOneLine ys → IsOneLine (xs ++ ys)
one_line_both [] ys hx hy = hy
one_line_both (x ∷ xs) ys hx hy = (hx.0, one_line_both xs ys hx.1 hy)

greater_one : (xs : List ℕ) → AreGreater xs → IsOneLine xs
greater_one [] all = tt
greater_one (x ∷ xs) all = let low = all.0 in ((λ e. omega (arith, low, e)), greater_one xs all.1)

numbers_one : (numbers : List ℕ) → AreSmall numbers → IsOneLine (flat_map spaced numbers)
numbers_one [] small = tt
numbers_one (n ∷ numbers) small =
    subst IsOneLine (sym (flat_map-cons spaced n numbers))
    (one_line_both (spaced n) (flat_map spaced numbers) ((λ e. omega (arith, e)), greater_one (decimal n) (decimal_greater n small.0)) (numbers_one numbers small.1))

pub line_one : (word : Word) (numbers : List ℕ) → AreSmall numbers → IsOneLine (line_of word numbers)
line_one word numbers small =
    one_line_both (spell word) (flat_map spaced numbers) (greater_one (spell word) (word_greater word)) (numbers_one numbers small)

-- ---- the items of a line

abbrev is_space : ℕ → Bool
is_space b = b == 32

is_no_space : (b : ℕ) → 32 < b → is_space b ≡ false
is_no_space b lt = ne_eqb b 32 (λ e. omega (arith, lt, e))

no_space : (xs : List ℕ) → AreGreater xs → AllByRecursion (λ b. is_space b ≡ false) xs
no_space [] all = tt
no_space (x ∷ xs) all = (is_no_space x all.0, no_space xs all.1)

words_from : (xs numbers : List ℕ) → AreGreater xs → AreSmall numbers → slice_split is_space (xs ++ flat_map spaced numbers) ≡ xs ∷ map decimal numbers
words_from xs [] all small =
    ap (slice_split is_space) (append-nil xs)
    ∙ slice_split_none is_space xs (All-from_recursion (λ b. is_space b ≡ false) xs (no_space xs all))
words_from xs (n ∷ numbers) all small =
    ap (λ (ys : List ℕ). slice_split is_space (xs ++ ys)) (flat_map-cons spaced n numbers)
    ∙ slice_split_at is_space xs 32 (decimal n ++ flat_map spaced numbers) (All-from_recursion (λ b. is_space b ≡ false) xs (no_space xs all)) refl
    ∙ ap (λ (items : List (List ℕ)). xs ∷ items) (words_from (decimal n) numbers (decimal_greater n small.0) small.1)

-- the items of a line are its word and its numbers
pub items_of_line : (word : Word) (numbers : List ℕ) → AreSmall numbers → items_of (line_of word numbers) ≡ spell word ∷ map decimal numbers
items_of_line word numbers small = words_from (spell word) numbers (word_greater word) small

joined : (xs numbers : List ℕ) → join_with_byte 32 (xs ∷ map decimal numbers) ≡ xs ++ flat_map spaced numbers
joined xs [] = sym (append-nil xs)
joined xs (n ∷ numbers) =
    ap (λ (ys : List ℕ). xs ++ (32 ∷ ys)) (joined (decimal n) numbers)
    ∙ ap (λ (ys : List ℕ). xs ++ ys) (sym (flat_map-cons spaced n numbers))

-- and a line with these items is the line of that word and those numbers
pub line_of_items : (line : List ℕ) (word : Word) (numbers : List ℕ) → items_of line ≡ spell word ∷ map decimal numbers → line ≡ line_of word numbers
line_of_items line word numbers are =
    sym (join_with_byte-slice_split 32 line) ∙ ap (join_with_byte 32) are ∙ joined (spell word) numbers
