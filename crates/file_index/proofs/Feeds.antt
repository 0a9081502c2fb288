-- Lines and columns by the places of line feeds.
use Rattle.std.proofs.Common.{◌≡◌, ◌∙◌, inl, inr, min, Some, None, slice_get, ℕ, zero, suc, ◌+◌, ◌-◌, ◌<◌, ◌≤◌, Bool, true, false, cond, not, List, [], ◌∷◌, ◌++◌, length, take, get_or, refl, sym, ap, arith}
use Rattle.std.specs.Prelude.{count_by, nat_lt}
use Rattle.std.specs.List.{suffix_len, filter}
use Rattle.std.proofs.lemmas.Bool.{cases_lt}
use Rattle.std.proofs.lemmas.List.{append-nil, length-append, take_all}
use Rattle.std.proofs.lemmas.List.Sums.{count_by_more_yes, count_by_more_no, suffix_len-take_yes, suffix_len-take_no}
use Rattle.mj_lexer.specs.Places.{is_line_feed, is_inside_line, line_of, column_of}
use Rattle.file_index.specs.Lines.{places_where, is_feed_at, line_feeds, behind_last}
use Rattle.file_index.proofs.Positions.{one_place_more, before_is}

-- one byte more
pub grown : (text : List ℕ) (n : ℕ) (b : Bool) → is_feed_at text n ≡ b → places_where (is_feed_at text) 0 (n + 1) ≡ places_where (is_feed_at text) 0 n ++ cond b (n ∷ []) []
grown text n b is = one_place_more (is_feed_at text) n ∙ ap (λ c. places_where (is_feed_at text) 0 n ++ cond c (n ∷ []) []) is

count_more : (text : List ℕ) (n : ℕ) (b : Bool) → n < length text → is_feed_at text n ≡ b → length (places_where (is_feed_at text) 0 n) ≡ count_by is_line_feed (take n text) → length (places_where (is_feed_at text) 0 (n + 1)) ≡ count_by is_line_feed (take (n + 1) text)
count_more text n true lt is so_far =
    let more = count_by_more_yes is_line_feed text n 0 lt is in
    let long = ap length (grown text n true is) ∙ length-append (places_where (is_feed_at text) 0 n) (n ∷ []) in
    omega (arith, long, more, so_far)
count_more text n false lt is so_far =
    let more = count_by_more_no is_line_feed text n 0 lt is in
    let long = ap length (grown text n false is) ∙ length-append (places_where (is_feed_at text) 0 n) [] in
    omega (arith, long, more, so_far)

-- as many line feeds as there are places of them
pub count_is : (text : List ℕ) (n : ℕ) → n ≤ length text → length (places_where (is_feed_at text) 0 n) ≡ count_by is_line_feed (take n text)
count_is text zero le = refl
count_is text (suc n) le =
    let on : suc n ≡ n + 1 = omega arith in
    rw on (count_more text n (is_feed_at text n) (omega arith) refl (count_is text n (omega arith)))

behind_one : (xs : List ℕ) (x : ℕ) → behind_last (xs ++ x ∷ []) ≡ x + 1
behind_one [] x = refl
behind_one (a ∷ []) x = refl
behind_one (a ∷ b ∷ xs) x = behind_one (b ∷ xs) x

-- what `last` answers
pub last_is : (xs : List ℕ) (x : ℕ) → slice_get xs (length xs - 1) ≡ Some x → behind_last xs ≡ x + 1
last_is [] x is = absurd cc
last_is (a ∷ []) x is = let same : a ≡ x = cc in ap (λ k. k + 1) same
last_is (a ∷ b ∷ xs) x is =
    let one : suc (suc (length xs)) - 1 ≡ suc (length xs) = omega arith in
    let less : suc (length xs) - 1 ≡ length xs = omega arith in
    last_is (b ∷ xs) x (ap (slice_get (b ∷ xs)) less ∙ (sym (ap (slice_get (a ∷ b ∷ xs)) one) ∙ is))

pub none_is : (xs : List ℕ) → slice_get xs (length xs - 1) ≡ None → behind_last xs ≡ 0
none_is [] is = refl
none_is (a ∷ []) is = absurd cc
none_is (a ∷ b ∷ xs) is =
    let one : suc (suc (length xs)) - 1 ≡ suc (length xs) = omega arith in
    let less : suc (length xs) - 1 ≡ length xs = omega arith in
    none_is (b ∷ xs) (ap (slice_get (b ∷ xs)) less ∙ (sym (ap (slice_get (a ∷ b ∷ xs)) one) ∙ is))

line_more : (text : List ℕ) (n : ℕ) (b : Bool) → n < length text → is_feed_at text n ≡ b → suffix_len is_inside_line (take n text) + behind_last (places_where (is_feed_at text) 0 n) ≡ n → suffix_len is_inside_line (take (n + 1) text) + behind_last (places_where (is_feed_at text) 0 (n + 1)) ≡ n + 1
line_more text n true lt is so_far =
    let less : (n + 1) - 1 ≡ n = omega arith in
    let here : is_inside_line (get_or text ((n + 1) - 1) 0) ≡ false = ap (λ m. is_inside_line (get_or text m 0)) less ∙ ap not is in
    let none = suffix_len-take_no is_inside_line text (n + 1) 0 (omega arith) (omega arith) here in
    let start = ap behind_last (grown text n true is) ∙ behind_one (places_where (is_feed_at text) 0 n) n in
    omega (arith, none, start)
line_more text n false lt is so_far =
    let less : (n + 1) - 1 ≡ n = omega arith in
    let here : is_inside_line (get_or text ((n + 1) - 1) 0) ≡ true = ap (λ m. is_inside_line (get_or text m 0)) less ∙ ap not is in
    let more = suffix_len-take_yes is_inside_line text (n + 1) 0 (omega arith) (omega arith) here ∙ ap (λ m. 1 + suffix_len is_inside_line (take m text)) less in
    let start = ap behind_last (grown text n false is ∙ append-nil (places_where (is_feed_at text) 0 n)) in
    omega (arith, more, start, so_far)

-- the last line is what stands behind the last line feed
pub line_is : (text : List ℕ) (n : ℕ) → n ≤ length text → suffix_len is_inside_line (take n text) + behind_last (places_where (is_feed_at text) 0 n) ≡ n
line_is text zero le = refl
line_is text (suc n) le =
    let on : suc n ≡ n + 1 = omega arith in
    rw on (line_more text n (is_feed_at text n) (omega arith) refl (line_is text n (omega arith)))

-- ---- looking up

take_low : (xs : List ℕ) (at : ℕ) → take (min at (length xs)) xs ≡ take at xs
take_low xs at = elim (cases_lt at (length xs)) [
  | inl under ↦
      let same : min at (length xs) ≡ at = omega arith in
      ap (λ n. take n xs) same
  | inr over ↦
      let whole : min at (length xs) ≡ length xs = omega arith in
      ap (λ n. take n xs) whole ∙ (take_all (length xs) xs (omega arith) ∙ sym (take_all at xs over))
]

pub feeds_before : (text feeds before : List ℕ) (low : ℕ) → low ≤ length text → feeds ≡ line_feeds text → before ≡ filter (λ x. nat_lt x low) feeds → before ≡ places_where (is_feed_at text) 0 low
feeds_before text feeds before low le all is = is ∙ (ap (filter (λ x. nat_lt x low)) all ∙ before_is (is_feed_at text) low (length text) le)

pub start_before : (text before : List ℕ) (low : ℕ) → low ≤ length text → before ≡ places_where (is_feed_at text) 0 low → behind_last before ≤ low
start_before text before low le is = let whole = line_is text low le in let same = ap behind_last is in omega (arith, whole, same)

pub line_found : (text before : List ℕ) (low at : ℕ) → low ≡ min at (length text) → before ≡ places_where (is_feed_at text) 0 low → length before + 1 ≡ line_of text at
line_found text before low at least is =
    let count = count_is text low (omega (arith, least)) in
    let same = ap (λ n. count_by is_line_feed (take n text)) least ∙ ap (count_by is_line_feed) (take_low text at) in
    let long = ap length is in
    omega (arith, long, count, same)

pub column_found : (text before : List ℕ) (low at column : ℕ) → low ≡ min at (length text) → before ≡ places_where (is_feed_at text) 0 low → column + behind_last before ≡ low + 1 → column ≡ column_of text at
column_found text before low at column least is sum =
    let whole = line_is text low (omega (arith, least)) in
    let same = ap (λ n. suffix_len is_inside_line (take n text)) least ∙ ap (suffix_len is_inside_line) (take_low text at) in
    let start = ap behind_last is in
    omega (arith, sum, whole, same, start)
