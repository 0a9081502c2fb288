-- What is taken from a feed, piece by piece.
use Rattle.std.proofs.Common.{◌≡◌, ℕ, ◌+◌, ◌<◌, ◌≤◌, List, [], ◌∷◌, ◌++◌, length, map, take, drop, get_or, refl, sym, ap, subst, ◌∙◌, append_assoc, arith}
use Rattle.std.specs.List.{concat, sum}
use Rattle.std.proofs.lemmas.List.{append-nil, length-append, nil_from_length, take_more, map-append}
use Rattle.std.proofs.lemmas.List.Sums.{sum_by-append, sum_by-cons}
use Rattle.std.proofs.lemmas.List.Folds.{concat-append}
use Rattle.redgreen_words.specs.declared.word.Word.{Word}
use Rattle.redgreen_words.specs.declared.fault.LineFault.TheVariants.{UnknownWord, NotANumber, WrongCount}
use Rattle.redgreen_words.specs.Words.{line_limit, own_count, IsOneLine}
use Rattle.redgreen_words.specs.declared.fault.ReadFault.{ReadFault}
use Rattle.redgreen_words.specs.declared.fault.ReadFault.TheVariants.{Ended, CutLine, LongLine, Line, CutString, Device, OutOfMemory}
use Rattle.redgreen_words.specs.Feeding.{Given, OfHeld, IsOutside, IsCutLine, BreaksLine, StopsString, EndsWithin, StopsStrings}
use Rattle.redgreen_words.specs.Faults.{lengths_in}
use Rattle.redgreen_words.specs.Steps.{StopsOne, RefusesRest}

pub given_none : (a : List ℕ → Type 0) → Given a a []
given_none a = record { left = λ bytes h. record { rest = bytes; whole = refl; holds = h } }

pub given_then : {a b c : List ℕ → Type 0} (p q : List ℕ) → Given a b p → Given b c q → Given a c (p ++ q)
given_then {a} {b} {c} p q f g = record {
  left = λ bytes h.
      let x = f.left bytes h in
      let y = g.left x.rest x.holds in
      record {
        rest = y.rest;
        whole = x.whole ∙ ap (λ (xs : List ℕ). p ++ xs) y.whole ∙ sym (append_assoc p q y.rest);
        holds = y.holds;
      };
}

-- ---- lines

pub one_more : (xs : List ℕ) (b : ℕ) → IsOneLine xs → (b ≡ 10 → ⊥) → IsOneLine (xs ++ b ∷ [])
one_more [] b one ne = (ne, tt)
one_more (x ∷ xs) b one ne = (one.0, one_more xs b one.1 ne)

pub outside_breaks : (fault : ReadFault) (bytes : List ℕ) → IsOutside fault → BreaksLine fault bytes
outside_breaks Ended bytes h = absurd h
outside_breaks CutLine bytes h = absurd h
outside_breaks LongLine bytes h = absurd h
outside_breaks (Line fault) bytes h = absurd h
outside_breaks (CutString k) bytes h = absurd h
outside_breaks Device bytes h = tt
outside_breaks OutOfMemory bytes h = tt

-- all that was held
pub held_whole : {a b : List ℕ → Type 0} (part : List ℕ) → Given a b part → OfHeld b (λ rest. rest ≡ []) → OfHeld a (λ bytes. bytes ≡ part)
held_whole part given end bytes h =
    let l = given.left bytes h in
    l.whole ∙ ap (λ (xs : List ℕ). part ++ xs) (end l.rest l.holds) ∙ append-nil part

pub ends : {a b : List ℕ → Type 0} (line : List ℕ) → length line ≡ 0 → Given a b line → OfHeld b (λ rest. rest ≡ []) → OfHeld a (BreaksLine Ended)
ends line none given end bytes h = held_whole line given end bytes h ∙ nil_from_length line none

pub cuts : {a b : List ℕ → Type 0} (line : List ℕ) → 0 < length line → length line < line_limit → IsOneLine line → Given a b line → OfHeld b (λ rest. rest ≡ []) → OfHeld a (BreaksLine CutLine)
cuts line some short one given end bytes h =
    let all = held_whole line given end bytes h in
    subst IsCutLine (sym all) (record { some = some; one = one; short = short })

pub too_long : {a b : List ℕ → Type 0} (line : List ℕ) → length line ≤ line_limit → line_limit ≤ length line → IsOneLine line → Given a b line → OfHeld a (BreaksLine LongLine)
too_long line le ge one given bytes h =
    let l = given.left bytes h in
    record { front = line; rest = l.rest; whole = l.whole; one = one; long = omega (arith, le, ge) }

-- ---- byte strings

pub string_cut : {a b : List ℕ → Type 0} (text : List ℕ) (left index count : ℕ) → length text + left ≡ count → 0 < left → Given a b text → OfHeld b (λ rest. rest ≡ []) → StopsString a count index (CutString index)
string_cut text left index count is some given end =
    (refl, λ bytes h. let all = ap (λ (xs : List ℕ). length xs) (held_whole text given end bytes h) in omega (arith, is, some, all))

pub outside_string : (a : List ℕ → Type 0) (count index : ℕ) (fault : ReadFault) → IsOutside fault → StopsString a count index fault
outside_string a count index Ended h = h
outside_string a count index CutLine h = h
outside_string a count index LongLine h = h
outside_string a count index (Line fault) h = h
outside_string a count index (CutString k) h = absurd h
outside_string a count index Device h = tt
outside_string a count index OutOfMemory h = tt

length_concat : (xss : List (List ℕ)) → length (concat xss) ≡ sum (map length xss)
length_concat [] = refl
length_concat (x ∷ xss) = length-append x (concat xss) ∙ ap (λ (n : ℕ). length x + n) (length_concat xss) ∙ sym (sum_by-cons (λ (n : ℕ). n) (length x) (map length xss))

pub concat_length : (xss : List (List ℕ)) → length (concat xss) ≡ sum (map length xss)
concat_length xss = length_concat xss

sum_more : (lengths : List ℕ) (k : ℕ) → k < length lengths → sum (take (k + 1) lengths) ≡ sum (take k lengths) + get_or lengths k 0
sum_more lengths k lt =
    ap (λ (xs : List ℕ). sum xs) (take_more lengths k 0 lt)
    ∙ sum_by-append (λ (x : ℕ). x) (take k lengths) (get_or lengths k 0 ∷ [])
    ∙ ap (λ (n : ℕ). sum (take k lengths) + n) (omega arith)

pub strings_more : (xss : List (List ℕ)) (lengths : List ℕ) (k : ℕ) (string : List ℕ) → map length xss ≡ take k lengths → k < length lengths → length string ≡ get_or lengths k 0 → map length (xss ++ string ∷ []) ≡ take (k + 1) lengths
strings_more xss lengths k string are lt is =
    map-append length xss (string ∷ [])
    ∙ ap (λ (n : ℕ). map length xss ++ n ∷ []) is
    ∙ ap (λ (ns : List ℕ). ns ++ get_or lengths k 0 ∷ []) are
    ∙ sym (take_more lengths k 0 lt)

pub concat_more : (xss : List (List ℕ)) (string : List ℕ) → concat (xss ++ string ∷ []) ≡ concat xss ++ string
concat_more xss string = concat-append xss (string ∷ []) ∙ ap (λ (xs : List ℕ). concat xss ++ xs) (append-nil string)

strings_cut_in : (xss : List (List ℕ)) (lengths : List ℕ) (k : ℕ) (bytes rest : List ℕ) → map length xss ≡ take k lengths → k < length lengths → bytes ≡ concat xss ++ rest → length rest < get_or lengths k 0 → length bytes < sum (take (k + 1) lengths)
strings_cut_in xss lengths k bytes rest are lt whole short =
    let len : length bytes ≡ sum (take k lengths) + length rest =
    ap (λ (xs : List ℕ). length xs) whole ∙ length-append (concat xss) rest
    ∙ ap (λ (n : ℕ). n + length rest) (length_concat xss ∙ ap (λ (ns : List ℕ). sum ns) are) in
    omega (arith, len, short, sum_more lengths k lt)

-- the bytes end within the byte string of this index
pub strings_stop : {a b : List ℕ → Type 0} (xss : List (List ℕ)) (lengths : List ℕ) (k : ℕ) (fault : ReadFault) → map length xss ≡ take k lengths → k < length lengths → Given a b (concat xss) → StopsString b (get_or lengths k 0) k fault → StopsStrings a lengths fault
strings_stop xss lengths k Ended are lt given less = less
strings_stop xss lengths k CutLine are lt given less = less
strings_stop xss lengths k LongLine are lt given less = less
strings_stop xss lengths k (Line fault) are lt given less = less
strings_stop {a} {b} xss lengths k (CutString n) are lt given less =
    subst (EndsWithin a lengths) (sym less.0)
    (lt, λ bytes h. let l = given.left bytes h in strings_cut_in xss lengths k bytes l.rest are lt l.whole (less.1 l.rest l.holds))
strings_stop xss lengths k Device are lt given less = tt
strings_stop xss lengths k OutOfMemory are lt given less = tt

-- one byte string
pub one_given : {a b : List ℕ → Type 0} (string : List ℕ) → Given a b string → Given a b (concat (string ∷ []))
one_given {a} {b} string given = subst (Given a b) (sym (append-nil string)) given

pub one_stops : (a : List ℕ → Type 0) (own : ℕ) (numbers : List ℕ) (count : ℕ) (fault : ReadFault) → length numbers ≡ own + 1 → drop own numbers ≡ count ∷ [] → StopsString a count 0 fault → StopsOne a own numbers fault
one_stops a own numbers count Ended len last h = h
one_stops a own numbers count CutLine len last h = h
one_stops a own numbers count LongLine len last h = h
one_stops a own numbers count (Line UnknownWord) len last h = h
one_stops a own numbers count (Line (NotANumber k)) len last h = h
one_stops a own numbers count (Line (WrongCount k)) len last h = absurd h
one_stops a own numbers count (CutString k) len last h = (
  len,
  subst (λ (ns : List ℕ). EndsWithin a ns k) (sym last)
      (subst (EndsWithin a (count ∷ [])) (sym h.0) ((omega arith), λ bytes has. let lt = h.1 bytes has in omega (arith, lt))),
)
one_stops a own numbers count Device len last h = tt
one_stops a own numbers count OutOfMemory len last h = tt

pub wrong_count : (a : List ℕ → Type 0) (own : ℕ) (numbers : List ℕ) → (length numbers ≡ own + 1 → ⊥) → StopsOne a own numbers (Line (WrongCount (length numbers)))
wrong_count a own numbers ne = (refl, ne)

-- what refuses one byte string refuses what comes after the line
pub one_rest : (takes : Word → ℕ → Type 0) (a : List ℕ → Type 0) (word : Word) (own : ℕ) (numbers : List ℕ) (fault : ReadFault) → own_count word ≡ own → ((n : ℕ) → n ≡ own + 1 → takes word n) → ((n : ℕ) → takes word n → n ≡ own + 1) → StopsOne a own numbers fault → RefusesRest takes a word numbers fault
one_rest takes a word own numbers Ended is to from h = h
one_rest takes a word own numbers CutLine is to from h = h
one_rest takes a word own numbers LongLine is to from h = h
one_rest takes a word own numbers (Line UnknownWord) is to from h = absurd h
one_rest takes a word own numbers (Line (NotANumber k)) is to from h = h
one_rest takes a word own numbers (Line (WrongCount n)) is to from h = (h.0, λ t. h.1 (from n t))
one_rest takes a word own numbers (CutString k) is to from h =
    (to (length numbers) h.0, subst (λ (n : ℕ). EndsWithin a (drop n numbers) k) (sym is) h.1)
one_rest takes a word own numbers Device is to from h = tt
one_rest takes a word own numbers OutOfMemory is to from h = tt

-- what refuses a list of byte strings
pub list_rest : (takes : Word → ℕ → Type 0) (a : List ℕ → Type 0) (word : Word) (numbers : List ℕ) (fault : ReadFault) → takes word (length numbers) → StopsStrings a (lengths_in word numbers) fault → RefusesRest takes a word numbers fault
list_rest takes a word numbers Ended fits h = h
list_rest takes a word numbers CutLine fits h = h
list_rest takes a word numbers LongLine fits h = h
list_rest takes a word numbers (Line fault) fits h = absurd h
list_rest takes a word numbers (CutString k) fits h = (fits, h)
list_rest takes a word numbers Device fits h = tt
list_rest takes a word numbers OutOfMemory fits h = tt
