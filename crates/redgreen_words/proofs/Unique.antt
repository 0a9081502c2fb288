-- Bytes that begin with a message begin with no other one, and have no fault.
use Rattle.std.proofs.Common.{◌≡◌, ℕ, zero, suc, ◌+◌, ◌<◌, ◌≤◌, List, [], ◌∷◌, ◌++◌, length, map, take, sum, decimal, slice_get, Some, refl, sym, ap, subst, ◌∙◌, append_assoc, arith}
use Rattle.std.specs.List.{concat}
use Rattle.std.proofs.lemmas.List.{length-append, drop_at}
use Rattle.std.proofs.lemmas.List.Sums.{sum_by-cons}
use Rattle.redgreen_words.specs.declared.word.Word.{Word}
use Rattle.redgreen_words.specs.declared.fault.LineFault.{LineFault}
use Rattle.redgreen_words.specs.declared.fault.LineFault.TheVariants.{UnknownWord, NotANumber, WrongCount}
use Rattle.redgreen_words.specs.declared.fault.ReadFault.{ReadFault}
use Rattle.redgreen_words.specs.declared.fault.ReadFault.TheVariants.{Ended, CutLine, LongLine, Line, CutString, Device, OutOfMemory}
use Rattle.redgreen_words.specs.Words.{spell, line_of, line_limit, own_count, items_of, AreSmall, IsOneLine}
use Rattle.redgreen_words.specs.Messages.{Parts, numbers_of, spelled, Fits}
use Rattle.redgreen_words.specs.Feeding.{HasLongLine, IsOutside}
use Rattle.redgreen_words.specs.Faults.{IsNoNumber, IsNoLine, HasNoLine, lengths_in, IsCutAt, IsWrong}
use Rattle.redgreen_words.proofs.Takings.{concat_length}
use Rattle.redgreen_words.proofs.Spelled.{decimal_same, word_same, line_one, items_of_line}

-- ---- the first LF

same_tails : {A : Type 0} (x y : A) (xs ys : List A) → x ∷ xs ≡ y ∷ ys → (x ≡ y) × (xs ≡ ys)
same_tails x y xs ys e = (cc, cc)

pub lines_same : (a b r s : List ℕ) → IsOneLine a → IsOneLine b → a ++ (10 ∷ r) ≡ b ++ (10 ∷ s) → (a ≡ b) × (r ≡ s)
lines_same [] [] r s ha hb e = (refl, (same_tails 10 10 r s e).1)
lines_same [] (y ∷ b) r s ha hb e = absurd (hb.0 (sym (same_tails 10 y r (b ++ (10 ∷ s)) e).0))
lines_same (x ∷ a) [] r s ha hb e = absurd (ha.0 (same_tails x 10 (a ++ (10 ∷ r)) s e).0)
lines_same (x ∷ a) (y ∷ b) r s ha hb e =
    let t = same_tails x y (a ++ (10 ∷ r)) (b ++ (10 ∷ s)) e in
    let u = lines_same a b r s ha.1 hb.1 t.1 in
    let first : x ≡ y = t.0 in
    let rest : a ≡ b = u.0 in
    (cc, u.1)

none_of_lf : (a r : List ℕ) → IsOneLine (a ++ (10 ∷ r)) → ⊥
none_of_lf [] r h = h.0 refl
none_of_lf (x ∷ a) r h = none_of_lf a r h.1

no_longer : (front rest a r : List ℕ) → IsOneLine front → front ++ rest ≡ a ++ (10 ∷ r) → length front ≤ length a
no_longer [] rest a r h e = omega arith
no_longer (x ∷ front) rest [] r h e = absurd (h.0 (same_tails x 10 (front ++ rest) r e).0)
no_longer (x ∷ front) rest (y ∷ a) r h e =
    let le = no_longer front rest a r h.1 (same_tails x y (front ++ rest) (a ++ (10 ∷ r)) e).1 in
    omega (arith, le)

-- ---- numbers and byte strings

pub numbers_same : (ns ms : List ℕ) → AreSmall ns → AreSmall ms → map decimal ns ≡ map decimal ms → ns ≡ ms
numbers_same [] [] hn hm e = refl
numbers_same [] (m ∷ ms) hn hm e = absurd cc
numbers_same (n ∷ ns) [] hn hm e = absurd cc
numbers_same (n ∷ ns) (m ∷ ms) hn hm e =
    let t = same_tails (decimal n) (decimal m) (map decimal ns) (map decimal ms) e in
    let first : n ≡ m = decimal_same n m hn.0 hm.0 t.0 in
    let rest : ns ≡ ms = numbers_same ns ms hn.1 hm.1 t.1 in
    cc

pub parts_same : {A : Type 0} (x y xs ys : List A) → length x ≡ length y → x ++ xs ≡ y ++ ys → (x ≡ y) × (xs ≡ ys)
parts_same [] [] xs ys len e = (refl, e)
parts_same [] (b ∷ y) xs ys len e = absurd (omega (arith, len))
parts_same (a ∷ x) [] xs ys len e = absurd (omega (arith, len))
parts_same (a ∷ x) (b ∷ y) xs ys len e =
    let t = same_tails a b (x ++ xs) (y ++ ys) e in
    let u = parts_same x y xs ys (omega (arith, len)) t.1 in
    let first : a ≡ b = t.0 in
    let rest : x ≡ y = u.0 in
    (cc, u.1)

pub strings_same : (xss yss : List (List ℕ)) (r s : List ℕ) → map length xss ≡ map length yss → concat xss ++ r ≡ concat yss ++ s → (xss ≡ yss) × (r ≡ s)
strings_same [] [] r s len e = (refl, e)
strings_same [] (y ∷ yss) r s len e = absurd cc
strings_same (x ∷ xss) [] r s len e = absurd cc
strings_same (x ∷ xss) (y ∷ yss) r s len e =
    let l = same_tails (length x) (length y) (map length xss) (map length yss) len in
    let whole : x ++ (concat xss ++ r) ≡ y ++ (concat yss ++ s) = sym (append_assoc x (concat xss) r) ∙ e ∙ append_assoc y (concat yss) s in
    let t = parts_same x y (concat xss ++ r) (concat yss ++ s) l.0 whole in
    let u = strings_same xss yss r s l.1 t.1 in
    let first : x ≡ y = t.0 in
    let rest : xss ≡ yss = u.0 in
    (cc, u.1)

-- ---- lines with the same word and numbers

pub record SameHead (word other : Word) (ns ms : List ℕ) : Type 0 where
  pub word_is : word ≡ other
  pub numbers_are : ns ≡ ms

pub heads_same : (word other : Word) (ns ms : List ℕ) → AreSmall ns → AreSmall ms → line_of word ns ≡ line_of other ms → SameHead word other ns ms
heads_same word other ns ms hn hm e =
    let items : spell word ∷ map decimal ns ≡ spell other ∷ map decimal ms = sym (items_of_line word ns hn) ∙ ap items_of e ∙ items_of_line other ms hm in
    let t = same_tails (spell word) (spell other) (map decimal ns) (map decimal ms) items in
    record { word_is = word_same word other t.0; numbers_are = numbers_same ns ms hn hm t.1 }

-- the bytes begin with the message's line
pub spelled_line : (p : Parts) (rest : List ℕ) → spelled p ++ rest ≡ line_of p.word (numbers_of p) ++ (10 ∷ (concat p.strings ++ rest))
spelled_line p rest = append_assoc (line_of p.word (numbers_of p)) (10 ∷ concat p.strings) rest

-- ---- two messages

pub record SameMessage (p q : Parts) (r s : List ℕ) : Type 0 where
  pub word_is : p.word ≡ q.word
  pub numbers_are : p.numbers ≡ q.numbers
  pub strings_are : p.strings ≡ q.strings
  pub rest_is : r ≡ s

pub messages_same : (p q : Parts) (r s : List ℕ) → Fits p → Fits q → length p.numbers ≡ own_count p.word → length q.numbers ≡ own_count q.word → spelled p ++ r ≡ spelled q ++ s → SameMessage p q r s
messages_same p q r s fp fq own_p own_q e =
    let whole = sym (spelled_line p r) ∙ e ∙ spelled_line q s in
    let lines = lines_same (line_of p.word (numbers_of p)) (line_of q.word (numbers_of q)) (concat p.strings ++ r) (concat q.strings ++ s) (line_one p.word (numbers_of p) fp.small) (line_one q.word (numbers_of q) fq.small) whole in
    let head = heads_same p.word q.word (numbers_of p) (numbers_of q) fp.small fq.small lines.0 in
    let own : length p.numbers ≡ length q.numbers = own_p ∙ ap own_count head.word_is ∙ sym own_q in
    let numbers = parts_same p.numbers q.numbers (map length p.strings) (map length q.strings) own head.numbers_are in
    let strings = strings_same p.strings q.strings r s numbers.1 lines.1 in
    record { word_is = head.word_is; numbers_are = numbers.0; strings_are = strings.0; rest_is = strings.1 }

-- ---- a message has no fault

a_number : (numbers : List ℕ) (i : ℕ) (item : List ℕ) → AreSmall numbers → slice_get (map decimal numbers) i ≡ Some item → IsNoNumber item → ⊥
a_number [] i item small e none = absurd cc
a_number (n ∷ numbers) zero item small e none =
    let same : item ≡ decimal n = cc in
    none n small.0 same
a_number (n ∷ numbers) (suc i) item small e none = a_number numbers i item small.1 e none

no_number_in : (first : List ℕ) (numbers : List ℕ) (k : ℕ) (item : List ℕ) → 0 < k → AreSmall numbers → slice_get (first ∷ map decimal numbers) k ≡ Some item → IsNoNumber item → ⊥
no_number_in first numbers zero item lt small e none = absurd (omega (arith, lt))
no_number_in first numbers (suc k) item lt small e none = a_number numbers k item small e none

line_has_none : (takes : Word → ℕ → Type 0) (p : Parts) (line : List ℕ) (fault : LineFault) → AreSmall (numbers_of p) → takes p.word (length (numbers_of p)) → line ≡ line_of p.word (numbers_of p) → IsNoLine takes line fault → ⊥
line_has_none takes p line UnknownWord small fits is none =
    none p.word (length (numbers_of p)) fits
    (ap (λ (xs : List ℕ). slice_get (items_of xs) 0) is ∙ ap (λ (items : List (List ℕ)). slice_get items 0) (items_of_line p.word (numbers_of p) small))
line_has_none takes p line (NotANumber k) small fits is none =
    let items : items_of line ≡ spell p.word ∷ map decimal (numbers_of p) = ap items_of is ∙ items_of_line p.word (numbers_of p) small in
    no_number_in (spell p.word) (numbers_of p) k none.item none.after small
    (subst (λ (xs : List (List ℕ)). slice_get xs k ≡ Some none.item) items none.here) none.none
line_has_none takes p line (WrongCount n) small fits is none =
    let head = heads_same p.word none.word (numbers_of p) none.numbers small none.small (sym is ∙ none.is) in
    let count : length (numbers_of p) ≡ n = ap (λ (xs : List ℕ). length xs) head.numbers_are ∙ none.many in
    none.none (subst (takes none.word) count (subst (λ (w : Word). takes w (length (numbers_of p))) head.word_is fits))

sum_take : (ns : List ℕ) (k : ℕ) → sum (take k ns) ≤ sum ns
sum_take [] zero = omega arith
sum_take [] (suc k) = omega arith
sum_take (n ∷ ns) zero = omega arith
sum_take (n ∷ ns) (suc k) = omega (arith, sum_take ns k, sum_by-cons (λ (x : ℕ). x) n (take k ns), sum_by-cons (λ (x : ℕ). x) n ns)

lengths_are : (p : Parts) → length p.numbers ≡ own_count p.word → lengths_in p.word (numbers_of p) ≡ map length p.strings
lengths_are p own = drop_at p.numbers (map length p.strings) (own_count p.word) own

no_cut : (takes : Word → ℕ → Type 0) (p : Parts) (rest : List ℕ) (k : ℕ) → AreSmall (numbers_of p) → length p.numbers ≡ own_count p.word → IsCutAt takes (spelled p ++ rest) k → ⊥
no_cut takes p rest k small own cut =
    let whole = sym (spelled_line p rest) ∙ cut.here.whole in
    let lines = lines_same (line_of p.word (numbers_of p)) (line_of cut.word cut.numbers) (concat p.strings ++ rest) cut.rest (line_one p.word (numbers_of p) small) cut.here.one whole in
    let head = heads_same p.word cut.word (numbers_of p) cut.numbers small cut.small lines.0 in
    let lengths : lengths_in cut.word cut.numbers ≡ map length p.strings = sym (ap (λ (w : Word). lengths_in w cut.numbers) head.word_is) ∙ sym (ap (lengths_in p.word) head.numbers_are) ∙ lengths_are p own in
    let short : length cut.rest < sum (take (k + 1) (map length p.strings)) = subst (λ (ns : List ℕ). length cut.rest < sum (take (k + 1) ns)) lengths cut.short in
    let long : length cut.rest ≡ length (concat p.strings) + length rest = sym (ap (λ (xs : List ℕ). length xs) lines.1) ∙ length-append (concat p.strings) rest in
    omega (arith, short, long, concat_length p.strings, sum_take (map length p.strings) (k + 1))

wrong_line : (takes : Word → ℕ → Type 0) (p : Parts) (rest : List ℕ) (fault : LineFault) → AreSmall (numbers_of p) → takes p.word (length (numbers_of p)) → HasNoLine takes (spelled p ++ rest) fault → ⊥
wrong_line takes p rest fault small fits h =
    let whole = sym (spelled_line p rest) ∙ h.here.whole in
    let lines = lines_same (line_of p.word (numbers_of p)) h.line (concat p.strings ++ rest) h.rest (line_one p.word (numbers_of p) small) h.here.one whole in
    line_has_none takes p h.line fault small fits (sym lines.0) h.none

no_long : (p : Parts) (rest : List ℕ) → length (line_of p.word (numbers_of p)) < line_limit → HasLongLine (spelled p ++ rest) → ⊥
no_long p rest short h =
    let whole = sym h.whole ∙ spelled_line p rest in
    let le = no_longer h.front h.rest (line_of p.word (numbers_of p)) (concat p.strings ++ rest) h.one whole in
    omega (arith, le, short, h.long)

no_cut_line : (p : Parts) (rest : List ℕ) → IsOneLine (spelled p ++ rest) → ⊥
no_cut_line p rest one = none_of_lf (line_of p.word (numbers_of p)) (concat p.strings ++ rest) (subst IsOneLine (spelled_line p rest) one)

not_empty : (a r : List ℕ) → a ++ (10 ∷ r) ≡ [] → ⊥
not_empty [] r e = absurd cc
not_empty (x ∷ a) r e = absurd cc

pub has_no_fault : (takes : Word → ℕ → Type 0) (p : Parts) (rest : List ℕ) (fault : ReadFault) → Fits p → length p.numbers ≡ own_count p.word → takes p.word (length (numbers_of p)) → IsWrong takes fault (spelled p ++ rest) → IsOutside fault
has_no_fault takes p rest Ended fit own fits h = not_empty (line_of p.word (numbers_of p)) (concat p.strings ++ rest) (sym (spelled_line p rest) ∙ h)
has_no_fault takes p rest CutLine fit own fits h = no_cut_line p rest h.one
has_no_fault takes p rest LongLine fit own fits h = no_long p rest fit.short h
has_no_fault takes p rest (Line fault) fit own fits h = wrong_line takes p rest fault fit.small fits h
has_no_fault takes p rest (CutString k) fit own fits h = no_cut takes p rest k fit.small own h
has_no_fault takes p rest Device fit own fits h = tt
has_no_fault takes p rest OutOfMemory fit own fits h = tt
