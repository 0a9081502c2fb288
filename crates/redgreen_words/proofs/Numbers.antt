-- The items of a line, one after the other.
use Rattle.std.proofs.Common.{◌≡◌, ℕ, ◌+◌, ◌-◌, ◌<◌, ◌≤◌, ◌^◌, List, [], ◌∷◌, ◌++◌, length, map, take, drop, flat_map, get_or, decimal, option_map, refl, sym, ap, subst, ◌∙◌, append_assoc, arith}
use Rattle.std.specs.List.{AllByRecursion}
use Rattle.std.specs.Int.{IsInRange}
use Rattle.std.specs.Str.{IsUtf8}
use Rattle.std.proofs.lemmas.List.{map-append, length-map, take_more, take_rest, get_or-map, flat_map_more}
use Rattle.std.proofs.lemmas.List.Concat.{flat_map-append}
use Rattle.std.proofs.lemmas.List.Elements.{All-from_recursion}
use Rattle.std.proofs.lemmas.Option.{slice_get-map, slice_get-get_or}
use Rattle.std.proofs.lemmas.Str.{IsUtf8-from_ascii}
use Rattle.std.proofs.lemmas.Str.Ascii.{IsAscii-from_all}
use Rattle.redgreen_words.specs.declared.word.Word.{Word}
use Rattle.redgreen_words.specs.Words.{spell, line_of, items_of, AreSmall}
use Rattle.redgreen_words.specs.Faults.{IsNoNumber}
use Rattle.redgreen_words.specs.Steps.{IsNoNumberIn}
use Rattle.redgreen_words.proofs.Spelled.{spaced, decimal_digits, line_of_items}

low_digits : (bytes : List ℕ) → AllByRecursion (IsInRange 48 57) bytes → AllByRecursion (λ b. b < 128) bytes
low_digits [] all = tt
low_digits (b ∷ bytes) all = let high = all.0.1 in (omega (arith, high), low_digits bytes all.1)

pub decimal_utf8 : (n : ℕ) → n < 2 ^ 64 → IsUtf8 (decimal n)
decimal_utf8 n lt = IsUtf8-from_ascii (decimal n) (IsAscii-from_all (decimal n) (All-from_recursion (λ b. b < 128) (decimal n) (low_digits (decimal n) (decimal_digits n lt))))

pub no_number_at : {A : Type 0} (v : A → List ℕ) (items : List A) (i : ℕ) (d : A) → i < length items → IsNoNumber (v (get_or items i d)) → IsNoNumberIn (map v items) i
no_number_at v items i d lt none = record {
  item = v (get_or items i d);
  here = slice_get-map v items i ∙ ap (option_map v) (slice_get-get_or items i d lt);
  none = none;
}

small_more : (ns : List ℕ) (n : ℕ) → AreSmall ns → n < 2 ^ 64 → AreSmall (ns ++ n ∷ [])
small_more [] n small lt = (lt, tt)
small_more (m ∷ ns) n small lt = (small.0, small_more ns n small.1 lt)

pub numbers_more : {A : Type 0} (v : A → List ℕ) (items : List A) (i : ℕ) (d : A) (ns new : List ℕ) (n : ℕ) → i < length items → map decimal ns ≡ take i (map v items) → AreSmall ns → v (get_or items i d) ≡ decimal n → n < 2 ^ 64 → new ≡ ns ++ n ∷ [] → (map decimal new ≡ take (i + 1) (map v items)) × AreSmall new
numbers_more {A} v items i d ns new n lt are small is below more =
    let len : i < length (map v items) = omega (arith, length-map items v, lt) in
    let last : get_or (map v items) i (v d) ≡ decimal n = get_or-map v items i d (v d) lt ∙ is in (
      ap (map decimal) more ∙ map-append decimal ns (n ∷ [])
          ∙ ap (λ (xs : List (List ℕ)). xs ++ decimal n ∷ []) are
          ∙ ap (λ (x : List ℕ). take i (map v items) ++ x ∷ []) (sym last)
          ∙ sym (take_more (map v items) i (v d) len),
      subst AreSmall (sym more) (small_more ns n small below),
    )

pub small_both : (ns ms : List ℕ) → AreSmall ns → AreSmall ms → AreSmall (ns ++ ms)
small_both [] ms hn hm = hm
small_both (n ∷ ns) ms hn hm = (hn.0, small_both ns ms hn.1 hm)

-- one number more
pub small_next : (ns : List ℕ) (i : ℕ) → i < length ns → AreSmall (take i ns) → get_or ns i 0 < 2 ^ 64 → AreSmall (take (i + 1) ns)
small_next ns i lt small below = subst AreSmall (sym (take_more ns i 0 lt)) (small_more (take i ns) (get_or ns i 0) small below)

pub next_put : {A : Type 0} (f : A → List ℕ) (items : List A) (i : ℕ) (d : A) (start out new : List ℕ) → i < length items → out ≡ start ++ flat_map f (take i items) → new ≡ out ++ f (get_or items i d) → new ≡ start ++ flat_map f (take (i + 1) items)
next_put {A} f items i d start out new lt is more =
    more ∙ ap (λ (xs : List ℕ). xs ++ f (get_or items i d)) is
    ∙ flat_map_more f start (take i items) (get_or items i d)
    ∙ ap (λ (xs : List A). start ++ flat_map f xs) (sym (take_more items i d lt))

map_both : {A : Type 0} (v : A → List ℕ) (items : List A) → map (λ x. length (v x)) items ≡ map length (map v items)
map_both v [] = refl
map_both v (x ∷ items) = ap (λ (ns : List ℕ). length (v x) ∷ ns) (map_both v items)

-- a line, put part by part
pub line_built : {A : Type 0} (v : A → List ℕ) (word : Word) (numbers lengths : List ℕ) (strings : List A) (b c d : List ℕ) → lengths ≡ map (λ s. length (v s)) strings → b ≡ spell word → c ≡ b ++ flat_map spaced numbers → d ≡ c ++ flat_map spaced lengths → d ≡ line_of word (numbers ++ map length (map v strings))
line_built v word numbers lengths strings b c d el eb ec ed =
    ed
    ∙ ap (λ (xs : List ℕ). xs ++ flat_map spaced lengths) (ec ∙ ap (λ (xs : List ℕ). xs ++ flat_map spaced numbers) eb)
    ∙ append_assoc (spell word) (flat_map spaced numbers) (flat_map spaced lengths)
    ∙ ap (λ (xs : List ℕ). spell word ++ xs) (sym (flat_map-append spaced numbers lengths))
    ∙ ap (λ (ns : List ℕ). line_of word (numbers ++ ns)) (el ∙ map_both v strings)

pub line_small : {A : Type 0} (v : A → List ℕ) (numbers lengths : List ℕ) (strings : List A) → lengths ≡ map (λ s. length (v s)) strings → AreSmall numbers → AreSmall lengths → AreSmall (numbers ++ map length (map v strings))
line_small v numbers lengths strings el hn hs = small_both numbers (map length (map v strings)) hn (subst AreSmall (el ∙ map_both v strings) hs)

-- the line of a word and of the items after it
pub head_line : {A : Type 0} (v : A → List ℕ) (items : List A) (d : A) (line : List ℕ) (word : Word) (numbers : List ℕ) → map v items ≡ items_of line → 1 ≤ length items → v (get_or items 0 d) ≡ spell word → map v (take (length items - 1) (drop 1 items)) ≡ map decimal numbers → line ≡ line_of word numbers
head_line v [] d line word numbers are some first rest = absurd (omega (arith, some))
head_line {A} v (x ∷ items) d line word numbers are some first rest =
    let all : map v items ≡ map decimal numbers = sym (ap (map v) (take_rest (x ∷ items) 1)) ∙ rest in
    line_of_items line word numbers
    (sym are ∙ ap (λ (y : List ℕ). y ∷ map v items) first ∙ ap (λ (ys : List (List ℕ)). spell word ∷ ys) all)
