-- A text found by the place of its code.
use Rattle.std.proofs.Common.{◌≡◌, ◌∙◌, ◌+◌, ℕ, Bool, List, [], ◌∷◌, Option, None, Some, Bor, map, refl, sym, ap, cond, option_map}
use Rattle.std.specs.Prelude.{option_and_then, position, slice_get}
use Rattle.std.specs.List.{position_from}
use Rattle.std.specs.Str.{bytes_eq}
use Rattle.std.proofs.lemmas.Option.{slice_get-map}
use Rattle.std.proofs.lemmas.Iterator.Adapters.{position_from-zero}
use Rattle.code_words.specs.Words.{text_in}

-- counted from any place
place_from : {C : Type 0} (text : C → List ℕ) (test : List ℕ → Bool) (i : ℕ) (xs : List C) → position_from test i (map text xs) ≡ position_from (λ x. test (text x)) i xs
place_from text test i [] = refl
place_from text test i (x ∷ xs) = ap (cond (test (text x)) (Some i)) (place_from text test (i + 1) xs)

-- the place of a code, by the texts that the references lead to
pub place_of_text : {C : Type 0} (text : C → List ℕ) (test : List ℕ → Bool) (xs : List C) → position test (map text xs) ≡ position (λ x. test (text x)) xs
place_of_text text test xs = position_from-zero test (map text xs) ∙ (place_from text test 0 xs ∙ sym (position_from-zero (λ x. test (text x)) xs))

-- no code is the argument
pub none_found : (cs texts : List (Bor (List ℕ))) (word : List ℕ) → position (λ c. bytes_eq c.now word) cs ≡ None → None ≡ text_in (map (λ c. c.now) cs) (map (λ c. c.now) texts) word
unfolding text_in
none_found cs texts word is =
    sym (ap (option_and_then (slice_get (map (λ c. c.now) texts))) (place_of_text (λ c. c.now) (λ c. bytes_eq c word) cs ∙ is))

-- the code at this place is the argument
pub text_found : (cs texts : List (Bor (List ℕ))) (word : List ℕ) (at : ℕ) (found : Option (Bor (List ℕ))) → position (λ c. bytes_eq c.now word) cs ≡ Some at → found ≡ slice_get texts at
    → option_map (λ c. c.now) found ≡ text_in (map (λ c. c.now) cs) (map (λ c. c.now) texts) word
unfolding text_in
text_found cs texts word at found is here =
    ap (option_map (λ c. c.now)) here ∙ sym (ap (option_and_then (slice_get (map (λ c. c.now) texts))) (place_of_text (λ c. c.now) (λ c. bytes_eq c word) cs ∙ is) ∙ slice_get-map (λ c. c.now) texts at)
