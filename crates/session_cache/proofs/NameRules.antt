-- Numbers and the digits that spell them.
use Rattle.std.proofs.Common.{◌≡◌, ◌≢◌, ℕ, ◌+◌, ◌*◌, ◌/◌, ◌%◌, ◌<◌, ◌≤◌, ◌-◌, ◌⊎◌, List, [], ◌∷◌, ◌++◌, length, map, take, drop, get_or, Option, Some, None, refl, sym, ap, subst, ◌∙◌, arith, inl, inr}
use Rattle.std.specs.Prelude.{Contains, IfSome, codes}
use Rattle.std.proofs.lemmas.Fmt.{decimal_digit}
use Rattle.std.proofs.lemmas.List.{append_cancel_left, append_cancel_right, take-append-drop, take_more, map-append}
use Rattle.std.proofs.lemmas.List.Elements.{All-contains, Contains-append_left, Contains-get_or, Contains-push, Contains-push_cases}
use Rattle.std.specs.List.Sorted.{IsPermutation}
use Rattle.std.proofs.lemmas.List.Sorted.{All-permutation, Contains-permutation}
use Rattle.session_cache.specs.Names.{most, four_digits, entry_name, AreFour, AreNumbers, IsSpelled, IsHighest}
use Rattle.session_cache.specs.declared.names.EntryKind.{EntryKind}
use Rattle.session_cache.specs.declared.names.EntryKind.TheVariants.{Chain, Session}

pub four_is : (n : ℕ) → n ≤ most
    → four_digits n ≡ (48 + n / 1000) ∷ (48 + n / 100 % 10) ∷ (48 + n / 10 % 10) ∷ (48 + n % 10) ∷ []
four_is n le = rw (decimal_digit (n / 1000) (omega (arith, le)), decimal_digit (n / 100 % 10) (omega arith), decimal_digit (n / 10 % 10) (omega arith), decimal_digit (n % 10) (omega arith)) refl

pub spelled : (a b c d n : ℕ) → AreFour a b c d → n ≡ (a - 48) * 1000 + (b - 48) * 100 + (c - 48) * 10 + (d - 48)
    → IsSpelled four_digits (a ∷ b ∷ c ∷ d ∷ []) (Some n)
spelled a b c d n h is = (small, digits ∙ sym (four_is n small))
  where
    small : n ≤ most
    small = omega (arith, is, h.0.0, h.0.1, h.1.0, h.1.1, h.2.0, h.2.1, h.3.0, h.3.1)

    one : a ≡ 48 + n / 1000
    one = omega (arith, is, h.0.0, h.0.1, h.1.0, h.1.1, h.2.0, h.2.1, h.3.0, h.3.1)

    two : b ≡ 48 + n / 100 % 10
    two = omega (arith, is, h.0.0, h.0.1, h.1.0, h.1.1, h.2.0, h.2.1, h.3.0, h.3.1)

    three : c ≡ 48 + n / 10 % 10
    three = omega (arith, is, h.0.0, h.0.1, h.1.0, h.1.1, h.2.0, h.2.1, h.3.0, h.3.1)

    four : d ≡ 48 + n % 10
    four = omega (arith, is, h.0.0, h.0.1, h.1.0, h.1.1, h.2.0, h.2.1, h.3.0, h.3.1)

    digits : ◌≡◌ {A = List ℕ} (a ∷ b ∷ c ∷ d ∷ []) ((48 + n / 1000) ∷ (48 + n / 100 % 10) ∷ (48 + n / 10 % 10) ∷ (48 + n % 10) ∷ [])
    digits = rw (one, two, three, four) refl

module _ (a b c d n : ℕ) (le : n ≤ most) (e : ◌≡◌ {A = List ℕ} (a ∷ b ∷ c ∷ d ∷ []) (four_digits n)) where
  at_place : (i : ℕ) → get_or (a ∷ b ∷ c ∷ d ∷ []) i 0 ≡ get_or ((48 + n / 1000) ∷ (48 + n / 100 % 10) ∷ (48 + n / 10 % 10) ∷ (48 + n % 10) ∷ []) i 0
  at_place i = ap (λ (l : List ℕ). get_or l i 0) (e ∙ four_is n le)

  pub are_four : AreFour a b c d
  are_four = (
    (omega (arith, at_place 0), omega (arith, le, at_place 0)),
    (omega (arith, at_place 1), omega (arith, at_place 1)),
    (omega (arith, at_place 2), omega (arith, at_place 2)),
    (omega (arith, at_place 3), omega (arith, at_place 3)),
  )

pub length_four : (n : ℕ) → n ≤ most → length (four_digits n) ≡ 4
length_four n le = ap (λ (l : List ℕ). length l) (four_is n le)

pub not_four : (text : List ℕ) → length text ≢ 4 → IsSpelled four_digits text None
not_four text other n le e = other (ap (λ (l : List ℕ). length l) e ∙ length_four n le)

pub same_number : (m n : ℕ) → m ≤ most → n ≤ most → four_digits m ≡ four_digits n → m ≡ n
same_number m n small le e = omega (arith, at 0, at 1, at 2, at 3)
  where
    at : (i : ℕ) → get_or ((48 + m / 1000) ∷ (48 + m / 100 % 10) ∷ (48 + m / 10 % 10) ∷ (48 + m % 10) ∷ []) i 0
        ≡ get_or ((48 + n / 1000) ∷ (48 + n / 100 % 10) ∷ (48 + n / 10 % 10) ∷ (48 + n % 10) ∷ []) i 0
    at i = ap (λ (l : List ℕ). get_or l i 0) (sym (four_is m small) ∙ (e ∙ four_is n le))

-- ---- names of sessions, without the letter

abbrev pub spelling_before : ℕ → List ℕ
spelling_before n = four_digits n ++ codes ".mjrg"

pub too_short : (text : List ℕ) → length text < 4 → IsSpelled spelling_before text None
too_short text short n le e = omega (arith, short, ap (λ (l : List ℕ). length l) (e ∙ ap (λ (l : List ℕ). l ++ codes ".mjrg") (four_is n le)))

pub other_end : (text : List ℕ) → drop 4 text ≢ codes ".mjrg" → IsSpelled spelling_before text None
other_end text other n le e = other (ap (λ (l : List ℕ). drop 4 l) (e ∙ ap (λ (l : List ℕ). l ++ codes ".mjrg") (four_is n le)))

pub read_before : (text : List ℕ) (r : Option ℕ) → drop 4 text ≡ codes ".mjrg" → IsSpelled four_digits (take 4 text) r
    → IsSpelled spelling_before text r
read_before text None end h = λ n le e. h n le (ap (λ (l : List ℕ). take 4 l) (e ∙ ap (λ (l : List ℕ). l ++ codes ".mjrg") (four_is n le)) ∙ sym (four_is n le))
read_before text (Some n) end h = (h.0, sym (take-append-drop 4 text) ∙ (ap (λ (l : List ℕ). l ++ drop 4 text) h.1 ∙ ap (λ (l : List ℕ). four_digits n ++ l) end))

-- ---- the greatest of all

pub same_name : (what : EntryKind) (m n : ℕ) → m ≤ most → n ≤ most → entry_name what m ≡ entry_name what n → m ≡ n
same_name Chain m n small le e = same_number m n small le (append_cancel_left (codes "c") _ _ e)
same_name Session m n small le e =
    same_number m n small le (append_cancel_right _ _ (codes ".mjrg") (append_cancel_left (codes "s") _ _ e))

some_is : {k r : ℕ} → ◌≡◌ {A = Option ℕ} (Some k) (Some r) → k ≡ r
some_is e = cc

pub raised : (what : EntryKind) (highest : Option ℕ) (name : List ℕ) (n r : ℕ) → IsSpelled (entry_name what) name (Some n) → n ≤ r
    → IfSome highest (λ h. h ≤ r) → (highest ≡ Some r) ⊎ (r ≡ n)
    → (front : List (List ℕ)) → IsHighest what front highest → IsHighest what (front ++ name ∷ []) (Some r)
raised what None name n r named le above (inl is) front h = absurd cc
raised what None name n r named le above (inr is) front h =
    (rw is named.0, (rw is (subst (λ (x : List ℕ). Contains (front ++ name ∷ []) x) named.1 (Contains-push front name))), λ m small has. by_case m small (Contains-push_cases front name _ has))
  where
    by_case : (m : ℕ) → m ≤ most → Contains front (entry_name what m) ⊎ (name ≡ entry_name what m) → m ≤ r
    by_case m small (inl c) = absurd (h m small c)
    by_case m small (inr e) = omega (arith, le, same_name what m n small named.0 (sym e ∙ named.1))
raised what (Some k) name n r named le above either front h = (small either, has either, λ m small_m c. by_case m small_m (Contains-push_cases front name _ c))
  where
    small : (◌≡◌ {A = Option ℕ} (Some k) (Some r)) ⊎ (r ≡ n) → r ≤ most
    small (inl e) = omega (arith, h.0, some_is e)
    small (inr e) = omega (arith, named.0, e)

    has : (◌≡◌ {A = Option ℕ} (Some k) (Some r)) ⊎ (r ≡ n) → Contains (front ++ name ∷ []) (entry_name what r)
    has (inl e) = Contains-append_left front (name ∷ []) _ (subst (λ (x : ℕ). Contains front (entry_name what x)) (some_is e) h.1)
    has (inr e) = rw e (subst (λ (x : List ℕ). Contains (front ++ name ∷ []) x) named.1 (Contains-push front name))

    by_case : (m : ℕ) → m ≤ most → Contains front (entry_name what m) ⊎ (name ≡ entry_name what m) → m ≤ r
    by_case m small_m (inl c) = omega (arith, above, h.2 m small_m c)
    by_case m small_m (inr e) = omega (arith, le, same_name what m n small_m named.0 (sym e ∙ named.1))

pub passed : (what : EntryKind) (highest : Option ℕ) (name : List ℕ) → IsSpelled (entry_name what) name None
    → (front : List (List ℕ)) → IsHighest what front highest → IsHighest what (front ++ name ∷ []) highest
passed what None name named front h = λ m small c. by_case m small (Contains-push_cases front name _ c)
  where
    by_case : (m : ℕ) → m ≤ most → Contains front (entry_name what m) ⊎ (name ≡ entry_name what m) → ⊥
    by_case m small (inl has) = h m small has
    by_case m small (inr e) = named m small e
passed what (Some k) name named front h = (h.0, Contains-append_left front (name ∷ []) _ h.1, λ m small c. by_case m small (Contains-push_cases front name _ c))
  where
    by_case : (m : ℕ) → m ≤ most → Contains front (entry_name what m) ⊎ (name ≡ entry_name what m) → m ≤ k
    by_case m small (inl has) = h.2 m small has
    by_case m small (inr e) = absurd (named m small e)

pub more_names : (A : Type 0) (f : A → List ℕ) (what : EntryKind) (highest : Option ℕ) (xs : List A) (i : ℕ) (x : A) → i < length xs
    → get_or xs i x ≡ x → IsHighest what (map f (take i xs) ++ f x ∷ []) highest → IsHighest what (map f (take (i + 1) xs)) highest
more_names A f what highest xs i x lt is h =
    subst (λ (l : List (List ℕ)). IsHighest what l highest)
    (sym (ap (map f) (take_more xs i x lt ∙ ap (λ (z : A). take i xs ++ z ∷ []) is) ∙ map-append f (take i xs) (x ∷ []))) h

-- ---- all numbers

pub no_numbers : (what : EntryKind) → AreNumbers what [] []
no_numbers what = record { named = λ k d lt. absurd (omega arith); all = λ n le c. absurd (omega (arith, c.1)) }

pub number_added : (what : EntryKind) (name : List ℕ) (n : ℕ) → IsSpelled (entry_name what) name (Some n) → (front : List (List ℕ)) (numbers : List ℕ) → AreNumbers what front numbers
    → AreNumbers what (front ++ name ∷ []) (numbers ++ n ∷ [])
number_added what name n spelled front numbers h = record {
  named = λ k d lt. is_named (get_or (numbers ++ n ∷ []) k d) (Contains-push_cases numbers n _ (Contains-get_or (numbers ++ n ∷ []) k d lt));
  all = λ m le c. is_there m le (Contains-push_cases front name _ c);
}
  where
    is_named : (m : ℕ) → Contains numbers m ⊎ (n ≡ m) → (m ≤ most) × Contains (front ++ name ∷ []) (entry_name what m)
    is_named m (inl c) = let x = All-contains (λ k. (k ≤ most) × Contains front (entry_name what k)) numbers m h.named c in (x.0, Contains-append_left front (name ∷ []) _ x.1)
    is_named m (inr e) = subst (λ (k : ℕ). (k ≤ most) × Contains (front ++ name ∷ []) (entry_name what k)) e (spelled.0, subst (λ (x : List ℕ). Contains (front ++ name ∷ []) x) spelled.1 (Contains-push front name))

    is_there : (m : ℕ) → m ≤ most → Contains front (entry_name what m) ⊎ (name ≡ entry_name what m) → Contains (numbers ++ n ∷ []) m
    is_there m le (inl c) = Contains-append_left numbers (n ∷ []) m (h.all m le c)
    is_there m le (inr e) = subst (λ (k : ℕ). Contains (numbers ++ n ∷ []) k) (sym (same_name what m n le spelled.0 (sym e ∙ spelled.1))) (Contains-push numbers n)

pub number_passed : (what : EntryKind) (name : List ℕ) → IsSpelled (entry_name what) name None → (front : List (List ℕ)) (numbers : List ℕ) → AreNumbers what front numbers → AreNumbers what (front ++ name ∷ []) numbers
number_passed what name other front numbers h = record {
  named = λ k d lt. let x = h.named k d lt in (x.0, Contains-append_left front (name ∷ []) _ x.1);
  all = λ m le c. is_there m le (Contains-push_cases front name _ c);
}
  where
    is_there : (m : ℕ) → m ≤ most → Contains front (entry_name what m) ⊎ (name ≡ entry_name what m) → Contains numbers m
    is_there m le (inl c) = h.all m le c
    is_there m le (inr e) = absurd (other m le e)

pub numbers_sorted : (what : EntryKind) (names : List (List ℕ)) (xs ys : List ℕ) → AreNumbers what names xs → IsPermutation xs ys → AreNumbers what names ys
numbers_sorted what names xs ys h p = record {
  named = All-permutation (λ n. (n ≤ most) × Contains names (entry_name what n)) xs ys p h.named;
  all = λ n le c. Contains-permutation xs ys n p (h.all n le c);
}

pub more_numbers : (A : Type 0) (f : A → List ℕ) (what : EntryKind) (numbers : List ℕ) (xs : List A) (i : ℕ) (x : A) → i < length xs
    → get_or xs i x ≡ x → AreNumbers what (map f (take i xs) ++ f x ∷ []) numbers → AreNumbers what (map f (take (i + 1) xs)) numbers
more_numbers A f what numbers xs i x lt is h =
    subst (λ (l : List (List ℕ)). AreNumbers what l numbers)
    (sym (ap (map f) (take_more xs i x lt ∙ ap (λ (z : A). take i xs ++ z ∷ []) is) ∙ map-append f (take i xs) (x ∷ []))) h
