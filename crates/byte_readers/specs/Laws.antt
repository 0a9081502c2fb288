-- What is read is spelled there, and each spelling is read back: for each of the readers that
-- others are made of.
use Rattle.std.proofs.Common.{◌≡◌, ℕ, zero, suc, ◌+◌, ◌^◌, ◌<◌, ◌≤◌, Bool, true, false, cond, ltb, eqb, List, [], ◌∷◌, ◌++◌, length, take, drop, Option, Some, None, Result, Ok, Err, refl, sym, ap, subst, ◌∙◌, append_assoc, arith, ◌⊎◌, inl, inr}
use Rattle.std.specs.Prelude.{IfSome}
use Rattle.std.specs.Str.{is_utf8}
use Rattle.std.specs.List.{flat_map, find, AllByRecursion}
use Rattle.std.specs.Int.{Width, w16, w32, w64, byte_len, from_be_bytes, to_be_bytes}
use Rattle.std.proofs.lemmas.Bool.{cases_lt, ltb-false, le-ltb, eqb-false, ne_eqb}
use Rattle.std.proofs.lemmas.List.{take_at, drop_at, take-append-drop, length-append, length-take, get_or-drop, get_or-take, get_or_past, append-nil}
use Rattle.std.proofs.lemmas.List.Concat.{flat_map-cons}
use Rattle.std.proofs.lemmas.Nat.{be_bytes_2, be_bytes_4, be_bytes_8, from_be_bytes-to_be_bytes_2, from_be_bytes-to_be_bytes_4, from_be_bytes-to_be_bytes_8}
use Rattle.std.proofs.lemmas.Option.{same_Some}
use Rattle.byte_readers.specs.declared.breach.Breach.{Breach}
use Rattle.byte_readers.specs.declared.breach.Breach.TheVariants.{Short, NotCanonical}
use Rattle.byte_readers.specs.Names.{IsName}
use Rattle.byte_readers.specs.Lawful.{IsBytes, Takes, Lawful, Admitted, FitsList}
use Rattle.byte_readers.specs.Spelling.{two, four, eight, name, option, list}
use Rattle.byte_readers.specs.Reading.{◌>>=◌, Decoder, not_canonical, number_at, two_at, four_at, eight_at, name_at, pair_at, made_at, option_at, list_from, list_at, any}

pub IsBytes-drop : (n : ℕ) (bytes : List ℕ) → IsBytes bytes → IsBytes (drop n bytes)
IsBytes-drop n bytes h i = rw get_or-drop (h (n + i))

pub IsBytes-take : (n : ℕ) (bytes : List ℕ) → IsBytes bytes → IsBytes (take n bytes)
IsBytes-take n bytes h i =
    elim (cases_lt i n) [
      | inl lt ↦ rw (get_or-take n bytes i 0 lt) (h i)
      | inr le ↦
          rw (get_or_past (take n bytes) i 0 (omega (arith, length-take n bytes))) (omega arith)
    ]

pub IsBytes-rest : (b : ℕ) (bytes : List ℕ) → IsBytes (b ∷ bytes) → IsBytes bytes
IsBytes-rest b bytes h i = h (suc i)

-- the value of a step that did not fail
pub bind_ok : {A B : Type 0} (r : Result A Breach) (f : A → Result B Breach) (y : B)
    → (r >>= f) ≡ Ok y → (x : A) × (r ≡ Ok x) × (f x ≡ Ok y)
bind_ok (Ok x) f y e = (x, refl, e)
bind_ok (Err d) f y e = absurd cc

-- a test that did not fail
pub guard_ok : {A : Type 0} (b : Bool) (d : Breach) (r : Result A Breach) (y : A)
    → cond b (Err d) r ≡ Ok y → (b ≡ false) × (r ≡ Ok y)
guard_ok true d r y e = absurd cc
guard_ok false d r y e = (refl, e)

pub guard_so : {A : Type 0} (b : Bool) (d : Breach) (r : Result A Breach) (y : A)
    → cond b r (Err d) ≡ Ok y → (b ≡ true) × (r ≡ Ok y)
guard_so true d r y e = (refl, e)
guard_so false d r y e = absurd cc

abbrev done : {A : Type 0} → A → Result A Breach
done x = Ok x

pub ok_is : {A : Type 0} (x y : A) → done x ≡ done y → x ≡ y
ok_is x y e = cc

pub Takes-then : (a x b y c : List ℕ) → Takes a x b → Takes b y c → Takes a (x ++ y) c
Takes-then a x b y c p q =
    record {
      parts = p.parts ∙ ap (λ (t : List ℕ). x ++ t) q.parts ∙ sym (append_assoc x y c);
      rest_fits = q.rest_fits;
    }

-- ---- numbers

record IsWide (w : Width) (limit : ℕ) : Type 0 where
  pub len : (n : ℕ) → length (to_be_bytes w n) ≡ byte_len w
  pub back : (bytes : List ℕ) → length bytes ≡ byte_len w → IsBytes bytes
      → to_be_bytes w (from_be_bytes w bytes) ≡ bytes
  pub again : (n : ℕ) → n < limit → from_be_bytes w (to_be_bytes w n) ≡ n
  pub below : (bytes : List ℕ) → IsBytes bytes → from_be_bytes w bytes < limit

wide16 : IsWide w16 (2 ^ 16)
wide16 = record {
  len = λ n. refl;
  back = λ bytes len fits. be_bytes_2 bytes _ len fits refl;
  again = λ n lt. from_be_bytes-to_be_bytes_2 n lt;
  below = λ bytes fits. omega (arith, fits 0, fits 1);
}

wide32 : IsWide w32 (2 ^ 32)
wide32 = record {
  len = λ n. refl;
  back = λ bytes len fits. be_bytes_4 bytes _ len fits refl;
  again = λ n lt. from_be_bytes-to_be_bytes_4 n lt;
  below = λ bytes fits. omega (arith, fits 0, fits 1, fits 2, fits 3);
}

wide64 : IsWide w64 (2 ^ 64)
wide64 = record {
  len = λ n. refl;
  back = λ bytes len fits. be_bytes_8 bytes _ len fits refl;
  again = λ n lt. from_be_bytes-to_be_bytes_8 n lt;
  below =
      λ bytes fits. omega (arith, fits 0, fits 1, fits 2, fits 3, fits 4, fits 5, fits 6, fits 7);
}

lawful_number : (w : Width) (limit : ℕ) (wide : IsWide w limit)
    → Lawful (number_at w) (to_be_bytes w) (λ n. n < limit)
lawful_number w limit wide = record {
  takes = λ bytes n rest fits e.
      let g =
      guard_ok (ltb (length bytes) (byte_len w)) Short
      (Ok (from_be_bytes w (take (byte_len w) bytes), drop (byte_len w) bytes))
      (n, rest) e in
      let long : byte_len w ≤ length bytes = ltb-false _ _ g.0 in
      let pair =
      ok_is (from_be_bytes w (take (byte_len w) bytes), drop (byte_len w) bytes)
      (n, rest) g.1 in
      let n-is : from_be_bytes w (take (byte_len w) bytes) ≡ n =
      ap (λ (p : ℕ × List ℕ). p.0) pair in
      let rest-is : drop (byte_len w) bytes ≡ rest = ap (λ (p : ℕ × List ℕ). p.1) pair in
      let front : to_be_bytes w n ≡ take (byte_len w) bytes =
      rw (← n-is) (wide.back (take (byte_len w) bytes)
      (omega (arith, length-take (byte_len w) bytes))
      (IsBytes-take (byte_len w) bytes fits)) in (
        record {
          parts = rw (front, ← rest-is) (sym (take-append-drop (byte_len w) bytes));
          rest_fits = rw (← rest-is) (IsBytes-drop (byte_len w) bytes fits);
        },
        rw (← n-is) (wide.below (take (byte_len w) bytes)
            (IsBytes-take (byte_len w) bytes fits)),
      );
  again = λ n rest lt.
      let len = wide.len n in
      let long : ltb (length (to_be_bytes w n ++ rest)) (byte_len w) ≡ false =
      le-ltb _ _ (omega (arith, length-append (to_be_bytes w n) rest)) in
      rw (
        long,
        take_at (to_be_bytes w n) rest (byte_len w) len,
        drop_at (to_be_bytes w n) rest (byte_len w) len,
        wide.again n lt,
      ) refl;
}

pub lawful_two : Lawful two_at two (λ n. n < 2 ^ 16)
unfolding two_at two
lawful_two = lawful_number w16 (2 ^ 16) wide16

pub lawful_four : Lawful four_at four (λ n. n < 2 ^ 32)
unfolding four_at four
lawful_four = lawful_number w32 (2 ^ 32) wide32

pub lawful_eight : Lawful eight_at eight (λ n. n < 2 ^ 64)
unfolding eight_at eight
lawful_eight = lawful_number w64 (2 ^ 64) wide64

-- ---- names

name_parts : (bytes : List ℕ) (n : ℕ) (text rest : List ℕ)
    → cond (eqb n 0) (not_canonical {A = List ℕ × List ℕ} bytes)
    (cond (ltb (length rest) n) (Err Short)
    (cond (is_utf8 (take n rest)) (done (take n rest, drop n rest)) (not_canonical bytes)))
    ≡ Ok (text, drop n rest)
    → (0 < n) × (n ≤ length rest) × (is_utf8 (take n rest) ≡ true) × (take n rest ≡ text)
name_parts bytes n text rest e =
    let a = guard_ok (eqb n 0) (NotCanonical (length bytes)) _ (text, drop n rest) e in
    let b = guard_ok (ltb (length rest) n) Short _ (text, drop n rest) a.1 in
    let c =
    guard_so (is_utf8 (take n rest)) (NotCanonical (length bytes))
    (Ok (take n rest, drop n rest)) (text, drop n rest) b.1 in (
      omega (arith, eqb-false _ _ a.0),
      ltb-false _ _ b.0,
      c.0,
      ap (λ (p : List ℕ × List ℕ). p.0)
          (ok_is (take n rest, drop n rest) (text, drop n rest) c.1),
    )

name_rest : (bytes : List ℕ) (n : ℕ) (text rest after : List ℕ)
    → cond (eqb n 0) (not_canonical {A = List ℕ × List ℕ} bytes)
    (cond (ltb (length rest) n) (Err Short)
    (cond (is_utf8 (take n rest)) (done (take n rest, drop n rest)) (not_canonical bytes)))
    ≡ Ok (text, after) → drop n rest ≡ after
name_rest bytes n text rest after e =
    let a = guard_ok (eqb n 0) (NotCanonical (length bytes)) _ (text, after) e in
    let b = guard_ok (ltb (length rest) n) Short _ (text, after) a.1 in
    let c =
    guard_so (is_utf8 (take n rest)) (NotCanonical (length bytes))
    (Ok (take n rest, drop n rest)) (text, after) b.1 in
    ap (λ (p : List ℕ × List ℕ). p.1) (ok_is (take n rest, drop n rest) (text, after) c.1)

name_takes : (bytes text after : List ℕ) → IsBytes bytes → name_at bytes ≡ Ok (text, after)
    → Takes bytes (name text) after × IsName text
unfolding name_at
name_takes [] text after fits e = absurd cc
name_takes (n ∷ rest) text after fits e =
    let r = name_rest (n ∷ rest) n text rest after e in
    let p = name_parts (n ∷ rest) n text rest (e ∙ ap (λ (x : List ℕ). done (text, x)) (sym r)) in
    let len : length text ≡ n = rw (← p.3) (omega (arith, length-take n rest, p.1)) in
    let small : n < 256 = fits 0 in
    let whole : n ∷ rest ≡ name text ++ after =
    rw (len, ← p.3, ← r) (ap (λ (x : List ℕ). n ∷ x) (sym (take-append-drop n rest))) in (
      record {
        parts = whole;
        rest_fits =
            rw (← r) (IsBytes-drop n rest (IsBytes-rest n rest fits));
      },
      record {
        some = omega (arith, len, p.0);
        short = omega (arith, len, small);
        text = rw (← p.3) p.2;
      },
    )

not_zero : (n : ℕ) → 0 < n → eqb n 0 ≡ false
not_zero n h = ne_eqb n 0 (λ e. omega (arith, h, e))

pub lawful_name : Lawful name_at name IsName
unfolding name_at
lawful_name = record {
  takes = name_takes;
  again = λ text rest h.
      let long : ltb (length (text ++ rest)) (length text) ≡ false =
      le-ltb _ _ (omega (arith, length-append text rest)) in
      rw (
        not_zero (length text) h.some,
        long,
        take_at text rest (length text) refl,
        drop_at text rest (length text) refl,
        h.text,
      ) refl;
}

-- ---- one behind the other

pub lawful_pair : {A B : Type 0} {p : Decoder A} {q : Decoder B} {sp : A → List ℕ} {sq : B → List ℕ}
    {P : A → Type 0} {Q : B → Type 0} → Lawful p sp P → Lawful q sq Q
    → Lawful (pair_at p q) (λ x. sp x.0 ++ sq x.1) (λ x. P x.0 × Q x.1)
lawful_pair {A} {B} {p} {q} {sp} {sq} {P} {Q} one two = record {
  takes = λ bytes x rest fits e.
      let a = bind_ok (p bytes) (λ a. q a.1 >>= λ b. Ok ((a.0, b.0), b.1)) (x, rest) e in
      let b = bind_ok (q a.0.1) (λ b. Ok ((a.0.0, b.0), b.1)) (x, rest) a.2 in
      let t = one.takes bytes a.0.0 a.0.1 fits a.1 in
      let u = two.takes a.0.1 b.0.0 b.0.1 t.0.rest_fits b.1 in
      let made : (A × B) × List ℕ = ((a.0.0, b.0.0), b.0.1) in
      let both = Takes-then bytes (sp a.0.0) a.0.1 (sq b.0.0) b.0.1 t.0 u.0 in
      subst (λ (y : (A × B) × List ℕ). Takes bytes (sp y.0.0 ++ sq y.0.1) y.1 × (P y.0.0 × Q y.0.1))
      (ok_is made (x, rest) b.2) (both, (t.1, u.1));
  again = λ x rest h.
      ap (pair_at p q) (append_assoc (sp x.0) (sq x.1) rest)
      ∙ rw (one.again x.0 (sq x.1 ++ rest) h.0, two.again x.1 rest h.1) refl;
}

-- what something was made of
pub made_takes : {A B : Type 0} {p : Decoder A} {sp : A → List ℕ} {P : A → Type 0}
    (law : Lawful p sp P) (make : A → B) (bytes : List ℕ) (b : B) (rest : List ℕ) → IsBytes bytes
    → made_at make p bytes ≡ Ok (b, rest) → (a : A) × (make a ≡ b) × Takes bytes (sp a) rest × P a
made_takes {A} {B} {p} {sp} {P} law make bytes b rest fits e =
    let a = bind_ok (p bytes) (λ a. Ok (make a.0, a.1)) (b, rest) e in
    let t = law.takes bytes a.0.0 a.0.1 fits a.1 in
    let is = ok_is (make a.0.0, a.0.1) (b, rest) a.2 in
    let r : a.0.1 ≡ rest = ap (λ (y : B × List ℕ). y.1) is in (
      a.0.0,
      ap (λ (y : B × List ℕ). y.0) is,
      subst (λ (y : List ℕ). Takes bytes (sp a.0.0) y) r t.0,
      t.1,
    )

pub made_again : {A B : Type 0} {p : Decoder A} {sp : A → List ℕ} {P : A → Type 0}
    (law : Lawful p sp P) (make : A → B) (a : A) (rest : List ℕ) → P a
    → made_at make p (sp a ++ rest) ≡ Ok (make a, rest)
made_again {A} {B} {p} {sp} {P} law make a rest h = rw (law.again a rest h) refl

-- ---- 0, or 1 and an item

option_takes : {A : Type 0} {p : Decoder A} {sp : A → List ℕ} {P : A → Type 0} (law : Lawful p sp P)
    (bytes : List ℕ) (o : Option A) (rest : List ℕ) → IsBytes bytes
    → option_at p bytes ≡ Ok (o, rest) → Takes bytes (option sp o) rest × IfSome o P
unfolding option_at
option_takes law [] o rest fits e = absurd cc
option_takes {A} {p} {sp} {P} law (zero ∷ bytes) o rest fits e =
    subst (λ (x : Option A × List ℕ). Takes (0 ∷ bytes) (option sp x.0) x.1 × IfSome x.0 P)
    (ok_is (None, bytes) (o, rest) e)
    (record { parts = refl; rest_fits = IsBytes-rest 0 bytes fits }, tt)
option_takes {A} {p} {sp} {P} law (suc zero ∷ bytes) o rest fits e =
    let b = bind_ok (p bytes) (λ a. Ok (Some a.0, a.1)) (o, rest) e in
    let t = law.takes bytes b.0.0 b.0.1 (IsBytes-rest 1 bytes fits) b.1 in
    subst (λ (x : Option A × List ℕ). Takes (1 ∷ bytes) (option sp x.0) x.1 × IfSome x.0 P)
    (ok_is (Some b.0.0, b.0.1) (o, rest) b.2) (
      record { parts = ap (λ (w : List ℕ). 1 ∷ w) t.0.parts; rest_fits = t.0.rest_fits },
      t.1,
    )
option_takes law (suc (suc b) ∷ bytes) o rest fits e = absurd cc

option_again : {A : Type 0} {p : Decoder A} {sp : A → List ℕ} {P : A → Type 0} (law : Lawful p sp P)
    (o : Option A) (rest : List ℕ) → IfSome o P → option_at p (option sp o ++ rest) ≡ Ok (o, rest)
unfolding option_at
option_again law None rest h = refl
option_again law (Some a) rest h = rw (law.again a rest h) refl

pub lawful_option : {A : Type 0} {p : Decoder A} {sp : A → List ℕ} {P : A → Type 0} → Lawful p sp P
    → Lawful (option_at p) (option sp) (λ o. IfSome o P)
lawful_option law = record { takes = option_takes law; again = option_again law }

-- ---- lists

pub record Listed {A : Type 0} (sp : A → List ℕ) (P : A → Type 0) (admits : List A → A → Bool)
    (front : List A) (n : ℕ) (bytes : List ℕ) (whole : List A) (rest : List ℕ) : Type 0 where
  pub items : List A
  pub whole_is : front ++ items ≡ whole
  pub count_is : length items ≡ n
  pub takes : Takes bytes (flat_map sp items) rest
  pub fit : AllByRecursion P items
  pub admitted : Admitted admits front items

pub list_takes : {A : Type 0} {p : Decoder A} {sp : A → List ℕ} {P : A → Type 0}
    (law : Lawful p sp P) (admits : List A → A → Bool) (n : ℕ) (front : List A) (bytes : List ℕ)
    (whole : List A) (rest : List ℕ) → IsBytes bytes
    → list_from p admits front n bytes ≡ Ok (whole, rest)
    → Listed sp P admits front n bytes whole rest
unfolding list_from
list_takes {A} {p} {sp} {P} law admits zero front bytes whole rest fits e =
    let is = ok_is (front, bytes) (whole, rest) e in
    record {
      items = [];
      whole_is = append-nil front ∙ ap (λ (x : List A × List ℕ). x.0) is;
      count_is = refl;
      takes =
          record {
            parts = ap (λ (x : List A × List ℕ). x.1) is;
            rest_fits = subst IsBytes (ap (λ (x : List A × List ℕ). x.1) is) fits;
          };
      fit = tt;
      admitted = tt;
    }
list_takes {A} {p} {sp} {P} law admits (suc n) front bytes whole rest fits e =
    let a =
    bind_ok (p bytes) (λ item. cond (admits front item.0)
    (list_from p admits (front ++ item.0 ∷ []) n item.1) (not_canonical bytes))
    (whole, rest) e in
    let g =
    guard_so (admits front a.0.0) (NotCanonical (length bytes))
    (list_from p admits (front ++ a.0.0 ∷ []) n a.0.1) (whole, rest) a.2 in
    let t = law.takes bytes a.0.0 a.0.1 fits a.1 in
    let u = list_takes law admits n (front ++ a.0.0 ∷ []) a.0.1 whole rest t.0.rest_fits g.1 in
    record {
      items = a.0.0 ∷ u.items;
      whole_is = sym (append_assoc front (a.0.0 ∷ []) u.items) ∙ u.whole_is;
      count_is = ap (λ (k : ℕ). suc k) u.count_is;
      takes =
          rw flat_map-cons (Takes-then bytes (sp a.0.0) a.0.1 (flat_map sp u.items)
          rest t.0 u.takes);
      fit = (t.1, u.fit);
      admitted = (g.0, u.admitted);
    }

pub list_again : {A : Type 0} {p : Decoder A} {sp : A → List ℕ} {P : A → Type 0}
    (law : Lawful p sp P) (admits : List A → A → Bool) (as1 front : List A) (rest : List ℕ)
    → AllByRecursion P as1 → Admitted admits front as1
    → list_from p admits front (length as1) (flat_map sp as1 ++ rest) ≡ Ok (front ++ as1, rest)
unfolding list_from
list_again {A} {p} {sp} {P} law admits [] front rest fit h =
    ap (λ (x : List A). done (x, rest)) (sym (append-nil front))
list_again {A} {p} {sp} {P} law admits (a ∷ as1) front rest fit h =
    let regrouped : flat_map sp (a ∷ as1) ++ rest ≡ sp a ++ (flat_map sp as1 ++ rest) =
    ap (λ (x : List ℕ). x ++ rest) (flat_map-cons sp a as1)
    ∙ append_assoc (sp a) (flat_map sp as1) rest in
    ap (list_from p admits front (suc (length as1))) regrouped
    ∙ rw (law.again a (flat_map sp as1 ++ rest) fit.0, h.0)
    (list_again law admits as1 (front ++ a ∷ []) rest fit.1 h.1)
    ∙ ap (λ (x : List A). done (x, rest)) (append_assoc front (a ∷ []) as1)

pub whole_list : {A : Type 0} {p : Decoder A} {sp : A → List ℕ} {P : A → Type 0}
    (law : Lawful p sp P) (admits : List A → A → Bool) (bytes : List ℕ) (n : ℕ) (after : List ℕ)
    (as1 : List A) (rest : List ℕ) → Takes bytes (eight n) after → n < 2 ^ 64
    → Listed sp P admits [] n after as1 rest
    → Takes bytes (eight (length as1) ++ flat_map sp as1) rest × FitsList P admits as1
whole_list {A} {p} {sp} {P} law admits bytes n after as1 rest t lt u =
    let both : Takes bytes (eight (length u.items) ++ flat_map sp u.items) rest =
    subst (λ (k : ℕ). Takes bytes (eight k ++ flat_map sp u.items) rest) (sym u.count_is)
    (Takes-then bytes (eight n) after (flat_map sp u.items) rest t u.takes) in
    let fit : FitsList P admits u.items =
    record { few = omega (arith, u.count_is, lt); fit = u.fit; admitted = u.admitted } in
    subst (λ (l : List A). Takes bytes (eight (length l) ++ flat_map sp l) rest
    × FitsList P admits l) u.whole_is (both, fit)

pub lawful_list : {A : Type 0} {p : Decoder A} {sp : A → List ℕ} {P : A → Type 0} → Lawful p sp P
    → (admits : List A → A → Bool) → Lawful (list_at p admits) (list sp) (FitsList P admits)
unfolding list_at
lawful_list {A} {p} {sp} {P} law admits = record {
  takes = λ bytes as1 rest fits e.
      let n = bind_ok (eight_at bytes) (λ n. list_from p admits [] n.0 n.1) (as1, rest) e in
      let t = lawful_eight.takes bytes n.0.0 n.0.1 fits n.1 in
      let u = list_takes law admits n.0.0 [] n.0.1 as1 rest t.0.rest_fits n.2 in
      whole_list law admits bytes n.0.0 n.0.1 as1 rest t.0 t.1 u;
  again = λ as1 rest h.
      ap (list_at p admits) (append_assoc (eight (length as1)) (flat_map sp as1) rest)
      ∙ rw (lawful_eight.again (length as1) (flat_map sp as1 ++ rest) h.few)
      (list_again law admits as1 [] rest h.fit h.admitted);
}

-- if any item is admitted
pub any_admits : {A : Type 0} (front items : List A) → Admitted any front items
any_admits front [] = tt
any_admits front (a ∷ items) = (refl, any_admits (front ++ a ∷ []) items)

-- a law for what fits in other words
pub lawful_where : {A : Type 0} {p : Decoder A} {sp : A → List ℕ} {P Q : A → Type 0} → Lawful p sp P
    → ((a : A) → P a → Q a) → ((a : A) → Q a → P a) → Lawful p sp Q
lawful_where {A} {p} {sp} {P} {Q} law to from = record {
  takes = λ bytes a rest fits e. let t = law.takes bytes a rest fits e in (t.0, to a t.1);
  again = λ a rest h. law.again a rest (from a h);
}

-- if nothing is asked of the items
pub all_storable : {A : Type 0} (items : List A) → AllByRecursion (λ (a : A). Unit {0}) items
all_storable [] = tt
all_storable (a ∷ items) = (tt, all_storable items)

-- a law for a spelling in other words
pub lawful_as : {A : Type 0} {p : Decoder A} {sp : A → List ℕ} {P : A → Type 0} → Lawful p sp P
    → (sq : A → List ℕ) → ((a : A) → sq a ≡ sp a) → Lawful p sq P
lawful_as {A} {p} {sp} {P} law sq same = record {
  takes =
      λ bytes a rest fits e. let t =
      law.takes bytes a rest fits e in
      (subst (λ (x : List ℕ). Takes bytes x rest) (sym (same a)) t.0, t.1);
  again = λ a rest h. ap (λ (x : List ℕ). p (x ++ rest)) (same a) ∙ law.again a rest h;
}

-- what is made of an item, and can be taken apart again
pub lawful_made : {A B : Type 0} {p : Decoder A} {sp : A → List ℕ} {P : A → Type 0} → Lawful p sp P
    → (make : A → B) (parts : B → A) → ((a : A) → parts (make a) ≡ a)
    → ((b : B) → make (parts b) ≡ b)
    → Lawful (made_at make p) (λ b. sp (parts b)) (λ b. P (parts b))
lawful_made {A} {B} {p} {sp} {P} law make parts there back = record {
  takes = λ bytes b rest fits e.
      let m = made_takes law make bytes b rest fits e in
      let same : m.0 ≡ parts b = sym (there m.0) ∙ ap parts m.1 in
      subst (λ (a : A). Takes bytes (sp a) rest × P a) same (m.2, m.3);
  again =
      λ b rest h. made_again law make (parts b) rest h ∙ ap (λ (x : B). done (x, rest)) (back b);
}

-- behind one more byte
pub takes_behind : (b : ℕ) (bytes text rest : List ℕ) → Takes bytes text rest
    → Takes (b ∷ bytes) (b ∷ text) rest
takes_behind b bytes text rest t =
    record { parts = ap (λ (x : List ℕ). b ∷ x) t.parts; rest_fits = t.rest_fits }

-- nothing was read
pub takes_nothing : (bytes : List ℕ) → IsBytes bytes → Takes bytes [] bytes
takes_nothing bytes fits = record { parts = refl; rest_fits = fits }

chosen : {A : Type 0} (b : Bool) (x y z : A) → cond b x y ≡ z
    → ((b ≡ true) × (x ≡ z)) ⊎ ((b ≡ false) × (y ≡ z))
chosen true x y z e = inl (refl, e)
chosen false x y z e = inr (refl, e)

-- what is found passes the test
pub found_passes : {A : Type 0} (test : A → Bool) (items : List A) (x : A)
    → find test items ≡ Some x → test x ≡ true
found_passes test [] x e = absurd cc
found_passes {A} test (y ∷ items) x e =
    elim (chosen (test y) (Some y) (find test items) (Some x) e) [
      | inl h ↦ subst (λ (z : A). test z ≡ true) (same_Some y x h.1) h.0
      | inr h ↦ found_passes test items x h.1
    ]
