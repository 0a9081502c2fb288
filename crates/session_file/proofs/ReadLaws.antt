-- What is read is spelled there, and each spelling is read back: the parts of a file.
use Rattle.std.proofs.Common.{◌≡◌, ℕ, ◌<◌, ◌≤◌, Bool, true, false, cond, ltb, List, [], ◌∷◌, ◌++◌, length, take, drop, Option, Some, None, Result, Ok, Err, refl, sym, ap, subst, arith}
use Rattle.std.proofs.lemmas.Bool.{ltb-false, le-ltb}
use Rattle.std.proofs.lemmas.List.{take_at, drop_at, take-append-drop, length-append, length-take}
use Rattle.byte_readers.specs.declared.breach.Breach.{Breach}
use Rattle.byte_readers.specs.Lawful.{IsBytes, Takes, Lawful}
use Rattle.byte_readers.specs.Laws.{IsBytes-rest, IsBytes-take, IsBytes-drop, Takes-then}
use Rattle.byte_readers.specs.Spelling.{name}
use Rattle.byte_readers.specs.Reading.{Decoder, byte_at}
use Rattle.session_file.specs.declared.fault.FileFault.{FileFault}
use Rattle.session_file.specs.declared.fault.FileFault.TheVariants.{Truncated}
use Rattle.session_file.specs.Reading.{◌>>=◌, or_truncated, slice_at, short_text_at, there, tested}

abbrev pub done : {A : Type 0} → A → Result A FileFault
done x = Ok x

pub ok_is : {A : Type 0} (x y : A) → done x ≡ done y → x ≡ y
ok_is x y e = cc

-- the value of a step that did not fail
pub bind_ok : {A B : Type 0} (r : Result A FileFault) (f : A → Result B FileFault) (y : B) → (r >>= f) ≡ Ok y → (x : A) × (r ≡ Ok x) × (f x ≡ Ok y)
bind_ok (Ok x) f y e = (x, refl, e)
bind_ok (Err d) f y e = absurd cc

pub bind_is : {A B : Type 0} (r : Result A FileFault) (f : A → Result B FileFault) (x : A) → r ≡ Ok x → (r >>= f) ≡ f x
bind_is r f x e = ap (λ (s : Result _ FileFault). s >>= f) e

-- a test that did not fail
pub guard_ok : {A : Type 0} (b : Bool) (d : FileFault) (r : Result A FileFault) (y : A) → cond b (Err d) r ≡ Ok y → (b ≡ false) × (r ≡ Ok y)
guard_ok true d r y e = absurd cc
guard_ok false d r y e = (refl, e)

pub guard_so : {A : Type 0} (b : Bool) (d : FileFault) (r : Result A FileFault) (y : A) → cond b r (Err d) ≡ Ok y → (b ≡ true) × (r ≡ Ok y)
guard_so true d r y e = (refl, e)
guard_so false d r y e = absurd cc

pub tested_ok : (b : Bool) (fault : FileFault) (u : Unit {0}) → tested b fault ≡ Ok u → b ≡ true
tested_ok true fault u e = refl
tested_ok false fault u e = absurd cc

pub tested_is : (b : Bool) (fault : FileFault) → b ≡ true → tested b fault ≡ Ok tt
tested_is true fault e = refl
tested_is false fault e = absurd cc

pub there_ok : {A : Type 0} (fault : FileFault) (o : Option A) (rest : List ℕ) (a : A) (after : List ℕ) → there fault o rest ≡ Ok (a, after) → (o ≡ Some a) × (rest ≡ after)
there_ok fault None rest a after e = absurd cc
there_ok {A} fault (Some b) rest a after e = let is = ok_is (b, rest) (a, after) e in (ap (λ (x : A × List ℕ). Some x.0) is, ap (λ (x : A × List ℕ). x.1) is)

pub whole_ok : {A : Type 0} (r : Result A Breach) (x : A) → or_truncated r ≡ Ok x → r ≡ Ok x
whole_ok (Ok y) x e = let is : y ≡ x = ok_is y x e in cc
whole_ok (Err b) x e = absurd cc

-- numbers
pub number_takes : {A : Type 0} {p : Decoder A} {sp : A → List ℕ} {P : A → Type 0} → Lawful p sp P → (bytes : List ℕ) (a : A) (rest : List ℕ) → IsBytes bytes → or_truncated (p bytes) ≡ Ok (a, rest) → Takes bytes (sp a) rest × P a
number_takes {A} {p} {sp} {P} law bytes a rest fits e = law.takes bytes a rest fits (whole_ok (p bytes) (a, rest) e)

pub number_again : {A : Type 0} {p : Decoder A} {sp : A → List ℕ} {P : A → Type 0} → Lawful p sp P → (a : A) (rest : List ℕ) → P a → or_truncated (p (sp a ++ rest)) ≡ Ok (a, rest)
number_again {A} {p} {sp} {P} law a rest h = ap or_truncated (law.again a rest h)

pub byte_takes : (bytes : List ℕ) (b : ℕ) (rest : List ℕ) → IsBytes bytes → or_truncated (byte_at bytes) ≡ Ok (b, rest) → Takes bytes (b ∷ []) rest × (b < 256)
byte_takes [] b rest fits e = absurd cc
byte_takes (c ∷ bytes) b rest fits e = subst (λ (x : ℕ × List ℕ). Takes (c ∷ bytes) (x.0 ∷ []) x.1 × (x.0 < 256)) (ok_is (c, bytes) (b, rest) e) (record { parts = refl; rest_fits = IsBytes-rest c bytes fits }, fits 0)

-- so many bytes
pub bytes_takes : (n : ℕ) (bytes xs rest : List ℕ) → IsBytes bytes → slice_at n bytes ≡ Ok (xs, rest) → Takes bytes xs rest × (length xs ≡ n) × IsBytes xs
unfolding slice_at
bytes_takes n bytes xs rest fits e =
    let g = guard_ok (ltb (length bytes) n) Truncated (done (take n bytes, drop n bytes)) (xs, rest) e in
    let le : n ≤ length bytes = ltb-false _ _ g.0 in
    subst (λ (x : List ℕ × List ℕ). Takes bytes x.0 x.1 × (length x.0 ≡ n) × IsBytes x.0) (ok_is (take n bytes, drop n bytes) (xs, rest) g.1)
    (record { parts = sym (take-append-drop n bytes); rest_fits = IsBytes-drop n bytes fits }, omega (arith, length-take n bytes, le), IsBytes-take n bytes fits)

pub bytes_again : (n : ℕ) (xs rest : List ℕ) → length xs ≡ n → slice_at n (xs ++ rest) ≡ Ok (xs, rest)
unfolding slice_at
bytes_again n xs rest h =
    let long : ltb (length (xs ++ rest)) n ≡ false = le-ltb _ _ (omega (arith, length-append xs rest, h)) in
    rw (long, take_at xs rest n h, drop_at xs rest n h) refl

-- a text with one byte of length
pub text_takes : (bytes text rest : List ℕ) → IsBytes bytes → short_text_at bytes ≡ Ok (text, rest) → Takes bytes (name text) rest × (length text < 256)
unfolding short_text_at
text_takes bytes text rest fits e =
    let n = bind_ok (or_truncated (byte_at bytes)) (λ n. slice_at n.0 n.1) (text, rest) e in
    let t = byte_takes bytes n.0.0 n.0.1 fits n.1 in
    let u = bytes_takes n.0.0 n.0.1 text rest t.0.rest_fits n.2 in
    (subst (λ (k : ℕ). Takes bytes (k ∷ text) rest) (sym u.1) (Takes-then bytes (n.0.0 ∷ []) n.0.1 text rest t.0 u.0), omega (arith, u.1, t.1))

pub text_again : (text rest : List ℕ) → short_text_at (name text ++ rest) ≡ Ok (text, rest)
unfolding short_text_at
text_again text rest = bytes_again (length text) text rest refl
