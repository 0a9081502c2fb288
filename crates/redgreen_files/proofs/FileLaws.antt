-- What is read is spelled there, and each spelling is read back.
use Rattle.std.proofs.Common.{◌≡◌, ℕ, zero, suc, ◌-◌, ◌<◌, ◌≤◌, ◌^◌, Bool, true, false, cond, ltb, leb, List, [], ◌∷◌, ◌++◌, length, take, drop, Option, Some, None, Result, Ok, Err, refl, sym, ap, subst, ◌∙◌, append_assoc, arith}
use Rattle.std.specs.Prelude.{bytes_eq}
use Rattle.std.specs.List.{AllByRecursion, flat_map}
use Rattle.std.proofs.lemmas.Bool.{ltb-false, le-ltb, leb-true, le-leb, ltb-true, lt-ltb, and_parts, and_from}
use Rattle.std.proofs.lemmas.List.{take_at, drop_at, take-append-drop, length-append, length-take, append-nil}
use Rattle.std.proofs.lemmas.List.Concat.{flat_map-cons}
use Rattle.std.proofs.lemmas.Slice.Eq.{bytes_eq-Decides}
use Rattle.sha2.specs.Sha256.{sha256}
use Rattle.byte_readers.specs.declared.breach.Breach.{Breach}
use Rattle.byte_readers.specs.Lawful.{IsBytes, Takes}
use Rattle.byte_readers.specs.Laws.{IsBytes-rest, IsBytes-drop, Takes-then, takes_nothing, lawful_eight}
use Rattle.std.proofs.lemmas.Option.{same_Some}
use Rattle.byte_readers.specs.Spelling.{eight, option}
use Rattle.byte_readers.specs.Reading.{eight_at}
use Rattle.redgreen_sessions.specs.declared.record.Mark.{Mark}
use Rattle.redgreen_sessions.specs.declared.record.Mark.TheVariants.{Input, Green, Executed}
use Rattle.redgreen_sessions.specs.Marks.{previous_of}
use Rattle.redgreen_files.specs.declared.fault.FileFault.{FileFault}
use Rattle.redgreen_files.specs.declared.fault.FileFault.TheVariants.{BadMagic, Version, Truncated, NoRoot, RootLength, KeyLength, UnknownMark, BadDigest, Trailing, Device, OutOfMemory}
use Rattle.redgreen_files.specs.declared.reading.files.FiledSession.{FiledSession}
use Rattle.redgreen_files.specs.declared.reading.feed_fault.FeedFault.{FeedFault}
use Rattle.redgreen_files.specs.Feeding.{Took, HasBreach, StopsAs, IsFiled, CountsDevice, as_value, is_device}
use Rattle.redgreen_files.proofs.FeedLaws.{stops_by}
use Rattle.devices.specs.declared.hashing.HashingSink.{HashingSink}
use Rattle.sha2.specs.Hashers.{Holds256}
use Rattle.redgreen_files.specs.Spelling.{RecordValue, FileValue, file_value, text, kind_number, mark, entry, magic, version, body_of, file_of, IsKey, MarkFits, EntryFits, FileFits}
use Rattle.redgreen_files.specs.Reading.{◌>>=◌, Parser, IsUnlessStopped, or_truncated, tested, number_at, slice_at, exact_at, pair_at, made_at, after_number, any_number, many_from, is_key_length, key_at, text_at, mark_with, there, place_after, place_at, mark_at, number_part, reads_at, record_of, record_at, root_at, roots_at, records_at, start_at, head_at, parts_at, session_with, body_at, end_at, file_at}

-- ---- steps

abbrev pub done : {A : Type 0} → A → Result A FileFault
done x = Ok x

pub ok_is : {A : Type 0} (x y : A) → done x ≡ done y → x ≡ y
ok_is x y e = cc

pub bind_ok : {A B : Type 0} (r : Result A FileFault) (f : A → Result B FileFault) (y : B) → (r >>= f) ≡ Ok y → (x : A) × (r ≡ Ok x) × (f x ≡ Ok y)
bind_ok (Ok x) f y e = (x, refl, e)
bind_ok (Err d) f y e = absurd cc

pub tested_ok : (b : Bool) (fault : FileFault) (u : Unit {0}) → tested b fault ≡ Ok u → b ≡ true
tested_ok true fault u e = refl
tested_ok false fault u e = absurd cc

guard_ok : {A : Type 0} (b : Bool) (d : FileFault) (r : Result A FileFault) (y : A) → cond b (Err d) r ≡ Ok y → (b ≡ false) × (r ≡ Ok y)
guard_ok true d r y e = absurd cc
guard_ok false d r y e = (refl, e)

guard_so : {A : Type 0} (b : Bool) (d : FileFault) (r : Result A FileFault) (y : A) → cond b r (Err d) ≡ Ok y → (b ≡ true) × (r ≡ Ok y)
guard_so true d r y e = (refl, e)
guard_so false d r y e = absurd cc

whole_ok : {A : Type 0} (r : Result A Breach) (x : A) → or_truncated r ≡ Ok x → r ≡ Ok x
whole_ok (Ok y) x e = let is : y ≡ x = ok_is y x e in cc
whole_ok (Err b) x e = absurd cc

-- ---- readers and spellings that belong together

pub record Spelled {A : Type 0} (part : Parser A) (spell : A → List ℕ) (Fits : A → Type 0) : Type 0 where
  pub takes : (bytes : List ℕ) (a : A) (rest : List ℕ) → IsBytes bytes → part bytes ≡ Ok (a, rest) → Takes bytes (spell a) rest × Fits a
  pub again : (a : A) (rest : List ℕ) → Fits a → part (spell a ++ rest) ≡ Ok (a, rest)

pub spelled_where : {A : Type 0} {p : Parser A} {sp : A → List ℕ} {P Q : A → Type 0} → Spelled p sp P → ((a : A) → P a → Q a) → ((a : A) → Q a → P a) → Spelled p sp Q
spelled_where law f g = record {
  takes = λ bytes a rest fits e. let t = law.takes bytes a rest fits e in (t.0, f a t.1);
  again = λ a rest h. law.again a rest (g a h);
}

pub spelled_number : Spelled number_at eight (λ n. n < 2 ^ 64)
spelled_number = record {
  takes = λ bytes n rest fits e. lawful_eight.takes bytes n rest fits (whole_ok (eight_at bytes) (n, rest) e);
  again = λ n rest h. ap or_truncated (lawful_eight.again n rest h);
}

slice_takes : (n : ℕ) (bytes xs rest : List ℕ) → IsBytes bytes → slice_at n bytes ≡ Ok (xs, rest) → Takes bytes xs rest × (length xs ≡ n)
unfolding slice_at
slice_takes n bytes xs rest fits e =
    let g = guard_ok (ltb (length bytes) n) Truncated (done (take n bytes, drop n bytes)) (xs, rest) e in
    let le : n ≤ length bytes = ltb-false _ _ g.0 in
    subst (λ (x : List ℕ × List ℕ). Takes bytes x.0 x.1 × (length x.0 ≡ n)) (ok_is (take n bytes, drop n bytes) (xs, rest) g.1)
    (record { parts = sym (take-append-drop n bytes); rest_fits = IsBytes-drop n bytes fits }, omega (arith, length-take n bytes, le))

slice_again : (n : ℕ) (xs rest : List ℕ) → length xs ≡ n → slice_at n (xs ++ rest) ≡ Ok (xs, rest)
unfolding slice_at
slice_again n xs rest h =
    let long : ltb (length (xs ++ rest)) n ≡ false = le-ltb _ _ (omega (arith, length-append xs rest, h)) in
    rw (long, take_at xs rest n h, drop_at xs rest n h) refl

pub spelled_slice : (n : ℕ) → Spelled (slice_at n) (λ xs. xs) (λ xs. length xs ≡ n)
spelled_slice n = record { takes = slice_takes n; again = slice_again n }

exact_takes : (t : List ℕ) (short other : FileFault) (bytes : List ℕ) (u : Unit {0}) (rest : List ℕ) → IsBytes bytes → exact_at t short other bytes ≡ Ok (u, rest) → Takes bytes t rest
unfolding exact_at
exact_takes t short other bytes u rest fits e =
    let n = length t in
    let g = guard_ok (ltb (length bytes) n) short (cond (bytes_eq (take n bytes) t) (done (tt, drop n bytes)) (Err other)) (u, rest) e in
    let h = guard_so (bytes_eq (take n bytes) t) other (done (tt, drop n bytes)) (u, rest) g.1 in
    let front : take n bytes ≡ t = (bytes_eq-Decides (take n bytes) t).0 h.0 in
    let left : drop n bytes ≡ rest = ap (λ (x : Unit {0} × List ℕ). x.1) (ok_is (tt, drop n bytes) (u, rest) h.1) in
    record {
      parts = sym (take-append-drop n bytes) ∙ ap (λ (xs : List ℕ). xs ++ drop n bytes) front ∙ ap (λ (xs : List ℕ). t ++ xs) left;
      rest_fits = subst IsBytes left (IsBytes-drop n bytes fits);
    }

exact_again : (t : List ℕ) (short other : FileFault) (rest : List ℕ) → exact_at t short other (t ++ rest) ≡ Ok (tt, rest)
unfolding exact_at
exact_again t short other rest =
    let long : ltb (length (t ++ rest)) (length t) ≡ false = le-ltb _ _ (omega (arith, length-append t rest)) in
    let same : bytes_eq (take (length t) (t ++ rest)) t ≡ true = (bytes_eq-Decides (take (length t) (t ++ rest)) t).1 (take_at t rest (length t) refl) in
    rw (long, same, drop_at t rest (length t) refl) refl

unit_is : (u : Unit {0}) → tt ≡ u
unit_is tt = refl

pub spelled_exact : (t : List ℕ) (short other : FileFault) → Spelled (exact_at t short other) (λ u. t) (λ u. Unit {0})
spelled_exact t short other = record {
  takes = λ bytes u rest fits e. (exact_takes t short other bytes u rest fits e, tt);
  again = λ u rest h. exact_again t short other rest ∙ ap (λ (v : Unit {0}). done (v, rest)) (unit_is u);
}

pub spelled_pair : {A B : Type 0} {p : Parser A} {q : Parser B} {sp : A → List ℕ} {sq : B → List ℕ} {P : A → Type 0} {Q : B → Type 0} → Spelled p sp P → Spelled q sq Q → Spelled (pair_at p q) (λ x. sp x.0 ++ sq x.1) (λ x. P x.0 × Q x.1)
unfolding pair_at
spelled_pair {A} {B} {p} {q} {sp} {sq} {P} {Q} f g = record {
  takes = λ bytes x rest fits e.
      let a = bind_ok (p bytes) _ (x, rest) e in
      let b = bind_ok (q a.0.1) _ (x, rest) a.2 in
      let ta = f.takes bytes a.0.0 a.0.1 fits a.1 in
      let tb = g.takes a.0.1 b.0.0 b.0.1 ta.0.rest_fits b.1 in
      subst (λ (y : (A × B) × List ℕ). Takes bytes (sp y.0.0 ++ sq y.0.1) y.1 × (P y.0.0 × Q y.0.1)) (ok_is ((a.0.0, b.0.0), b.0.1) (x, rest) b.2)
      (Takes-then bytes (sp a.0.0) a.0.1 (sq b.0.0) b.0.1 ta.0 tb.0, (ta.1, tb.1));
  again = λ x rest h. rw (append_assoc (sp x.0) (sq x.1) rest, f.again x.0 (sq x.1 ++ rest) h.0, g.again x.1 rest h.1) refl;
}

pub spelled_made : {A B : Type 0} {p : Parser A} {sp : A → List ℕ} {P : A → Type 0} → Spelled p sp P → (make : A → B) (of : B → A) → ((a : A) → of (make a) ≡ a) → ((b : B) → make (of b) ≡ b) → Spelled (made_at make p) (λ b. sp (of b)) (λ b. P (of b))
unfolding made_at
spelled_made {A} {B} {p} {sp} {P} f make of back forth = record {
  takes = λ bytes b rest fits e.
      let a = bind_ok (p bytes) _ (b, rest) e in
      let t = f.takes bytes a.0.0 a.0.1 fits a.1 in
      let u : Takes bytes (sp (of (make a.0.0))) a.0.1 × P (of (make a.0.0)) = subst (λ (x : A). Takes bytes (sp x) a.0.1 × P x) (sym (back a.0.0)) t in
      subst (λ (y : B × List ℕ). Takes bytes (sp (of y.0)) y.1 × P (of y.0)) (ok_is (make a.0.0, a.0.1) (b, rest) a.2) u;
  again = λ b rest h. rw (f.again (of b) rest h) (ap (λ (x : B). done (x, rest)) (forth b));
}

pub spelled_after : {A : Type 0} {sp : A → List ℕ} {P : A → Type 0} (admits : ℕ → Bool) (fault : FileFault) (part : ℕ → Parser A) (count : A → ℕ) → ((n : ℕ) → Spelled (part n) sp (λ a. P a × (count a ≡ n))) → Spelled (after_number admits fault part) (λ a. eight (count a) ++ sp a) (λ a. (count a < 2 ^ 64) × (admits (count a) ≡ true) × P a)
unfolding after_number
spelled_after {A} {sp} {P} admits fault part count f = record {
  takes = λ bytes a rest fits e.
      let n = bind_ok (number_at bytes) _ (a, rest) e in
      let s = bind_ok (tested (admits n.0.0) fault) _ (a, rest) n.2 in
      let tn = spelled_number.takes bytes n.0.0 n.0.1 fits n.1 in
      let ta = (f n.0.0).takes n.0.1 a rest tn.0.rest_fits s.2 in
      let is : count a ≡ n.0.0 = ta.1.1 in
      let few : count a < 2 ^ 64 = subst (λ (k : ℕ). k < 2 ^ 64) (sym is) tn.1 in
      let so : admits (count a) ≡ true = ap admits is ∙ tested_ok _ _ s.0 s.1 in
      (subst (λ (k : ℕ). Takes bytes (eight k ++ sp a) rest) (sym is) (Takes-then bytes (eight n.0.0) n.0.1 (sp a) rest tn.0 ta.0), (few, so, ta.1.0));
  again = λ a rest h. rw (append_assoc (eight (count a)) (sp a) rest, spelled_number.again (count a) (sp a ++ rest) h.0, h.1) ((f (count a)).again a rest (h.2, refl));
}

-- ---- so many items

record ManyRead {A : Type 0} (spell : A → List ℕ) (Fits : A → Type 0) (front : List A) (n : ℕ) (bytes : List ℕ) (all : List A) (rest : List ℕ) : Type 0 where
  pub items : List A
  pub whole : front ++ items ≡ all
  pub count : length items ≡ n
  pub takes : Takes bytes (flat_map spell items) rest
  pub fit : AllByRecursion Fits items

module _ {A : Type 0} (part : ℕ → Parser A) (spell : A → List ℕ) (Fits : A → Type 0) (each : (i : ℕ) → Spelled (part i) spell Fits) where
  many_take : (n : ℕ) (front : List A) (bytes : List ℕ) (all : List A) (rest : List ℕ) → IsBytes bytes → many_from part front n bytes ≡ Ok (all, rest) → ManyRead spell Fits front n bytes all rest
  unfolding many_from
  many_take zero front bytes all rest fits e =
      let is = ok_is (front, bytes) (all, rest) e in
      record {
        items = [];
        whole = append-nil front ∙ ap (λ (x : List A × List ℕ). x.0) is;
        count = refl;
        takes = subst (λ (xs : List ℕ). Takes bytes [] xs) (ap (λ (x : List A × List ℕ). x.1) is) (takes_nothing bytes fits);
        fit = tt;
      }
  many_take (suc n) front bytes all rest fits e =
      let a = bind_ok (part (length front) bytes) _ (all, rest) e in
      let t = (each (length front)).takes bytes a.0.0 a.0.1 fits a.1 in
      let u = many_take n (front ++ a.0.0 ∷ []) a.0.1 all rest t.0.rest_fits a.2 in
      record {
        items = a.0.0 ∷ u.items;
        whole = sym (append_assoc front (a.0.0 ∷ []) u.items) ∙ u.whole;
        count = ap (λ (k : ℕ). suc k) u.count;
        takes = rw flat_map-cons (Takes-then bytes (spell a.0.0) a.0.1 (flat_map spell u.items) rest t.0 u.takes);
        fit = (t.1, u.fit);
      }

  many_again : (items front : List A) (rest : List ℕ) → AllByRecursion Fits items → many_from part front (length items) (flat_map spell items ++ rest) ≡ Ok (front ++ items, rest)
  unfolding many_from
  many_again [] front rest h = ap (λ (xs : List A). done (xs, rest)) (sym (append-nil front))
  many_again (a ∷ items) front rest h =
      let regrouped : flat_map spell (a ∷ items) ++ rest ≡ spell a ++ (flat_map spell items ++ rest) = ap (λ (x : List ℕ). x ++ rest) (flat_map-cons spell a items) ∙ append_assoc (spell a) (flat_map spell items) rest in
      ap (many_from part front (suc (length items))) regrouped
      ∙ rw ((each (length front)).again a (flat_map spell items ++ rest) h.0) (many_again items (front ++ a ∷ []) rest h.1)
      ∙ ap (λ (xs : List A). done (xs, rest)) (append_assoc front (a ∷ []) items)

  pub spelled_many : (n : ℕ) → Spelled (many_from part [] n) (flat_map spell) (λ items. AllByRecursion Fits items × (length items ≡ n))
  spelled_many n = record {
    takes = λ bytes all rest fits e.
        let r = many_take n [] bytes all rest fits e in
        subst (λ (xs : List A). Takes bytes (flat_map spell xs) rest × (AllByRecursion Fits xs × (length xs ≡ n))) r.whole (r.takes, (r.fit, r.count));
    again = λ items rest h. subst (λ (k : ℕ). many_from part [] k (flat_map spell items ++ rest) ≡ Ok (items, rest)) h.1 (many_again items [] rest h.0);
  }

-- ---- keys, marks and records

slices : (n : ℕ) → Spelled (slice_at n) (λ xs. xs) (λ xs. Unit {0} × (length xs ≡ n))
slices n = spelled_where (spelled_slice n) (λ xs h. (tt, h)) (λ xs h. h.1)

pub spelled_key : (fault : FileFault) → Spelled (key_at fault) text IsKey
unfolding key_at is_key_length
spelled_key fault =
    spelled_where (spelled_after is_key_length fault slice_at length slices)
    (λ xs h. let b = and_parts (leb 1 (length xs)) (leb (length xs) 65536) h.1 in record { some = leb-true _ _ b.0; few = leb-true _ _ b.1 })
    (λ xs k. (omega (arith, k.few), and_from (leb 1 (length xs)) (leb (length xs) 65536) (le-leb _ _ k.some) (le-leb _ _ k.few), tt))

pub spelled_text : Spelled text_at text (λ xs. length xs < 2 ^ 64)
unfolding text_at
spelled_text = spelled_where (spelled_after any_number Truncated slice_at length slices) (λ xs h. h.0) (λ xs h. (h, refl, tt))

there_ok : {A : Type 0} (fault : FileFault) (o : Option A) (rest : List ℕ) (a : A) (after : List ℕ) → there fault o rest ≡ Ok (a, after) → (o ≡ Some a) × (rest ≡ after)
there_ok fault None rest a after e = absurd cc
there_ok {A} fault (Some b) rest a after e = let is = ok_is (b, rest) (a, after) e in (ap (λ (x : A × List ℕ). Some x.0) is, ap (λ (x : A × List ℕ). x.1) is)

PlaceFits : Option ℕ → Type 0
PlaceFits o = (place : ℕ) → o ≡ Some place → place < 2 ^ 64

place_after_takes : (fault : FileFault) (flag : ℕ) (bytes : List ℕ) (o : Option ℕ) (rest : List ℕ) → IsBytes bytes → place_after fault flag bytes ≡ Ok (o, rest) → Takes (flag ∷ bytes) (option eight o) rest × PlaceFits o
unfolding place_after PlaceFits
place_after_takes fault zero bytes o rest fits e =
    subst (λ (x : Option ℕ × List ℕ). Takes (0 ∷ bytes) (option eight x.0) x.1 × ((place : ℕ) → x.0 ≡ Some place → place < 2 ^ 64)) (ok_is {A = Option ℕ × List ℕ} (None, bytes) (o, rest) e)
    (record { parts = refl; rest_fits = fits }, λ place is. absurd (none_some place is))
  where
    none_some : (place : ℕ) → None ≡ Some place → ⊥
    none_some place is = cc
place_after_takes fault (suc zero) bytes o rest fits e =
    let a = bind_ok (number_at bytes) _ (o, rest) e in
    let t = spelled_number.takes bytes a.0.0 a.0.1 fits a.1 in
    subst (λ (x : Option ℕ × List ℕ). Takes (1 ∷ bytes) (option eight x.0) x.1 × ((place : ℕ) → x.0 ≡ Some place → place < 2 ^ 64)) (ok_is {A = Option ℕ × List ℕ} (Some a.0.0, a.0.1) (o, rest) a.2)
    (record { parts = ap (λ (xs : List ℕ). 1 ∷ xs) t.0.parts; rest_fits = t.0.rest_fits }, λ place is. subst (λ (k : ℕ). k < 2 ^ 64) (same_Some a.0.0 place is) t.1)
place_after_takes fault (suc (suc flag)) bytes o rest fits e = absurd cc

place_takes : (fault : FileFault) (bytes : List ℕ) (o : Option ℕ) (rest : List ℕ) → IsBytes bytes → place_at fault bytes ≡ Ok (o, rest) → Takes bytes (option eight o) rest × PlaceFits o
unfolding place_at
place_takes fault [] o rest fits e = absurd cc
place_takes fault (b ∷ bytes) o rest fits e = place_after_takes fault b bytes o rest (IsBytes-rest b bytes fits) e

place_again : (fault : FileFault) (o : Option ℕ) (rest : List ℕ) → PlaceFits o → place_at fault (option eight o ++ rest) ≡ Ok (o, rest)
unfolding place_at place_after PlaceFits
place_again fault None rest h = refl
place_again fault (Some place) rest h = rw (spelled_number.again place rest (h place refl)) refl

mark_found : (kind : ℕ) (previous : Option ℕ) (m : Mark) → mark_with kind previous ≡ Some m → (kind ≡ kind_number m) × (previous ≡ previous_of m)
unfolding mark_with
mark_found zero previous m e = subst (λ (x : Mark). (0 ≡ kind_number x) × (previous ≡ previous_of x)) (same_Some (Input previous) m e) (refl, refl)
mark_found (suc zero) previous m e = subst (λ (x : Mark). (1 ≡ kind_number x) × (previous ≡ previous_of x)) (same_Some (Executed previous) m e) (refl, refl)
mark_found (suc (suc zero)) None m e = absurd cc
mark_found (suc (suc zero)) (Some place) m e = subst (λ (x : Mark). (2 ≡ kind_number x) × (Some place ≡ previous_of x)) (same_Some (Green place) m e) (refl, refl)
mark_found (suc (suc (suc kind))) previous m e = absurd cc

mark_back : (m : Mark) → mark_with (kind_number m) (previous_of m) ≡ Some m
unfolding mark_with
mark_back (Input previous) = refl
mark_back (Executed previous) = refl
mark_back (Green place) = refl

mark_takes : (i : ℕ) (bytes : List ℕ) (m : Mark) (rest : List ℕ) → IsBytes bytes → mark_at i bytes ≡ Ok (m, rest) → Takes bytes (mark m) rest × MarkFits m
unfolding mark_at mark PlaceFits
mark_takes i [] m rest fits e = absurd cc
mark_takes i (b ∷ bytes) m rest fits e =
    let a = bind_ok (place_at (UnknownMark i) bytes) _ (m, rest) e in
    let t = place_takes (UnknownMark i) bytes a.0.0 a.0.1 (IsBytes-rest b bytes fits) a.1 in
    let h = there_ok (UnknownMark i) (mark_with b a.0.0) a.0.1 m rest a.2 in
    let is = mark_found b a.0.0 m h.0 in
    let u : Takes (b ∷ bytes) (b ∷ option eight a.0.0) a.0.1 = record { parts = ap (λ (xs : List ℕ). b ∷ xs) t.0.parts; rest_fits = t.0.rest_fits } in (
      subst (λ (xs : List ℕ). Takes (b ∷ bytes) (kind_number m ∷ option eight (previous_of m)) xs) h.1
          (subst (λ (o : Option ℕ). Takes (b ∷ bytes) (kind_number m ∷ option eight o) a.0.1) is.1 (subst (λ (k : ℕ). Takes (b ∷ bytes) (k ∷ option eight a.0.0) a.0.1) is.0 u)),
      record { place = subst (λ (o : Option ℕ). (place : ℕ) → o ≡ Some place → place < 2 ^ 64) is.1 t.1 },
    )

mark_again : (i : ℕ) (m : Mark) (rest : List ℕ) → MarkFits m → mark_at i (mark m ++ rest) ≡ Ok (m, rest)
unfolding mark_at mark PlaceFits
mark_again i m rest h = rw (place_again (UnknownMark i) (previous_of m) rest h.place, mark_back m) refl

pub spelled_mark : (i : ℕ) → Spelled (mark_at i) mark MarkFits
spelled_mark i = record { takes = mark_takes i; again = mark_again i }

spelled_reads : Spelled reads_at (λ xs. eight (length xs) ++ flat_map eight xs) (λ xs. (length xs < 2 ^ 64) × AllByRecursion (λ n. n < 2 ^ 64) xs)
unfolding reads_at number_part
spelled_reads =
    spelled_where (spelled_after any_number Truncated (many_from number_part []) length (spelled_many number_part eight (λ n. n < 2 ^ 64) (λ i. spelled_number)))
    (λ xs h. (h.0, h.2)) (λ xs h. (h.0, refl, h.1))

parts_of : RecordValue → ((List ℕ × Mark) × List ℕ) × List ℕ
parts_of r = (((r.key, r.mark), r.reads), r.value)

pub spelled_record : (i : ℕ) → Spelled (record_at i) entry EntryFits
unfolding record_at parts_of
spelled_record i =
    spelled_where (spelled_made (spelled_pair (spelled_pair (spelled_pair (spelled_key (KeyLength i)) (spelled_mark i)) spelled_reads) spelled_text) record_of parts_of (λ _. refl) (λ _. refl))
    (λ r h. record { key = h.0.0.0; mark = h.0.0.1; few = h.0.1.0; reads = h.0.1.1; value = h.1 })
    (λ r h. (((h.key, h.mark), (h.few, h.reads)), h.value))

-- ---- the file

spelled_roots : Spelled roots_at (λ xs. eight (length xs) ++ flat_map text xs) (λ xs. (length xs < 2 ^ 64) × (0 < length xs) × AllByRecursion IsKey xs)
unfolding roots_at root_at
spelled_roots =
    spelled_where (spelled_after (ltb 0) NoRoot (many_from root_at []) length (spelled_many root_at text IsKey (λ i. spelled_key (RootLength i))))
    (λ xs h. (h.0, ltb-true _ _ h.1, h.2)) (λ xs h. (h.0, lt-ltb _ _ h.1, h.2))

spelled_records : Spelled records_at (λ xs. eight (length xs) ++ flat_map entry xs) (λ xs. (length xs < 2 ^ 64) × AllByRecursion EntryFits xs)
unfolding records_at
spelled_records =
    spelled_where (spelled_after any_number Truncated (many_from record_at []) length (spelled_many record_at entry EntryFits spelled_record))
    (λ xs h. (h.0, h.2)) (λ xs h. (h.0, refl, h.1))

split_of : FileValue → ((((Unit {0} × Unit {0}) × ℕ) × List ℕ) × List (List ℕ)) × List RecordValue
split_of s = (((((tt, tt), s.number), s.link), s.roots), s.records)

split_back : (x : ((((Unit {0} × Unit {0}) × ℕ) × List ℕ) × List (List ℕ)) × List RecordValue) → split_of (session_with x) ≡ x
unfolding split_of
split_back (((((u, v), n), l), rs), xs) =
    subst (λ (w : Unit {0}). split_of (session_with (((((u, v), n), l), rs), xs)) ≡ (((((w, v), n), l), rs), xs)) (unit_is u)
    (subst (λ (w : Unit {0}). split_of (session_with (((((u, v), n), l), rs), xs)) ≡ (((((tt, w), n), l), rs), xs)) (unit_is v) refl)

pub spelled_body : Spelled body_at body_of FileFits
unfolding body_at body_of split_of parts_at head_at start_at
spelled_body =
    spelled_where (spelled_made (spelled_pair (spelled_pair (spelled_pair (spelled_pair (spelled_pair (spelled_exact magic BadMagic BadMagic) (spelled_exact version Truncated Version)) spelled_number) (spelled_slice 32)) spelled_roots) spelled_records) session_with split_of split_back (λ _. refl))
    (λ s h. record { number = h.0.0.0.1; link = h.0.0.1; some = h.0.1.1; few_roots = h.0.1.0; roots = h.0.1.2; few = h.1.0; records = h.1.1 })
    (λ s h. (((((tt, tt), h.number), h.link), (h.few_roots, h.some, h.roots)), (h.few, h.records)))

-- what is in front of the rest
pub front_is : (bytes body rest : List ℕ) → bytes ≡ body ++ rest → take (length bytes - length rest) bytes ≡ body
front_is bytes body rest is =
    let n : length bytes - length rest ≡ length body = omega (arith, ap (λ (xs : List ℕ). length xs) is, length-append body rest) in
    ap (λ (k : ℕ). take k bytes) n ∙ ap (λ (xs : List ℕ). take (length body) xs) is ∙ take_at body rest (length body) refl

nothing : (xs : List ℕ) → length xs ≤ 0 → xs ≡ []
nothing [] le = refl
nothing (x ∷ xs) le = absurd (omega (arith, le))

end_takes : (digest bytes : List ℕ) (u : Unit {0}) → IsBytes bytes → end_at digest bytes ≡ Ok u → bytes ≡ digest
unfolding end_at
end_takes digest bytes u fits e =
    let a = bind_ok (exact_at digest Truncated BadDigest bytes) _ u e in
    let t = exact_takes digest Truncated BadDigest bytes a.0.0 a.0.1 fits a.1 in
    let none : a.0.1 ≡ [] = nothing a.0.1 (leb-true _ _ (tested_ok _ _ u a.2)) in
    t.parts ∙ ap (λ (xs : List ℕ). digest ++ xs) none ∙ append-nil digest

end_again : (digest : List ℕ) → end_at digest digest ≡ Ok tt
unfolding end_at
end_again digest = ap (λ (r : Result (Unit {0} × List ℕ) FileFault). r >>= λ end. tested (leb (length end.1) 0) Trailing) (ap (exact_at digest Truncated BadDigest) (sym (append-nil digest)) ∙ exact_again digest Truncated BadDigest [])

-- what is read is a session that has a file, and the bytes are it
pub file_takes : (bytes : List ℕ) (s : FileValue) → IsBytes bytes → file_at bytes ≡ Ok s → FileFits s × (bytes ≡ file_of s)
unfolding file_at file_of
file_takes bytes s fits e =
    let b = bind_ok (body_at bytes) _ s e in
    let d = bind_ok (end_at (sha256 (take (length bytes - length b.0.1) bytes)) b.0.1) _ s b.2 in
    let t = spelled_body.takes bytes b.0.0 b.0.1 fits b.1 in
    let front = front_is bytes (body_of b.0.0) b.0.1 t.0.parts in
    let end = end_takes (sha256 (take (length bytes - length b.0.1) bytes)) b.0.1 d.0 t.0.rest_fits d.1 in
    let whole : bytes ≡ body_of b.0.0 ++ sha256 (body_of b.0.0) = t.0.parts ∙ ap (λ (xs : List ℕ). body_of b.0.0 ++ xs) (end ∙ ap sha256 front) in
    subst (λ (x : FileValue). FileFits x × (bytes ≡ body_of x ++ sha256 (body_of x))) (ok_is b.0.0 s d.2) (t.1, whole)

-- the file of such a session is read
pub file_again : (s : FileValue) → FileFits s → file_at (file_of s) ≡ Ok s
unfolding file_at file_of
file_again s fits =
    let body = body_of s in
    let front : take (length (body ++ sha256 body) - length (sha256 body)) (body ++ sha256 body) ≡ body = front_is (body ++ sha256 body) body (sha256 body) refl in
    rw (spelled_body.again s (sha256 body) fits, front, end_again (sha256 body)) refl

-- ---- what was read from a feed

no_bytes : IsBytes []
no_bytes i = omega arith

module _ {old mid : List ℕ → Type 0} {x y : HashingSink} (v : FileValue) (took : Took old mid x y body_at v) where
  -- the part that was taken is the body
  body_part : (took.part ≡ body_of v) × FileFits v
  body_part =
      let e : body_at took.part ≡ Ok (v, []) = ap body_at (sym (append-nil took.part)) ∙ took.reads [] in
      let t = spelled_body.takes took.part v [] took.moved.fits e in
      (t.0.parts ∙ append-nil (body_of v), t.1)

  pub body_hashed : Holds256 x.hasher [] → Holds256 y.hasher (body_of v)
  body_hashed h = subst (Holds256 y.hasher) body_part.0 (took.moved.hashed [] h)

  pub file_fits : FileFits v
  file_fits = body_part.1

  pub file_found : ((bytes : List ℕ) → mid bytes → bytes ≡ sha256 (body_of v)) → (bytes : List ℕ) → old bytes → bytes ≡ file_of v
  unfolding file_of
  file_found ends bytes has =
      let l = took.moved.given.left bytes has in
      l.whole ∙ ap (λ (xs : List ℕ). xs ++ l.rest) body_part.0 ∙ ap (λ (xs : List ℕ). body_of v ++ xs) (ends l.rest l.holds)

  end_breaks : (fault : FileFault) → HasBreach mid (end_at (sha256 (body_of v))) fault → HasBreach old file_at fault
  unfolding file_at
  end_breaks fault b = record {
    breach = λ bytes has.
        let l = took.moved.given.left bytes has in
        let at : body_at bytes ≡ Ok (v, l.rest) = ap body_at l.whole ∙ took.reads l.rest in
        let front : take (length bytes - length l.rest) bytes ≡ body_of v = front_is bytes (body_of v) l.rest (l.whole ∙ ap (λ (xs : List ℕ). xs ++ l.rest) body_part.0) in
        rw (at, front, b.breach l.rest l.holds) refl;
  }

  pub end_halts : (stop : FeedFault) → StopsAs mid stop (end_at (sha256 (body_of v))) → StopsAs old stop file_at
  end_halts stop h = stops_by stop h end_breaks

body_breaks : (old : List ℕ → Type 0) (fault : FileFault) → HasBreach old body_at fault → HasBreach old file_at fault
unfolding file_at
body_breaks old fault b = record { breach = λ bytes has. rw (b.breach bytes has) refl }

pub body_halts : (old : List ℕ → Type 0) (stop : FeedFault) → StopsAs old stop body_at → StopsAs old stop file_at
body_halts old stop h = stops_by stop h (body_breaks old)

pub file_digest : (v : FileValue) → sha256 (body_of v ++ sha256 (body_of v)) ≡ sha256 (file_of v)
unfolding file_of
file_digest v = refl

-- ---- of a session that was read

unless : (r : Result FileValue FileFault) (answer : Result FileValue FileFault) → r ≡ answer → IsUnlessStopped r answer
unless (Ok v) answer e = e
unless (Err BadMagic) answer e = e
unless (Err Version) answer e = e
unless (Err Truncated) answer e = e
unless (Err NoRoot) answer e = e
unless (Err (RootLength i)) answer e = e
unless (Err (KeyLength i)) answer e = e
unless (Err (UnknownMark i)) answer e = e
unless (Err BadDigest) answer e = e
unless (Err Trailing) answer e = e
unless (Err Device) answer e = tt
unless (Err OutOfMemory) answer e = tt

pub filed_exact : (old : List ℕ → Type 0) (filed : FiledSession) → IsFiled old filed → (bytes : List ℕ) → old bytes → IsUnlessStopped (as_value (Ok filed)) (file_at bytes)
filed_exact old filed h bytes has = sym (ap file_at (h.found bytes has) ∙ file_again (file_value filed.session) h.fits)

pub filed_only : (old : List ℕ → Type 0) (filed : FiledSession) → IsFiled old filed → (s : FileValue) → FileFits s → old (file_of s) → IsUnlessStopped (as_value (Ok filed)) (Ok s)
filed_only old filed h s fits has = filed_exact old filed h (file_of s) has ∙ file_again s fits

pub breach_exact : (old : List ℕ → Type 0) (fault : FileFault) → HasBreach old file_at fault → (bytes : List ℕ) → old bytes → IsUnlessStopped (as_value (Err fault)) (file_at bytes)
breach_exact old fault b bytes has = unless (Err fault) (file_at bytes) (sym (b.breach bytes has))

pub breach_only : (old : List ℕ → Type 0) (fault : FileFault) → HasBreach old file_at fault → (s : FileValue) → FileFits s → old (file_of s) → IsUnlessStopped (as_value (Err fault)) (Ok s)
breach_only old fault b s fits has = let no : Err fault ≡ Ok s = sym (b.breach (file_of s) has) ∙ file_again s fits in absurd (other s fault no)
  where
    other : (s : FileValue) (fault : FileFault) → Err fault ≡ Ok s → ⊥
    other s fault e = cc

pub counts_other : (fault : FileFault) (old new : ℕ) → (is_device fault ≡ false) × (new ≡ old) → CountsDevice {A = FiledSession} (Err fault) old new
counts_other fault old new h = rw h.0 h.1
