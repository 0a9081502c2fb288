-- What is read from a feed, step by step.
use Rattle.std.proofs.Common.{◌≡◌, ℕ, suc, ◌+◌, ◌-◌, ◌<◌, ◌≤◌, inl, inr, false, ltb, List, [], ◌∷◌, ◌++◌, length, take, drop, get_or, Result, Ok, Err, refl, sym, ap, subst, ◌∙◌, append_assoc, arith}
use Rattle.std.specs.Int.{Width, w16, w32, w64, byte_len, from_be_bytes}
use Rattle.byteorder.specs.Endian.{big_number}
use Rattle.byte_readers.proofs.Numbers.{two_is, four_is, eight_is}
use Rattle.std.proofs.lemmas.Bool.{cases_lt, le-ltb, lt-ltb}
use Rattle.std.proofs.lemmas.List.{take_at, drop_at, length-append, get_or-append_right, append-nil, take-append-drop, take-append-le, length-take-le}
use Rattle.std.proofs.Math.ListN.{get_or-append}
use borrow.Rule.Slice.PartMut.{put_mid, post_of}
use Rattle.session_file.specs.Hashing.{HashHolds}
use Rattle.byte_readers.specs.Lawful.{IsBytes}
use Rattle.byte_readers.specs.Reading.{byte_at, number_at, two_at, four_at, eight_at}
use Rattle.session_file.specs.declared.fault.FileFault.{FileFault}
use Rattle.session_file.specs.declared.fault.FileFault.TheVariants.{Truncated}
use Rattle.session_file.specs.declared.reading.body_hash.BodyHash.{BodyHash}
use Rattle.session_file.specs.declared.reading.feed_fault.FeedFault.{FeedFault}
use Rattle.session_file.specs.declared.reading.feed_fault.FeedFault.TheVariants as faults
use Rattle.devices.specs.Devices.{MovesBytes}
use Rattle.session_file.specs.Reading.{Parser, or_truncated, slice_at, short_text_at}
use Rattle.session_file.specs.Feeding.{Given, IsShorter, FillsNot, Moved, Took, HasBreach, StopsAs, Leads}

pub bytes_both : (p q : List ℕ) → IsBytes p → IsBytes q → IsBytes (p ++ q)
bytes_both p q hp hq i =
    elim (cases_lt i (length p)) [
      | inl lt ↦ rw (get_or-append p q 0 i lt) (hp i)
      | inr le ↦ rw (get_or-append_right p q (length p) i 0 refl le) (hq (i - length p))
    ]

pub given_then : {a b c : List ℕ → Type 0} {p q : List ℕ} → Given a b p → Given b c q → Given a c (p ++ q)
given_then {a} {b} {c} {p} {q} f g = record {
  left = λ bytes h.
      let x = f.left bytes h in
      let y = g.left x.rest x.holds in
      record {
        rest = y.rest;
        whole = x.whole ∙ ap (λ (xs : List ℕ). p ++ xs) y.whole ∙ sym (append_assoc p q y.rest);
        holds = y.holds;
      };
}

pub moved_none : (a : List ℕ → Type 0) (h : BodyHash) → Moved a a h h []
moved_none a h = record {
  fits = λ i. omega arith;
  given = record { left = λ bytes has. record { rest = bytes; whole = refl; holds = has } };
  hashed = λ front is. subst (λ (xs : List ℕ). HashHolds h xs) (sym (append-nil front)) is;
}

pub moved_then : {a b c : List ℕ → Type 0} {x y z : BodyHash} {p q : List ℕ} → Moved a b x y p → Moved b c y z q → Moved a c x z (p ++ q)
moved_then {a} {b} {c} {x} {y} {z} {p} {q} f g = record {
  fits = bytes_both p q f.fits g.fits;
  given = given_then f.given g.given;
  hashed = λ front h. subst (λ (xs : List ℕ). HashHolds z xs) (append_assoc front p q) (g.hashed (front ++ p) (f.hashed front h));
}

-- what was read, by the bytes that were held
pub record At {A : Type 0} (new : List ℕ → Type 0) (step : Parser A) (a : A) (bytes : List ℕ) : Type 0 where
  pub rest : List ℕ
  pub is : step bytes ≡ Ok (a, rest)
  pub holds : new rest

pub took_at : {A : Type 0} {old new : List ℕ → Type 0} {g h : BodyHash} {step : Parser A} {a : A} → Took old new g h step a → (bytes : List ℕ) → old bytes → At new step a bytes
took_at {A} {old} {new} {g} {h} {step} {a} took bytes has =
    let l = took.moved.given.left bytes has in
    record { rest = l.rest; is = ap step l.whole ∙ took.reads l.rest; holds = l.holds }

pub stops_by : {A B : Type 0} {old mid : List ℕ → Type 0} {p : List ℕ → Result A FileFault} {q : List ℕ → Result B FileFault} (stop : FeedFault) → StopsAs mid stop p → ((fault : FileFault) → HasBreach mid p fault → HasBreach old q fault) → StopsAs old stop q
stops_by faults.Memory h f = tt
stops_by faults.Device h f = tt
stops_by (faults.Breach fault) h f = f fault h

pub stops_short : {B : Type 0} {old mid : List ℕ → Type 0} {count : ℕ} {q : List ℕ → Result B FileFault} (stop : FeedFault) → FillsNot mid count stop → (IsShorter mid count → HasBreach old q Truncated) → StopsAs old stop q
stops_short faults.Memory h f = tt
stops_short faults.Device h f = tt
stops_short {B} {old} {mid} {count} {q} (faults.Breach fault) h f = subst (HasBreach old q) (sym h.0) (f h.1)

-- ---- numbers

number_reads : (w : Width) (part rest : List ℕ) → length part ≡ byte_len w → or_truncated (number_at w (part ++ rest)) ≡ Ok (from_be_bytes w part, rest)
number_reads w part rest len =
    let long : ltb (length (part ++ rest)) (byte_len w) ≡ false = le-ltb _ _ (omega (arith, length-append part rest, len)) in
    rw (long, take_at part rest (byte_len w) len, drop_at part rest (byte_len w) len) refl

number_ends : (w : Width) (bytes : List ℕ) → length bytes < byte_len w → or_truncated (number_at w bytes) ≡ Err Truncated
number_ends w bytes lt = rw (lt-ltb _ _ lt) refl

pub eight_took : {old new : List ℕ → Type 0} {g h : BodyHash} {part : List ℕ} (n : ℕ) → Moved old new g h part → length part ≡ 8 → n ≡ big_number 8 part → Took old new g h (λ bytes. or_truncated (eight_at bytes)) n
unfolding eight_at
eight_took {old} {new} {g} {h} {part} n moved len is = record { part = part; moved = moved; reads = λ rest. rw (is, eight_is part) (number_reads w64 part rest len) }

pub eight_stops : (old : List ℕ → Type 0) (stop : FeedFault) → FillsNot old 8 stop → StopsAs old stop (λ bytes. or_truncated (eight_at bytes))
unfolding eight_at
eight_stops old stop h = stops_short stop h (λ s. record { breach = λ bytes has. number_ends w64 bytes (s.short bytes has) })

pub four_took : {old new : List ℕ → Type 0} {g h : BodyHash} {part : List ℕ} (n : ℕ) → Moved old new g h part → length part ≡ 4 → n ≡ big_number 4 part → Took old new g h (λ bytes. or_truncated (four_at bytes)) n
unfolding four_at
four_took {old} {new} {g} {h} {part} n moved len is = record { part = part; moved = moved; reads = λ rest. rw (is, four_is part) (number_reads w32 part rest len) }

pub four_stops : (old : List ℕ → Type 0) (stop : FeedFault) → FillsNot old 4 stop → StopsAs old stop (λ bytes. or_truncated (four_at bytes))
unfolding four_at
four_stops old stop h = stops_short stop h (λ s. record { breach = λ bytes has. number_ends w32 bytes (s.short bytes has) })

pub two_took : {old new : List ℕ → Type 0} {g h : BodyHash} {part : List ℕ} (n : ℕ) → Moved old new g h part → length part ≡ 2 → n ≡ big_number 2 part → Took old new g h (λ bytes. or_truncated (two_at bytes)) n
unfolding two_at
two_took {old} {new} {g} {h} {part} n moved len is = record { part = part; moved = moved; reads = λ rest. rw (is, two_is part) (number_reads w16 part rest len) }

pub two_stops : (old : List ℕ → Type 0) (stop : FeedFault) → FillsNot old 2 stop → StopsAs old stop (λ bytes. or_truncated (two_at bytes))
unfolding two_at
two_stops old stop h = stops_short stop h (λ s. record { breach = λ bytes has. number_ends w16 bytes (s.short bytes has) })

one_byte : (part : List ℕ) (n : ℕ) → length part ≡ 1 → n ≡ get_or part 0 0 → part ≡ n ∷ []
one_byte [] n len is = absurd (omega (arith, len))
one_byte (b ∷ []) n len is = ap (λ (x : ℕ). x ∷ []) (sym is)
one_byte (b ∷ c ∷ bytes) n len is = absurd (omega (arith, len))

no_bytes : (bytes : List ℕ) → length bytes < 1 → or_truncated (byte_at bytes) ≡ Err Truncated
no_bytes [] lt = refl
no_bytes (b ∷ bytes) lt = absurd (omega (arith, lt))

pub byte_took : {old new : List ℕ → Type 0} {g h : BodyHash} {part : List ℕ} (n : ℕ) → Moved old new g h part → length part ≡ 1 → n ≡ get_or part 0 0 → Took old new g h (λ bytes. or_truncated (byte_at bytes)) n
byte_took {old} {new} {g} {h} {part} n moved len is = record { part = n ∷ []; moved = subst (Moved old new g h) (one_byte part n len is) moved; reads = λ rest. refl }

pub byte_stops : (old : List ℕ → Type 0) (stop : FeedFault) → FillsNot old 1 stop → StopsAs old stop (λ bytes. or_truncated (byte_at bytes))
byte_stops old stop h = stops_short stop h (λ s. record { breach = λ bytes has. no_bytes bytes (s.short bytes has) })

-- ---- so many bytes

pub bytes_reads : (n : ℕ) (part rest : List ℕ) → length part ≡ n → slice_at n (part ++ rest) ≡ Ok (part, rest)
unfolding slice_at
bytes_reads n part rest len =
    let long : ltb (length (part ++ rest)) n ≡ false = le-ltb _ _ (omega (arith, length-append part rest, len)) in
    rw (long, take_at part rest n len, drop_at part rest n len) refl

pub bytes_end : (n : ℕ) (bytes : List ℕ) → length bytes < n → slice_at n bytes ≡ Err Truncated
unfolding slice_at
bytes_end n bytes lt = rw (lt-ltb _ _ lt) refl

pub bytes_took : {old new : List ℕ → Type 0} {g h : BodyHash} {part : List ℕ} (n : ℕ) → Moved old new g h part → length part ≡ n → Took old new g h (slice_at n) part
bytes_took {old} {new} {g} {h} {part} n moved len = record { part = part; moved = moved; reads = λ rest. bytes_reads n part rest len }

pub bytes_stops : (old : List ℕ → Type 0) (n : ℕ) (stop : FeedFault) → FillsNot old n stop → StopsAs old stop (slice_at n)
bytes_stops old n stop h = stops_short stop h (λ s. record { breach = λ bytes has. bytes_end n bytes (s.short bytes has) })

-- if some of them were taken before
pub bytes_stop_behind : {old mid : List ℕ → Type 0} {g h : BodyHash} {part : List ℕ} (n m : ℕ) (stop : FeedFault) → Moved old mid g h part → length part + m ≤ n → FillsNot mid m stop → StopsAs old stop (slice_at n)
bytes_stop_behind {old} {mid} {g} {h} {part} n m stop moved le f =
    stops_short stop f (λ s. record {
      breach = λ bytes has.
          let l = moved.given.left bytes has in
          bytes_end n bytes (omega (arith, s.short l.rest l.holds, le, ap (λ (xs : List ℕ). length xs) l.whole, length-append part l.rest));
    })

-- ---- a text

pub text_took : {old mid new : List ℕ → Type 0} {g h k : BodyHash} {part : List ℕ} (n : ℕ) → Took old mid g h (λ bytes. or_truncated (byte_at bytes)) n → Moved mid new h k part → length part ≡ n → Took old new g k short_text_at part
unfolding short_text_at
text_took {old} {mid} {new} {g} {h} {k} {part} n took moved len = record {
  part = took.part ++ part;
  moved = moved_then took.moved moved;
  reads = λ rest. rw (append_assoc took.part part rest, took.reads (part ++ rest)) (bytes_reads n part rest len);
}

pub text_stops_first : (old : List ℕ → Type 0) (stop : FeedFault) → StopsAs old stop (λ bytes. or_truncated (byte_at bytes)) → StopsAs old stop short_text_at
unfolding short_text_at
text_stops_first old stop h = stops_by stop h (λ fault b. record { breach = λ bytes has. rw (b.breach bytes has) refl })

pub text_stops : {old mid : List ℕ → Type 0} {g h : BodyHash} (n : ℕ) (stop : FeedFault) → Took old mid g h (λ bytes. or_truncated (byte_at bytes)) n → FillsNot mid n stop → StopsAs old stop short_text_at
unfolding short_text_at
text_stops n stop took f =
    stops_short stop f (λ s. record {
      breach = λ bytes has.
          let a = took_at took bytes has in
          rw a.is (bytes_end n a.rest (s.short a.rest a.holds));
    })

-- ---- filling a room

take_both : (p ys : List ℕ) (a n : ℕ) → length p ≡ a → take (a + n) (p ++ ys) ≡ p ++ take n ys
take_both [] ys a n len = let z : a + n ≡ n = omega (arith, len) in rw z refl
take_both (x ∷ p) ys a n len =
    let is : a + n ≡ suc (length p + n) = omega (arith, len) in
    rw is (ap (λ (xs : List ℕ). x ∷ xs) (take_both p ys (length p) n refl))

filled : (room sub : List ℕ) (a k n : ℕ) → a ≤ length room → n ≤ length sub → take (a + n) (put_mid a k room sub) ≡ take a room ++ take n sub
filled room sub a k n le_a le_n =
    take_both (take a room) (sub ++ post_of a k room) a n (length-take-le a room le_a)
    ∙ ap (λ (xs : List ℕ). take a room ++ xs) (take-append-le n sub (post_of a k room) le_n)

pub given_more : {a b : List ℕ → Type 0} (room : List ℕ) (at : ℕ) (c : List ℕ → Type 0) (before sub : List ℕ) (k n : ℕ) → Given a b (take at room) → ((bytes : List ℕ) → b bytes → MovesBytes c bytes before sub n) → at ≤ length room → n ≤ length sub → Given a c (take (at + n) (put_mid at k room sub))
given_more {a} {b} room at c before sub k n f moves le_at le_n = record {
  left = λ bytes h.
      let x = f.left bytes h in
      let m = moves x.rest x.holds in
      let cut : x.rest ≡ take n sub ++ drop n x.rest = sym (take-append-drop n x.rest) ∙ ap (λ (xs : List ℕ). xs ++ drop n x.rest) (sym m.moved) in
      record {
        rest = drop n x.rest;
        whole = x.whole ∙ ap (λ (xs : List ℕ). take at room ++ xs) cut ∙ sym (append_assoc (take at room) (take n sub) (drop n x.rest)) ∙ ap (λ (xs : List ℕ). xs ++ drop n x.rest) (sym (filled room sub at k n le_at le_n));
        holds = m.left;
      };
}

-- ---- one after the other

pub leads_none : {A : Type 0} (a : List ℕ → Type 0) (x : BodyHash) (p : List ℕ → Result A FileFault) → Leads a a x x p p
leads_none a x p = record { part = []; moved = moved_none a x; leads = λ rest. refl }

pub leads_step : {A B : Type 0} {a b c : List ℕ → Type 0} {x y z : BodyHash} {p q : List ℕ → Result A FileFault} {step : Parser B} {v : B} (r : List ℕ → Result A FileFault) → Leads a b x y p q → Took b c y z step v → ((bytes rest : List ℕ) → step bytes ≡ Ok (v, rest) → q bytes ≡ r rest) → Leads a c x z p r
leads_step {A} {B} {a} {b} {c} {x} {y} {z} {p} {q} r f t h = record {
  part = f.part ++ t.part;
  moved = moved_then f.moved t.moved;
  leads = λ rest. ap p (append_assoc f.part t.part rest) ∙ f.leads (t.part ++ rest) ∙ h (t.part ++ rest) rest (t.reads rest);
}

pub leads_done : {A : Type 0} {a b : List ℕ → Type 0} {x y : BodyHash} {p : Parser A} {q : Parser A} (v : A) → Leads a b x y p q → ((rest : List ℕ) → q rest ≡ Ok (v, rest)) → Took a b x y p v
leads_done v f h = record { part = f.part; moved = f.moved; reads = λ rest. f.leads rest ∙ h rest }

pub leads_breaks : {A : Type 0} {a b : List ℕ → Type 0} {x y : BodyHash} {p q : List ℕ → Result A FileFault} {fault : FileFault} → Leads a b x y p q → HasBreach b q fault → HasBreach a p fault
leads_breaks {A} {a} {b} {x} {y} {p} f h = record {
  breach = λ bytes has.
      let l = f.moved.given.left bytes has in
      ap p l.whole ∙ f.leads l.rest ∙ h.breach l.rest l.holds;
}

pub leads_halts : {A B : Type 0} {a b : List ℕ → Type 0} {x y : BodyHash} {p q : List ℕ → Result A FileFault} {step : List ℕ → Result B FileFault} (stop : FeedFault) → Leads a b x y p q → StopsAs b stop step → ((bytes : List ℕ) (fault : FileFault) → step bytes ≡ Err fault → q bytes ≡ Err fault) → StopsAs a stop p
leads_halts stop f h k = stops_by stop h (λ fault e. leads_breaks f (record { breach = λ bytes has. k bytes fault (e.breach bytes has) }))
