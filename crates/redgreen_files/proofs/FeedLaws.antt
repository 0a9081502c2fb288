-- What is read from a feed, step by step.
use Rattle.std.proofs.Common.{◌≡◌, ℕ, zero, suc, leb, Option, Some, None, ◌+◌, ◌-◌, ◌<◌, ◌≤◌, inl, inr, Bool, true, false, ltb, List, [], ◌∷◌, ◌++◌, length, take, drop, get_or, Result, Ok, Err, refl, sym, ap, subst, ◌∙◌, append_assoc, arith}
use Rattle.std.specs.Int.{Width, w64, byte_len, from_be_bytes}
use Rattle.byteorder.specs.Endian.{big_number}
use Rattle.byte_readers.proofs.Numbers.{eight_is}
use Rattle.std.proofs.lemmas.Bool.{cases_lt, le-ltb, lt-ltb, leb-true}
use Rattle.std.proofs.lemmas.List.{take_at, drop_at, length-append, get_or-append_right, append-nil, take-append-drop, take-append-le, length-take-le}
use Rattle.std.specs.Prelude.{bytes_eq}
use Rattle.std.proofs.lemmas.Slice.Eq.{bytes_eq-Decides}
use Rattle.std.proofs.Math.ListN.{get_or-append}
use borrow.Rule.Slice.PartMut.{put_mid, post_of}
use Rattle.sha2.specs.Hashers.{Holds256}
use Rattle.byte_readers.specs.Lawful.{IsBytes}
use Rattle.byte_readers.specs.Reading.{byte_at, eight_at}
use Rattle.byte_readers.specs.Reading as numbers
use Rattle.redgreen_files.specs.declared.fault.FileFault.{FileFault}
use Rattle.redgreen_files.specs.declared.fault.FileFault.TheVariants.{Truncated, UnknownMark, BadDigest, Trailing}
use Rattle.devices.specs.declared.hashing.HashingSink.{HashingSink}
use Rattle.redgreen_files.specs.declared.reading.feed_fault.FeedFault.{FeedFault}
use Rattle.redgreen_files.specs.declared.reading.feed_fault.FeedFault.TheVariants as faults
use Rattle.devices.specs.Devices.{MovesBytes}
use Rattle.redgreen_sessions.specs.declared.record.Mark.{Mark}
use Rattle.redgreen_files.specs.Reading.{Parser, or_truncated, number_at, slice_at, exact_at, pair_at, made_at, after_number, many_from, mark_with, place_after, place_at, mark_at, end_at}
use Rattle.redgreen_files.specs.Feeding.{Given, IsShorter, FillsNot, Moved, Took, HasBreach, StopsAs, Feeds, Leads}

pub bytes_both : (p q : List ℕ) → IsBytes p → IsBytes q → IsBytes (p ++ q)
bytes_both p q hp hq i =
    elim (cases_lt i (length p)) [
      | inl lt ↦ rw (get_or-append p q 0 i lt) (hp i)
      | inr le ↦ rw (get_or-append_right p q (length p) i 0 refl le) (hq (i - length p))
    ]

pub given_then : {a b c : List ℕ → Type 0} {p q : List ℕ} → Given a b p → Given b c q → Given a c (p ++ q)
given_then {a} {b} {c} {p} {q} f g = record {
  left = λ bytes h.
      let x = f.left bytes h in
      let y = g.left x.rest x.holds in
      record {
        rest = y.rest;
        whole = x.whole ∙ ap (λ (xs : List ℕ). p ++ xs) y.whole ∙ sym (append_assoc p q y.rest);
        holds = y.holds;
      };
}

pub moved_none : (a : List ℕ → Type 0) (h : HashingSink) → Moved a a h h []
moved_none a h = record {
  fits = λ i. omega arith;
  given = record { left = λ bytes has. record { rest = bytes; whole = refl; holds = has } };
  hashed = λ front is. subst (λ (xs : List ℕ). Holds256 h.hasher xs) (sym (append-nil front)) is;
}

pub moved_then : {a b c : List ℕ → Type 0} {x y z : HashingSink} {p q : List ℕ} → Moved a b x y p → Moved b c y z q → Moved a c x z (p ++ q)
moved_then {a} {b} {c} {x} {y} {z} {p} {q} f g = record {
  fits = bytes_both p q f.fits g.fits;
  given = given_then f.given g.given;
  hashed = λ front h. subst (λ (xs : List ℕ). Holds256 z.hasher xs) (append_assoc front p q) (g.hashed (front ++ p) (f.hashed front h));
}

-- what was read, by the bytes that were held
pub record At {A : Type 0} (new : List ℕ → Type 0) (step : Parser A) (a : A) (bytes : List ℕ) : Type 0 where
  pub rest : List ℕ
  pub is : step bytes ≡ Ok (a, rest)
  pub holds : new rest

pub took_at : {A : Type 0} {old new : List ℕ → Type 0} {g h : HashingSink} {step : Parser A} {a : A} → Took old new g h step a → (bytes : List ℕ) → old bytes → At new step a bytes
took_at {A} {old} {new} {g} {h} {step} {a} took bytes has =
    let l = took.moved.given.left bytes has in
    record { rest = l.rest; is = ap step l.whole ∙ took.reads l.rest; holds = l.holds }

pub stops_by : {A B : Type 0} {old mid : List ℕ → Type 0} {p : List ℕ → Result A FileFault} {q : List ℕ → Result B FileFault} (stop : FeedFault) → StopsAs mid stop p → ((fault : FileFault) → HasBreach mid p fault → HasBreach old q fault) → StopsAs old stop q
stops_by faults.Memory h f = tt
stops_by faults.Device h f = tt
stops_by (faults.Breach fault) h f = f fault h

pub stops_short : {B : Type 0} {old mid : List ℕ → Type 0} {count : ℕ} {q : List ℕ → Result B FileFault} (stop : FeedFault) → FillsNot mid count stop → (IsShorter mid count → HasBreach old q Truncated) → StopsAs old stop q
stops_short faults.Memory h f = tt
stops_short faults.Device h f = tt
stops_short {B} {old} {mid} {count} {q} (faults.Breach fault) h f = subst (HasBreach old q) (sym h.0) (f h.1)

-- ---- numbers

number_reads : (w : Width) (part rest : List ℕ) → length part ≡ byte_len w → or_truncated (numbers.number_at w (part ++ rest)) ≡ Ok (from_be_bytes w part, rest)
number_reads w part rest len =
    let long : ltb (length (part ++ rest)) (byte_len w) ≡ false = le-ltb _ _ (omega (arith, length-append part rest, len)) in
    rw (long, take_at part rest (byte_len w) len, drop_at part rest (byte_len w) len) refl

number_ends : (w : Width) (bytes : List ℕ) → length bytes < byte_len w → or_truncated (numbers.number_at w bytes) ≡ Err Truncated
number_ends w bytes lt = rw (lt-ltb _ _ lt) refl

pub number_took : {old new : List ℕ → Type 0} {g h : HashingSink} {part : List ℕ} (n : ℕ) → Moved old new g h part → length part ≡ 8 → n ≡ big_number 8 part → Took old new g h number_at n
unfolding eight_at
number_took {old} {new} {g} {h} {part} n moved len is = record { part = part; moved = moved; reads = λ rest. rw (is, eight_is part) (number_reads w64 part rest len) }

pub number_stops : (old : List ℕ → Type 0) (stop : FeedFault) → FillsNot old 8 stop → StopsAs old stop number_at
unfolding eight_at
number_stops old stop h = stops_short stop h (λ s. record { breach = λ bytes has. number_ends w64 bytes (s.short bytes has) })

one_byte : (part : List ℕ) (n : ℕ) → length part ≡ 1 → n ≡ get_or part 0 0 → part ≡ n ∷ []
one_byte [] n len is = absurd (omega (arith, len))
one_byte (b ∷ []) n len is = ap (λ (x : ℕ). x ∷ []) (sym is)
one_byte (b ∷ c ∷ bytes) n len is = absurd (omega (arith, len))

no_bytes : (bytes : List ℕ) → length bytes < 1 → or_truncated (byte_at bytes) ≡ Err Truncated
no_bytes [] lt = refl
no_bytes (b ∷ bytes) lt = absurd (omega (arith, lt))

pub byte_took : {old new : List ℕ → Type 0} {g h : HashingSink} {part : List ℕ} (n : ℕ) → Moved old new g h part → length part ≡ 1 → n ≡ get_or part 0 0 → Took old new g h (λ bytes. or_truncated (byte_at bytes)) n
byte_took {old} {new} {g} {h} {part} n moved len is = record { part = n ∷ []; moved = subst (Moved old new g h) (one_byte part n len is) moved; reads = λ rest. refl }

pub byte_stops : (old : List ℕ → Type 0) (stop : FeedFault) → FillsNot old 1 stop → StopsAs old stop (λ bytes. or_truncated (byte_at bytes))
byte_stops old stop h = stops_short stop h (λ s. record { breach = λ bytes has. no_bytes bytes (s.short bytes has) })

-- ---- so many bytes

pub bytes_reads : (n : ℕ) (part rest : List ℕ) → length part ≡ n → slice_at n (part ++ rest) ≡ Ok (part, rest)
unfolding slice_at
bytes_reads n part rest len =
    let long : ltb (length (part ++ rest)) n ≡ false = le-ltb _ _ (omega (arith, length-append part rest, len)) in
    rw (long, take_at part rest n len, drop_at part rest n len) refl

pub bytes_end : (n : ℕ) (bytes : List ℕ) → length bytes < n → slice_at n bytes ≡ Err Truncated
unfolding slice_at
bytes_end n bytes lt = rw (lt-ltb _ _ lt) refl

pub bytes_took : {old new : List ℕ → Type 0} {g h : HashingSink} {part : List ℕ} (n : ℕ) → Moved old new g h part → length part ≡ n → Took old new g h (slice_at n) part
bytes_took {old} {new} {g} {h} {part} n moved len = record { part = part; moved = moved; reads = λ rest. bytes_reads n part rest len }

pub bytes_stops : (old : List ℕ → Type 0) (n : ℕ) (stop : FeedFault) → FillsNot old n stop → StopsAs old stop (slice_at n)
bytes_stops old n stop h = stops_short stop h (λ s. record { breach = λ bytes has. bytes_end n bytes (s.short bytes has) })

-- if some of them were taken before
pub bytes_stop_after : {old mid : List ℕ → Type 0} {g h : HashingSink} {part : List ℕ} (n m : ℕ) (stop : FeedFault) → Moved old mid g h part → length part + m ≤ n → FillsNot mid m stop → StopsAs old stop (slice_at n)
bytes_stop_after {old} {mid} {g} {h} {part} n m stop moved le f =
    stops_short stop f (λ s. record {
      breach = λ bytes has.
          let l = moved.given.left bytes has in
          bytes_end n bytes (omega (arith, s.short l.rest l.holds, le, ap (λ (xs : List ℕ). length xs) l.whole, length-append part l.rest));
    })

-- ---- filling a room

take_both : (p ys : List ℕ) (a n : ℕ) → length p ≡ a → take (a + n) (p ++ ys) ≡ p ++ take n ys
take_both [] ys a n len = let z : a + n ≡ n = omega (arith, len) in rw z refl
take_both (x ∷ p) ys a n len =
    let is : a + n ≡ suc (length p + n) = omega (arith, len) in
    rw is (ap (λ (xs : List ℕ). x ∷ xs) (take_both p ys (length p) n refl))

filled : (room sub : List ℕ) (a k n : ℕ) → a ≤ length room → n ≤ length sub → take (a + n) (put_mid a k room sub) ≡ take a room ++ take n sub
filled room sub a k n le_a le_n =
    take_both (take a room) (sub ++ post_of a k room) a n (length-take-le a room le_a)
    ∙ ap (λ (xs : List ℕ). take a room ++ xs) (take-append-le n sub (post_of a k room) le_n)

pub given_more : {a b : List ℕ → Type 0} (room : List ℕ) (at : ℕ) (c : List ℕ → Type 0) (before sub : List ℕ) (k n : ℕ) → Given a b (take at room) → ((bytes : List ℕ) → b bytes → MovesBytes c bytes before sub n) → at ≤ length room → n ≤ length sub → Given a c (take (at + n) (put_mid at k room sub))
given_more {a} {b} room at c before sub k n f moves le_at le_n = record {
  left = λ bytes h.
      let x = f.left bytes h in
      let m = moves x.rest x.holds in
      let cut : x.rest ≡ take n sub ++ drop n x.rest = sym (take-append-drop n x.rest) ∙ ap (λ (xs : List ℕ). xs ++ drop n x.rest) (sym m.moved) in
      record {
        rest = drop n x.rest;
        whole = x.whole ∙ ap (λ (xs : List ℕ). take at room ++ xs) cut ∙ sym (append_assoc (take at room) (take n sub) (drop n x.rest)) ∙ ap (λ (xs : List ℕ). xs ++ drop n x.rest) (sym (filled room sub at k n le_at le_n));
        holds = m.left;
      };
}

-- ---- one after the other

pub leads_none : {A : Type 0} (a : List ℕ → Type 0) (x : HashingSink) (p : List ℕ → Result A FileFault) → Leads a a x x p p
leads_none a x p = record { part = []; moved = moved_none a x; leads = λ rest. refl }

pub leads_step : {A B : Type 0} {a b c : List ℕ → Type 0} {x y z : HashingSink} {p q : List ℕ → Result A FileFault} {step : Parser B} {v : B} (r : List ℕ → Result A FileFault) → Leads a b x y p q → Took b c y z step v → ((bytes rest : List ℕ) → step bytes ≡ Ok (v, rest) → q bytes ≡ r rest) → Leads a c x z p r
leads_step {A} {B} {a} {b} {c} {x} {y} {z} {p} {q} r f t h = record {
  part = f.part ++ t.part;
  moved = moved_then f.moved t.moved;
  leads = λ rest. ap p (append_assoc f.part t.part rest) ∙ f.leads (t.part ++ rest) ∙ h (t.part ++ rest) rest (t.reads rest);
}

pub leads_done : {A : Type 0} {a b : List ℕ → Type 0} {x y : HashingSink} {p : Parser A} {q : Parser A} (v : A) → Leads a b x y p q → ((rest : List ℕ) → q rest ≡ Ok (v, rest)) → Took a b x y p v
leads_done v f h = record { part = f.part; moved = f.moved; reads = λ rest. f.leads rest ∙ h rest }

pub leads_breaks : {A : Type 0} {a b : List ℕ → Type 0} {x y : HashingSink} {p q : List ℕ → Result A FileFault} {fault : FileFault} → Leads a b x y p q → HasBreach b q fault → HasBreach a p fault
leads_breaks {A} {a} {b} {x} {y} {p} f h = record {
  breach = λ bytes has.
      let l = f.moved.given.left bytes has in
      ap p l.whole ∙ f.leads l.rest ∙ h.breach l.rest l.holds;
}

pub leads_halts : {A B : Type 0} {a b : List ℕ → Type 0} {x y : HashingSink} {p q : List ℕ → Result A FileFault} {step : List ℕ → Result B FileFault} (stop : FeedFault) → Leads a b x y p q → StopsAs b stop step → ((bytes : List ℕ) (fault : FileFault) → step bytes ≡ Err fault → q bytes ≡ Err fault) → StopsAs a stop p
leads_halts stop f h k = stops_by stop h (λ fault e. leads_breaks f (record { breach = λ bytes has. k bytes fault (e.breach bytes has) }))

-- ---- combined readers

pub pair_took : {A B : Type 0} {a b c : List ℕ → Type 0} {x y z : HashingSink} {p : Parser A} {q : Parser B} (u : A) (v : B) → Took a b x y p u → Took b c y z q v → Took a c x z (pair_at p q) (u, v)
unfolding pair_at
pair_took {A} {B} {a} {b} {c} {x} {y} {z} {p} {q} u v f g = record {
  part = f.part ++ g.part;
  moved = moved_then f.moved g.moved;
  reads = λ rest. rw (append_assoc f.part g.part rest, f.reads (g.part ++ rest), g.reads rest) refl;
}

pub pair_first : {A B : Type 0} (a : List ℕ → Type 0) (p : Parser A) (q : Parser B) (stop : FeedFault) → StopsAs a stop p → StopsAs a stop (pair_at p q)
unfolding pair_at
pair_first a p q stop h = stops_by stop h (λ fault b. record { breach = λ bytes has. rw (b.breach bytes has) refl })

pub pair_second : {A B : Type 0} {a b : List ℕ → Type 0} {x y : HashingSink} {p : Parser A} {u : A} (q : Parser B) (stop : FeedFault) → Took a b x y p u → StopsAs b stop q → StopsAs a stop (pair_at p q)
unfolding pair_at
pair_second q stop f h = stops_by stop h (λ fault b. record { breach = λ bytes has. let l = took_at f bytes has in rw (l.is, b.breach l.rest l.holds) refl })

pub made_took : {A B : Type 0} {a b : List ℕ → Type 0} {x y : HashingSink} {p : Parser A} (make : A → B) (u : A) → Took a b x y p u → Took a b x y (made_at make p) (make u)
unfolding made_at
made_took make u f = record { part = f.part; moved = f.moved; reads = λ rest. rw (f.reads rest) refl }

pub made_stops : {A B : Type 0} (a : List ℕ → Type 0) (p : Parser A) (make : A → B) (stop : FeedFault) → StopsAs a stop p → StopsAs a stop (made_at make p)
unfolding made_at
made_stops a p make stop h = stops_by stop h (λ fault b. record { breach = λ bytes has. rw (b.breach bytes has) refl })

pub after_took : {A : Type 0} {a b c : List ℕ → Type 0} {x y z : HashingSink} (admits : ℕ → Bool) (fault : FileFault) (rest : ℕ → Parser A) (n : ℕ) (v : A) → Took a b x y number_at n → admits n ≡ true → Took b c y z (rest n) v → Took a c x z (after_number admits fault rest) v
unfolding after_number
after_took admits fault rest n v f is g = record {
  part = f.part ++ g.part;
  moved = moved_then f.moved g.moved;
  reads = λ end. rw (append_assoc f.part g.part end, f.reads (g.part ++ end), is, g.reads end) refl;
}

pub after_first : {A : Type 0} (a : List ℕ → Type 0) (admits : ℕ → Bool) (fault : FileFault) (rest : ℕ → Parser A) (stop : FeedFault) → StopsAs a stop number_at → StopsAs a stop (after_number admits fault rest)
unfolding after_number
after_first a admits fault rest stop h = stops_by stop h (λ fault b. record { breach = λ bytes has. rw (b.breach bytes has) refl })

pub after_refused : {A : Type 0} {a b : List ℕ → Type 0} {x y : HashingSink} (admits : ℕ → Bool) (fault : FileFault) (rest : ℕ → Parser A) (n : ℕ) → Took a b x y number_at n → admits n ≡ false → HasBreach a (after_number admits fault rest) fault
unfolding after_number
after_refused admits fault rest n f is = record { breach = λ bytes has. let l = took_at f bytes has in rw (l.is, is) refl }

pub after_second : {A : Type 0} {a b : List ℕ → Type 0} {x y : HashingSink} (admits : ℕ → Bool) (fault : FileFault) (rest : ℕ → Parser A) (n : ℕ) (stop : FeedFault) → Took a b x y number_at n → admits n ≡ true → StopsAs b stop (rest n) → StopsAs a stop (after_number admits fault rest)
unfolding after_number
after_second admits fault rest n stop f is h = stops_by stop h (λ fault b. record { breach = λ bytes has. let l = took_at f bytes has in rw (l.is, is, b.breach l.rest l.holds) refl })

-- ---- so many items

pub many_go_on : {A : Type 0} (part : ℕ → Parser A) (items : List A) (count i : ℕ) (bytes : List ℕ) (item : A) (after : List ℕ) → i < count → part (length items) bytes ≡ Ok (item, after) → many_from part items (count - i) bytes ≡ many_from part (items ++ item ∷ []) (count - (i + 1)) after
unfolding many_from
many_go_on part items count i bytes item after lt h =
    let k : count - i ≡ suc (count - (i + 1)) = omega arith in
    rw (k, h) refl

pub many_break : {A : Type 0} (part : ℕ → Parser A) (items : List A) (count i : ℕ) (bytes : List ℕ) (fault : FileFault) → i < count → part (length items) bytes ≡ Err fault → many_from part items (count - i) bytes ≡ Err fault
unfolding many_from
many_break part items count i bytes fault lt h =
    let k : count - i ≡ suc (count - (i + 1)) = omega arith in
    rw (k, h) refl

pub many_done : {A : Type 0} (part : ℕ → Parser A) (items : List A) (count i : ℕ) (bytes : List ℕ) → count ≤ i → many_from part items (count - i) bytes ≡ Ok (items, bytes)
unfolding many_from
many_done part items count i bytes le =
    let k : count - i ≡ 0 = omega arith in
    rw k refl

-- ---- what is read last

pub feeds_pair : {A B X : Type 0} {a b : List ℕ → Type 0} {x y : HashingSink} (c : List ℕ → Type 0) (z : HashingSink) {p : Parser A} {u : A} (q : Parser B) (view : X → B) (r : Result X FeedFault) → Took a b x y p u → Feeds b c y z view r q → Feeds a c x z (λ v. (u, view v)) r (pair_at p q)
feeds_pair {A} {B} {X} {a} {b} {x} {y} c z {p} {u} q view (Ok v) f g = pair_took u (view v) f g
feeds_pair c z q view (Err stop) f g = pair_second q stop f g

pub feeds_after : {A X : Type 0} {a b : List ℕ → Type 0} {x y : HashingSink} (c : List ℕ → Type 0) (z : HashingSink) (admits : ℕ → Bool) (fault : FileFault) (rest : ℕ → Parser A) (n : ℕ) (view : X → A) (r : Result X FeedFault) → Took a b x y number_at n → admits n ≡ true → Feeds b c y z view r (rest n) → Feeds a c x z view r (after_number admits fault rest)
feeds_after c z admits fault rest n view (Ok v) f is g = after_took admits fault rest n (view v) f is g
feeds_after c z admits fault rest n view (Err stop) f is g = after_second admits fault rest n stop f is g

-- ---- marks

pub place_took : {a b : List ℕ → Type 0} {x y : HashingSink} (c : List ℕ → Type 0) (z : HashingSink) (fault : FileFault) (flag : ℕ) (view : Option ℕ → Option ℕ) (r : Result (Option ℕ) FeedFault) → Took a b x y (λ bytes. or_truncated (byte_at bytes)) flag → Feeds b c y z view r (place_after fault flag) → Feeds a c x z view r (place_at fault)
unfolding place_at
place_took c z fault flag view (Ok v) f g = record {
  part = f.part ++ g.part;
  moved = moved_then f.moved g.moved;
  reads = λ end. rw (append_assoc f.part g.part end, f.reads (g.part ++ end), g.reads end) refl;
}
place_took c z fault flag view (Err stop) f g = stops_by stop g (λ fault b. record { breach = λ bytes has. let l = took_at f bytes has in rw (l.is, b.breach l.rest l.holds) refl })

pub place_first : (a : List ℕ → Type 0) (fault : FileFault) (stop : FeedFault) → StopsAs a stop (λ bytes. or_truncated (byte_at bytes)) → StopsAs a stop (place_at fault)
unfolding place_at
place_first a fault stop h = stops_by stop h (λ fault b. record { breach = λ bytes has. rw (b.breach bytes has) refl })

pub placed_took : {a b : List ℕ → Type 0} {x y : HashingSink} (fault : FileFault) (flag n : ℕ) → flag ≡ 1 → Took a b x y number_at n → Took a b x y (place_after fault flag) (Some n)
unfolding place_after
placed_took fault flag n is f = rw is record { part = f.part; moved = f.moved; reads = λ rest. rw (f.reads rest) refl }

pub placed_stops : (a : List ℕ → Type 0) (fault : FileFault) (flag : ℕ) (stop : FeedFault) → flag ≡ 1 → StopsAs a stop number_at → StopsAs a stop (place_after fault flag)
unfolding place_after
placed_stops a fault flag stop is h = rw is (stops_by stop h (λ fault b. record { breach = λ bytes has. rw (b.breach bytes has) refl }))

pub unplaced_took : (a : List ℕ → Type 0) (x : HashingSink) (fault : FileFault) (flag : ℕ) → flag ≡ 0 → Took a a x x (place_after fault flag) None
unfolding place_after
unplaced_took a x fault flag is = rw is record { part = []; moved = moved_none a x; reads = λ rest. refl }

pub flag_breaks : (a : List ℕ → Type 0) (fault : FileFault) (flag : ℕ) → 2 ≤ flag → HasBreach a (place_after fault flag) fault
unfolding place_after
flag_breaks a fault zero le = absurd (omega (arith, le))
flag_breaks a fault (suc zero) le = absurd (omega (arith, le))
flag_breaks a fault (suc (suc flag)) le = record { breach = λ bytes has. refl }

pub mark_took : {a b c : List ℕ → Type 0} {x y z : HashingSink} (i kind : ℕ) (previous : Option ℕ) (m : Mark) → Took a b x y (λ bytes. or_truncated (byte_at bytes)) kind → Took b c y z (place_at (UnknownMark i)) previous → mark_with kind previous ≡ Some m → Took a c x z (mark_at i) m
unfolding mark_at
mark_took i kind previous m f g is = record {
  part = f.part ++ g.part;
  moved = moved_then f.moved g.moved;
  reads = λ end. rw (append_assoc f.part g.part end, f.reads (g.part ++ end), g.reads end, is) refl;
}

pub mark_first : (a : List ℕ → Type 0) (i : ℕ) (stop : FeedFault) → StopsAs a stop (λ bytes. or_truncated (byte_at bytes)) → StopsAs a stop (mark_at i)
unfolding mark_at
mark_first a i stop h = stops_by stop h (λ fault b. record { breach = λ bytes has. rw (b.breach bytes has) refl })

pub mark_second : {a b : List ℕ → Type 0} {x y : HashingSink} (i kind : ℕ) (stop : FeedFault) → Took a b x y (λ bytes. or_truncated (byte_at bytes)) kind → StopsAs b stop (place_at (UnknownMark i)) → StopsAs a stop (mark_at i)
unfolding mark_at
mark_second i kind stop f h = stops_by stop h (λ fault b. record { breach = λ bytes has. let l = took_at f bytes has in rw (l.is, b.breach l.rest l.holds) refl })

pub mark_breaks : {a b c : List ℕ → Type 0} {x y z : HashingSink} (i kind : ℕ) (previous : Option ℕ) → Took a b x y (λ bytes. or_truncated (byte_at bytes)) kind → Took b c y z (place_at (UnknownMark i)) previous → mark_with kind previous ≡ None → HasBreach a (mark_at i) (UnknownMark i)
unfolding mark_at
mark_breaks i kind previous f g is = record { breach = λ bytes has. let l = took_at f bytes has in let k = took_at g l.rest l.holds in rw (l.is, k.is, is) refl }

-- ---- a text that is known

pub exact_took : {a b : List ℕ → Type 0} {x y : HashingSink} {part : List ℕ} (text : List ℕ) (short other : FileFault) → Moved a b x y part → part ≡ text → Took a b x y (exact_at text short other) tt
unfolding exact_at
exact_took {a} {b} {x} {y} {part} text short other moved is = record {
  part = text;
  moved = subst (Moved a b x y) is moved;
  reads = λ rest.
      let long : ltb (length (text ++ rest)) (length text) ≡ false = le-ltb _ _ (omega (arith, length-append text rest)) in
      let same : bytes_eq (take (length text) (text ++ rest)) text ≡ true = (bytes_eq-Decides (take (length text) (text ++ rest)) text).1 (take_at text rest (length text) refl) in
      rw (long, same, drop_at text rest (length text) refl) refl;
}

exact_other : (text : List ℕ) (short other : FileFault) (bytes part rest : List ℕ) → bytes ≡ part ++ rest → length part ≡ length text → (part ≡ text → ⊥) → exact_at text short other bytes ≡ Err other
unfolding exact_at
exact_other text short other bytes part rest whole len isnt =
    let long : ltb (length bytes) (length text) ≡ false = le-ltb _ _ (omega (arith, ap (λ (xs : List ℕ). length xs) whole, length-append part rest, len)) in
    let front : take (length text) bytes ≡ part = ap (take (length text)) whole ∙ take_at part rest (length text) len in
    let unlike : bytes_eq (take (length text) bytes) text ≡ false = not_so (bytes_eq (take (length text) bytes) text) (λ e. isnt (sym front ∙ (bytes_eq-Decides (take (length text) bytes) text).0 e)) in
    rw (long, unlike) refl
  where
    not_so : (b : Bool) → (b ≡ true → ⊥) → b ≡ false
    not_so true h = absurd (h refl)
    not_so false h = refl

pub exact_breaks : {a b : List ℕ → Type 0} {x y : HashingSink} {part : List ℕ} (text : List ℕ) (short other : FileFault) → Moved a b x y part → length part ≡ length text → (part ≡ text → ⊥) → HasBreach a (exact_at text short other) other
exact_breaks {a} {b} {x} {y} {part} text short other moved len isnt = record {
  breach = λ bytes has. let l = moved.given.left bytes has in exact_other text short other bytes part l.rest l.whole len isnt;
}

exact_ends : (text : List ℕ) (short other : FileFault) (bytes : List ℕ) → length bytes < length text → exact_at text short other bytes ≡ Err short
unfolding exact_at
exact_ends text short other bytes lt = rw (lt-ltb _ _ lt) refl

pub exact_short : {a : List ℕ → Type 0} (text : List ℕ) (short other : FileFault) (n : ℕ) → IsShorter a n → n ≡ length text → HasBreach a (exact_at text short other) short
exact_short text short other n s is = record { breach = λ bytes has. exact_ends text short other bytes (omega (arith, s.short bytes has, is)) }

-- ---- the end of a file

pub end_stops : (a : List ℕ → Type 0) (digest : List ℕ) (stop : FeedFault) → FillsNot a 32 stop → length digest ≡ 32 → StopsAs a stop (end_at digest)
unfolding end_at
end_stops a digest stop h len = stops_short stop h (λ s. record { breach = λ bytes has. rw (exact_ends digest Truncated BadDigest bytes (omega (arith, s.short bytes has, len))) refl })

pub end_differs : {a b : List ℕ → Type 0} {part : List ℕ} (digest : List ℕ) → Given a b part → length part ≡ length digest → (part ≡ digest → ⊥) → HasBreach a (end_at digest) BadDigest
unfolding end_at
end_differs {a} {b} {part} digest given len isnt = record {
  breach = λ bytes has. let l = given.left bytes has in rw (exact_other digest Truncated BadDigest bytes part l.rest l.whole len isnt) refl;
}

end_more : (digest rest : List ℕ) → 0 < length rest → end_at digest (digest ++ rest) ≡ Err Trailing
unfolding end_at exact_at
end_more digest rest some =
    let long : ltb (length (digest ++ rest)) (length digest) ≡ false = le-ltb _ _ (omega (arith, length-append digest rest)) in
    let same : bytes_eq (take (length digest) (digest ++ rest)) digest ≡ true = (bytes_eq-Decides (take (length digest) (digest ++ rest)) digest).1 (take_at digest rest (length digest) refl) in
    let more : leb (length rest) 0 ≡ false = no_le (leb (length rest) 0) (λ e. omega (arith, leb-true _ _ e, some)) in
    rw (long, same, drop_at digest rest (length digest) refl, more) refl
  where
    no_le : (b : Bool) → (b ≡ true → ⊥) → b ≡ false
    no_le true h = absurd (h refl)
    no_le false h = refl

-- after the digest, a feed that gave none of its bytes held none, and one that gave some has more
pub end_there : {a b c : List ℕ → Type 0} {part : List ℕ} (digest before after : List ℕ) (n : ℕ) → Given a b part → part ≡ digest → length before ≡ 1 → ((bytes : List ℕ) → b bytes → MovesBytes c bytes before after n) → n ≡ 0 → (bytes : List ℕ) → a bytes → bytes ≡ digest
end_there digest before after n given is one moves none bytes has =
    let l = given.left bytes has in
    let m = moves l.rest l.holds in
    l.whole ∙ ap (λ (xs : List ℕ). xs ++ l.rest) is ∙ ap (λ (xs : List ℕ). digest ++ xs) (m.end (omega (arith, one)) none) ∙ append-nil digest

pub end_trails : {a b c : List ℕ → Type 0} {part : List ℕ} (digest before after : List ℕ) (n : ℕ) → Given a b part → part ≡ digest → ((bytes : List ℕ) → b bytes → MovesBytes c bytes before after n) → 0 < n → HasBreach a (end_at digest) Trailing
end_trails digest before after n given is moves some = record {
  breach = λ bytes has.
      let l = given.left bytes has in
      let m = moves l.rest l.holds in
      ap (end_at digest) (l.whole ∙ ap (λ (xs : List ℕ). xs ++ l.rest) is) ∙ end_more digest l.rest (omega (arith, m.within, some));
}

-- ---- many items

pub many_step : {A : Type 0} {a b c : List ℕ → Type 0} {x y z : HashingSink} (part : ℕ → Parser A) (items : List A) (count i : ℕ) (item : A) → Leads a b x y (many_from part [] count) (many_from part items (count - i)) → i < count → Took b c y z (part (length items)) item → Leads a c x z (many_from part [] count) (many_from part (items ++ item ∷ []) (count - (i + 1)))
many_step part items count i item f lt g = leads_step (many_from part (items ++ item ∷ []) (count - (i + 1))) f g (λ bytes rest e. many_go_on part items count i bytes item rest lt e)

pub many_halts : {A : Type 0} {a b : List ℕ → Type 0} {x y : HashingSink} (part : ℕ → Parser A) (items : List A) (count i : ℕ) (stop : FeedFault) → Leads a b x y (many_from part [] count) (many_from part items (count - i)) → i < count → StopsAs b stop (part (length items)) → StopsAs a stop (many_from part [] count)
many_halts part items count i stop f lt h = leads_halts stop f h (λ bytes fault e. many_break part items count i bytes fault lt e)

pub many_took : {A : Type 0} {a b : List ℕ → Type 0} {x y : HashingSink} (part : ℕ → Parser A) (items : List A) (count i : ℕ) → Leads a b x y (many_from part [] count) (many_from part items (count - i)) → count ≤ i → Took a b x y (many_from part [] count) items
many_took part items count i f le = leads_done items f (λ rest. many_done part items count i rest le)
