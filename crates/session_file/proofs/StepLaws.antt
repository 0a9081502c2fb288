-- The parts of a file, read from a feed one behind the other.
use Rattle.std.proofs.Common.{◌≡◌, ℕ, ◌<◌, ◌≤◌, Bool, true, false, ltb, List, [], ◌++◌, length, take, Option, Some, None, Result, Ok, Err, refl, sym, ap, subst, ◌∙◌, append_assoc, arith}
use Rattle.std.specs.Prelude.{bytes_eq, IfSome}
use Rattle.std.proofs.lemmas.Bool.{le-ltb, lt-ltb, le-leb, lt-leb, false_from_ne_true}
use Rattle.std.proofs.lemmas.List.{take_at, append-nil, length-append}
use Rattle.std.proofs.lemmas.Slice.Eq.{bytes_eq-Decides}
use Rattle.byte_readers.specs.Lawful.{IsBytes}
use Rattle.sha2.specs.Sha256.{sha256}
use Rattle.item_ids.specs.declared.key.Key.{Key}
use Rattle.item_ids.specs.declared.kind.Kind.{Kind}
use Rattle.item_ids.specs.Keys.{kind_of}
use Rattle.byte_readers.specs.Reading.{byte_at, two_at, four_at, eight_at}
use Rattle.result_bytes.specs.declared.value.Value.{Value}
use Rattle.result_bytes.specs.Values.{decoding}
use Rattle.sessions.specs.declared.terms.Terms.{Terms}
use Rattle.sessions.specs.Terms.{terms_with, ends_with_print}
use Rattle.sessions.specs.Sessions.{RecordValue, SessionValue, IsSession, IsTakenFrom}
use Rattle.sessions.specs.Spelling.{body_bytes, file_of, digest_of}
use Rattle.session_file.specs.declared.fault.FileFault.{FileFault}
use Rattle.session_file.specs.declared.fault.FileFault.TheVariants.{BadMagic, Version, Truncated, BadDigest, KeyOrder, BadEdge, Result as BadResult, InputKind, Trailing, Device, BadKey, Number, NoPastResult, OutOfMemory}
use Rattle.session_file.specs.declared.reading.body_hash.BodyHash.{BodyHash}
use Rattle.session_file.specs.declared.reading.feed_fault.FeedFault.{FeedFault}
use Rattle.session_file.specs.declared.reading.feed_fault.FeedFault.TheVariants as faults
use Rattle.session_file.specs.Keys.{key_with, mark_with}
use Rattle.session_file.specs.Reading.{◌>>=◌, magic, Parser, or_truncated, slice_at, short_text_at, ItemValue, item_with, item_at, check_place, edge_list_at, edges_from, value_with_print, result_at, OriginValue, past_value, past_with_print, taken_at, told_at, RestValue, rest_at, placed_item_at, record_at, records_from, HeadValue, start_at, magic_at, head_at, end_at, session_of, body_after, front_after, session_after, file_after, IsUnlessMemory, IsUnlessStopped}
use Rattle.session_file.specs.Feeding.{Given, IsShorter, Moved, Took, HasBreach, StopsAs, FedFront, Feeds, CountsIf, is_device}
use Rattle.session_file.proofs.ReadLaws.{done, ok_is}
use Rattle.session_file.proofs.FeedLaws.{At, bytes_both, given_then, moved_then, took_at, stops_by}
use Rattle.session_file.proofs.FileLaws.{FrontIs, magic_again, front_is, body_takes, front_takes, front_again, file_breaks}

abbrev broken : {A : Type 0} → FileFault → Result A FileFault
broken fault = Err fault

abbrev byte : Parser ℕ
byte bytes = or_truncated (byte_at bytes)

abbrev two : Parser ℕ
two bytes = or_truncated (two_at bytes)

abbrev four : Parser ℕ
four bytes = or_truncated (four_at bytes)

abbrev eight : Parser ℕ
eight bytes = or_truncated (eight_at bytes)

-- ---- a key and its mark

pub item_halts_kind : (a : List ℕ → Type 0) (i : ℕ) (stop : FeedFault) → StopsAs a stop byte → StopsAs a stop (item_at i)
unfolding item_at
item_halts_kind a i stop f = stops_by stop f (λ fault s. record { breach = λ bytes has. rw (s.breach bytes has) refl })

pub item_halts_class : {a b : List ℕ → Type 0} {g h : BodyHash} (i : ℕ) (kind : ℕ) (stop : FeedFault) → Took a b g h byte kind → StopsAs b stop short_text_at → StopsAs a stop (item_at i)
unfolding item_at
item_halts_class i kind stop p f = stops_by stop f (λ fault s. record {
  breach = λ bytes has.
      let x = took_at p bytes has in
      rw (x.is, s.breach x.rest x.holds) refl;
})

pub item_halts_member : {a b c : List ℕ → Type 0} {g h k : BodyHash} (i : ℕ) (kind : ℕ) (class : List ℕ) (stop : FeedFault) → Took a b g h byte kind → Took b c h k short_text_at class → StopsAs c stop short_text_at → StopsAs a stop (item_at i)
unfolding item_at
item_halts_member i kind class stop p q f = stops_by stop f (λ fault s. record {
  breach = λ bytes has.
      let x = took_at p bytes has in
      let y = took_at q x.rest x.holds in
      rw (x.is, y.is, s.breach y.rest y.holds) refl;
})

pub item_halts_mark : {a b c d : List ℕ → Type 0} {g h k l : BodyHash} (i : ℕ) (kind : ℕ) (class member : List ℕ) (stop : FeedFault) → Took a b g h byte kind → Took b c h k short_text_at class → Took c d k l short_text_at member → StopsAs d stop byte → StopsAs a stop (item_at i)
unfolding item_at
item_halts_mark i kind class member stop p q r f = stops_by stop f (λ fault s. record {
  breach = λ bytes has.
      let x = took_at p bytes has in
      let y = took_at q x.rest x.holds in
      let z = took_at r y.rest y.holds in
      rw (x.is, y.is, z.is, s.breach z.rest z.holds) refl;
})

pub item_breaks : {a b c d e : List ℕ → Type 0} {g h k l m : BodyHash} (i : ℕ) (kind : ℕ) (class member : List ℕ) (mark : ℕ) → Took a b g h byte kind → Took b c h k short_text_at class → Took c d k l short_text_at member → Took d e l m byte mark → item_with (key_with kind class member) (mark_with mark) ≡ None → HasBreach a (item_at i) (BadKey i)
unfolding item_at
item_breaks i kind class member mark p q r s none = record {
  breach = λ bytes has.
      let x = took_at p bytes has in
      let y = took_at q x.rest x.holds in
      let z = took_at r y.rest y.holds in
      let w = took_at s z.rest z.holds in
      rw (x.is, y.is, z.is, w.is, none) refl;
}

pub item_took : {a b c d e : List ℕ → Type 0} {g h k l m : BodyHash} (i : ℕ) (kind : ℕ) (class member : List ℕ) (mark : ℕ) (item : ItemValue) → Took a b g h byte kind → Took b c h k short_text_at class → Took c d k l short_text_at member → Took d e l m byte mark → item_with (key_with kind class member) (mark_with mark) ≡ Some item → Took a e g m (item_at i) item
unfolding item_at
item_took i kind class member mark item p q r s is = record {
  part = p.part ++ (q.part ++ (r.part ++ s.part));
  moved = moved_then p.moved (moved_then q.moved (moved_then r.moved s.moved));
  reads = λ rest.
      let regrouped : (p.part ++ (q.part ++ (r.part ++ s.part))) ++ rest ≡ p.part ++ (q.part ++ (r.part ++ (s.part ++ rest))) = simp append_assoc in
      rw (regrouped, p.reads (q.part ++ (r.part ++ (s.part ++ rest))), q.reads (r.part ++ (s.part ++ rest)), r.reads (s.part ++ rest), s.reads rest, is) refl;
}
    -- ---- a result

pub result_halts_print : (a : List ℕ → Type 0) (i : ℕ) (kind : Kind) (stop : FeedFault) → StopsAs a stop (slice_at 32) → StopsAs a stop (result_at i kind)
unfolding result_at
result_halts_print a i kind stop f = stops_by stop f (λ fault s. record { breach = λ bytes has. rw (s.breach bytes has) refl })

pub result_halts_count : {a b : List ℕ → Type 0} {g h : BodyHash} (i : ℕ) (kind : Kind) (print : List ℕ) (stop : FeedFault) → Took a b g h (slice_at 32) print → StopsAs b stop eight → StopsAs a stop (result_at i kind)
unfolding result_at
result_halts_count i kind print stop p f = stops_by stop f (λ fault s. record {
  breach = λ bytes has.
      let x = took_at p bytes has in
      rw (x.is, s.breach x.rest x.holds) refl;
})

pub result_halts_text : {a b c : List ℕ → Type 0} {g h k : BodyHash} (i : ℕ) (kind : Kind) (print : List ℕ) (n : ℕ) (stop : FeedFault) → Took a b g h (slice_at 32) print → Took b c h k eight n → StopsAs c stop (slice_at n) → StopsAs a stop (result_at i kind)
unfolding result_at
result_halts_text i kind print n stop p q f = stops_by stop f (λ fault s. record {
  breach = λ bytes has.
      let x = took_at p bytes has in
      let y = took_at q x.rest x.holds in
      rw (x.is, y.is, s.breach y.rest y.holds) refl;
})

pub result_breaks : {a b c d : List ℕ → Type 0} {g h k l : BodyHash} (i : ℕ) (kind : Kind) (print : List ℕ) (n : ℕ) (text : List ℕ) → Took a b g h (slice_at 32) print → Took b c h k eight n → Took c d k l (slice_at n) text → value_with_print print (decoding kind text) ≡ None → HasBreach a (result_at i kind) (BadResult i)
unfolding result_at
result_breaks i kind print n text p q r none = record {
  breach = λ bytes has.
      let x = took_at p bytes has in
      let y = took_at q x.rest x.holds in
      let z = took_at r y.rest y.holds in
      rw (x.is, y.is, z.is, none) refl;
}

pub result_took : {a b c d : List ℕ → Type 0} {g h k l : BodyHash} (i : ℕ) (kind : Kind) (print : List ℕ) (n : ℕ) (text : List ℕ) (v : Value) → Took a b g h (slice_at 32) print → Took b c h k eight n → Took c d k l (slice_at n) text → value_with_print print (decoding kind text) ≡ Some v → Took a d g l (result_at i kind) v
unfolding result_at
result_took i kind print n text v p q r is = record {
  part = p.part ++ (q.part ++ r.part);
  moved = moved_then p.moved (moved_then q.moved r.moved);
  reads = λ rest.
      let regrouped : (p.part ++ (q.part ++ r.part)) ++ rest ≡ p.part ++ (q.part ++ (r.part ++ rest)) = simp append_assoc in
      rw (regrouped, p.reads (q.part ++ (r.part ++ rest)), q.reads (r.part ++ rest), r.reads rest, is) refl;
}
    -- ---- a result of the previous session

pub taken_halts : (a : List ℕ → Type 0) (i : ℕ) (had : Option Value) (stop : FeedFault) → StopsAs a stop (slice_at 32) → StopsAs a stop (taken_at i had)
unfolding taken_at
taken_halts a i had stop f = stops_by stop f (λ fault s. record { breach = λ bytes has. rw (s.breach bytes has) refl })

pub taken_breaks : {a b : List ℕ → Type 0} {g h : BodyHash} (i : ℕ) (had : Option Value) (print : List ℕ) → Took a b g h (slice_at 32) print → past_with_print print had ≡ None → HasBreach a (taken_at i had) (NoPastResult i)
unfolding taken_at
taken_breaks i had print p none = record {
  breach = λ bytes has.
      let x = took_at p bytes has in
      rw (x.is, none) refl;
}

pub taken_took : {a b : List ℕ → Type 0} {g h : BodyHash} (i : ℕ) (had : Option Value) (print : List ℕ) (v : Value) → Took a b g h (slice_at 32) print → past_with_print print had ≡ Some v → Took a b g h (taken_at i had) v
unfolding taken_at
taken_took i had print v p is = record { part = p.part; moved = p.moved; reads = λ rest. rw (p.reads rest, is) refl }

pub told_by_print : {X : Type 0} (a b : List ℕ → Type 0) (g h : BodyHash) (view : X → Value) (r : Result X FeedFault) (origin : OriginValue) (i : ℕ) (item : ItemValue) → ends_with_print origin.form item.mark ≡ true → Feeds a b g h view r (taken_at i (past_value origin.past item.key)) → Feeds a b g h view r (told_at origin i item)
unfolding told_at
told_by_print a b g h view r origin i item ends f = rw ends f

pub told_by_result : {X : Type 0} (a b : List ℕ → Type 0) (g h : BodyHash) (view : X → Value) (r : Result X FeedFault) (origin : OriginValue) (i : ℕ) (item : ItemValue) → ends_with_print origin.form item.mark ≡ false → Feeds a b g h view r (result_at i (kind_of item.key)) → Feeds a b g h view r (told_at origin i item)
unfolding told_at
told_by_result a b g h view r origin i item other f = rw other f
    -- ---- edges, and what stands behind a key

pub edges_halt_count : (a : List ℕ → Type 0) (front : List RecordValue) (key : Key) (stop : FeedFault) → StopsAs a stop eight → StopsAs a stop (edge_list_at front key)
unfolding edge_list_at
edges_halt_count a front key stop f = stops_by stop f (λ fault s. record { breach = λ bytes has. rw (s.breach bytes has) refl })

pub edges_halt : {a b : List ℕ → Type 0} {g h : BodyHash} (front : List RecordValue) (key : Key) (n : ℕ) (stop : FeedFault) → Took a b g h eight n → StopsAs b stop (edges_from front key [] n) → StopsAs a stop (edge_list_at front key)
unfolding edge_list_at
edges_halt front key n stop p f = stops_by stop f (λ fault s. record {
  breach = λ bytes has.
      let x = took_at p bytes has in
      rw (x.is) (s.breach x.rest x.holds);
})

pub edges_took : {a b c : List ℕ → Type 0} {g h k : BodyHash} (front : List RecordValue) (key : Key) (n : ℕ) (edges : List ℕ) → Took a b g h eight n → Took b c h k (edges_from front key [] n) edges → Took a c g k (edge_list_at front key) edges
unfolding edge_list_at
edges_took front key n edges p q = record {
  part = p.part ++ q.part;
  moved = moved_then p.moved q.moved;
  reads = λ rest. rw (append_assoc p.part q.part rest, p.reads (q.part ++ rest)) (q.reads rest);
}

pub rest_halts_edges : (a : List ℕ → Type 0) (origin : OriginValue) (front : List RecordValue) (item : ItemValue) (stop : FeedFault) → StopsAs a stop (edge_list_at front item.key) → StopsAs a stop (rest_at origin front item)
unfolding rest_at
rest_halts_edges a origin front item stop f = stops_by stop f (λ fault s. record { breach = λ bytes has. rw (s.breach bytes has) refl })

pub rest_halts : {a b : List ℕ → Type 0} {g h : BodyHash} (origin : OriginValue) (front : List RecordValue) (item : ItemValue) (edges : List ℕ) (stop : FeedFault) → Took a b g h (edge_list_at front item.key) edges → StopsAs b stop (told_at origin (length front) item) → StopsAs a stop (rest_at origin front item)
unfolding rest_at
rest_halts origin front item edges stop p f = stops_by stop f (λ fault s. record {
  breach = λ bytes has.
      let x = took_at p bytes has in
      rw (x.is, s.breach x.rest x.holds) refl;
})

pub rest_took : {a b c : List ℕ → Type 0} {g h k : BodyHash} (origin : OriginValue) (front : List RecordValue) (item : ItemValue) (edges : List ℕ) (v : Value) → Took a b g h (edge_list_at front item.key) edges → Took b c h k (told_at origin (length front) item) v → Took a c g k (rest_at origin front item) (record { edges = edges; value = v })
unfolding rest_at
rest_took origin front item edges v p q = record {
  part = p.part ++ q.part;
  moved = moved_then p.moved q.moved;
  reads = λ rest. rw (append_assoc p.part q.part rest, p.reads (q.part ++ rest), q.reads rest) refl;
}
    -- ---- a record

-- a key and its mark, if these may follow the records in front
pub placed_halts : (a : List ℕ → Type 0) (front : List RecordValue) (stop : FeedFault) → StopsAs a stop (item_at (length front)) → StopsAs a stop (placed_item_at front)
unfolding placed_item_at
placed_halts a front stop f = stops_by stop f (λ fault s. record { breach = λ bytes has. rw (s.breach bytes has) refl })

pub placed_breaks : {a b : List ℕ → Type 0} {g h : BodyHash} (front : List RecordValue) (item : ItemValue) (fault : FileFault) → Took a b g h (item_at (length front)) item → check_place front item ≡ Err fault → HasBreach a (placed_item_at front) fault
unfolding placed_item_at
placed_breaks front item fault p f = record {
  breach = λ bytes has.
      let x = took_at p bytes has in
      rw (x.is, f) refl;
}

pub placed_took : {a b : List ℕ → Type 0} {g h : BodyHash} (front : List RecordValue) (item : ItemValue) → Took a b g h (item_at (length front)) item → check_place front item ≡ Ok tt → Took a b g h (placed_item_at front) item
unfolding placed_item_at
placed_took front item p placed = record { part = p.part; moved = p.moved; reads = λ rest. rw (p.reads rest, placed) refl }

pub record_halts_item : (a : List ℕ → Type 0) (origin : OriginValue) (front : List RecordValue) (stop : FeedFault) → StopsAs a stop (placed_item_at front) → StopsAs a stop (record_at origin front)
unfolding record_at
record_halts_item a origin front stop f = stops_by stop f (λ fault s. record { breach = λ bytes has. rw (s.breach bytes has) refl })

pub record_halts : {a b : List ℕ → Type 0} {g h : BodyHash} (origin : OriginValue) (front : List RecordValue) (item : ItemValue) (stop : FeedFault) → Took a b g h (placed_item_at front) item → StopsAs b stop (rest_at origin front item) → StopsAs a stop (record_at origin front)
unfolding record_at
record_halts origin front item stop p f = stops_by stop f (λ fault s. record {
  breach = λ bytes has.
      let x = took_at p bytes has in
      rw (x.is, s.breach x.rest x.holds) refl;
})

pub record_took : {a b c : List ℕ → Type 0} {g h k : BodyHash} (origin : OriginValue) (front : List RecordValue) (item : ItemValue) (r : RestValue) → Took a b g h (placed_item_at front) item → Took b c h k (rest_at origin front item) r → Took a c g k (record_at origin front) (record { key = item.key; mark = item.mark; edges = r.edges; value = r.value })
unfolding record_at
record_took origin front item r p q = record {
  part = p.part ++ q.part;
  moved = moved_then p.moved q.moved;
  reads = λ rest. rw (append_assoc p.part q.part rest, p.reads (q.part ++ rest), q.reads rest) refl;
}

-- ---- what stands before the records

abbrev started : List ℕ → Result (Unit {0} × List ℕ) FileFault
started x = Ok (tt, x)

start_is : (r : Result (List ℕ) FileFault) (rest : List ℕ) (u : Unit {0}) → (r >>= λ x. started x) ≡ Ok (u, rest) → r ≡ Ok rest
start_is (Ok x) rest u e = ap done (ap (λ (y : Unit {0} × List ℕ). y.1) (ok_is (tt, x) (u, rest) e))
start_is (Err fault) rest u e = absurd cc

start_not : (r : Result (List ℕ) FileFault) (fault : FileFault) → (r >>= λ x. started x) ≡ Err fault → r ≡ Err fault
start_not (Ok x) fault e = absurd cc
start_not (Err f) fault e = cc

pub start_took : {a b : List ℕ → Type 0} {g h : BodyHash} {part : List ℕ} → Moved a b g h part → part ≡ magic → Took a b g h start_at tt
unfolding magic_at
start_took {a} {b} {g} {h} {part} moved is = record {
  part = magic;
  moved = subst (Moved a b g h) is moved;
  reads = λ rest. ap (λ (r : Result (List ℕ) FileFault). r >>= λ x. started x) (magic_again rest);
}

pub start_breaks : {a b : List ℕ → Type 0} {g h : BodyHash} {part : List ℕ} → Moved a b g h part → length part ≡ 4 → (part ≡ magic → ⊥) → HasBreach a start_at BadMagic
unfolding magic_at
start_breaks {a} {b} {g} {h} {part} moved len not_magic = record {
  breach = λ bytes has.
      let l = moved.given.left bytes has in
      let long : ltb (length bytes) 4 ≡ false = le-ltb _ _ (omega (arith, ap (λ (xs : List ℕ). length xs) l.whole, length-append part l.rest, len)) in
      let four : take 4 bytes ≡ part = ap (λ (xs : List ℕ). take 4 xs) l.whole ∙ take_at part l.rest 4 len in
      let differs : bytes_eq (take 4 bytes) magic ≡ false = false_from_ne_true _ (λ e. not_magic (sym four ∙ (bytes_eq-Decides (take 4 bytes) magic).0 e)) in
      rw (long, differs) refl;
}

pub start_short : {a : List ℕ → Type 0} → IsShorter a 4 → HasBreach a start_at BadMagic
unfolding magic_at
start_short f = record { breach = λ bytes has. rw (lt-ltb _ _ (f.short bytes has)) refl }

pub head_halts_start : (a : List ℕ → Type 0) (stop : FeedFault) → StopsAs a stop start_at → StopsAs a stop head_at
unfolding head_at
head_halts_start a stop x = stops_by stop x (λ fault s. record { breach = λ bytes has. rw (start_not (magic_at bytes) fault (s.breach bytes has)) refl })

pub head_halts_version : {a b : List ℕ → Type 0} {g h : BodyHash} (stop : FeedFault) → Took a b g h start_at tt → StopsAs b stop two → StopsAs a stop head_at
unfolding head_at
head_halts_version stop p x = stops_by stop x (λ fault s. record {
  breach = λ bytes has.
      let u = took_at p bytes has in
      rw (start_is (magic_at bytes) u.rest tt u.is, s.breach u.rest u.holds) refl;
})

pub head_other_version : {a b c : List ℕ → Type 0} {g h k : BodyHash} (version : ℕ) → Took a b g h start_at tt → Took b c h k two version → terms_with version ≡ None → HasBreach a head_at Version
unfolding head_at
head_other_version version p q other = record {
  breach = λ bytes has.
      let u = took_at p bytes has in
      let v = took_at q u.rest u.holds in
      rw (start_is (magic_at bytes) u.rest tt u.is, v.is, other) refl;
}

pub head_halts_number : {a b c : List ℕ → Type 0} {g h k : BodyHash} (version : ℕ) (terms : Terms) (stop : FeedFault) → Took a b g h start_at tt → Took b c h k two version → terms_with version ≡ Some terms → StopsAs c stop four → StopsAs a stop head_at
unfolding head_at
head_halts_number version terms stop p q known x = stops_by stop x (λ fault s. record {
  breach = λ bytes has.
      let u = took_at p bytes has in
      let v = took_at q u.rest u.holds in
      rw (start_is (magic_at bytes) u.rest tt u.is, v.is, known, s.breach v.rest v.holds) refl;
})

pub head_other_number : {a b c d : List ℕ → Type 0} {g h k l : BodyHash} (version : ℕ) (terms : Terms) (number : ℕ) → Took a b g h start_at tt → Took b c h k two version → terms_with version ≡ Some terms → Took c d k l four number → 9999 < number → HasBreach a head_at Number
unfolding head_at
head_other_number version terms number p q known r large = record {
  breach = λ bytes has.
      let u = took_at p bytes has in
      let v = took_at q u.rest u.holds in
      let w = took_at r v.rest v.holds in
      rw (start_is (magic_at bytes) u.rest tt u.is, v.is, known, w.is, lt-leb number 9999 large) refl;
}

pub head_halts_link : {a b c d : List ℕ → Type 0} {g h k l : BodyHash} (version : ℕ) (terms : Terms) (number : ℕ) (stop : FeedFault) → Took a b g h start_at tt → Took b c h k two version → terms_with version ≡ Some terms → Took c d k l four number → number ≤ 9999 → StopsAs d stop (slice_at 32) → StopsAs a stop head_at
unfolding head_at
head_halts_link version terms number stop p q known r small x = stops_by stop x (λ fault s. record {
  breach = λ bytes has.
      let u = took_at p bytes has in
      let v = took_at q u.rest u.holds in
      let w = took_at r v.rest v.holds in
      rw (start_is (magic_at bytes) u.rest tt u.is, v.is, known, w.is, le-leb number 9999 small, s.breach w.rest w.holds) refl;
})

pub head_halts_count : {a b c d e : List ℕ → Type 0} {g h k l m : BodyHash} (version : ℕ) (terms : Terms) (number : ℕ) (link : List ℕ) (stop : FeedFault) → Took a b g h start_at tt → Took b c h k two version → terms_with version ≡ Some terms → Took c d k l four number → number ≤ 9999 → Took d e l m (slice_at 32) link → StopsAs e stop eight → StopsAs a stop head_at
unfolding head_at
head_halts_count version terms number link stop p q known r small t x = stops_by stop x (λ fault s. record {
  breach = λ bytes has.
      let u = took_at p bytes has in
      let v = took_at q u.rest u.holds in
      let w = took_at r v.rest v.holds in
      let z = took_at t w.rest w.holds in
      rw (start_is (magic_at bytes) u.rest tt u.is, v.is, known, w.is, le-leb number 9999 small, z.is, s.breach z.rest z.holds) refl;
})

pub head_took : {a b c d e f : List ℕ → Type 0} {g h k l m o : BodyHash} (version : ℕ) (terms : Terms) (number : ℕ) (link : List ℕ) (count : ℕ) → Took a b g h start_at tt → Took b c h k two version → terms_with version ≡ Some terms → Took c d k l four number → number ≤ 9999 → Took d e l m (slice_at 32) link → Took e f m o eight count → Took a f g o head_at (record { terms = terms; number = number; link = link; count = count })
unfolding head_at
head_took version terms number link count p q known r small t y = record {
  part = p.part ++ (q.part ++ (r.part ++ (t.part ++ y.part)));
  moved = moved_then p.moved (moved_then q.moved (moved_then r.moved (moved_then t.moved y.moved)));
  reads = λ rest.
      let e4 = y.part ++ rest in
      let e3 = t.part ++ e4 in
      let e2 = r.part ++ e3 in
      let e1 = q.part ++ e2 in
      let regrouped : (p.part ++ (q.part ++ (r.part ++ (t.part ++ y.part)))) ++ rest ≡ p.part ++ (q.part ++ (r.part ++ (t.part ++ (y.part ++ rest)))) = simp append_assoc in
      ap head_at regrouped ∙ rw (start_is (magic_at (p.part ++ e1)) e1 tt (p.reads e1), q.reads e2, known, r.reads e3, le-leb number 9999 small, t.reads e4, y.reads rest) refl;
}

-- ---- the digest of all before it

pub end_halts : (a : List ℕ → Type 0) (body : List ℕ) (stop : FeedFault) → StopsAs a stop (slice_at 32) → StopsAs a stop (end_at body)
unfolding end_at
end_halts a body stop f = stops_by stop f (λ fault s. record { breach = λ bytes has. rw (s.breach bytes has) refl })

pub end_differs : {a b : List ℕ → Type 0} {g h : BodyHash} (body : List ℕ) (digest : List ℕ) → Took a b g h (slice_at 32) digest → (digest ≡ sha256 body → ⊥) → HasBreach a (end_at body) BadDigest
unfolding end_at
end_differs body digest p other = record {
  breach = λ bytes has.
      let x = took_at p bytes has in
      let differs : bytes_eq digest (sha256 body) ≡ false = false_from_ne_true _ (λ e. other ((bytes_eq-Decides digest (sha256 body)).0 e)) in
      rw (x.is, differs) refl;
}

pub end_took : {a b : List ℕ → Type 0} {g h : BodyHash} (body : List ℕ) (digest : List ℕ) → Took a b g h (slice_at 32) digest → digest ≡ sha256 body → Took a b g h (end_at body) tt
unfolding end_at
end_took body digest p is =
    let same : bytes_eq digest (sha256 body) ≡ true = (bytes_eq-Decides digest (sha256 body)).1 is in
    record { part = p.part; moved = p.moved; reads = λ rest. rw (p.reads rest, same) refl }

-- ---- the file

abbrev over : Option SessionValue → HeadValue → OriginValue
over past head = record { past = past; form = head.terms.form }

pub body_halts_head : (past : Option SessionValue) (a : List ℕ → Type 0) (stop : FeedFault) → StopsAs a stop head_at → StopsAs a stop (body_after past)
unfolding body_after
body_halts_head past a stop f = stops_by stop f (λ fault s. record { breach = λ bytes has. rw (s.breach bytes has) refl })

pub body_halts_records : {a b : List ℕ → Type 0} {g h : BodyHash} (past : Option SessionValue) (head : HeadValue) (stop : FeedFault) → Took a b g h head_at head → StopsAs b stop (records_from (over past head) [] head.count) → StopsAs a stop (body_after past)
unfolding body_after
body_halts_records past head stop p f = stops_by stop f (λ fault s. record {
  breach = λ bytes has.
      let x = took_at p bytes has in
      rw (x.is, s.breach x.rest x.holds) refl;
})

pub body_took : {a b c : List ℕ → Type 0} {g h k : BodyHash} (past : Option SessionValue) (head : HeadValue) (records : List RecordValue) → Took a b g h head_at head → Took b c h k (records_from (over past head) [] head.count) records → Took a c g k (body_after past) (session_of head records)
unfolding body_after
body_took past head records p q = record {
  part = p.part ++ q.part;
  moved = moved_then p.moved q.moved;
  reads = λ rest. rw (append_assoc p.part q.part rest, p.reads (q.part ++ rest), q.reads rest) refl;
}

-- what was taken is the body of a session over the previous one
pub body_is : {a b : List ℕ → Type 0} {g h : BodyHash} (past : Option SessionValue) (s : SessionValue) → IfSome past IsSession → (p : Took a b g h (body_after past) s) → FrontIs past p.part [] s
body_is past s before p = body_takes past p.part s [] before p.moved.fits (ap (body_after past) (sym (append-nil p.part)) ∙ p.reads [])

pub body_spelled : {a b : List ℕ → Type 0} {g h : BodyHash} (past : Option SessionValue) (s : SessionValue) → IfSome past IsSession → (p : Took a b g h (body_after past) s) → p.part ≡ body_bytes s
body_spelled past s before p = (body_is past s before p).takes.parts ∙ append-nil (body_bytes s)

pub front_halts_body : (past : Option SessionValue) (a : List ℕ → Type 0) (stop : FeedFault) → StopsAs a stop (body_after past) → StopsAs a stop (front_after past)
unfolding front_after
front_halts_body past a stop f = stops_by stop f (λ fault s. record { breach = λ bytes has. rw (s.breach bytes has) refl })

pub front_halts_end : {a b : List ℕ → Type 0} {g h : BodyHash} (past : Option SessionValue) (s : SessionValue) (stop : FeedFault) (p : Took a b g h (body_after past) s) → StopsAs b stop (end_at p.part) → StopsAs a stop (front_after past)
unfolding front_after
front_halts_end past s stop p f = stops_by stop f (λ fault e. record {
  breach = λ bytes has.
      let x = p.moved.given.left bytes has in
      let one : body_after past bytes ≡ Ok (s, x.rest) = ap (body_after past) x.whole ∙ p.reads x.rest in
      rw (one, front_is bytes p.part x.rest x.whole, e.breach x.rest x.holds) refl;
})

-- a digest that is another one
pub front_differs : {a b c : List ℕ → Type 0} {g h k l : BodyHash} (past : Option SessionValue) (s : SessionValue) (end : List ℕ) → IfSome past IsSession → (p : Took a b g h (body_after past) s) → Took b c k l (slice_at 32) end → (end ≡ sha256 (body_bytes s) → ⊥) → HasBreach a (front_after past) BadDigest
front_differs past s end before p q other =
    let e = end_differs p.part end q (λ (is : end ≡ sha256 p.part). other (is ∙ ap sha256 (body_spelled past s before p))) in
    front_halts_end past s (faults.Breach BadDigest) p e

-- the digest of what stands in front of it
pub front_took : {a b c : List ℕ → Type 0} {g h k l : BodyHash} (past : Option SessionValue) (s : SessionValue) (end : List ℕ) → IfSome past IsSession → (p : Took a b g h (body_after past) s) → Took b c k l (slice_at 32) end → end ≡ sha256 (body_bytes s) → FedFront a c (front_after past) s
unfolding front_after
front_took past s end before p q is =
    let r = end_took p.part end q (is ∙ ap sha256 (sym (body_spelled past s before p))) in
    record {
      part = p.part ++ r.part;
      fits = bytes_both p.part r.part p.moved.fits r.moved.fits;
      given = given_then p.moved.given r.moved.given;
      reads = λ rest. rw (append_assoc p.part r.part rest, p.reads (r.part ++ rest), front_is (p.part ++ (r.part ++ rest)) p.part (r.part ++ rest) refl, r.reads rest) refl;
    }

-- what was taken is the file of a session over the previous one
pub record IsFile (past : Option SessionValue) (part : List ℕ) (s : SessionValue) : Type 0 where
  pub session : IsSession s
  pub taken : IsTakenFrom past s
  pub spelled : part ≡ file_of s
  pub digest : sha256 part ≡ digest_of s

pub front_is_file : (past : Option SessionValue) (part : List ℕ) (s : SessionValue) → IfSome past IsSession → IsBytes part → ((rest : List ℕ) → front_after past (part ++ rest) ≡ Ok (s, rest)) → IsFile past part s
unfolding digest_of
front_is_file past part s before fits reads =
    let none : front_after past part ≡ Ok (s, []) = ap (front_after past) (sym (append-nil part)) ∙ reads [] in
    let t = front_takes past part s [] before fits none in
    let spelled : part ≡ file_of s = t.2 ∙ append-nil (file_of s) in
    record { session = t.0; taken = t.1; spelled = spelled; digest = ap sha256 spelled }

pub edges_feed : {X : Type 0} {a b : List ℕ → Type 0} (c : List ℕ → Type 0) {g h : BodyHash} (k : BodyHash) (view : X → List ℕ) (front : List RecordValue) (key : Key) (n : ℕ) (result : Result X FeedFault) → Took a b g h eight n → Feeds b c h k view result (edges_from front key [] n) → Feeds a c g k view result (edge_list_at front key)
edges_feed c k view front key n (Ok x) p f = edges_took front key n (view x) p f
edges_feed c k view front key n (Err stop) p f = edges_halt front key n stop p f

-- ---- what is read of the whole

never : {A : Type 0} (fault : FileFault) (x : A) → broken fault ≡ done x → ⊥
never fault x e = absurd cc

pub counts_other : (fault : FileFault) (old new : ℕ) → (is_device fault ≡ false) × (new ≡ old) → CountsIf (is_device fault) old new
counts_other fault old new h = subst (λ (b : Bool). CountsIf b old new) (sym h.0) h.1

module _ (past : Option SessionValue) (before : IfSome past IsSession) where
  module _ {a b : List ℕ → Type 0} {t : SessionValue} where
    pub front_file : (f : FedFront a b (front_after past) t) → IsFile past f.part t
    front_file f = front_is_file past f.part t before f.fits f.reads

    pub front_given : FedFront a b (front_after past) t → Given a b (file_of t)
    front_given f = subst (Given a b) (front_file f).spelled f.given

    -- what the bytes are that were held
    pub front_left : FedFront a b (front_after past) t → (bytes : List ℕ) → a bytes → At b (front_after past) t bytes
    front_left f bytes has =
        let l = f.given.left bytes has in
        record { rest = l.rest; is = ap (front_after past) l.whole ∙ f.reads l.rest; holds = l.holds }

    pub front_only : FedFront a b (front_after past) t → (s : SessionValue) (rest : List ℕ) → IsSession s → IsTakenFrom past s → a (file_of s ++ rest) → done t ≡ Ok s
    front_only f s rest h taken has =
        let x = front_left f (file_of s ++ rest) has in
        ap (λ (y : SessionValue × List ℕ). done y.0) (ok_is (t, x.rest) (s, rest) (sym x.is ∙ front_again past s rest h taken))

  pub front_not : {a : List ℕ → Type 0} {fault : FileFault} → HasBreach a (front_after past) fault → (s : SessionValue) (rest : List ℕ) → IsSession s → IsTakenFrom past s → a (file_of s ++ rest) → ⊥
  front_not {a} {fault} f s rest h taken has =
      never fault (s, rest) (sym (f.breach (file_of s ++ rest) has) ∙ front_again past s rest h taken)

-- ---- a feed of bytes that are in memory

-- what is read of bytes that are a file
pub record IsWhole (t s : SessionValue) (rest : List ℕ) : Type 0 where
  pub same : t ≡ s
  pub none : rest ≡ []

pub front_whole : (past : Option SessionValue) (bytes : List ℕ) (t : SessionValue) (rest : List ℕ) (s : SessionValue) → IsSession t → IsTakenFrom past t → bytes ≡ file_of t ++ rest → IsSession s → IsTakenFrom past s → bytes ≡ file_of s → IsWhole t s rest
front_whole past bytes t rest s h th e k tk f =
    let one : front_after past bytes ≡ Ok (t, rest) = ap (front_after past) e ∙ front_again past t rest h th in
    let two : front_after past bytes ≡ Ok (s, []) = ap (front_after past) (f ∙ sym (append-nil (file_of s))) ∙ front_again past s [] k tk in
    let both = ok_is (t, rest) (s, []) (sym one ∙ two) in
    record { same = ap (λ (y : SessionValue × List ℕ). y.0) both; none = ap (λ (y : SessionValue × List ℕ). y.1) both }

pub memory_breach : (past : Option SessionValue) (bytes : List ℕ) (fault : FileFault) → CountsIf (is_device fault) 0 0 → IsUnlessStopped {A = SessionValue} (Err fault) (session_after past bytes) → IsUnlessMemory {A = SessionValue} (Err fault) (file_after past bytes)
memory_breach past bytes BadMagic c e = sym (file_breaks past bytes BadMagic (sym e))
memory_breach past bytes Version c e = sym (file_breaks past bytes Version (sym e))
memory_breach past bytes Truncated c e = sym (file_breaks past bytes Truncated (sym e))
memory_breach past bytes BadDigest c e = sym (file_breaks past bytes BadDigest (sym e))
memory_breach past bytes (KeyOrder i) c e = sym (file_breaks past bytes (KeyOrder i) (sym e))
memory_breach past bytes (BadEdge i j) c e = sym (file_breaks past bytes (BadEdge i j) (sym e))
memory_breach past bytes (BadResult i) c e = sym (file_breaks past bytes (BadResult i) (sym e))
memory_breach past bytes (InputKind i) c e = sym (file_breaks past bytes (InputKind i) (sym e))
memory_breach past bytes Trailing c e = sym (file_breaks past bytes Trailing (sym e))
memory_breach past bytes Device c e = absurd (omega (arith, c))
memory_breach past bytes (BadKey i) c e = sym (file_breaks past bytes (BadKey i) (sym e))
memory_breach past bytes Number c e = sym (file_breaks past bytes Number (sym e))
memory_breach past bytes (NoPastResult i) c e = sym (file_breaks past bytes (NoPastResult i) (sym e))
memory_breach past bytes OutOfMemory c e = tt
