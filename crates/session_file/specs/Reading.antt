-- Reading a session's file from left to right, with the first breach that is met.
use Rattle.std.specs.Prelude.{◌≡◌, ◌≢◌, ◌≤◌, ℕ, zero, suc, ◌-◌, Bool, true, false, not, ◌&&◌, ◌||◌, List, [], ◌∷◌, ◌++◌, length, take, drop, slice_get, Option, Some, None, option_map, Result, Ok, Err, nat_lt, nat_le, bytes_eq, ◌==◌, if◌then◌else◌}
use Rattle.std.specs.Bool.{beq}
use Rattle.std.specs.Ordering.{is_lt}
use Rattle.sha2.specs.Sha256.{sha256}
use Rattle.item_ids.specs.declared.kind.Kind.{Kind}
use Rattle.item_ids.specs.declared.key.Key.{Key}
use Rattle.item_ids.specs.Keys.{kind_of, key_cmp}
use Rattle.item_ids.specs.Inputs.{is_input, rank}
use Rattle.byte_readers.specs.declared.breach.Breach.{Breach}
use Rattle.byte_readers.specs.Reading.{byte_at, two_at, four_at, eight_at}
use Rattle.result_bytes.specs.declared.refusal.Refusal.{Refusal}
use Rattle.result_bytes.specs.declared.value.Value.{Value}
use Rattle.result_bytes.specs.Values.{decoding}
use Rattle.fingerprint.specs.Prints.{print_of}
use Rattle.sessions.specs.declared.mark.Mark.{Mark}
use Rattle.sessions.specs.declared.terms.Form.{Form}
use Rattle.sessions.specs.declared.terms.Terms.{Terms}
use Rattle.sessions.specs.Marks.{is_input_mark}
use Rattle.sessions.specs.Terms.{terms_with, ends_with_print}
use Rattle.sessions.specs.Sessions.{most_number, RecordValue, SessionValue, Entry, key_at, past_entry}
use Rattle.sessions.specs.Spelling.{body_bytes}
use Rattle.session_file.specs.declared.fault.FileFault.{FileFault}
use Rattle.session_file.specs.declared.fault.FileFault.TheVariants.{BadMagic, Version, Truncated, BadDigest, KeyOrder, BadEdge, Result as BadResult, InputKind, Trailing, Device, BadKey, Number, NoPastResult, OutOfMemory}
use Rattle.session_file.specs.Keys.{key_with, mark_with}

infixl 10 ◌>>=◌
abbrev pub ◌>>=◌ : {A B : Type 0} → Result A FileFault → (A → Result B FileFault)
    → Result B FileFault
(Ok x) >>= f = f x
(Err e) >>= f = Err e

-- A reader answers a value and the bytes behind it.
abbrev pub Parser : Type 0 → Type 0
Parser A = List ℕ → Result (A × List ℕ) FileFault

-- the answer, unless memory ran out or the device failed
abbrev pub IsUnlessStopped : {A : Type 0} → Result A FileFault → Result A FileFault → Type 0
IsUnlessStopped (Err OutOfMemory) answer = Unit {0}
IsUnlessStopped (Err Device) answer = Unit {0}
IsUnlessStopped result answer = result ≡ answer

-- the answer, unless memory ran out
abbrev pub IsUnlessMemory : {A : Type 0} → Result A FileFault → Result A FileFault → Type 0
IsUnlessMemory (Err OutOfMemory) answer = Unit {0}
IsUnlessMemory result answer = result ≡ answer

-- ---- parts that have a length

-- an item that the bytes end within
abbrev pub or_truncated : {A : Type 0} → Result A Breach → Result A FileFault
or_truncated (Ok x) = Ok x
or_truncated (Err breach) = Err Truncated

-- so many bytes
unfoldable pub slice_at : ℕ → Parser (List ℕ)
slice_at n bytes =
    if nat_lt (length bytes) n then Err Truncated else Ok (take n bytes, drop n bytes)

-- one byte of length, and so many bytes
unfoldable pub short_text_at : Parser (List ℕ)
short_text_at bytes = do
  n ← or_truncated (byte_at bytes)
  slice_at n.0 n.1

-- what is there, else a fault
abbrev pub there : {A : Type 0} → FileFault → Option A → List ℕ → Result (A × List ℕ) FileFault
there fault None rest = Err fault
there fault (Some a) rest = Ok (a, rest)

-- a test, else a fault
abbrev pub tested : Bool → FileFault → Result (Unit {0}) FileFault
tested true fault = Ok tt
tested false fault = Err fault

-- ---- a record behind those in front of it

pub record ItemValue : Type 0 where
  pub key : Key
  pub mark : Mark

abbrev pub item_with : Option Key → Option Mark → Option ItemValue
item_with (Some key) (Some mark) = Some (record { key = key; mark = mark })
item_with _ _ = None

-- a key and its mark
unfoldable pub item_at : ℕ → Parser ItemValue
item_at i bytes = do
  kind ← or_truncated (byte_at bytes)
  class ← short_text_at kind.1
  member ← short_text_at class.1
  mark ← or_truncated (byte_at member.1)
  there (BadKey i) (item_with (key_with kind.0 class.0 member.0) (mark_with mark.0)) mark.1

abbrev pub is_behind : Option RecordValue → Key → Bool
is_behind None key = true
is_behind (Some last) key = is_lt (key_cmp last.key key)

-- the key is greater than the one before, and its mark is Input exactly if it is an input
unfoldable pub check_place : List RecordValue → ItemValue → Result (Unit {0}) FileFault
check_place front item = do
  order ← tested (is_behind (slice_get front (length front - 1)) item.key) (KeyOrder (length front))
  tested (beq (is_input_mark item.mark) (is_input (kind_of item.key))) (InputKind (length front))

-- a key and its mark, if these may follow the records in front
unfoldable pub placed_item_at : List RecordValue → Parser ItemValue
placed_item_at front bytes = do
  item ← item_at (length front) bytes
  place ← check_place front item.0
  Ok item

abbrev pub is_among : List ℕ → ℕ → Bool
is_among [] e = false
is_among (d ∷ ds) e = (d == e) || is_among ds e

-- e is the index of a record in front whose key has a lower rank, and none of those before it
abbrev pub is_next_edge : List RecordValue → Key → List ℕ → ℕ → Bool
is_next_edge front key edges e =
    nat_lt e (length front) && (nat_lt (rank (key_at front e)) (rank key) && not (is_among edges e))

-- so many edges, behind those before them
unfoldable pub edges_from : List RecordValue → Key → List ℕ → ℕ → Parser (List ℕ)
edges_from front key edges zero bytes = Ok (edges, bytes)
edges_from front key edges (suc n) bytes = do
  e ← or_truncated (eight_at bytes)
  if is_next_edge front key edges e.0
      then edges_from front key (edges ++ e.0 ∷ []) n e.1
      else Err (BadEdge (length front) (length edges))

unfoldable pub edge_list_at : List RecordValue → Key → Parser (List ℕ)
edge_list_at front key bytes = do
  n ← or_truncated (eight_at bytes)
  edges_from front key [] n.0 n.1

-- the value, if it has this fingerprint
abbrev pub with_print : List ℕ → Value → Option Value
with_print print v = if bytes_eq print (print_of v) then Some v else None

abbrev pub value_with_print : List ℕ → Result Value Refusal → Option Value
value_with_print print (Ok v) = with_print print v
value_with_print print (Err refusal) = None

-- a value of a kind that has the fingerprint in front of it
unfoldable pub result_at : ℕ → Kind → Parser Value
result_at i kind bytes = do
  print ← slice_at 32 bytes
  n ← or_truncated (eight_at print.1)
  text ← slice_at n.0 n.1
  there (BadResult i) (value_with_print print.0 (decoding kind text.0)) text.1

-- What records are read over: the previous session, if there is one, and the form of the file.
pub record OriginValue : Type 0 where
  pub past : Option SessionValue
  pub form : Form

-- the result that the previous session has of a key
abbrev pub past_value : Option SessionValue → Key → Option Value
past_value past key = option_map (λ (r : Entry). r.value) (past_entry past key)

abbrev pub past_with_print : List ℕ → Option Value → Option Value
past_with_print print (Some v) = with_print print v
past_with_print print None = None

-- a fingerprint, which is that of the previous session's result
unfoldable pub taken_at : ℕ → Option Value → Parser Value
taken_at i had bytes = do
  print ← slice_at 32 bytes
  there (NoPastResult i) (past_with_print print.0 had) print.1

-- what a record ends with
unfoldable pub told_at : OriginValue → ℕ → ItemValue → Parser Value
told_at origin i item =
    if ends_with_print origin.form item.mark then taken_at i (past_value origin.past item.key)
    else result_at i (kind_of item.key)

pub record RestValue : Type 0 where
  pub edges : List ℕ
  pub value : Value

-- what follows a key and its mark
unfoldable pub rest_at : OriginValue → List RecordValue → ItemValue → Parser RestValue
rest_at origin front item bytes = do
  edges ← edge_list_at front item.key bytes
  value ← told_at origin (length front) item edges.1
  Ok (record { edges = edges.0; value = value.0 }, value.1)

unfoldable pub record_at : OriginValue → List RecordValue → Parser RecordValue
record_at origin front bytes = do
  item ← placed_item_at front bytes
  rest ← rest_at origin front item.0 item.1
  Ok (
    record { key = item.0.key; mark = item.0.mark; edges = rest.0.edges; value = rest.0.value },
    rest.1,
  )

-- ---- the file

-- so many records, behind those in front of them
unfoldable pub records_from : OriginValue → List RecordValue → ℕ → Parser (List RecordValue)
records_from origin front zero bytes = Ok (front, bytes)
records_from origin front (suc n) bytes = do
  r ← record_at origin front bytes
  records_from origin (front ++ r.0 ∷ []) n r.1

-- what stands before the records
pub record HeadValue : Type 0 where
  pub terms : Terms
  pub number : ℕ
  pub link : List ℕ
  pub count : ℕ

abbrev pub magic : List ℕ
magic = 0x4d ∷ 0x4a ∷ 0x52 ∷ 0x47 ∷ []

-- what follows the first four bytes
unfoldable pub magic_at : List ℕ → Result (List ℕ) FileFault
magic_at bytes =
    if nat_lt (length bytes) 4 then Err BadMagic
    else (if bytes_eq (take 4 bytes) magic then Ok (drop 4 bytes) else Err BadMagic)

-- the same as a reader
abbrev pub start_at : Parser (Unit {0})
start_at bytes = do
  rest ← magic_at bytes
  Ok (tt, rest)

unfoldable pub head_at : Parser HeadValue
head_at bytes = do
  rest ← magic_at bytes
  version ← or_truncated (two_at rest)
  terms ← there Version (terms_with version.0) version.1
  number ← or_truncated (four_at terms.1)
  small ← tested (nat_le number.0 most_number) Number
  link ← slice_at 32 number.1
  count ← or_truncated (eight_at link.1)
  Ok (
    record { terms = terms.0; number = number.0; link = link.0; count = count.0 },
    count.1,
  )

-- the digest of all before it
unfoldable pub end_at : List ℕ → Parser (Unit {0})
end_at body bytes = do
  digest ← slice_at 32 bytes
  right ← tested (bytes_eq digest.0 (sha256 body)) BadDigest
  Ok (tt, digest.1)

-- the session that a head and records make
abbrev pub session_of : HeadValue → List RecordValue → SessionValue
session_of head records = record {
  terms = head.terms;
  number = head.number;
  link = head.link;
  records = records;
}

-- the session over the previous one with whose file, but for its end, the bytes begin
unfoldable pub body_after : Option SessionValue → Parser SessionValue
body_after past bytes = do
  head ← head_at bytes
  records ← records_from (record { past = past; form = head.0.terms.form }) [] head.0.count head.1
  Ok (session_of head.0 records.0, records.1)

-- the session over the previous one with whose file the bytes begin, or the first breach
unfoldable pub front_after : Option SessionValue → Parser SessionValue
front_after past bytes = do
  body ← body_after past bytes
  end ← end_at (take (length bytes - length body.1) bytes) body.1
  Ok (body.0, end.1)

abbrev pub session_after : Option SessionValue → List ℕ → Result SessionValue FileFault
session_after past bytes = do
  s ← front_after past bytes
  Ok s.0

-- the session over the previous one whose file the bytes are, or the first breach; nothing follows
-- the file
unfoldable pub file_after : Option SessionValue → List ℕ → Result SessionValue FileFault
file_after past bytes = do
  s ← front_after past bytes
  none ← tested (length s.1 == 0) Trailing
  Ok s.0

-- the same if there is no previous session
abbrev pub front_at : Parser SessionValue
front_at = front_after None

abbrev pub session_at : List ℕ → Result SessionValue FileFault
session_at = session_after None

abbrev pub file_at : List ℕ → Result SessionValue FileFault
file_at = file_after None

-- ---- pieces of the file

-- whether a session was read whose file ends with these bytes
abbrev pub EndsWith : SessionValue → List ℕ → Result SessionValue FileFault → Type 0
EndsWith s end (Ok t) = (t ≡ s) × (end ≡ sha256 (body_bytes s))
EndsWith s end (Err fault) = (fault ≡ BadDigest) × (end ≢ sha256 (body_bytes s))

-- the session that stands in front of the last bytes, so many, or the first breach
abbrev pub ReadsBody : Option SessionValue → List ℕ → Result (SessionValue × ℕ) FileFault → Type 0
ReadsBody past bytes (Ok x) =
    (x.1 ≤ length bytes) × (body_after past bytes ≡ Ok (x.0, drop (length bytes - x.1) bytes))
ReadsBody past bytes (Err fault) =
    IsUnlessMemory {A = SessionValue × List ℕ} (Err fault) (body_after past bytes)

-- what a file comes to of which this session was read, and these bytes are left
abbrev pub ended_at : SessionValue → List ℕ → Result SessionValue FileFault
ended_at s bytes = do
  end ← end_at (body_bytes s) bytes
  none ← tested (length end.1 == 0) Trailing
  Ok s
