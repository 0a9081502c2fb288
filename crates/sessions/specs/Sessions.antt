-- What a session is, and what it says about each key.
use Rattle.std.specs.Prelude.{◌≡◌, ℕ, ◌<◌, ◌≤◌, ◌^◌, List, [], ◌∷◌, map, length, take, find, slice_index_or, Option, Some, None, ◌+◌, Bool, ◌==◌, count_by}
use Rattle.std.specs.List.{AllByRecursion}
use Rattle.std.specs.Ordering.{is_eq}
use Rattle.std.specs.declared.cmp.Ordering.TheVariants.{Less}
use Rattle.std.specs.Arc.{arc_value}
use Rattle.std.specs.declared.alloc.Global.{Global}
use Rattle.std.specs.declared.sync.Arc.{Arc}
use Rattle.item_ids.specs.declared.key.Key.{Key}
use Rattle.item_ids.specs.declared.key.Key.TheVariants.{Files}
use Rattle.item_ids.specs.Keys.{kind_of, key_cmp, IsKey}
use Rattle.item_ids.specs.Inputs.{rank, is_input}
use Rattle.item_ids.specs.KeyLists.{NoneTwice}
use Rattle.result_bytes.specs.declared.value.Value.{Value}
use Rattle.result_bytes.specs.Values.{IsValue, IsOfKind, canon}
use Rattle.sessions.specs.declared.mark.Mark.{Mark}
use Rattle.sessions.specs.declared.mark.Mark.TheVariants.{Green}
use Rattle.sessions.specs.declared.terms.Form.TheVariants.{Two}
use Rattle.sessions.specs.declared.terms.Terms.{Terms}
use Rattle.sessions.specs.Marks.{is_input_mark, mark_number}

-- a key, how it became done, the indices of the records of the keys that it read, in order, and its
-- result
pub record RecordValue : Type 0 where
  pub key : Key
  pub mark : Mark
  pub edges : List ℕ
  pub value : Value

-- its terms, the number in its chain, the SHA-256 of the file before it, and the records
pub record SessionValue : Type 0 where
  pub terms : Terms
  pub number : ℕ
  pub link : List ℕ
  pub records : List RecordValue

-- the key of the record at an index
abbrev pub key_at : List RecordValue → ℕ → Key
key_at records i = slice_index_or (map (λ r. r.key) records) i Files

-- ---- what every session keeps

-- the number of the last session of a chain
abbrev pub most_number : ℕ
most_number = 9999

-- the key is greater than those of the records in front
abbrev pub IsAbove : List RecordValue → Key → Type 0
IsAbove front key = AllByRecursion (λ r. key_cmp r.key key ≡ Less) front

-- the mark is Input exactly if the key is one of an input
abbrev pub IsMarked : RecordValue → Type 0
IsMarked r = is_input_mark r.mark ≡ is_input (kind_of r.key)

-- e is the index of a record in front, whose key has a lower rank
abbrev pub IsEdge : List RecordValue → Key → ℕ → Type 0
IsEdge front key e = (e < length front) × (rank (key_at front e) < rank key)

-- what a record keeps by its type alone
pub record IsRecord (r : RecordValue) : Type 0 where
  pub names : IsKey r.key
  pub value : IsValue r.value
  pub size : length (canon r.value) < 2 ^ 64
  pub few : length r.edges < 2 ^ 64

-- what a record keeps behind those in front of it
pub record FitsBehind (front : List RecordValue) (r : RecordValue) : Type 0 where
  pub above : IsAbove front r.key
  pub marked : IsMarked r
  pub edges : AllByRecursion (IsEdge front r.key) r.edges
  pub once : NoneTwice (λ e. e) r.edges
  pub kind : IsOfKind r.key r.value
  pub kept : IsRecord r

-- each record fits behind those in front of it
abbrev pub AreRecords : List RecordValue → Type 0
AreRecords records =
    (i : ℕ) (r : RecordValue) → i < length records
    → FitsBehind (take i records) (slice_index_or records i r)

pub record IsSession (s : SessionValue) : Type 0 where
  pub number : s.number ≤ most_number
  pub link : length s.link ≡ 32
  pub few : length s.records < 2 ^ 64
  pub records : AreRecords s.records

-- ---- what a session says, with keys for edges

-- a key, how it became done, the keys that it read, in order, and its result
pub record Entry : Type 0 where
  pub key : Key
  pub mark : Mark
  pub reads : List Key
  pub value : Value

-- what a record says among these
abbrev pub entry_of : List RecordValue → RecordValue → Entry
entry_of records r =
    record { key = r.key; mark = r.mark; reads = map (key_at records) r.edges; value = r.value }

abbrev pub entries : SessionValue → List Entry
entries s = map (entry_of s.records) s.records

-- what a session says about a key, if it has a record of it
abbrev pub entry_at : SessionValue → Key → Option Entry
entry_at s key = find (λ e. is_eq (key_cmp e.key key)) (entries s)

-- each is the index of a record
abbrev pub AreInside : List RecordValue → List ℕ → Type 0
AreInside records edges = AllByRecursion (λ e. e < length records) edges

-- what a previous session, if there is one, says about a key
abbrev pub past_entry : Option SessionValue → Key → Option Entry
past_entry None key = None
past_entry (Some s) key = entry_at s key

-- In form 2 each green record of the session stands in the past, with the same result.
abbrev pub IsTakenFrom : Option SessionValue → SessionValue → Type 0
IsTakenFrom past s =
    s.terms.form ≡ Two → (q : Key) (r : Entry) → entry_at s q ≡ Some r → r.mark ≡ Green
    → (had : Entry) × (past_entry past q ≡ Some had) × (had.value ≡ r.value)

-- each of the sessions is taken from the one before it
abbrev pub AreTaken : Option SessionValue → List SessionValue → Type 0
AreTaken past [] = Unit {0}
AreTaken past (s ∷ ss) = IsTakenFrom past s × AreTaken (Some s) ss

-- a record has the mark; marks are known by their numbers
abbrev pub has_mark : Mark → RecordValue → Bool
has_mark mark r = mark_number r.mark == mark_number mark

-- how many records have the mark
abbrev pub many_of : Mark → List RecordValue → ℕ
many_of mark records = count_by (has_mark mark) records

-- the session behind an owner
abbrev pub session_in : Option (Arc SessionValue Global) → Option SessionValue
session_in None = None
session_in (Some s) = Some (arc_value s)

-- the number of the session that comes next: the one behind that of the past, or 0
abbrev pub next_number : Option SessionValue → ℕ
next_number None = 0
next_number (Some past) = past.number + 1
