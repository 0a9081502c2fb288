-- What the replay of an executed record, with the results of its edges for answers, says about it.
use Rattle.std.specs.Prelude.{◌≡◌, ◌≢◌, ℕ, ◌<◌, ◌≤◌, List, [], ◌∷◌, ◌++◌, length, take, slice_get, Some, Result, Ok, Err}
use Rattle.std.specs.List.{AllByRecursion}
use Rattle.item_ids.specs.declared.key.Key.{Key}
use Rattle.result_bytes.specs.declared.value.Value.{Value}
use Rattle.recorder.specs.Projects.{Project}
use Rattle.recorder.specs.Backed.{Meaning, ReadLists, ReadValue, keys, Gives, IsNext, Backed}
use Rattle.sessions.specs.declared.mark.Mark.TheVariants.{Executed}
use Rattle.sessions.specs.Sessions.{RecordValue, SessionValue, Entry, key_at, entry_of, entry_at}
use Rattle.graph_rules.specs.Pasts.{Past}
use Rattle.audit_graph.specs.Replays.{IsHeld, FollowsFromEdges, AreReplayed, is_before}
use Rattle.audit_graph.specs.declared.fault.AuditFault.{AuditFault}
use Rattle.audit_graph.specs.declared.fault.AuditFault.TheVariants as faults
use Rattle.audit_replay.specs.declared.replay.mismatch.Mismatch.{Mismatch}
use Rattle.audit_replay.specs.declared.replay.mismatch.Mismatch.TheVariants.{OtherRead, UnreadEdges, OtherResult, OutOfMemory}

-- the first i edges, with the values that the session holds
pub record AreFirstEdges (now : Past) (r : Entry) (i : ℕ) (told : List ReadValue) : Type 0 where
  pub within : i ≤ length r.reads
  pub edges : keys told ≡ take i r.reads
  pub held : AllByRecursion (IsHeld now) told

-- all edges, with the values that the session holds
pub record AreAllEdges (now : Past) (r : Entry) (told : List ReadValue) : Type 0 where
  pub edges : keys told ≡ r.reads
  pub held : AllByRecursion (IsHeld now) told

-- If the first i edges have their values, the next read isn't edge i, or there is no edge i.
pub record ReadsOther (mean : Meaning) (reads : ReadLists) (now : Past) (r : Entry)
    (i : ℕ) : Type 0 where
  pub told : List ReadValue
  pub first : AreFirstEdges now r i told
  pub key : Key
  pub next : IsNext mean reads r.key told key
  pub other : slice_get r.reads i ≢ Some key

-- If the first of the edges have their values, there is no other read, but there are more edges.
pub record LeavesEdges (mean : Meaning) (reads : ReadLists) (now : Past) (r : Entry) : Type 0 where
  pub count : ℕ
  pub few : count < length r.reads
  pub told : List ReadValue
  pub first : AreFirstEdges now r count told
  pub whole : (p : Project) → Gives mean p told → reads p r.key ≡ keys told

-- If the edges have their values, they are what is read, and another value follows.
pub record HasOtherResult (mean : Meaning) (reads : ReadLists) (now : Past)
    (r : Entry) : Type 0 where
  pub told : List ReadValue
  pub edges : AreAllEdges now r told
  pub value : Value
  pub backed : Backed mean reads r.key told value
  pub other : value ≢ r.value

-- ---- steps on the way

-- the session has this record, and it is executed
pub record IsExecutedIn (s : SessionValue) (item : RecordValue) : Type 0 where
  pub at : ℕ
  pub here : slice_get s.records at ≡ Some item
  pub mark : item.mark ≡ Executed

-- the session has a record at this index, and it is executed
abbrev pub IsExecutedAt : SessionValue → ℕ → Type 0
IsExecutedAt s n = (r : RecordValue) × (slice_get s.records n ≡ Some r) × (r.mark ≡ Executed)

-- one more read is that of an edge, with the value that the session holds
pub record AddsEdge (s : SessionValue) (edge : ℕ) (old new : List ReadValue) : Type 0 where
  pub told : ReadValue
  pub added : new ≡ old ++ told ∷ []
  pub key : told.key ≡ key_at s.records edge
  pub held : IsHeld (entry_at s) told

-- the keys are the first of these
abbrev pub AreFirstKeys : List Key → List Key → Type 0
AreFirstKeys front all = (length front ≤ length all) × (front ≡ take (length front) all)

-- the keys in front of this place are the first of these, and the one there isn't
pub record IsFirstOther (told all : List Key) (i : ℕ) : Type 0 where
  pub key : Key
  pub here : slice_get told i ≡ Some key
  pub within : i ≤ length all
  pub before : take i told ≡ take i all
  pub other : slice_get all i ≢ Some key

-- The record's value follows from its edges; else the first difference between it and its run.
abbrev pub RerunGives
    : Meaning → ReadLists → Past → Entry → Result (Unit {0}) Mismatch → Type 0
RerunGives mean reads now r (Ok _) = FollowsFromEdges mean reads now r
RerunGives mean reads now r (Err (OtherRead i)) = ReadsOther mean reads now r i
RerunGives mean reads now r (Err UnreadEdges) = LeavesEdges mean reads now r
RerunGives mean reads now r (Err OtherResult) = HasOtherResult mean reads now r
RerunGives mean reads now r (Err OutOfMemory) = Unit {0}

abbrev pub RerunGivesAt
    : Meaning → ReadLists → SessionValue → ℕ → Result (Unit {0}) Mismatch → Type 0
RerunGivesAt mean reads s n result =
    (r : RecordValue) → slice_get s.records n ≡ Some r
    → RerunGives mean reads (entry_at s) (entry_of s.records r) result

-- record n is executed and differs from its run, and no executed record before it does
pub record IsFirstMismatch (mean : Meaning) (reads : ReadLists) (s : SessionValue) (n : ℕ)
    (why : Mismatch) : Type 0 where
  pub item : RecordValue
  pub here : slice_get s.records n ≡ Some item
  pub executed : item.mark ≡ Executed
  pub before : AreReplayed mean reads (entry_at s) (is_before item.key)
  pub differs : RerunGives mean reads (entry_at s) (entry_of s.records item) (Err why)

-- the fault of session k whose executed record n differs from its run
abbrev pub mismatch_fault : ℕ → ℕ → Mismatch → AuditFault
mismatch_fault k n (OtherRead i) = faults.OtherRead k n i
mismatch_fault k n UnreadEdges = faults.UnreadEdges k n
mismatch_fault k n OtherResult = faults.OtherResult k n
mismatch_fault k n OutOfMemory = faults.OutOfMemory

-- the fault is that of the first executed record that differs from its run
abbrev pub RefusesPlan : Meaning → ReadLists → ℕ → SessionValue → AuditFault → Type 0
RefusesPlan mean reads k s (faults.OtherRead j n i) =
    (j ≡ k) × IsFirstMismatch mean reads s n (OtherRead i)
RefusesPlan mean reads k s (faults.UnreadEdges j n) =
    (j ≡ k) × IsFirstMismatch mean reads s n UnreadEdges
RefusesPlan mean reads k s (faults.OtherResult j n) =
    (j ≡ k) × IsFirstMismatch mean reads s n OtherResult
RefusesPlan mean reads k s faults.OutOfMemory = Unit {0}
RefusesPlan mean reads k s _ = ⊥
