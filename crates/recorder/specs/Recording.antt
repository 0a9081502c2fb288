-- What a recorder holds, and what each read does to it.
use Rattle.std.specs.Prelude.{◌≡◌, ◌≢◌, ◌⊎◌, List, [], ◌∷◌, ◌++◌, Contains, find, Option, Some, None, IfSome, option_map, option_and_then}
use Rattle.std.specs.List.{AllByRecursion}
use Rattle.std.specs.Ordering.{is_eq}
use Rattle.item_ids.specs.declared.key.Key.{Key}
use Rattle.item_ids.specs.Keys.{key_cmp}
use Rattle.item_ids.specs.KeyLists.{NoneTwice}
use Rattle.result_bytes.specs.declared.value.Value.{Value}
use Rattle.result_bytes.specs.Values.{IsOfKind}
use Rattle.recorder.specs.Backed.{ReadValue, IsTold}
use Rattle.recorder.specs.declared.reader.ReadFault.{ReadFault}
use Rattle.recorder.specs.declared.reader.ReadFault.TheVariants.{OutOfMemory}
use Rattle.recorder.specs.declared.refused.Refused.{Refused}

-- a reader, the first reads in order with their answers, and what is kept of a refused read
pub record Recording (D : Type 0) : Type 0 where
  pub inner : D
  pub told : List ReadValue
  pub refused : Option Refused

-- the fault that is kept of a refused read
abbrev pub fault_of : {D : Type 0} → Recording D → Option ReadFault
fault_of r = option_map (λ x. x.fault) r.refused

-- the key that is kept of a refused read
abbrev pub key_of : {D : Type 0} → Recording D → Option Key
key_of r = option_and_then (λ x. x.key) r.refused

-- the first read of k
abbrev pub first_read : Key → List ReadValue → Option ReadValue
first_read k told = find (λ t. is_eq (key_cmp t.key k)) told

-- k wasn't read
abbrev pub IsUnread : Key → List ReadValue → Type 0
IsUnread k told = AllByRecursion (λ t. t.key ≢ k) told

-- memory ran out, and no key is kept
abbrev pub IsForMemory : Refused → Type 0
IsForMemory r = (r.fault ≡ OutOfMemory) × (r.key ≡ None)

-- k is kept with the reader's fault, for which memory isn't the reason
abbrev pub IsByReader : (Key → ReadFault → Type 0) → Key → Refused → Type 0
IsByReader MayRefuse k r = (r.key ≡ Some k) × (r.fault ≢ OutOfMemory) × MayRefuse k r.fault

-- what a recorder keeps over a reader with these answers and faults
pub record KeepsReads (MayAnswer : Key → Value → Type 0) (MayRefuse : Key → ReadFault → Type 0)
    (told : List ReadValue) (refused : Option Refused) : Type 0 where
  pub answers : AllByRecursion (λ t. MayAnswer t.key t.value) told
  pub held : AllByRecursion IsTold told
  pub kinds : AllByRecursion (λ t. IsOfKind t.key t.value) told
  pub once : NoneTwice (λ t. t.key) told
  pub refusal : IfSome refused (λ r. IsForMemory r ⊎ ((k : Key) × IsByReader MayRefuse k r))

-- ---- a read of k

-- It is answered by v: from an earlier read, with nothing added, or as one more read.
pub record Answers {D : Type 0} (old : Recording D) (k : Key) (v : Value)
    (new : Recording D) : Type 0 where
  pub before : old.refused ≡ None
  pub after : new.refused ≡ None
  pub told : ((new ≡ old) × Contains old.told (record { key = k; value = v }))
      ⊎ ((new.told ≡ old.told ++ record { key = k; value = v } ∷ []) × IsUnread k old.told)

-- It is refused for the first time: memory ran out, or the reader refuses k, which wasn't read.
pub record RefusesFirst {D : Type 0} (MayRefuse : Key → ReadFault → Type 0) (old : Recording D)
    (k : Key) (new : Recording D) : Type 0 where
  pub before : old.refused ≡ None
  pub kept : IfSome new.refused (λ r. IsForMemory r
      ⊎ (IsByReader MayRefuse k r × IsUnread k old.told))

-- It is refused with f, which is kept, or as a read before it.
pub record RefusesRead {D : Type 0} (MayRefuse : Key → ReadFault → Type 0) (old : Recording D) (k : Key)
    (f : ReadFault) (new : Recording D) : Type 0 where
  pub told : new.told ≡ old.told
  pub fault : fault_of new ≡ Some f
  pub since : (new ≡ old) ⊎ RefusesFirst MayRefuse old k new
