-- What a run of a query keeps to.
use Rattle.std.specs.Prelude.{◌≡◌, ◌<◌, List, [], ◌∷◌, ◌++◌, Option, None, Some, IfSome, Result, IfOk, IfErr}
use Rattle.std.specs.List.{AllByRecursion}
use Rattle.profiles.specs.declared.profile.Profile.{Profile}
use Rattle.item_ids.specs.declared.key.Key.{Key}
use Rattle.item_ids.specs.Keys.{IsKey}
use Rattle.item_ids.specs.Inputs.{rank}
use Rattle.item_ids.specs.KeyLists.{AreLower, NoneTwice}
use Rattle.result_bytes.specs.declared.value.Value.{Value}
use Rattle.result_bytes.specs.Values.{IsValue, IsOfKind}
use Rattle.recorder.specs.Backed.{Meaning, ReadLists, ReadValue, IsTold, keys, Asked, IsNext, Backed}
use Rattle.recorder.specs.Recording.{Recording, fault_of, key_of}
use Rattle.recorder.specs.declared.reader.ReadFault.{ReadFault}
use Rattle.recorder.specs.declared.runner.RunFault.{RunFault}
use Rattle.recorder.specs.declared.runner.RunFault.TheVariants.{Read, OutOfMemory}

-- the key that is kept of a refused read is the next read of q, and of lower rank
abbrev pub IsNextRefused : Meaning → ReadLists → Key → {D : Type 0} → Recording D → Type 0
IsNextRefused mean reads q r =
    IfSome (key_of r) (λ k. (rank k < rank q) × IsNext mean reads q r.told k)

-- the reader's fault in a run's
abbrev pub read_fault : RunFault → Option ReadFault
read_fault (Read f) = Some f
read_fault OutOfMemory = None

-- The fault is the one that the recorder keeps: of a refused read the reader's fault, and if no
-- read was refused, that memory ran out.
abbrev pub TellsFault : {D : Type 0} → Recording D → RunFault → Type 0
TellsFault r e = read_fault e ≡ fault_of r

-- the fault is one of the reader, which the recorder keeps
abbrev pub IsReadFault : {D : Type 0} → Recording D → RunFault → Type 0
IsReadFault r (Read f) = fault_of r ≡ Some f
IsReadFault r OutOfMemory = ⊥

-- a run of q that left this recorder and this result
pub record IsRun (mean : Meaning) (reads : ReadLists) (q : Key) {D : Type 0} (r : Recording D)
    (result : Result Value RunFault) : Type 0 where
  -- each key asked, a refused one too, is the next read of q, and of lower rank
  pub asked : Asked mean reads q r.told
  pub lower : AreLower q (keys r.told)
  pub refused : IsNextRefused mean reads q r
  -- with a value no read was refused; the value is of the key's kind and follows from the reads
  pub unrefused : IfOk result (λ v. r.refused ≡ None)
  pub kind : IfOk result (λ v. IsOfKind q v)
  pub backed : IfOk result (λ v. Backed mean reads q r.told v)
  -- without one the fault is that of the refused read, or that memory ran out if none was
  -- refused
  pub fault : IfErr result (λ e. TellsFault r e)

-- the log grew by q
abbrev pub Logs : Key → List Key → List Key → Type 0
Logs q old new = new ≡ old ++ q ∷ []

-- ---- the outcome of a run

-- the profile of the run, a key, what was read for it, and its value
pub record OutcomeValue : Type 0 where
  pub profile : Profile
  pub key : Key
  pub told : List ReadValue
  pub value : Value

pub record IsOutcome (mean : Meaning) (reads : ReadLists) (o : OutcomeValue) : Type 0 where
  pub kind : IsOfKind o.key o.value
  pub backed : Backed mean reads o.key o.told o.value
  pub lower : AreLower o.key (keys o.told)
  pub once : NoneTwice (λ t. t.key) o.told
  -- the key, the value and what was read are such as types keep them
  pub key : IsKey o.key
  pub value : IsValue o.value
  pub told : AllByRecursion IsTold o.told
