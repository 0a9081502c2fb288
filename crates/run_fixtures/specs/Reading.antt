-- Reads, runs and their outcomes, as short texts give them.
use Rattle.std.specs.Prelude.{◌≡◌, ◌≢◌, ◌↔◌, ◌⊎◌, ℕ, Bool, false, List, [], ◌∷◌, Option, Some, None, Result, Ok, Err, IsTrue, Contains}
use Rattle.std.specs.List.{AllZip}
use Rattle.item_ids.specs.declared.key.Key.{Key}
use Rattle.result_bytes.specs.declared.value.Value.{Value}
use Rattle.result_bytes.specs.Values.{canon}
use Rattle.fingerprint.specs.Prints.{print_of}
use Rattle.recorder.specs.Backed.{ReadValue, Asked as AsksInOrder}
use Rattle.recorder.specs.Recording.{Recording, IsUnread, fault_of, key_of}
use Rattle.recorder.specs.Runs.{OutcomeValue, IsOutcome, IsNextRefused}
use Rattle.recorder.specs.declared.reader.ReadFault.{ReadFault}
use Rattle.recorder.specs.declared.reader.ReadFault.TheVariants.{NotHeld}
use Rattle.recorder.specs.declared.runner.RunFault.{RunFault}
use Rattle.recorder.specs.declared.runner.RunFault.TheVariants.{Read}
use Rattle.run_fixtures.specs.Meaning.{sample_mean}
use Rattle.run_fixtures.specs.Programs.{sample_reads}
use Rattle.answer_fixtures.specs.declared.keys.KeyParts.{KeyParts}
use Rattle.answer_fixtures.specs.Telling.{Tell, IsKeyOf, IsSpelledValue}
use Rattle.run_fixtures.specs.declared.reads.Given.{Given}
use Rattle.run_fixtures.specs.declared.refusals.KeptReads.{KeptReads}

-- ---- reads

-- the read is of the key that is given, and the digits spell its answer
pub record IsReadOf (given : Given) (read : ReadValue) : Type 0 where
  pub key : IsKeyOf given.0 read.key
  pub answer : Tell given.1.now (canon read.value)

-- the reads are those that are given, in their order
abbrev pub AreReadsOf : List Given → List ReadValue → Type 0
AreReadsOf given reads = AllZip IsReadOf given reads

-- the list has the read that is given
abbrev pub HasRead : Given → List ReadValue → Type 0
HasRead given list = (read : ReadValue) × Contains list read × IsReadOf given read

-- the list has no read of the key
abbrev pub LacksKey : Given → List ReadValue → Type 0
LacksKey given list = (key : Key) × IsKeyOf given.0 key × IsUnread key list

-- the list has a read of the key, with another answer
abbrev pub AnswersOtherwise : Given → List ReadValue → Type 0
AnswersOtherwise given list =
    (read : ReadValue) × Contains list read × IsKeyOf given.0 read.key
    × ¬ Tell given.1.now (canon read.value)

-- the answer to whether the list has the answer that is given for its key
pub record Holds (given : Given) (list : List ReadValue) (answer : Bool) : Type 0 where
  pub found : IsTrue answer → HasRead given list
  pub missing : answer ≡ false → LacksKey given list ⊎ AnswersOtherwise given list

-- the key is the one that is given, or both are missing
abbrev pub IsRefusedKey : Option KeyParts → Option Key → Type 0
IsRefusedKey (Some asked) (Some key) = IsKeyOf asked key
IsRefusedKey None None = Unit {0}
IsRefusedKey _ _ = ⊥

-- of reads just these are kept, and of a refused one this fault and this key
pub record KeepsJust (kept : KeptReads) {D : Type 0} (r : Recording D) : Type 0 where
  pub fault : fault_of r ≡ kept.fault
  pub refused : IsRefusedKey kept.refused (key_of r)
  pub reads : AreReadsOf kept.reads.now r.told

-- ---- results

-- the answer to whether the results that are given, and their fingerprints, are the same
pub record AreSame (one other : Given) (answer : Bool) : Type 0 where
  pub first : Value
  pub second : Value
  pub of_one : IsSpelledValue one.0.0 one.1.now first
  pub of_other : IsSpelledValue other.0.0 other.1.now second
  pub told : IsTrue answer ↔ ((first ≡ second) × (print_of first ≡ print_of second))

-- the answer to whether neither the results that are given nor their fingerprints are the same
pub record AreToldApart (one other : Given) (answer : Bool) : Type 0 where
  pub first : Value
  pub second : Value
  pub of_one : IsSpelledValue one.0.0 one.1.now first
  pub of_other : IsSpelledValue other.0.0 other.1.now second
  pub told : IsTrue answer ↔ ((first ≢ second) × (print_of first ≢ print_of second))

-- a program ended with the value that the digits spell
abbrev pub EndsWith : List ℕ → Result Value RunFault → Type 0
EndsWith digits (Ok v) = Tell digits (canon v)
EndsWith digits (Err e) = ⊥

-- a program ended with the value that the digits spell, after the reads that are given
pub record EndsWithValue (digits : List ℕ) (given : List Given) (ending : Result Value RunFault)
    (told : List ReadValue) : Type 0 where
  pub value : EndsWith digits ending
  pub reads : AreReadsOf given told

-- a program gave up as an answer isn't held, and just this is kept
pub record Wants (kept : KeptReads) (ending : Result Value RunFault) {D : Type 0} (r : Recording D)
    : Type 0 where
  pub fault : ending ≡ Err (Read NotHeld)
  pub keeps : KeepsJust kept r

-- ---- runs

-- the outcome is of the run that is given, with its result, after the reads that are given
pub record IsOutcomeOf (run : Given) (given : List Given) (o : OutcomeValue) : Type 0 where
  pub key : IsKeyOf run.0 o.key
  pub value : Tell run.1.now (canon o.value)
  pub reads : AreReadsOf given o.told

-- the answer to whether an outcome of the sample runner is the one that is given
pub record IsGivenOutcome (run : Given) (given : List Given) (answer : Bool) : Type 0 where
  pub outcome : OutcomeValue
  pub of_runner : IsOutcome sample_mean sample_reads outcome
  pub of_key : IsKeyOf run.0 outcome.key
  pub told : IsTrue answer ↔ IsOutcomeOf run given outcome

-- ---- runs whose reads are refused

-- just the key that is given is logged
abbrev pub IsLoggedAs : List Key → KeyParts → Type 0
IsLoggedAs (key ∷ []) asked = IsKeyOf asked key
IsLoggedAs _ asked = ⊥

-- a run of the key that is given has read this far, each key where the sample runner reads it
pub record IsHalted (asked : KeyParts) {D : Type 0} (r : Recording D) : Type 0 where
  pub key : Key
  pub of_key : IsKeyOf asked key
  pub in_order : AsksInOrder sample_mean sample_reads key r.told
  pub next : IsNextRefused sample_mean sample_reads key r

-- a run of the key that is given is refused with this fault, and its recorder keeps just this
pub record IsLeft (asked : KeyParts) (fault : ReadFault) (kept : KeptReads) {D : Type 0} (r : Recording D)
    : Type 0 where
  pub halted : IsHalted asked r
  pub fault_told : fault_of r ≡ Some fault
  pub keeps : KeepsJust kept r

-- its first read is refused with this fault, and its recorder keeps that and this key
pub record IsLeftUnread (asked : KeyParts) (fault : ReadFault) (refused : Option KeyParts) {D : Type 0}
    (r : Recording D) : Type 0 where
  pub halted : IsHalted asked r
  pub fault_told : fault_of r ≡ Some fault
  pub refused_told : IsRefusedKey refused (key_of r)
  pub unread : r.told ≡ []
