-- The outcomes of keys that a recorder is asked for, one after the other.
use Rattle.std.specs.Prelude.{◌≡◌, ◌⊎◌, List, [], ◌∷◌, Some, None, Contains}
use Rattle.item_ids.specs.declared.key.Key.{Key}
use Rattle.item_ids.specs.declared.kind.Kind.TheVariants.{Source}
use Rattle.result_bytes.specs.declared.value.Value.{Value}
use Rattle.result_bytes.specs.Values.{canon, kind_of_value}
use Rattle.recorder.specs.Backed.{ReadValue}
use Rattle.recorder.specs.Recording.{Recording, IsUnread, Answers, RefusesRead, fault_of}
use Rattle.recorder.specs.Programs.{Goes, GivesUp as StepGivesUp, Ask as AskStep}
use Rattle.recorder.specs.declared.reader.ReadFault.{ReadFault}
use Rattle.recorder.specs.declared.reader.ReadFault.TheVariants as faults
use Rattle.recorder.specs.declared.runner.RunFault.TheVariants.{Read}
use Rattle.answer_fixtures.specs.declared.keys.KeyParts.{KeyParts}
use Rattle.answer_fixtures.specs.Telling.{IsKeyOf}
use Rattle.run_fixtures.specs.declared.reads.Given.{Given}
use Rattle.run_fixtures.specs.declared.counting.CountingReader.{CountingReader}
use Rattle.run_fixtures.specs.declared.counting.Ask.{Ask}
use Rattle.run_fixtures.specs.declared.counting.Ask.TheVariants.{Again, Answered, NotHeld, GivesUp}
use Rattle.run_fixtures.specs.Reading.{AreReadsOf}

-- a recorder over a list whose reader counts what it is asked
abbrev pub Counted : Type 0
Counted = Recording CountingReader

-- why the list may refuse the key: memory ran out, or it has no answer
abbrev pub MayRefuse : List ReadValue → Key → ReadFault → Type 0
MayRefuse list key fault = (fault ≡ faults.OutOfMemory) ⊎ ((fault ≡ faults.NotHeld) × IsUnread key list)

-- it is answered
pub record IsAnswered (key : Key) (old new : Counted) : Type 0 where
  pub value : Value
  pub read : Answers old key value new

-- it is answered with a source, which a step is given again
pub record IsAnsweredTwice (key : Key) (old new : Counted) : Type 0 where
  pub value : Value
  pub source : kind_of_value value ≡ Source
  pub between : Counted
  pub read : Answers old key value between
  pub again : Value
  pub step : Goes (AskStep key) between again new
  pub same : canon again ≡ canon value

-- the key has this outcome
abbrev pub BecomesOf : Ask → Key → Counted → Counted → Type 0
BecomesOf (Again asked) key old new = IsAnsweredTwice key old new
BecomesOf (Answered asked) key old new = IsAnswered key old new
BecomesOf (NotHeld asked) key old new = RefusesRead (MayRefuse new.inner.list) old key faults.NotHeld new
BecomesOf (GivesUp asked) key old new =
    StepGivesUp (AskStep key) old (Read faults.NotHeld) new × (fault_of new ≡ Some faults.NotHeld)

abbrev pub asked_by : Ask → KeyParts
asked_by (Again asked) = asked
asked_by (Answered asked) = asked
asked_by (NotHeld asked) = asked
asked_by (GivesUp asked) = asked

-- the key that is given has its outcome
pub record Becomes (ask : Ask) (old new : Counted) : Type 0 where
  pub key : Key
  pub of_key : IsKeyOf (asked_by ask) key
  pub told : BecomesOf ask key old new

-- the keys have these outcomes, one after the other
abbrev pub AllBecome : List Ask → Counted → Counted → Type 0
AllBecome [] old new = new ≡ old
AllBecome (ask ∷ asks) old new =
    (between : Counted) × Becomes ask old between × AllBecome asks between new

-- a recorder over the list that hasn't read, whose reader wasn't asked
abbrev pub fresh : List ReadValue → Counted
fresh list = record { inner = record { list = list; count = 0 }; told = []; refused = None }

-- the keys had these outcomes, by a recorder over the list of these answers
pub record IsAfter (answers : List Given) (asks : List Ask) (end : Counted) : Type 0 where
  pub list : List ReadValue
  pub of_list : AreReadsOf answers list
  pub asked : AllBecome asks (fresh list) end

-- the list has an answer for the key that is given
pub record HasAnswer (list : List ReadValue) (asked : KeyParts) : Type 0 where
  pub key : Key
  pub of_key : IsKeyOf asked key
  pub value : Value
  pub answer : Contains list (record { key = key; value = value })
