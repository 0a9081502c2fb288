-- Reading from a feed: what was taken from it, and what it still holds.
use Rattle.std.specs.Prelude.{◌≡◌, ℕ, ◌<◌, Bool, true, false, List, ◌++◌, length, Result, Ok, Err}
use Rattle.sha2.specs.Hashers.{Holds256}
use Rattle.byte_readers.specs.Lawful.{IsBytes}
use Rattle.devices.specs.Devices.{one_more}
use Rattle.sha2.specs.Sha256.{sha256}
use Rattle.redgreen_files.specs.Spelling.{FileValue, FileFits, file_value, file_of}
use Rattle.redgreen_files.specs.Reading.{Parser, end_at, file_at}
use Rattle.redgreen_files.specs.declared.reading.files.FiledSession.{FiledSession}
use Rattle.redgreen_files.specs.declared.fault.FileFault.{FileFault}
use Rattle.redgreen_files.specs.declared.fault.FileFault.TheVariants.{Device, Truncated}
use Rattle.devices.specs.declared.hashing.HashingSink.{HashingSink}
use Rattle.redgreen_files.specs.declared.reading.feed_fault.FeedFault.{FeedFault}
use Rattle.redgreen_files.specs.declared.reading.feed_fault.FeedFault.TheVariants as faults

abbrev pub is_device : FileFault → Bool
is_device Device = true
is_device _ = false

-- just a failure of the device is counted, and no breach of the bytes is one
abbrev pub CountsAt : FeedFault → ℕ → ℕ → Type 0
CountsAt faults.Memory old new = new ≡ old
CountsAt faults.Device old new = new ≡ one_more old
CountsAt (faults.Breach fault) old new = (is_device fault ≡ false) × (new ≡ old)

abbrev pub CountsFeedFault : {A : Type 0} → Result A FeedFault → ℕ → ℕ → Type 0
CountsFeedFault (Ok a) old new = new ≡ old
CountsFeedFault (Err stop) old new = CountsAt stop old new

-- just a failure of the device is counted
abbrev pub CountsIf : Bool → ℕ → ℕ → Type 0
CountsIf true old new = new ≡ one_more old
CountsIf false old new = new ≡ old

abbrev pub CountsDevice : {A : Type 0} → Result A FileFault → ℕ → ℕ → Type 0
CountsDevice (Ok a) old new = new ≡ old
CountsDevice (Err fault) old new = CountsIf (is_device fault) old new

-- the bytes begin with the part, and what follows it is held from now on
pub record Left (new : List ℕ → Type 0) (part bytes : List ℕ) : Type 0 where
  pub rest : List ℕ
  pub whole : bytes ≡ part ++ rest
  pub holds : new rest

-- the part was taken from what was held, if that is known
pub record Given (old new : List ℕ → Type 0) (part : List ℕ) : Type 0 where
  pub left : (bytes : List ℕ) → old bytes → Left new part bytes

-- what was held, if that is known, is shorter than this many bytes
pub record IsShorter (old : List ℕ → Type 0) (count : ℕ) : Type 0 where
  pub short : (bytes : List ℕ) → old bytes → length bytes < count

-- the room was filled with what was held, or that is too short
abbrev pub FillsNot : (List ℕ → Type 0) → ℕ → FeedFault → Type 0
FillsNot old count (faults.Breach fault) = (fault ≡ Truncated) × IsShorter old count
FillsNot old count _ = Unit {0}

abbrev pub Fills : {A : Type 0} → (List ℕ → Type 0) → (List ℕ → Type 0) → List ℕ → List ℕ → Result A FeedFault
    → Type 0
Fills old new before after (Ok a) = (length after ≡ length before) × Given old new after
Fills old new before after (Err stop) = FillsNot old (length before) stop

-- the part was taken, and was hashed after what was hashed before
pub record Moved (old new : List ℕ → Type 0) (hash_old hash_new : HashingSink) (part : List ℕ) : Type 0 where
  pub fits : IsBytes part
  pub given : Given old new part
  pub hashed : (front : List ℕ) → Holds256 hash_old.hasher front
      → Holds256 hash_new.hasher (front ++ part)

abbrev pub Pulls : {A : Type 0} → (List ℕ → Type 0) → (List ℕ → Type 0) → HashingSink → HashingSink
    → List ℕ → List ℕ → Result A FeedFault → Type 0
Pulls old new hash_old hash_new before after (Ok a) =
    (length after ≡ length before) × Moved old new hash_old hash_new after
Pulls old new hash_old hash_new before after (Err stop) = FillsNot old (length before) stop

-- the value was read from what was taken
pub record Took {A : Type 0} (old new : List ℕ → Type 0) (hash_old hash_new : HashingSink)
    (step : Parser A) (a : A) : Type 0 where
  pub part : List ℕ
  pub moved : Moved old new hash_old hash_new part
  pub reads : (rest : List ℕ) → step (part ++ rest) ≡ Ok (a, rest)

-- what was held, if that is known, has the fault
pub record HasBreach {A : Type 0} (old : List ℕ → Type 0) (step : List ℕ → Result A FileFault)
    (fault : FileFault) : Type 0 where
  pub breach : (bytes : List ℕ) → old bytes → step bytes ≡ Err fault

abbrev pub StopsAs : {A : Type 0} → (List ℕ → Type 0) → FeedFault → (List ℕ → Result A FileFault) → Type 0
StopsAs old (faults.Breach fault) step = HasBreach old step fault
StopsAs old _ step = Unit {0}

-- What a function returned, seen by view, is what reading from the feed gives, unless memory ran
-- out or the device failed.
abbrev pub Feeds : {X Y : Type 0} → (List ℕ → Type 0) → (List ℕ → Type 0) → HashingSink → HashingSink
    → (X → Y) → Result X FeedFault → Parser Y → Type 0
Feeds old new hash_old hash_new view (Ok x) step = Took old new hash_old hash_new step (view x)
Feeds old new hash_old hash_new view (Err stop) step = StopsAs old stop step

-- so many bytes were taken, and appended to the text
pub record Appended (old new : List ℕ → Type 0) (hash_old hash_new : HashingSink)
    (before after : List ℕ) (count : ℕ) : Type 0 where
  pub part : List ℕ
  pub moved : Moved old new hash_old hash_new part
  pub size : length part ≡ count
  pub appended : after ≡ before ++ part

abbrev pub Appends : {A : Type 0} → (List ℕ → Type 0) → (List ℕ → Type 0) → HashingSink → HashingSink
    → List ℕ → List ℕ → ℕ → Result A FeedFault → Type 0
Appends old new hash_old hash_new before after count (Ok a) =
    Appended old new hash_old hash_new before after count
Appends old new hash_old hash_new before after count (Err stop) = FillsNot old count stop

-- what p reads is what q reads after what was taken
pub record Leads {A : Type 0} (old new : List ℕ → Type 0) (hash_old hash_new : HashingSink)
    (p q : List ℕ → Result A FileFault) : Type 0 where
  pub part : List ℕ
  pub moved : Moved old new hash_old hash_new part
  pub leads : (rest : List ℕ) → p (part ++ rest) ≡ q rest

-- the feed held just this end, or has the fault
abbrev pub Ends : {A : Type 0} → (List ℕ → Type 0) → List ℕ → Result A FeedFault → Type 0
Ends old digest (Ok a) = (bytes : List ℕ) → old bytes → bytes ≡ digest
Ends old digest (Err stop) = StopsAs old stop (end_at digest)

-- what was read has a file, which is what the feed held
pub record IsFiled (old : List ℕ → Type 0) (filed : FiledSession) : Type 0 where
  pub fits : FileFits (file_value filed.session)
  pub found : (bytes : List ℕ) → old bytes → bytes ≡ file_of (file_value filed.session)
  pub digest : filed.digest ≡ sha256 (file_of (file_value filed.session))

abbrev pub Whole : (List ℕ → Type 0) → Result FiledSession FeedFault → Type 0
Whole old (Ok filed) = IsFiled old filed
Whole old (Err stop) = StopsAs old stop file_at

abbrev pub as_value : Result FiledSession FileFault → Result FileValue FileFault
as_value (Ok filed) = Ok (file_value filed.session)
as_value (Err fault) = Err fault
