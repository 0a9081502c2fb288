-- Records read from a feed, one behind the other.
use Rattle.std.specs.Prelude.{◌≡◌, ℕ, List, [], ◌∷◌, ◌++◌, Result, Ok, Err}
use Rattle.sessions.specs.Sessions.{RecordValue}
use Rattle.session_file.specs.Reading.{OriginValue, record_at}
use Rattle.session_file.specs.Feeding.{Took, StopsAs}
use Rattle.session_file.specs.declared.reading.body_hash.BodyHash.{BodyHash}
use Rattle.session_file.specs.declared.reading.feed_fault.FeedFault.{FeedFault}

-- the next record was read behind those before it, and put there
pub record TookRecord (old new : List ℕ → Type 0) (hash_old hash_new : BodyHash)
    (origin : OriginValue) (before after : List RecordValue) : Type 0 where
  pub next : RecordValue
  pub took : Took old new hash_old hash_new (record_at origin before) next
  pub appended : after ≡ before ++ next ∷ []

abbrev pub AppendsRecord : {A : Type 0} → (List ℕ → Type 0) → (List ℕ → Type 0) → BodyHash → BodyHash
    → OriginValue → List RecordValue → List RecordValue → Result A FeedFault → Type 0
AppendsRecord old new hash_old hash_new origin before after (Ok a) =
    TookRecord old new hash_old hash_new origin before after
AppendsRecord old new hash_old hash_new origin before after (Err stop) =
    StopsAs old stop (record_at origin before)
