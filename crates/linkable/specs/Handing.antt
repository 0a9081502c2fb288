-- Texts in the caller's buffers.
use Rattle.std.specs.Prelude.{◌≡◌, ℕ, ◌≤◌, List, ◌++◌, length, drop}
use Rattle.linkable.specs.Telling.{SessionTelling, Telling}
use Rattle.linkable.specs.declared.handing.Outcome.{Outcome}
use Rattle.linkable.specs.declared.handing.SessionOutcome.{SessionOutcome}

-- a text at the front of a buffer
abbrev pub written : List ℕ → List ℕ → List ℕ
written text buffer = text ++ drop (length text) buffer

-- Each buffer has room for its text.
abbrev pub HaveRoom : Telling → List ℕ → List ℕ → Type 0
HaveRoom telling out err = (length telling.answer ≤ length out) × (length telling.notes ≤ length err)

-- Both buffers are as they were.
abbrev pub AreUntouched : List ℕ → List ℕ → List ℕ → List ℕ → Type 0
AreUntouched out_old out_new err_old err_new = (out_new ≡ out_old) × (err_new ≡ err_old)

-- Each text stands in its buffer, and the call ends with its status. If a buffer is too small neither
-- does, and the call ends with 5. Either way the caller learns how long the texts are.
pub record IsHandedOver (telling : Telling) (outcome : Outcome)
    (out_old out_new err_old err_new : List ℕ) : Type 0 where
  pub out_length : outcome.out_length ≡ length telling.answer
  pub err_length : outcome.err_length ≡ length telling.notes
  pub ends : HaveRoom telling out_old err_old → outcome.status ≡ telling.status
  pub answer : HaveRoom telling out_old err_old → out_new ≡ written telling.answer out_old
  pub notes : HaveRoom telling out_old err_old → err_new ≡ written telling.notes err_old
  pub too_small : (HaveRoom telling out_old err_old → ⊥) → outcome.status ≡ 5
  pub untouched : (HaveRoom telling out_old err_old → ⊥)
      → AreUntouched out_old out_new err_old err_new

-- What is reported like this is handed over.
pub record Writes (Tells : Telling → Type 0) (outcome : Outcome)
    (out_old out_new err_old err_new : List ℕ) : Type 0 where
  pub telling : Telling
  pub tells : Tells telling
  pub handed : IsHandedOver telling outcome out_old out_new err_old err_new

-- There are no texts, and nothing is written.
pub record IsOutOfMemory (outcome : Outcome)
    (out_old out_new err_old err_new : List ℕ) : Type 0 where
  pub out_length : outcome.out_length ≡ 0
  pub err_length : outcome.err_length ≡ 0
  pub untouched : AreUntouched out_old out_new err_old err_new

-- ---- with the file of a session

-- What buffers hold: that of the file, and those of the texts.
pub record Buffers : Type 0 where
  pub session : List ℕ
  pub out : List ℕ
  pub err : List ℕ

abbrev pub buffers : List ℕ → List ℕ → List ℕ → Buffers
buffers session out err = record { session = session; out = out; err = err }

-- Each buffer has room for what is its own.
abbrev pub HaveRoomFor : SessionTelling → Buffers → Type 0
HaveRoomFor telling old =
    (length telling.session ≤ length old.session) × HaveRoom telling.texts old.out old.err

-- the file and the texts at the fronts of the buffers
abbrev pub all_written : SessionTelling → Buffers → Buffers
all_written telling old = record {
  session = written telling.session old.session;
  out = written telling.texts.answer old.out;
  err = written telling.texts.notes old.err;
}

-- The file and the texts stand in their buffers, and the call ends with its status. If a buffer is too
-- small none does, and the call ends with 5. Either way the caller learns how long they are.
pub record IsSessionHandedOver (telling : SessionTelling) (outcome : SessionOutcome)
    (old new : Buffers) : Type 0 where
  pub session_length : outcome.session_length ≡ length telling.session
  pub out_length : outcome.out_length ≡ length telling.texts.answer
  pub err_length : outcome.err_length ≡ length telling.texts.notes
  pub ends : HaveRoomFor telling old → outcome.status ≡ telling.texts.status
  pub all : HaveRoomFor telling old → new ≡ all_written telling old
  pub too_small : (HaveRoomFor telling old → ⊥) → outcome.status ≡ 5
  pub untouched : (HaveRoomFor telling old → ⊥) → new ≡ old

-- What is reported like this is handed over.
pub record WritesSession (Tells : SessionTelling → Type 0) (outcome : SessionOutcome)
    (old new : Buffers) : Type 0 where
  pub telling : SessionTelling
  pub tells : Tells telling
  pub handed : IsSessionHandedOver telling outcome old new

-- There is no file and there are no texts, and nothing is written.
pub record IsSessionOutOfMemory (outcome : SessionOutcome) (old new : Buffers) : Type 0 where
  pub session_length : outcome.session_length ≡ 0
  pub out_length : outcome.out_length ≡ 0
  pub err_length : outcome.err_length ≡ 0
  pub untouched : new ≡ old
