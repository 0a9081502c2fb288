-- The previous session, file by file.
use Rattle.std.specs.Prelude.{◌≡◌, ◌⊎◌, ℕ, ◌≤◌, List, [], ◌∷◌, Option, Some, None, Ok, Err, codes}
use Rattle.session_file.specs.Reading.{file_after}
use Rattle.session_file.specs.declared.fault.FileFault.{FileFault}
use Rattle.session_text.specs.FaultWords.{fault_words}
use Rattle.sessions.specs.Sessions.{SessionValue, most_number, next_number}
use Rattle.linkable.specs.Chains.{file_line}

-- the session has the number that follows the previous one's; the first may have any
abbrev pub IsNumbered : Option SessionValue → SessionValue → Type 0
IsNumbered None s = Unit {0}
IsNumbered (Some past) s = s.number ≡ next_number (Some past)

-- so has each of the sessions over the one before
abbrev pub AreNumbered : Option SessionValue → List SessionValue → Type 0
AreNumbered past [] = Unit {0}
AreNumbered past (s ∷ ss) = IsNumbered past s × AreNumbered (Some s) ss

-- The bytes are the file of no session over the previous one, and the line on the file of this number
-- says why.
pub record IsNoFile (past : Option SessionValue) (bytes : List ℕ) (number : ℕ) (line : List ℕ)
    : Type 0 where
  pub fault : FileFault
  pub breach : file_after past bytes ≡ Err fault
  pub line_is : line ≡ file_line number (fault_words fault)

-- The session isn't so numbered, and the line on the file of this number says so.
pub record IsMisnumbered (past : Option SessionValue) (s : SessionValue) (number : ℕ)
    (line : List ℕ) : Type 0 where
  pub other : IsNumbered past s → ⊥
  pub line_is : line ≡ file_line number (codes "number")

-- The bytes are the file of such a session.
pub record HasOtherNumber (past : Option SessionValue) (bytes : List ℕ) (number : ℕ)
    (line : List ℕ) : Type 0 where
  pub session : SessionValue
  pub reads : file_after past bytes ≡ Ok session
  pub misnumbered : IsMisnumbered past session number line

-- the bytes are the file of no session that comes after the previous one, and the line says why
abbrev pub IsUnread : Option SessionValue → List ℕ → ℕ → List ℕ → Type 0
IsUnread past bytes number line =
    IsNoFile past bytes number line ⊎ HasOtherNumber past bytes number line

-- No session follows this one, and the line on the file of this number says so.
pub record IsLast (s : SessionValue) (number : ℕ) (line : List ℕ) : Type 0 where
  pub full : most_number ≤ s.number
  pub line_is : line ≡ file_line number (codes "full")
