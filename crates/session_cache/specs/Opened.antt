-- What was read of opened files. What one of them held when it was opened is known if its type says it: `held`.
use Rattle.std.specs.Prelude.{◌≡◌, ℕ, List, Option, Some, None, Result, IfOk}
use Rattle.std.specs.List.{AllByRecursion}
use Rattle.sessions.specs.Sessions.{IsSession, IsTakenFrom, SessionValue}
use Rattle.sessions.specs.Spelling.{file_of}
use Rattle.session_file.specs.Reading.{IsUnlessMemory, file_after}
use Rattle.session_file.specs.declared.fault.FileFault.{FileFault}
use Rattle.session_cache.specs.declared.folders.ChainFront.{ChainFront}
use Rattle.session_cache.specs.declared.folders.ChainFront.TheVariants.{Read, Ended}
use Rattle.session_cache.specs.declared.start.LastChain.{LastChain}
use Rattle.session_cache.specs.declared.start.LastChain.TheVariants.{File as LastFile}

-- the bytes are all that this opened file held
abbrev pub IsAllOf : {File : Type 0} → (File → Option (List ℕ)) → File → List ℕ → Type 0
IsAllOf held opened bytes = (all : List ℕ) → held opened ≡ Some all → bytes ≡ all

-- The bytes are all that an opened file held.
pub record IsRead {File : Type 0} (held : File → Option (List ℕ)) (bytes : List ℕ) : Type 0 where
  pub opened : File
  pub whole : IsAllOf held opened bytes

-- so are those of each of these files
abbrev pub AreRead : {File : Type 0} → (File → Option (List ℕ)) → List (List ℕ) → Type 0
AreRead held files = AllByRecursion (IsRead held) files

-- The session's file was read, over the previous session.
pub record IsReadOver {File : Type 0} (held : File → Option (List ℕ)) (past : Option SessionValue)
    (s : SessionValue) : Type 0 where
  pub session : IsSession s
  pub taken : IsTakenFrom past s
  pub file : IsRead held (file_of s)

-- Sessions were read, each over the one before, and this is the last of them, if there are any.
pub data IsReadChain {File : Type 0} (held : File → Option (List ℕ)) : Option SessionValue
    → Type 0 where
  nothing : IsReadChain held None
  behind : (past : Option SessionValue) (s : SessionValue) → IsReadChain held past
      → IsReadOver held past s → IsReadChain held (Some s)

-- What came of the bytes of an opened file, over the last of such sessions.
pub record IsResultOf {File : Type 0} (held : File → Option (List ℕ))
    (read : Result SessionValue FileFault) : Type 0 where
  pub past : Option SessionValue
  pub before : IsReadChain held past
  pub bytes : List ℕ
  pub whole : IsRead held bytes
  pub found : IfOk read (λ s. IsSession s × (bytes ≡ file_of s))
  pub taken : IfOk read (IsTakenFrom past)
  pub exact : IsUnlessMemory read (file_after past bytes)

-- what came of the last file of a chain
abbrev pub IsReadLast : {File : Type 0} → (File → Option (List ℕ)) → LastChain → Type 0
IsReadLast held (LastFile place read) = IsResultOf held read
IsReadLast held _ = Unit {0}

-- what came of the files in front of the last one
abbrev pub IsReadFront : {File : Type 0} → (File → Option (List ℕ)) → ChainFront → Type 0
IsReadFront held (Read past) = IsReadChain held past
IsReadFront held (Ended place read) = IsResultOf held read
