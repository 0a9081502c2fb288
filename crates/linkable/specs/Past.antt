-- The previous session, by the files of its chain.
use Rattle.std.specs.Prelude.{◌≡◌, ◌⊎◌, ℕ, ◌+◌, ◌≤◌, List, ◌∷◌, ◌++◌, length, Option, Some, None, codes}
use Rattle.audit_replay.specs.Audits.{HaveFiles, last_of}
use Rattle.packed_files.specs.Runs.{packed_runs}
use Rattle.sessions.specs.Sessions.{SessionValue, most_number}
use Rattle.linkable.specs.Chains.{AreNoChain, file_line}
use Rattle.linkable.specs.PastSteps.{AreNumbered, IsUnread}

-- The files are those of sessions, each taken from the one before, whose number it follows, and this is
-- the last of them, if there are any.
pub record EndWith (files : List (List ℕ)) (past : Option SessionValue) : Type 0 where
  pub sessions : List SessionValue
  pub have : HaveFiles sessions files
  pub numbered : AreNumbered None sessions
  pub last : last_of None sessions ≡ past

-- The bytes are such files, packed.
pub record IsPastIn (bytes : List ℕ) (past : Option SessionValue) : Type 0 where
  pub files : List (List ℕ)
  pub packed_are : packed_runs files ≡ bytes
  pub end : EndWith files past

-- The file behind so many is that of no session that comes after theirs, and the line says why.
pub record IsNoSession (files : List (List ℕ)) (line : List ℕ) : Type 0 where
  pub front : List (List ℕ)
  pub file : List ℕ
  pub rest : List (List ℕ)
  pub parts : files ≡ front ++ file ∷ rest
  pub past : Option SessionValue
  pub end : EndWith front past
  pub unread : IsUnread past file (length front) line

-- The last file is that of the last session that a chain can have, and the line says so.
pub record IsFull (files : List (List ℕ)) (line : List ℕ) : Type 0 where
  pub past : SessionValue
  pub end : EndWith files (Some past)
  pub full : most_number ≤ past.number
  pub number : ℕ
  pub number_is : number + 1 ≡ length files
  pub line_is : line ≡ file_line number (codes "full")

-- The bytes are files that no session follows, and the line says why.
pub record PackNoPast (bytes line : List ℕ) : Type 0 where
  pub files : List (List ℕ)
  pub packed_are : packed_runs files ≡ bytes
  pub none : IsNoSession files line ⊎ IsFull files line

-- the line says why no session follows
abbrev pub IsNoPastIn : List ℕ → List ℕ → Type 0
IsNoPastIn bytes line = AreNoChain bytes line ⊎ PackNoPast bytes line
