-- Chains of sessions: their numbers and links, and what they take over.
use Rattle.std.specs.Prelude.{◌≡◌, ℕ, ◌+◌, List, [], ◌∷◌, Option, Some, None}
use Rattle.sessions.specs.Sessions.{SessionValue, IsTakenFrom}
use Rattle.sessions.specs.Spelling.{next_link}

-- the session has this number, and its link is the one that follows the previous session
pub record IsLinked (past : Option SessionValue) (k : ℕ) (s : SessionValue) : Type 0 where
  pub number : s.number ≡ k
  pub link : s.link ≡ next_link past

-- from number k on each session is linked to the one before and taken from it, and the first of them
-- so to the previous session
abbrev pub AreLinked : Option SessionValue → ℕ → List SessionValue → Type 0
AreLinked past k [] = Unit {0}
AreLinked past k (s ∷ ss) =
    IsLinked past k s × IsTakenFrom past s × AreLinked (Some s) (k + 1) ss

-- a chain of sessions begins with number 0, behind no session
abbrev pub IsSessionChain : List SessionValue → Type 0
IsSessionChain sessions = AreLinked None 0 sessions
