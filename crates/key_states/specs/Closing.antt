-- What a table closes with.
use Rattle.std.specs.Prelude.{◌≡◌, ◌≤◌, Option, Some, None}
use Rattle.recorder.specs.Projects.{Project}
use Rattle.sessions.specs.declared.terms.Terms.{Terms}
use Rattle.sessions.specs.Sessions.{SessionValue, most_number, entries, next_number}
use Rattle.sessions.specs.Spelling.{next_link}
use Rattle.graph_rules.specs.Steps.{Status, Unknown, Claimed, Running, Done, State}
use Rattle.graph_rules.specs.Graphs.{AreClosed}

-- neither claimed nor running
abbrev pub IsQuiet : Status → Type 0
IsQuiet Unknown = Unit {0}
IsQuiet (Claimed w) = ⊥
IsQuiet (Running w) = ⊥
IsQuiet (Done v es m) = Unit {0}

-- no session can follow
abbrev pub IsFull : Option SessionValue → Type 0
IsFull None = ⊥
IsFull (Some s) = most_number ≤ s.number

-- The session has these terms. Number and link follow the previous session, and it has just the keys
-- that the inputs and Answer lead to, each as it is done.
pub record IsClosing (terms : Terms) (past : Option SessionValue) (p : Project) (state : State)
    (s : SessionValue) : Type 0 where
  pub terms_are : s.terms ≡ terms
  pub number : s.number ≡ next_number past
  pub link : s.link ≡ next_link past
  pub closed : AreClosed p state (entries s)
