-- What callers see of a table: the terms, the previous session and the project that it was opened with,
-- the kinds of which nothing is taken over, and its events.
use Rattle.std.specs.Prelude.{List, [], ◌∷◌, ◌++◌, Option}
use Rattle.item_ids.specs.declared.kind.Kind.{Kind}
use Rattle.recorder.specs.Projects.{Project}
use Rattle.sessions.specs.declared.terms.Terms.{Terms}
use Rattle.sessions.specs.Sessions.{SessionValue, past_entry}
use Rattle.graph_rules.specs.Settings.{Setting}
use Rattle.graph_rules.specs.Steps.{State, Event, MayStep, state_after}

pub record TableValue : Type 0 where
  pub terms : Terms
  pub past : Option SessionValue
  pub crossing : List Kind
  pub project : Project
  pub history : List Event

-- what its session is worked over
abbrev pub past_of : TableValue → Setting
past_of t = record { held = past_entry t.past; crossing = t.crossing; profile = t.terms.profile }

-- the state that its history leads to
abbrev pub state_of : TableValue → State
state_of t = state_after (past_of t) t.project t.history

-- the event is a step in its state
abbrev pub IsStep : TableValue → Event → Type 0
IsStep t e = MayStep (past_of t) (state_of t) e

-- the table with these events
abbrev pub with_history : TableValue → List Event → TableValue
with_history t history = record t { history = history }

-- the table with one more event
abbrev pub adds : TableValue → Event → TableValue
adds t e = with_history t (t.history ++ e ∷ [])
