-- Chains of right sessions.
use Rattle.std.specs.Prelude.{◌≢◌, List, None}
use Rattle.std.specs.List.{AllByRecursion}
use Rattle.item_ids.specs.declared.key.Key.TheVariants.{Answer}
use Rattle.recorder.specs.Backed.{Queries}
use Rattle.sessions.specs.Sessions.{SessionValue, IsSession}
use Rattle.audit_graph.specs.Chains.{IsSessionChain}
use Rattle.audit_replay.specs.Audits.{AreRight, last_entry}

-- a chain of sessions, each right over the one before
pub record AreRightInChain (queries : Queries) (sessions : List SessionValue)
    : Type 0 where
  pub each : AllByRecursion IsSession sessions
  pub chain : IsSessionChain sessions
  pub right : AreRight queries None sessions

-- A chain of sessions, each right over the one before, of which the last has an answer.
pub record IsRightChain (queries : Queries) (sessions : List SessionValue)
    : Type 0 where
  pub each : AllByRecursion IsSession sessions
  pub chain : IsSessionChain sessions
  pub right : AreRight queries None sessions
  pub answered : last_entry sessions Answer ≢ None
