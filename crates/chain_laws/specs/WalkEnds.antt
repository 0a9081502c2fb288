-- Where the walk over a key's previous edges ended.
use Rattle.std.specs.Prelude.{◌≡◌, ℕ, Option, Some, slice_get}
use Rattle.item_ids.specs.declared.key.Key.{Key}
use Rattle.sessions.specs.Sessions.{Entry}
use Rattle.graph_rules.specs.Settings.{Setting, kept}
use Rattle.graph_rules.specs.Steps.{State, ChangedAt, walk}

-- The key may be taken over from the previous session, and in this state the walk over its edges there ends
-- at this one, which is changed.
pub record EndsWalk (over : Setting) (state : State) (q e : Key) : Type 0 where
  pub had : Entry
  pub past_has : kept over q ≡ Some had
  pub place : ℕ
  pub here : slice_get had.reads place ≡ Some e
  pub ended : walk over.held state had.reads ≡ ChangedAt place
