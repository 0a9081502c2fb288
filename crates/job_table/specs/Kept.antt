-- What a table keeps.
use Rattle.std.specs.Prelude.{◌≡◌, Bool, List}
use Rattle.std.specs.Arc.{arc_value}
use Rattle.item_ids.specs.declared.key.Key.{Key}
use Rattle.named_files.specs.Projects.{IsProject}
use Rattle.recorder.specs.Projects.{Project}
use Rattle.graph_rules.specs.Settings.{Setting}
use Rattle.graph_rules.specs.Steps.{Event, Claim, MarkGreen, Begin, Finish, Fail, Legal, state_after}
use Rattle.key_states.specs.Nodes.{Node, status_at, AreDoneInputs, KeysStandOnce}
use Rattle.job_table.specs.declared.event.Event.{Event as StoredEvent}
use Rattle.job_table.specs.declared.event.Event.TheVariants as stored

-- the event that is stored
abbrev pub event_of : {R : Type 0} → StoredEvent R → Event
event_of (stored.Claim w q) = Claim w q
event_of (stored.Mark w q) = MarkGreen w q
event_of (stored.Begin w q) = Begin w q
event_of (stored.Finish w o) = Finish w (arc_value o)
event_of (stored.Fail w) = Fail w

-- The history is legal, and inputs and nodes stand as it leads to. No key has two nodes, and inputs that
-- have one are done.
pub record StandsByHistory (over : Setting) (p : Project) (ns : List Node) (failed : Bool)
    (history : List Event) : Type 0 where
  pub project : IsProject p
  pub legal : Legal over p history
  pub status : (q : Key) → status_at p ns q ≡ (state_after over p history).at q
  pub failed_is : failed ≡ (state_after over p history).failed
  pub apart : KeysStandOnce ns
  pub inner : AreDoneInputs p ns
