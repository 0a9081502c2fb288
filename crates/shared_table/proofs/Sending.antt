-- A table may go from one thread to another, and a shared table may be shared by threads.
use denote.RattleType.{RattleType}
use denote.Param.Send.{IsSend, IsSync, view_send, recorded_send, recorded_sync, struct_send, struct_sync}
use Rattle.std.proofs.MapsCrossing
use Rattle.std.proofs.sync.Condvar.TheSendSync as condvar
use Rattle.std.proofs.sync.Mutex.TheSendSync as mutex
use Rattle.std.proofs.sync.ledger.Book.TheSendSync as book
use Rattle.std.specs.declared.sync.ledger.Ledger as ledger
use Rattle.send_sync.proofs.Maps.{IndexMap-send}
use Rattle.send_sync.proofs.Results.{sealed_results}
use Rattle.named_files.specs.contracts.project.Project as project
use Rattle.sessions.specs.contracts.record.Record as record_type
use Rattle.sessions.specs.contracts.session.Session as session
use Rattle.recorder.specs.declared.runner.Runner as runner
use Rattle.recorder.specs.contracts.told.Read as read
use Rattle.recorder.specs.contracts.outcome.Outcome as outcome
use Rattle.project_inputs.specs.contracts.inputs.Inputs as inputs
use Rattle.key_states.specs.contracts.nodes.Standing as standing
use Rattle.key_states.specs.contracts.node_map.NodeMap as node_map
use Rattle.job_table.specs.contracts.event.Event as event
use Rattle.job_table.specs.contracts.table.Table as table
use Rattle.known_list.specs.declared.naming.ListNaming as list_naming
use Rattle.known_list.proofs.Sending.{known_send, known_sync}
use Rattle.known_list.proofs.list.Head.TheSendSync as head_crosses
use Rattle.shared_table.specs.declared.naming.Naming as naming
use Rattle.shared_table.specs.contracts.locked.Locked as locked
use Rattle.shared_table.specs.contracts.locked.Locked.TheInside as locked_inside
use Rattle.shared_table.specs.contracts.counted.Counted as counted
use Rattle.shared_table.specs.contracts.counted.Counted.TheInside as inside
use denote.Struct.Declared as declared
use Rattle.shared_table.specs.contracts.shared.Shared as shared

pub project_sync : IsSync project.the_row
project_sync = search (MapsCrossing.crosses, sealed_results) depth 60 fits 20000

record_send : IsSend record_type.the_row
record_send = search sealed_results depth 60 fits 20000

record_sync : IsSync record_type.the_row
record_sync = search sealed_results depth 60 fits 20000

session_send : IsSend session.the_row
session_send = search (record_send, sealed_results) depth 60 fits 20000

session_sync : IsSync session.the_row
session_sync = search (record_sync, sealed_results) depth 60 fits 20000

inputs_send : IsSend inputs.the_row
inputs_send = search (IndexMap-send, sealed_results) depth 60 fits 20000

standing_send : IsSend standing.the_row
standing_send = search sealed_results depth 60 fits 20000

node_map_send : IsSend node_map.the_row
node_map_send = search (standing_send, IndexMap-send, sealed_results) depth 60 fits 20000

read_send : IsSend read.the_row
read_send = search sealed_results depth 60 fits 20000

read_sync : IsSync read.the_row
read_sync = search sealed_results depth 60 fits 20000

module _ (R : RattleType) (g : runner.Ghosts R.Denot) where
  outcome_send : IsSend R → IsSend (outcome.the_row R g)
  outcome_send s = search (read_send, sealed_results) depth 60 fits 20000

  outcome_sync : IsSync R → IsSync (outcome.the_row R g)
  outcome_sync y = search (read_sync, sealed_results) depth 60 fits 20000

  event_send : IsSend R → IsSync R → IsSend (event.the_row R g)
  event_send s y = search (outcome_send, outcome_sync, sealed_results) depth 60 fits 20000

  table_send : IsSend R → IsSync R → IsSend (table.the_row R g)
  table_send s y = search (event_send, node_map_send, inputs_send, session_send, session_sync, sealed_results) depth 60 fits 20000

module _ (J R : RattleType) (g : naming.Ghosts J.Denot) (g' : ledger.Ghosts J.Denot) (l : list_naming.Ghosts J.Denot) (g'' : runner.Ghosts R.Denot) where
  inside_send : IsSend R → IsSync R → IsSend (inside.the_row J R g g' l g'')
  inside_send s y = let T = inside.the_type J R g g' l g'' in
      recorded_send (inside.the_field J R g g' l g'').row _ _ T.to_one (struct_send (declared.shape T) (table_send R g'' s y, (book.the_send J g', tt)))

  counted_send : IsSend R → IsSync R → IsSend (counted.the_row J R g g' l g'')
  counted_send s y = let c = counted.the_row J R g g' l g'' in
      view_send (inside.the_row J R g g' l g'') c.Denot c.coded (counted.the_view J R g g' l g'') (counted.the_invariant J R g g' l g'') (inside_send s y)

  locked_inside_send : IsSend R → IsSync R → IsSend (locked_inside.the_row J R l g g' g'')
  locked_inside_send s y = let T = locked_inside.the_type J R l g g' g'' in
      recorded_send (locked_inside.the_field J R l g g' g'').row _ _ T.to_one
      (struct_send (declared.shape T) (counted_send s y, (head_crosses.the_field_send J read.the_row l, (known_send J read.the_row l, tt))))

  locked_send : IsSend R → IsSync R → IsSend (locked.the_row J R l g g' g'')
  locked_send s y = let d = locked.the_row J R l g g' g'' in
      view_send (locked_inside.the_row J R l g g' g'') d.Denot d.coded (locked.the_view J R l g g' g'') (locked.the_invariant J R l g g' g'') (locked_inside_send s y)

  pub shared_sync : IsSend R → IsSync R → IsSync (shared.the_row J R g l g'' g')
  shared_sync s y = let T = shared.the_type J R g l g'' g' in
      recorded_sync (shared.the_field J R g l g'' g').row _ _ T.to_one
      (struct_sync (declared.shape T) (mutex.the_sync (locked.the_row J R l g g' g'') (locked_send s y), (condvar.the_field_sync, (search sealed_results depth 60 fits 20000, (search (session_send, session_sync, sealed_results) depth 60 fits 20000, (known_sync J read.the_row l, tt))))))
