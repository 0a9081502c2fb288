-- Keys and sealed results may go from one thread to another, and be shared, since values may.
use denote.Param.Send.{IsSend, IsSync, sendable}
use Rattle.std.proofs.Crossing
use Rattle.ordered_names.proofs.name.Name.TheSendSync as name_crosses
use Rattle.item_ids.specs.contracts.key.Key as key
use Rattle.result_bytes.proofs.SendValues.{results}
use Rattle.fingerprint.specs.contracts.sealed.Sealed as sealed

pub ruleset names = (name_crosses.the_send, name_crosses.the_sync, Crossing.crosses, sendable)

pub key_send : IsSend key.the_row
key_send = search names depth 60 fits 20000

pub key_sync : IsSync key.the_row
key_sync = search names depth 60 fits 20000

pub sealed_send : IsSend sealed.the_row
sealed_send = search results depth 60 fits 20000

pub sealed_sync : IsSync sealed.the_row
sealed_sync = search results depth 60 fits 20000

-- what a table and a session are made of
pub ruleset sealed_results = (sealed_send, sealed_sync, key_send, key_sync, names)
