-- Results of queries may go from one thread to another, and be shared.
use denote.Param.Send.{IsSend, IsSync}
use Rattle.std.proofs.MapsCrossing
use Rattle.tree_bytes.specs.contracts.tree.Tree as tree
use Rattle.result_bytes.specs.contracts.class.Header as header
use Rattle.result_bytes.specs.contracts.class.Signature as signature
use Rattle.result_bytes.specs.contracts.class.Supers as supers
use Rattle.result_bytes.specs.contracts.files.FileNames as file_names
use Rattle.result_bytes.specs.contracts.files.Text as text
use Rattle.result_bytes.specs.contracts.files.Index as index
use Rattle.result_bytes.specs.contracts.value.Value as value
use Rattle.result_bytes.proofs.SendTrees.{types, bodies, body_send, body_sync, trees}
use Rattle.result_bytes.proofs.SendAnswers.{members_send, members_sync, faults_send, faults_sync, whole_answer_send, whole_answer_sync}

pub tree_send : IsSend tree.the_row
tree_send = search (MapsCrossing.crosses, trees) depth 60 fits 20000

pub tree_sync : IsSync tree.the_row
tree_sync = search (MapsCrossing.crosses, trees) depth 60 fits 20000

pub header_send : IsSend header.the_row
header_send = search bodies depth 60 fits 20000

pub header_sync : IsSync header.the_row
header_sync = search bodies depth 60 fits 20000

pub signature_send : IsSend signature.the_row
signature_send = search types depth 60 fits 20000

pub signature_sync : IsSync signature.the_row
signature_sync = search types depth 60 fits 20000

pub supers_send : IsSend supers.the_row
supers_send = search types depth 60 fits 20000

pub supers_sync : IsSync supers.the_row
supers_sync = search types depth 60 fits 20000

pub file_names_send : IsSend file_names.the_row
file_names_send = search types depth 60 fits 20000

pub file_names_sync : IsSync file_names.the_row
file_names_sync = search types depth 60 fits 20000

pub text_send : IsSend text.the_row
text_send = search types depth 60 fits 20000

pub text_sync : IsSync text.the_row
text_sync = search types depth 60 fits 20000

pub index_send : IsSend index.the_row
index_send = search types depth 60 fits 20000

pub index_sync : IsSync index.the_row
index_sync = search types depth 60 fits 20000

pub ruleset results = (
  tree_send,
  tree_sync,
  body_send,
  body_sync,
  header_send,
  header_sync,
  signature_send,
  signature_sync,
  supers_send,
  supers_sync,
  file_names_send,
  file_names_sync,
  text_send,
  text_sync,
  index_send,
  index_sync,
  members_send,
  members_sync,
  faults_send,
  faults_sync,
  whole_answer_send,
  whole_answer_sync,
  types,
)

pub value_send : IsSend value.the_row
value_send = search results depth 60 fits 20000

pub value_sync : IsSync value.the_row
value_sync = search results depth 60 fits 20000
