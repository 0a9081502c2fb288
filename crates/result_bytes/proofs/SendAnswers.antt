-- Answers and diagnostics may go from one thread to another, and be shared.
use denote.Param.Send.{IsSend, IsSync}
use Rattle.mj_tree.specs.contracts.place.Place as place
use Rattle.mj_answer.proofs.code.Code.TheSendSync as code_crosses
use Rattle.mj_answer.specs.contracts.diagnostic.Diagnostic as diagnostic
use Rattle.mj_answer.specs.contracts.table.FieldRow as field_row
use Rattle.mj_answer.specs.contracts.table.MethodRow as method_row
use Rattle.mj_answer.specs.contracts.table.ClassTable as class_table
use Rattle.mj_answer.specs.contracts.table.ClassAnswer as class_answer
use Rattle.mj_answer.specs.contracts.table.Answer as answer
use Rattle.answer_bytes.specs.contracts.answer.Members as members
use Rattle.answer_bytes.specs.contracts.answer.Faults as faults
use Rattle.answer_bytes.specs.contracts.answer.WholeAnswer as whole_answer
use Rattle.result_bytes.proofs.SendTrees.{types}

pub place_send : IsSend place.the_row
place_send = search types depth 60 fits 20000

pub place_sync : IsSync place.the_row
place_sync = search types depth 60 fits 20000

pub ruleset places = (place_send, place_sync, code_crosses.the_send, code_crosses.the_sync, code_crosses.the_field_send, code_crosses.the_field_sync, types)

pub diagnostic_send : IsSend diagnostic.the_row
diagnostic_send = search places depth 60 fits 20000

pub diagnostic_sync : IsSync diagnostic.the_row
diagnostic_sync = search places depth 60 fits 20000

pub field_row_send : IsSend field_row.the_row
field_row_send = search types depth 60 fits 20000

pub field_row_sync : IsSync field_row.the_row
field_row_sync = search types depth 60 fits 20000

pub method_row_send : IsSend method_row.the_row
method_row_send = search types depth 60 fits 20000

pub method_row_sync : IsSync method_row.the_row
method_row_sync = search types depth 60 fits 20000

pub ruleset rows = (diagnostic_send, diagnostic_sync, field_row_send, field_row_sync, method_row_send, method_row_sync, types)

pub class_table_send : IsSend class_table.the_row
class_table_send = search rows depth 60 fits 20000

pub class_table_sync : IsSync class_table.the_row
class_table_sync = search rows depth 60 fits 20000

pub ruleset tables = (class_table_send, class_table_sync, rows)

pub class_answer_send : IsSend class_answer.the_row
class_answer_send = search tables depth 60 fits 20000

pub class_answer_sync : IsSync class_answer.the_row
class_answer_sync = search tables depth 60 fits 20000

pub ruleset class_answers = (class_answer_send, class_answer_sync, tables)

pub answer_send : IsSend answer.the_row
answer_send = search class_answers depth 60 fits 20000

pub answer_sync : IsSync answer.the_row
answer_sync = search class_answers depth 60 fits 20000

pub ruleset answers = (answer_send, answer_sync, tables)

pub members_send : IsSend members.the_row
members_send = search answers depth 60 fits 20000

pub members_sync : IsSync members.the_row
members_sync = search answers depth 60 fits 20000

pub faults_send : IsSend faults.the_row
faults_send = search answers depth 60 fits 20000

pub faults_sync : IsSync faults.the_row
faults_sync = search answers depth 60 fits 20000

pub whole_answer_send : IsSend whole_answer.the_row
whole_answer_send = search answers depth 60 fits 20000

pub whole_answer_sync : IsSync whole_answer.the_row
whole_answer_sync = search answers depth 60 fits 20000
