-- Results of queries may go from one thread to another, and be shared.
use denote.Param.Send.{IsSend, IsSync, sendable}
use Rattle.std.proofs.Crossing
use Rattle.ordered_names.proofs.name.Name.TheSendSync as name_crosses
use Rattle.steps_values.specs.contracts.files.FileNames as file_names
use Rattle.steps_values.specs.contracts.files.Text as text
use Rattle.steps_values.specs.contracts.plan.Step as step
use Rattle.steps_values.specs.contracts.plan.Plan as plan
use Rattle.steps_values.specs.contracts.value.Value as value

pub ruleset names = (name_crosses.the_send, name_crosses.the_sync, Crossing.crosses, sendable)

pub file_names_send : IsSend file_names.the_row
file_names_send = search names depth 60 fits 20000

pub file_names_sync : IsSync file_names.the_row
file_names_sync = search names depth 60 fits 20000

pub text_send : IsSend text.the_row
text_send = search names depth 60 fits 20000

pub text_sync : IsSync text.the_row
text_sync = search names depth 60 fits 20000

pub step_send : IsSend step.the_row
step_send = search names depth 60 fits 20000

pub step_sync : IsSync step.the_row
step_sync = search names depth 60 fits 20000

pub ruleset steps = (step_send, step_sync, names)

pub plan_send : IsSend plan.the_row
plan_send = search steps depth 60 fits 20000

pub plan_sync : IsSync plan.the_row
plan_sync = search steps depth 60 fits 20000

pub ruleset results = (file_names_send, file_names_sync, text_send, text_sync, plan_send, plan_sync, names)

pub value_send : IsSend value.the_row
value_send = search results depth 60 fits 20000

pub value_sync : IsSync value.the_row
value_sync = search results depth 60 fits 20000
