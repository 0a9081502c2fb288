-- Trees, which keep their methods as bytes, may go from one thread to another, and be shared.
use denote.Param.Send.{IsSend, IsSync, sendable}
use Rattle.std.proofs.Crossing
use Rattle.ordered_names.specs.contracts.name.Name as name
use Rattle.ordered_names.proofs.name.Name.TheSendSync as name_crosses
use Rattle.mj_tree.specs.contracts.tree.Ty as ty
use Rattle.mj_tree.specs.contracts.tree.Field as field
use Rattle.tree_bytes.specs.contracts.body.Body as body
use Rattle.tree_bytes.specs.contracts.stored.StoredMethod as stored_method
use Rattle.tree_bytes.specs.contracts.stored.StoredMain as stored_main
use Rattle.tree_bytes.specs.contracts.stored.StoredClass as stored_class
use Rattle.tree_bytes.specs.contracts.stored.StoredFile as stored_file

pub name_send : IsSend name.the_row
name_send = name_crosses.the_send

pub name_sync : IsSync name.the_row
name_sync = name_crosses.the_sync

pub ruleset names = (name_send, name_sync, Crossing.crosses, sendable)

pub ty_send : IsSend ty.the_row
ty_send = search names depth 60 fits 20000

pub ty_sync : IsSync ty.the_row
ty_sync = search names depth 60 fits 20000

pub ruleset types = (ty_send, ty_sync, names)

pub field_send : IsSend field.the_row
field_send = search types depth 60 fits 20000

pub field_sync : IsSync field.the_row
field_sync = search types depth 60 fits 20000

pub body_send : IsSend body.the_row
body_send = search types depth 60 fits 20000

pub body_sync : IsSync body.the_row
body_sync = search types depth 60 fits 20000

pub ruleset bodies = (field_send, field_sync, body_send, body_sync, types)

pub stored_method_send : IsSend stored_method.the_row
stored_method_send = search bodies depth 60 fits 20000

pub stored_method_sync : IsSync stored_method.the_row
stored_method_sync = search bodies depth 60 fits 20000

pub stored_main_send : IsSend stored_main.the_row
stored_main_send = search bodies depth 60 fits 20000

pub stored_main_sync : IsSync stored_main.the_row
stored_main_sync = search bodies depth 60 fits 20000

pub ruleset methods = (stored_method_send, stored_method_sync, stored_main_send, stored_main_sync, bodies)

pub stored_class_send : IsSend stored_class.the_row
stored_class_send = search methods depth 60 fits 20000

pub stored_class_sync : IsSync stored_class.the_row
stored_class_sync = search methods depth 60 fits 20000

pub ruleset classes = (stored_class_send, stored_class_sync, methods)

pub stored_file_send : IsSend stored_file.the_row
stored_file_send = search classes depth 60 fits 20000

pub stored_file_sync : IsSync stored_file.the_row
stored_file_sync = search classes depth 60 fits 20000

pub ruleset trees = (stored_file_send, stored_file_sync, classes)
