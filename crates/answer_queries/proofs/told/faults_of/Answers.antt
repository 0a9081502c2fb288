use Rattle.std.proofs.Common.{sym, subst}
use Rattle.std.specs.Option.{option_copied}
use Rattle.answer_bytes.specs.Storable.{AreClassFaults}
use Rattle.answer_queries.proofs.ClassPlaces.{told_in_class}
use Rattle.answer_queries.proofs.told.faults_of.Goals as goal

pub class_fault_set-requires : goal.class_fault_set-requires
class_fault_set-requires c = subst AreClassFaults (sym c.in_ok-faults.ensures) (told_in_class c.args.header.now (option_copied c.args.chain) c.args.undeclared.now c.args.others.now)
