use Rattle.std.proofs.Common.{◌≡◌, ◌++◌, take, string_bytes}
use Rattle.std.specs.Prelude.{flat_map}
use Rattle.mj_answer.specs.Text.{fault_line}
use Rattle.mj_answer.proofs.text.write_faults.Given as goal

abbrev pub invariant-loop-fault : goal.invariant-loop-fault
invariant-loop-fault l = string_bytes l.text ≡ string_bytes l.initial.text ++ flat_map fault_line (take l.fault-index l.faults)
