use Rattle.std.proofs.Common.{None, take}
use Rattle.diagnostic_lines.specs.FaultLines.{AddsLines}
use Rattle.diagnostic_lines.proofs.faults.add_lines_without_file.Given as goal

abbrev pub invariant-loop-fault : goal.invariant-loop-fault
invariant-loop-fault l = AddsLines (None) 0 (take l.fault-index l.faults) l.initial.lines.items l.lines.items
