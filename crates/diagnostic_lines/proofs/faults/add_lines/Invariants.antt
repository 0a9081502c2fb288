use Rattle.std.proofs.Common.{Some, take}
use Rattle.diagnostic_lines.specs.FaultLines.{AddsLines}
use Rattle.diagnostic_lines.proofs.faults.add_lines.Given as goal

abbrev pub invariant-loop-fault : goal.invariant-loop-fault
invariant-loop-fault l = AddsLines (Some l.text) l.class (take l.fault-index l.faults) l.initial.lines.items l.lines.items
