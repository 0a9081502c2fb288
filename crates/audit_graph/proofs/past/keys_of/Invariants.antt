use Rattle.std.proofs.Common.{take}
use Rattle.audit_graph.specs.PastKeys.{AreKeysOf}
use Rattle.audit_graph.proofs.past.keys_of.Given as goal

abbrev pub invariant-loop-record : goal.invariant-loop-record
invariant-loop-record l = AreKeysOf l.keys.keys (take l.record-index l.records)
