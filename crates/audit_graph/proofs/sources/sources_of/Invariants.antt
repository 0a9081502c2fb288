use Rattle.std.proofs.Common.{◌≡◌, take}
use Rattle.audit_graph.specs.Sources.{source_keys}
use Rattle.audit_graph.proofs.sources.sources_of.Given as goal

abbrev pub invariant-loop-name : goal.invariant-loop-name
invariant-loop-name l = l.sources.items ≡ source_keys (take l.name-index l.names)
