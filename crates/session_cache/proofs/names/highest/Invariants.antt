use Rattle.std.proofs.Common.{map, take, string_bytes}
use Rattle.session_cache.specs.Names.{IsHighest}
use Rattle.session_cache.proofs.names.highest.Given as goal

abbrev pub invariant-loop-name : goal.invariant-loop-name
invariant-loop-name l = IsHighest l.what (map string_bytes (take l.name-index l.names)) l.highest
