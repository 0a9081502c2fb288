use Rattle.std.proofs.Common.{map, take, string_bytes}
use Rattle.session_cache.specs.Names.{AreNumbers}
use Rattle.session_cache.proofs.names.numbers_in.Given as goal

abbrev pub invariant-loop-name : goal.invariant-loop-name
invariant-loop-name l = AreNumbers l.what (map string_bytes (take l.name-index l.names)) l.numbers.items
