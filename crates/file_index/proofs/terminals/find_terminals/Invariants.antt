use Rattle.std.proofs.Common.{◌≡◌}
use Rattle.mj_parser.specs.Locations.{all_of}
use Rattle.file_index.proofs.terminals.find_terminals.Given as goal

abbrev pub invariant-loop-at : goal.invariant-loop-at
invariant-loop-at l = l.places.items ≡ all_of l.tokens l.terminal 0 l.at
