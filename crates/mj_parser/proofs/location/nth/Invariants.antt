use Rattle.std.proofs.Common.{◌≡◌, slice_get}
use Rattle.mj_parser.specs.Locations.{all_of}
use Rattle.mj_parser.proofs.location.nth.Given as goal

abbrev pub invariant-loop-at : goal.invariant-loop-at
invariant-loop-at l = slice_get (all_of l.tokens l.terminal l.at l.end) l.left ≡ slice_get (all_of l.tokens l.terminal l.start l.end) l.number
