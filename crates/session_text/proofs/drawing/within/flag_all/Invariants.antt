use Rattle.std.proofs.Common.{◌≡◌, drop}
use Rattle.session_text.specs.Flags.{with_flags}
use Rattle.session_text.proofs.drawing.within.flag_all.Given as goal

abbrev pub invariant-loop-edge : goal.invariant-loop-edge
invariant-loop-edge l = with_flags l.flags (drop l.edge-index l.edges) ≡ with_flags l.initial.flags l.edges
