use Rattle.session_text.proofs.Walk.{IsWalked}
use Rattle.session_text.proofs.drawing.within.within.Given as goal

abbrev pub invariant-loop-at : goal.invariant-loop-at
invariant-loop-at l = IsWalked l.records l.root l.at l.flags.items
