use Rattle.mj_classes.proofs.FarSteps.{FlagSome}
use Rattle.mj_classes.proofs.steps.come_back.Given as goal

abbrev pub invariant-loop-at : goal.invariant-loop-at
invariant-loop-at l = FlagSome l.at-items l.flags.items l.at-index
