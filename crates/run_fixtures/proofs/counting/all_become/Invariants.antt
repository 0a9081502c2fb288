use Rattle.std.proofs.Common.{take}
use Rattle.run_fixtures.specs.Asking.{AllBecome}
use Rattle.run_fixtures.proofs.counting.all_become.Given as goal

abbrev pub invariant-loop-ask : goal.invariant-loop-ask
invariant-loop-ask l = AllBecome (take l.ask-index l.asks) l.initial.recorder l.recorder
