use Rattle.std.proofs.Common.{◌≡◌, ◌++◌, drop}
use Rattle.mj_rules.specs.FaultLists.{each_numbered}
use Rattle.answer_queries.specs.Told.{method_told}
use Rattle.answer_queries.proofs.told.add_methods.Given as goal

abbrev pub invariant-loop-number : goal.invariant-loop-number
invariant-loop-number l =
    l.faults.items ++ each_numbered method_told l.number (drop l.number l.others) (drop l.number l.repeated)
    ≡ l.initial.faults.items ++ each_numbered method_told 0 l.others l.repeated
