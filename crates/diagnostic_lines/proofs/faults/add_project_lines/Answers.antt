use Rattle.std.proofs.Common.{arith}
use Rattle.diagnostic_lines.specs.FaultLines.{of_project, IsLineOf}
use Rattle.diagnostic_lines.proofs.Pairs.{pairs_more, pairs_all}
use Rattle.diagnostic_lines.proofs.faults.add_project_lines.Goals as goal

pub loop-fault-preserved : goal.loop-fault-preserved
loop-fault-preserved c = λ before h.
    rw c.in_ok-push.ensures.items
    (pairs_more (IsLineOf c.args.texts.now) of_project before c.args.faults.now c.loop-fault.fault-index c.fault-item.result c.loop-fault.lines.items c.in_ok-project_line.field-0
    c.loop-fault-test.true c.fault-item.is (c.loop-fault.invariant before h) c.in_ok-project_line.ensures)

pub returns : goal.returns
returns c = λ before h.
    pairs_all (IsLineOf c.args.texts.now) of_project before c.args.faults.now c.loop-fault.fault-index c.loop-fault.lines.items (omega arith) (c.loop-fault.invariant before h)
