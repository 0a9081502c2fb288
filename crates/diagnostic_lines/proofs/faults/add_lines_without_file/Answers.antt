use Rattle.std.proofs.Common.{◌∙◌, sym, arith}
use Rattle.diagnostic_lines.specs.FaultLines.{of_class, IsLineOf}
use Rattle.diagnostic_lines.proofs.Pairs.{pairs_more, pairs_all}
use Rattle.diagnostic_lines.proofs.faults.add_lines_without_file.Goals as goal

pub loop-fault-preserved : goal.loop-fault-preserved
loop-fault-preserved c = λ files name before stands h.
    rw c.in_ok-push.ensures.items
    (pairs_more (IsLineOf files) (of_class name) before c.args.faults.now c.loop-fault.fault-index c.fault-item.result c.loop-fault.lines.items c.line_without_file.result
    c.loop-fault-test.true c.fault-item.is (c.loop-fault.invariant files name before stands h)
    (record { code = c.line_without_file.ensures.code; spot = c.line_without_file.ensures.spot ∙ sym (stands c.fault-item.result.place) }))

pub returns : goal.returns
returns c = λ files name before stands h.
    pairs_all (IsLineOf files) (of_class name) before c.args.faults.now c.loop-fault.fault-index c.loop-fault.lines.items (omega arith) (c.loop-fault.invariant files name before stands h)
