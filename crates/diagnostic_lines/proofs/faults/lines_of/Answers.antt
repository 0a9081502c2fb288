use Rattle.std.proofs.Common.{[], map, arith}
use Rattle.std.proofs.lemmas.List.{append-nil}
use Rattle.diagnostic_lines.specs.FaultLines.{of_project, of_class, IsLineOf}
use Rattle.diagnostic_lines.proofs.Pairs.{pairs_group, pairs_groups}
use Rattle.diagnostic_lines.proofs.faults.lines_of.Goals as goal

pub loop-class-init : goal.loop-class-init
loop-class-init c =
    rw (append-nil (map of_project c.args.answer.now.faults)) (rw c.faults.ensures at (c.in_ok-add_project_lines.ensures [] (rw c.new-lines.ensures.items tt)))

pub loop-class-preserved : goal.loop-class-preserved
loop-class-preserved c =
    pairs_group (IsLineOf c.args.texts.now) (λ class. map (of_class class.name) class.faults) (map of_project c.args.answer.now.faults) c.classes-class-items.result.now c.loop-class.class-index c.class-item.result c.add_class_lines.new.lines.items
    c.loop-class-test.true c.class-item.is (c.in_ok-add_class_lines.ensures _ c.loop-class.invariant)

pub returns : goal.returns
returns c =
    rw c.classes-class-items.ensures at
    (pairs_groups (IsLineOf c.args.texts.now) (λ class. map (of_class class.name) class.faults) (map of_project c.args.answer.now.faults) c.classes-class-items.result.now c.loop-class.class-index c.loop-class.lines.items
    (omega arith) c.loop-class.invariant)
