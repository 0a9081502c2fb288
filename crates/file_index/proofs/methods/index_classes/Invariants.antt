use Rattle.std.proofs.Common.{◌≡◌, map, take}
use Rattle.file_index.specs.Standing.{class_at}
use Rattle.file_index.proofs.methods.index_classes.Given as goal

abbrev pub invariant-loop-start : goal.invariant-loop-start
invariant-loop-start l = l.methods.items ≡ map (class_at l.tokens) (take l.start-index l.starts)
