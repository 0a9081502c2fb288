use Rattle.std.proofs.Common.{◌≡◌, ◌++◌, drop, map}
use Rattle.mj_classes.specs.Declarations.{declared_from}
use Rattle.answer_queries.specs.Trees.{named_trees}
use Rattle.answer_queries.specs.ProjectFaults.{named_classes, declared_names, names_view}
use Rattle.answer_queries.proofs.project_faults.all_classes.Given as goal

-- those so far and those of the rest are those of all
abbrev pub invariant-loop-number : goal.invariant-loop-number
invariant-loop-number l = names_view l.classes.items ++ named_classes (declared_from l.number (map (λ f. f.1) (named_trees (drop l.number l.files)))) ≡ declared_names (named_trees l.files)
