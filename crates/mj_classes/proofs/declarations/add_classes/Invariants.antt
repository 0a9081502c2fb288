use Rattle.std.proofs.Common.{◌≡◌, ◌++◌, ◌+◌, map, drop}
use Rattle.mj_tree.specs.Views.{class_view}
use Rattle.mj_classes.specs.Declarations.{number_classes}
use Rattle.mj_members.specs.Classes.{classes_view}
use Rattle.mj_classes.proofs.declarations.add_classes.Given as goal

-- those so far and those of the rest are those of all
abbrev pub invariant-loop-n : goal.invariant-loop-n
invariant-loop-n l =
    classes_view l.classes.items ++ number_classes l.file (l.first + l.n) (map class_view (drop l.n l.trees)) ≡ classes_view l.initial.classes.items ++ number_classes l.file l.first (map class_view l.trees)
