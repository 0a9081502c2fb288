use Rattle.std.proofs.Common.{◌≡◌, ◌++◌, drop}
use Rattle.mj_classes.specs.Declarations.{declared_from}
use Rattle.mj_members.specs.Classes.{classes_view}
use Rattle.mj_classes.specs.Classes.{files_view}
use Rattle.mj_classes.proofs.declarations.all_classes.Given as goal

-- those so far and those of the rest are those of all
abbrev pub invariant-loop-file : goal.invariant-loop-file
invariant-loop-file l = classes_view l.classes.items ++ declared_from l.file (files_view (drop l.file l.files)) ≡ declared_from 0 (files_view l.files)
