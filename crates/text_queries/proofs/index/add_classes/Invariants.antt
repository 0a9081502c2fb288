use Rattle.std.proofs.Common.{◌≡◌, ◌++◌, map, take}
use Rattle.text_queries.specs.Index.{row_in}
use Rattle.text_queries.proofs.index.add_classes.Given as goal

abbrev pub invariant-loop-class : goal.invariant-loop-class
invariant-loop-class l = l.rows.items ≡ l.initial.rows.items ++ map (λ class. row_in l.file class.name) (take l.class-index l.classes)
