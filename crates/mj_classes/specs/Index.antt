-- The declared classes, found by their names.
use Rattle.std.specs.Prelude.{List}
use Rattle.mj_members.specs.Declarations.{ClassDecl}
use Rattle.mj_members.specs.Classes.{classes_view}
use Rattle.mj_classes.specs.declared.declarations.Declarations.{Declarations}

-- all classes, in file order
abbrev pub declared_in : Declarations → List ClassDecl
declared_in d = classes_view d.classes.items
