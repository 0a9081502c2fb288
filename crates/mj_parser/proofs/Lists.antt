-- Statements as a list.
use Rattle.std.proofs.Common.{◌≡◌, List, [], ◌∷◌, refl, ap}
use Rattle.mj_tree.specs.Trees.{Statement, Statements, done, next}
use Rattle.mj_tree.specs.Views.{statements_of}

abbrev pub stmts_list : Statements → List Statement
stmts_list done = []
stmts_list (next s ss) = s ∷ stmts_list ss

pub list_stmts : (ss : Statements) → statements_of (stmts_list ss) ≡ ss
list_stmts done = refl
list_stmts (next s ss) = ap (next s) (list_stmts ss)
