-- Arguments as a list.
use Rattle.std.proofs.Common.{◌≡◌, List, [], ◌∷◌, refl, ap}
use Rattle.mj_tree.specs.Trees.{Expression, Expressions, none, more}
use Rattle.mj_tree.specs.Views.{expressions_of}

abbrev pub exps_list : Expressions → List Expression
exps_list none = []
exps_list (more e es) = e ∷ exps_list es

pub list_exps : (es : Expressions) → expressions_of (exps_list es) ≡ es
list_exps none = refl
list_exps (more e es) = ap (more e) (list_exps es)
