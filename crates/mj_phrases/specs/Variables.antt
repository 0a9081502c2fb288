-- The variables of a method, and which of them repeat a name.
use Rattle.std.specs.Prelude.{ℕ, ◌+◌, ◌-◌, ◌^◌, min, Bool, true, false, List, [], ◌∷◌, ◌++◌, if◌then◌else◌}
use Rattle.mj_tree.specs.Trees.{Name, Method}
use Rattle.mj_tree.specs.declared.tree.Ty.{Ty}
use Rattle.mj_tree.specs.declared.tree.Ty.TheVariants as ty
use Rattle.mj_tree.specs.declared.tree.Variable.{Variable}
use Rattle.mj_answer.specs.declared.code.Code.TheVariants.{E207}
use Rattle.mj_phrases.specs.declared.verdict.Mistake.{Mistake}
use Rattle.mj_phrases.specs.Types.{is_same}

-- formals and locals in their order
abbrev pub variables_of : Method → List Variable
variables_of m = m.formals ++ m.locals

-- the token of a variable's name: 3 behind the first of `int[]`, 1 behind any other type
abbrev pub name_token : Variable → ℕ
name_token v = v.mark + type_tokens v.ty
  where
    type_tokens : Ty → ℕ
    type_tokens ty.IntArray = 3
    type_tokens ty.Int = 1
    type_tokens ty.Boolean = 1
    type_tokens (ty.Class c) = 1

-- one of the variables has this name
abbrev pub has_name : List Variable → Name → Bool
has_name [] x = false
has_name (v ∷ vs) x = if is_same v.name x then true else has_name vs x

-- the token of a variable's name; its number saturates at 64 bits
abbrev pub name_mark : Variable → ℕ
name_mark v = min (name_token v) (2 ^ 64 - 1)

-- that a variable's name stands before it
abbrev pub add_repeated : List Mistake → List Variable → Variable → List Mistake
add_repeated mistakes before v =
    if has_name before v.name then mistakes
    ++ record { mark = name_mark v; code = E207 } ∷ [] else mistakes

abbrev pub add_repeated_each : List Mistake → List Variable → List Variable → List Mistake
add_repeated_each mistakes before [] = mistakes
add_repeated_each mistakes before (v ∷ vs) =
    add_repeated_each (add_repeated mistakes before v) (before ++ v ∷ []) vs
