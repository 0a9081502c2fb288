-- Types that are the same.
use Rattle.std.specs.Prelude.{Bool, true, false, ◌&&◌, List, [], ◌∷◌}
use Rattle.mj_tree.specs.declared.tree.Ty.{Ty}
use Rattle.mj_phrases.specs.Inquiries.{Sig}
use Rattle.mj_rules.specs.FaultLists.{same_type}

-- the same types in the same order
abbrev pub same_types : List Ty → List Ty → Bool
same_types [] [] = true
same_types [] (u ∷ us) = false
same_types (t ∷ ts) [] = false
same_types (t ∷ ts) (u ∷ us) = same_type t u && same_types ts us

-- the same parameter types and the same return type
abbrev pub same_signature : Sig → Sig → Bool
same_signature own other =
    same_type own.returns other.returns && same_types own.formals other.formals
