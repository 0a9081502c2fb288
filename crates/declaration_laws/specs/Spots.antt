-- Where classes are declared, by their names.
use Rattle.std.specs.Prelude.{ℕ, suc, Bool, false, List, [], ◌∷◌, map, Option, Some, None, slice_get, if◌then◌else◌}
use Rattle.std.specs.List.{filter, list_any}
use Rattle.std.specs.Str.{bytes_eq}
use Rattle.mj_tree.specs.Trees.{Name, File}
use Rattle.mj_members.specs.Declarations.{ClassDecl}
use Rattle.mj_classes.specs.Declarations.{classes_of}
use Rattle.mj_rules.specs.FaultLists.{has_main}

-- the number of a file, and that of a class in it
pub record Spot : Type 0 where
  pub file : ℕ
  pub number : ℕ

abbrev pub spot_of : ClassDecl → Spot
spot_of k = record { file = k.file; number = k.number }

-- where the classes of a name are declared, in order
abbrev pub spots : List ClassDecl → Name → List Spot
spots ks c = map spot_of (filter (λ k. bytes_eq k.name c) ks)

-- the first of them
abbrev pub first_spot : List ClassDecl → Name → Option Spot
first_spot ks c = slice_get (spots ks c) 0

-- a file declares a class of the name
abbrev pub declares : Option File → Name → Bool
declares None c = false
declares (Some f) c = list_any (λ k. bytes_eq k.name c) (classes_of 0 f)

-- the number of the first file with a main class, counted from one on
abbrev pub first_main_from : ℕ → List (Option File) → Option ℕ
first_main_from n [] = None
first_main_from n (o ∷ os) = if has_main o then Some n else first_main_from (suc n) os

abbrev pub first_main : List (Option File) → Option ℕ
first_main files = first_main_from 0 files
