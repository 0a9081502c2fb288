-- Classes by their places, and steps up by them.
use Rattle.std.proofs.Common.{◌≡◌, ℕ, ◌≤◌, take, List, [], ◌∷◌, length, map, Option, Some, None, refl, sym, ap, ◌∙◌}
use Rattle.std.specs.Prelude.{option_map, option_and_then, slice_get}
use Rattle.std.specs.Str.{bytes_eq}
use Rattle.std.proofs.lemmas.Option.{slice_get-map, same_Some}
use Rattle.std.proofs.lemmas.List.{take_all}
use Rattle.mj_tree.specs.Trees.{Name}
use Rattle.mj_members.specs.Declarations.{ClassDecl}
use Rattle.mj_classes.specs.Declarations.{decl, place, superclass_places}
use Rattle.mj_classes.specs.Chains.{Ends}
use Rattle.mj_classes.specs.Walks.{straight_end}
use Rattle.mj_tree.proofs.Positions.{at_some, find_from_position, position_below}

-- ---- places

pub place_none : (cs : List ClassDecl) (c : Name) → place cs c ≡ None → decl cs c ≡ None
unfolding decl
place_none cs c e = find_from_position (λ k. bytes_eq k.name c) cs None e

-- a class that the index has
pub place_class : (cs : List ClassDecl) (c : Name) (i : ℕ) → place cs c ≡ Some i → (k : ClassDecl) × (slice_get cs i ≡ Some k) × (decl cs c ≡ Some k)
unfolding decl
place_class cs c i e =
    let k = at_some cs i (position_below (λ k. bytes_eq k.name c) cs i e) in
    (k.0, k.1, find_from_position (λ k. bytes_eq k.name c) cs (Some i) e ∙ k.1)

-- what is said of each of the code's elements
mapped : {X Y Z : Type 0} (f : X → Y) (g : Y → Z) (xs : List X) → map (λ x. g (f x)) xs ≡ map g (map f xs)
mapped f g [] = refl
mapped f g (x ∷ xs) = ap (λ zs. g (f x) ∷ zs) (mapped f g xs)

pub all_mapped : {X Y Z : Type 0} (f : X → Y) (g : Y → Z) (xs : List X) (n : ℕ) → length xs ≤ n → map (λ x. g (f x)) (take n xs) ≡ map g (map f xs)
all_mapped f g xs n le = ap (map (λ x. g (f x))) (take_all n xs le) ∙ mapped f g xs

-- ---- a step up

-- the class that a class extends, if it is declared
abbrev pub above : List ClassDecl → ClassDecl → Option ClassDecl
above cs k = option_and_then (decl cs) k.superclass

pub step_place : (cs : List ClassDecl) (at : ℕ) (k : ClassDecl) (o : Option ℕ) → slice_get cs at ≡ Some k → slice_get (superclass_places cs) at ≡ Some o → option_and_then (place cs) k.superclass ≡ o
step_place cs at k o e f =
    same_Some _ _ (sym (slice_get-map (λ (c : ClassDecl). option_and_then (place cs) c.superclass) cs at ∙ ap (option_map (λ (c : ClassDecl). option_and_then (place cs) c.superclass)) e) ∙ f)

-- to a class that is declared
pub record Step (cs : List ClassDecl) (k : ClassDecl) (next : ℕ) : Type 0 where
  pub name : Name
  pub super : k.superclass ≡ Some name
  pub class : ClassDecl
  pub here : slice_get cs next ≡ Some class
  pub declared : decl cs name ≡ Some class

step_by : (cs : List ClassDecl) (k : ClassDecl) (next : ℕ) (o : Option Name) → k.superclass ≡ o → option_and_then (place cs) o ≡ Some next → Step cs k next
step_by cs k next None s e = absurd cc
step_by cs k next (Some u) s e = let j = place_class cs u next e in record { name = u; super = s; class = j.0; here = j.1; declared = j.2 }

pub step_up : (cs : List ClassDecl) (at : ℕ) (k : ClassDecl) (next : ℕ) → slice_get cs at ≡ Some k → slice_get (superclass_places cs) at ≡ Some (Some next) → Step cs k next
step_up cs at k next e f = step_by cs k next k.superclass refl (step_place cs at k (Some next) e f)

-- to none
ends_by : (cs : List ClassDecl) (chain : List Name) (k : ClassDecl) (o : Option Name) → decl cs k.name ≡ Some k → k.superclass ≡ o → option_and_then (place cs) o ≡ None → Ends cs chain k.name (straight_end o)
ends_by cs chain k None h s e = (k, h, s)
ends_by cs chain k (Some u) h s e = ((k, h, s), place_none cs u e)

pub no_step : (cs : List ClassDecl) (chain : List Name) (at : ℕ) (k : ClassDecl) → slice_get cs at ≡ Some k → decl cs k.name ≡ Some k → slice_get (superclass_places cs) at ≡ Some None → Ends cs chain k.name (straight_end k.superclass)
no_step cs chain at k e h f = ends_by cs chain k k.superclass h refl (step_place cs at k None e f)

pub step_above : (cs : List ClassDecl) (k : ClassDecl) (next : ℕ) (s : Step cs k next) → above cs k ≡ Some s.class
step_above cs k next s = ap (option_and_then (decl cs)) s.super ∙ s.declared

none_above_by : (cs : List ClassDecl) (o : Option Name) → option_and_then (place cs) o ≡ None → option_and_then (decl cs) o ≡ None
none_above_by cs None e = refl
none_above_by cs (Some u) e = place_none cs u e

pub none_above : (cs : List ClassDecl) (at : ℕ) (k : ClassDecl) → slice_get cs at ≡ Some k → slice_get (superclass_places cs) at ≡ Some None → above cs k ≡ None
none_above cs at k e f = none_above_by cs k.superclass (step_place cs at k None e f)
