-- What two stored files declare, by the names of their classes.
use Rattle.std.proofs.Common.{◌≡◌, ℕ, suc, Bool, true, false, ◌&&◌, List, [], ◌∷◌, map, length, Option, Some, None, refl, ap, ap₂}
use Rattle.std.specs.Str.{bytes_eq}
use Rattle.mj_tree.specs.Trees.{Name, Main}
use Rattle.mj_classes.specs.Declarations.{number_classes}
use Rattle.mj_rules.specs.FaultLists.{class_names}
use Rattle.tree_bytes.specs.declared.stored.StoredClass.{StoredClass}
use Rattle.tree_bytes.specs.Stored.{stored_class}
use Rattle.kept_laws.specs.Parts.{Declared, declared_in}
use Rattle.kept_laws.specs.Tests.{same_names, same_declared}
use Rattle.kept_results.specs.Mains.{same_main}

abbrev pub names_of : List StoredClass → List Name
names_of cs = map (λ (k : StoredClass). k.name) cs

-- lists of other lengths differ
pub differ_long : (xs ys : List Name) → (length xs ≡ length ys → ⊥) → false ≡ same_names xs ys
differ_long [] [] h = absurd (h refl)
differ_long [] (y ∷ ys) h = refl
differ_long (x ∷ xs) [] h = refl
differ_long (x ∷ xs) (y ∷ ys) h = both (bytes_eq x y) (differ_long xs ys (λ e. h (ap suc e)))
  where
    both : (b : Bool) → false ≡ same_names xs ys → false ≡ (b && same_names xs ys)
    both true e = e
    both false e = refl

-- the names of classes, whatever their numbers are
numbered_names : (number : ℕ) (cs : List StoredClass) → names_of cs ≡ class_names (number_classes 0 number (map stored_class cs))
numbered_names number [] = refl
numbered_names number (k ∷ cs) = ap (λ (ns : List Name). k.name ∷ ns) (numbered_names (suc number) cs)

abbrev declared_by : Option Main → List StoredClass → Option Declared
declared_by main cs = declared_in (Some (record { main = main; classes = map stored_class cs }))

-- files with the same main class and the same classes declare the same
pub declared_alike : (m n : Option Main) (cs ds : List StoredClass) → (same_main m n && same_names (names_of cs) (names_of ds)) ≡ same_declared (declared_by m cs) (declared_by n ds)
declared_alike None None cs ds = ap₂ same_names (numbered_names 0 cs) (numbered_names 0 ds)
declared_alike None (Some n) cs ds = refl
declared_alike (Some m) None cs ds = refl
declared_alike (Some m) (Some n) cs ds = ap₂ (λ (xs ys : List Name). bytes_eq m.name n.name && same_names xs ys) (numbered_names 1 cs) (numbered_names 1 ds)
