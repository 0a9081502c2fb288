-- Where the classes of a file and their methods stand, by their names.
use Rattle.std.specs.Prelude.{◌≡◌, ℕ, List, position}
use Rattle.std.specs.BTreeMap.{BTreeMap, get}
use Rattle.std.specs.Cmp.Lexicographic.{slice_cmp}
use Rattle.std.specs.List.{AllZip}
use Rattle.std.specs.Ordering.{nat_cmp}
use Rattle.std.specs.Str.{bytes_eq}
use Rattle.mj_tree.specs.Trees.{Name, Method, Class}
use Rattle.tree_bytes.specs.declared.index.ClassIndex.{ClassIndex}

-- the map has the place of the first class of each name, and that of the first method
abbrev pub FindsClasses : BTreeMap Name ℕ → List Class → Type 0
FindsClasses places classes =
    (c : Name) → get (slice_cmp nat_cmp) places c ≡ position (λ k. bytes_eq k.name c) classes

abbrev pub FindsMethods : BTreeMap Name ℕ → List Method → Type 0
FindsMethods places methods =
    (m : Name) → get (slice_cmp nat_cmp) places m ≡ position (λ f. bytes_eq f.name m) methods

-- a map for each class
abbrev pub FindsEach : List (BTreeMap Name ℕ) → List Class → Type 0
FindsEach each classes = AllZip (λ places k. FindsMethods places k.methods) each classes

pub record IsIndexOf (index : ClassIndex) (classes : List Class) : Type 0 where
  pub finds_classes : FindsClasses index.classes classes
  pub finds_methods : FindsEach index.methods.items classes
