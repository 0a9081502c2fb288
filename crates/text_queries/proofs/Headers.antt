-- What a tree says about a class, and the header of the class in it.
use Rattle.std.proofs.Common.{◌≡◌, ℕ, suc, Bool, true, false, cond, List, [], ◌∷◌, map, find, Option, Some, None, option_map, refl}
use Rattle.std.specs.Prelude.{option_and_then}
use Rattle.std.specs.Str.{bytes_eq}
use Rattle.mj_tree.specs.Trees.{Name, Main, Class, File}
use Rattle.mj_tree.specs.declared.tree.Field.{Field}
use Rattle.tree_bytes.specs.declared.stored.StoredClass.{StoredClass}
use Rattle.tree_bytes.specs.Stored.{stored_class}
use Rattle.mj_members.specs.Declarations.{ClassDecl, main_decl, class_decl}
use Rattle.mj_classes.specs.Declarations.{number_classes, main_first, decl}
use Rattle.tree_bytes.specs.NamedBodies.{first_class}
use Rattle.query_rules.specs.Items.{header_of}
use Rattle.text_queries.specs.ClassTrees.{class_named}
use Rattle.text_queries.specs.NamedHeaders.{main_header, class_header, header_among, header_behind, header_named}

-- ---- the header of a class

pub class_told : (k : StoredClass) (superclass : Option Name) (fields : List Field) (methods : List Name)
    → superclass ≡ k.superclass → fields ≡ k.fields.items → methods ≡ map (λ m. m.name) k.methods.items
    → record { is_main = false; superclass = superclass; fields = fields; methods = methods } ≡ class_header (stored_class k)
class_told k superclass fields methods s f m =
    λ i. record { is_main = false; superclass = s i; fields = f i; methods = m i }

-- ---- the first class of a name

module _ (c : Name) where
  abbrev named : ClassDecl → Bool
  named k = bytes_eq k.name c

  in_classes : (number : ℕ) (cs : List Class) → header_among c cs ≡ option_map header_of (find named (number_classes 0 number cs))
  in_classes number [] = refl
  in_classes number (k ∷ cs) = by_name (bytes_eq k.name c) (in_classes (suc number) cs)
    where
      by_name : (b : Bool) → header_among c cs ≡ option_map header_of (find named (number_classes 0 (suc number) cs))
          → option_map class_header (cond b (Some k) (first_class c cs)) ≡ option_map header_of (cond b (Some (class_decl 0 number k)) (find named (number_classes 0 (suc number) cs)))
      by_name true h = refl
      by_name false h = h

  behind_main : (o : Option Main) (cs : List Class) → header_behind o c cs ≡ option_map header_of (find named (main_first 0 o cs))
  behind_main None cs = in_classes 0 cs
  behind_main (Some main) cs = by_name (bytes_eq main.name c) (in_classes 1 cs)
    where
      by_name : (b : Bool) → header_among c cs ≡ option_map header_of (find named (number_classes 0 1 cs))
          → cond b (Some main_header) (header_among c cs) ≡ option_map header_of (cond b (Some (main_decl 0 main)) (find named (number_classes 0 1 cs)))
      by_name true h = refl
      by_name false h = h

  in_tree : (tree : File) → header_named c tree ≡ option_map header_of (class_named c tree)
  unfolding decl
  in_tree tree = behind_main tree.main tree.classes

  -- the header that a tree has for a name is that of the class that it has for it
  pub tree_tells : (o : Option File) → option_and_then (header_named c) o ≡ option_map header_of (option_and_then (class_named c) o)
  tree_tells None = refl
  tree_tells (Some tree) = in_tree tree
