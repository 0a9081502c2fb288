-- Files of a project by their names, and the files that declare classes.
use Rattle.std.proofs.Common.{◌≡◌, ℕ, suc, ◌+◌, ◌<◌, Bool, List, [], ◌∷◌, map, slice_get, find, Option, Some, None, option_map, refl, sym, ap, ◌∙◌, arith, inl, inr}
use Rattle.std.specs.Prelude.{option_and_then}
use Rattle.std.specs.Option.{option_or}
use Rattle.std.specs.Str.{bytes_eq}
use Rattle.std.proofs.lemmas.Bool.{cases_order}
use Rattle.std.proofs.lemmas.List.Folds.{find-append}
use Rattle.std.proofs.lemmas.Option.{none-some, same_Some}
use Rattle.std.proofs.lemmas.Slice.Eq.{bytes_eq-Decides}
use Rattle.mj_tree.specs.Trees.{Name, Main, Class, File}
use Rattle.mj_tree.proofs.Positions.{find-map}
use Rattle.mj_members.specs.Declarations.{ClassDecl, main_decl, class_decl}
use Rattle.mj_classes.specs.Declarations.{number_classes, main_first, classes_of, declared_from, decl}
use Rattle.named_files.specs.Projects.{SourceFile, names_of, IsProject}
use Rattle.named_files.proofs.Listed.{place_of, contains_before, map_at, from_map}
use Rattle.mj_rules.specs.Sentences.{file_of, trees_of, classes_in}
use Rattle.mj_rules.proofs.RowLemmas.{found_stands, finds_one}
use Rattle.recorder.specs.Projects.{Project}
use Rattle.query_rules.specs.Items.{tree_at, name_of, file_of_class}

-- ---- files by their names

abbrev has_name : Name → SourceFile → Bool
has_name n f = bytes_eq f.name n

-- no two places have one name
one_place : (p : Project) → IsProject p → (i j : ℕ) (f g : SourceFile) → slice_get p i ≡ Some f → slice_get p j ≡ Some g → f.name ≡ g.name → i < j → ⊥
one_place p is i j f g a b e lt =
    is.distinct j g.name (map_at (λ (x : SourceFile). x.name) p j g b)
    (contains_before j i (names_of p) g.name lt (map_at (λ (x : SourceFile). x.name) p i f a ∙ ap (λ (n : Name). Some n) e))

-- a file is found by its name
file_found : (p : Project) → IsProject p → (i : ℕ) (f : SourceFile) → slice_get p i ≡ Some f → find (has_name f.name) p ≡ Some f
file_found p is i f a = by (find (has_name f.name) p) refl
  where
    same : (j : ℕ) (g : SourceFile) → slice_get p j ≡ Some g → g.name ≡ f.name → g ≡ f
    same j g b e = elim (cases_order i j) [
      | inl eq ↦ same_Some g f (sym b ∙ (ap (slice_get p) (sym eq) ∙ a))
      | inr other ↦ elim other [
        | inl before ↦ absurd (one_place p is i j f g a b (sym e) before)
        | inr behind ↦ absurd (one_place p is j i g f b a e behind)
      ]
    ]

    by : (o : Option SourceFile) → find (has_name f.name) p ≡ o → o ≡ Some f
    by None e = absurd (finds_one (has_name f.name) p i f a ((bytes_eq-Decides f.name f.name).1 refl) e)
    by (Some g) e =
        let s = found_stands (has_name f.name) p g e in
        let at = place_of p g s.0 in
        ap (λ (x : SourceFile). Some x) (same at.0 g at.1 ((bytes_eq-Decides g.name f.name).0 s.1))

pub tree_by_name : (p : Project) → IsProject p → (i : ℕ) (f : SourceFile) → slice_get p i ≡ Some f → tree_at p f.name ≡ file_of f.bytes
tree_by_name p is i f a = ap (λ (o : Option SourceFile). option_and_then file_of (option_map (λ g. g.bytes) o)) (file_found p is i f a)

-- ---- classes by their files

-- the class, as if its file were another one
abbrev pub moved : ℕ → ClassDecl → ClassDecl
moved i k = record {
  file = i;
  number = k.number;
  name = k.name;
  superclass = k.superclass;
  main = k.main;
  fields = k.fields;
  methods = k.methods;
}

number_moved : (i n : ℕ) (cs : List Class) → number_classes i n cs ≡ map (moved i) (number_classes 0 n cs)
number_moved i n [] = refl
number_moved i n (c ∷ cs) = ap (λ (ks : List ClassDecl). class_decl i n c ∷ ks) (number_moved i (suc n) cs)

main_first_moved : (i : ℕ) (o : Option Main) (cs : List Class) → main_first i o cs ≡ map (moved i) (main_first 0 o cs)
main_first_moved i None cs = number_moved i 0 cs
main_first_moved i (Some m) cs = ap (λ (ks : List ClassDecl). main_decl i m ∷ ks) (number_moved i 1 cs)

pub classes_moved : (i : ℕ) (f : File) → classes_of i f ≡ map (moved i) (classes_of 0 f)
classes_moved i f = main_first_moved i f.main f.classes

decl_moved : (i : ℕ) (f : File) (c : Name) → decl (classes_of i f) c ≡ option_map (moved i) (decl (classes_of 0 f) c)
unfolding decl
decl_moved i f c = ap (find (λ (k : ClassDecl). bytes_eq k.name c)) (classes_moved i f) ∙ find-map (moved i) (λ (k : ClassDecl). bytes_eq k.name c) (classes_of 0 f)

-- A class stands in a file, which is a sentence: there it is the first of its name.
pub record StandsIn (fs : List SourceFile) (first : ℕ) (c : Name) (k : ClassDecl) : Type 0 where
  pub at : ℕ
  pub file : SourceFile
  pub here : slice_get fs at ≡ Some file
  pub number : k.file ≡ first + at
  pub tree : File
  pub reads : file_of file.bytes ≡ Some tree
  pub alone : ClassDecl
  pub found : decl (classes_of 0 tree) c ≡ Some alone
  pub is : k ≡ moved (first + at) alone

later : (f : SourceFile) (fs : List SourceFile) (first : ℕ) (c : Name) (k : ClassDecl) → StandsIn fs (suc first) c k → StandsIn (f ∷ fs) first c k
later f fs first c k s = record {
  at = suc s.at;
  file = s.file;
  here = s.here;
  number = s.number ∙ over;
  tree = s.tree;
  reads = s.reads;
  alone = s.alone;
  found = s.found;
  is = s.is ∙ ap (λ n. moved n s.alone) over;
}
  where
    over : suc first + s.at ≡ first + suc s.at
    over = omega arith

stands_from : (first : ℕ) (fs : List SourceFile) (c : Name) (k : ClassDecl) → decl (declared_from first (trees_of fs)) c ≡ Some k → StandsIn fs first c k
unfolding decl
stands_from first [] c k e = absurd (none-some k e)
stands_from first (f ∷ fs) c k e = by_tree (λ h. later f fs first c k (stands_from (suc first) fs c k h)) (file_of f.bytes) refl e
  where
    by_tree : (decl (declared_from (suc first) (trees_of fs)) c ≡ Some k → StandsIn (f ∷ fs) first c k) → (o : Option File) → file_of f.bytes ≡ o → decl (declared_from first (o ∷ trees_of fs)) c ≡ Some k → StandsIn (f ∷ fs) first c k
    by_tree behind None t h = behind h
    by_tree behind (Some tree) t h = by_class (decl (classes_of first tree) c) refl (sym (find-append (λ (j : ClassDecl). bytes_eq j.name c) (classes_of first tree) (declared_from (suc first) (trees_of fs))) ∙ h)
      where
        by_class : (o : Option ClassDecl) → decl (classes_of first tree) c ≡ o → option_or o (decl (declared_from (suc first) (trees_of fs)) c) ≡ Some k → StandsIn (f ∷ fs) first c k
        by_class None d g = behind g
        by_class (Some j) d g =
            let a = from_map (moved first) (decl (classes_of 0 tree) c) k (sym (decl_moved first tree c) ∙ (d ∙ g)) in
            let start : first ≡ first + 0 = omega arith in
            record {
              at = 0;
              file = f;
              here = refl;
              number = ap (λ (x : ClassDecl). x.file) (sym a.2) ∙ start;
              tree = tree;
              reads = t;
              alone = a.0;
              found = a.1;
              is = sym a.2 ∙ ap (λ n. moved n a.0) start;
            }

pub stands_in : (p : Project) (c : Name) (k : ClassDecl) → decl (classes_in p) c ≡ Some k → StandsIn p 0 c k
stands_in p c k e = stands_from 0 p c k e

-- the tree of the file that declares a class
pub class_tree : (p : Project) → IsProject p → (c : Name) (k : ClassDecl) (s : StandsIn p 0 c k) → tree_at p (file_of_class p k) ≡ Some s.tree
class_tree p is c k s =
    let start : 0 + s.at ≡ s.at = omega arith in
    let file : file_of_class p k ≡ s.file.name = ap (λ n. name_of (slice_get p n)) (s.number ∙ start) ∙ ap name_of s.here in
    ap (tree_at p) file ∙ (tree_by_name p is s.at s.file s.here ∙ s.reads)
