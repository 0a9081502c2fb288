-- The trees of a project's files by their names.
use Rattle.std.proofs.Common.{◌≡◌, ℕ, suc, ◌+◌, List, [], ◌∷◌, map, slice_get, Option, Some, refl, sym, ap, ap₂, ◌∙◌, arith}
use Rattle.mj_tree.specs.Trees.{Name, File}
use Rattle.named_files.specs.Projects.{SourceFile, names_of, IsProject}
use Rattle.mj_rules.specs.Sentences.{file_of, trees_of}
use Rattle.recorder.specs.Projects.{Project}
use Rattle.query_rules.specs.Items.{tree_at}
use Rattle.text_queries.proofs.Files.{tree_by_name}
use Rattle.member_queries.proofs.Tables.{map_twice}
use Rattle.answer_queries.specs.Trees.{NamedTree}

abbrev pub read_file : SourceFile → NamedTree
read_file f = (f.name, file_of f.bytes)

abbrev pub read_files : Project → List NamedTree
read_files p = map read_file p

abbrev pub tree_of_name : Project → Name → NamedTree
tree_of_name p n = (n, tree_at p n)

module _ (p : Project) (is : IsProject p) where
  -- the files from a number on
  read_from : (i : ℕ) (fs : List SourceFile) → ((j : ℕ) (f : SourceFile) → slice_get fs j ≡ Some f → slice_get p (i + j) ≡ Some f) → map (tree_of_name p) (names_of fs) ≡ map read_file fs
  read_from i [] here = refl
  read_from i (f ∷ fs) here =
      let start : i + 0 ≡ i = omega arith in
      let at : slice_get p i ≡ Some f = ap (slice_get p) (sym start) ∙ here 0 f refl in
      ap₂ (λ (o : Option File) (rest : List NamedTree). (f.name, o) ∷ rest) (tree_by_name p is i f at)
      (read_from (suc i) fs (λ j g e. let over : suc i + j ≡ i + suc j = omega arith in ap (slice_get p) over ∙ here (suc j) g e))

  pub read_by_name : map (tree_of_name p) (names_of p) ≡ read_files p
  read_by_name = read_from 0 p (λ j f e. let start : 0 + j ≡ j = omega arith in ap (slice_get p) start ∙ e)

pub trees_same : (p : Project) → map (λ (f : NamedTree). f.1) (read_files p) ≡ trees_of p
trees_same p = map_twice read_file (λ (f : NamedTree). f.1) p
