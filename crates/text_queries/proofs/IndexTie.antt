-- The program of the index in a project.
use Rattle.std.proofs.Common.{◌≡◌, ℕ, suc, ◌+◌, List, [], ◌∷◌, ◌++◌, map, find, filter_map, slice_get, Option, Some, None, option_map, refl, sym, ap, ap₂, ◌∙◌, arith, append_assoc, append-nil}
use Rattle.std.specs.Prelude.{if◌then◌else◌}
use Rattle.std.specs.List.{cons_option}
use Rattle.std.specs.Str.{bytes_eq}
use Rattle.std.proofs.lemmas.List.{map-append}
use Rattle.item_ids.specs.declared.key.Key.{Key}
use Rattle.item_ids.specs.declared.key.Key.TheVariants as keys
use Rattle.mj_tree.specs.Trees.{Name, File}
use Rattle.mj_tree.proofs.Positions.{find-map}
use Rattle.mj_members.specs.Declarations.{ClassDecl}
use Rattle.mj_classes.specs.Declarations.{classes_of, declared_from, decl}
use Rattle.named_files.specs.Projects.{SourceFile, names_of, IsProject}
use Rattle.mj_rules.specs.Sentences.{file_of, trees_of, classes_in}
use Rattle.mj_rules.specs.FaultLists.{class_names}
use Rattle.mj_rules.specs.Answering.{set_of, name_order, first_classes}
use Rattle.result_bytes.specs.Parts.{tree_in}
use Rattle.result_bytes.specs.declared.files.IndexRow.{IndexRow}
use Rattle.result_bytes.specs.declared.value.Value.{Value}
use Rattle.result_bytes.specs.declared.value.Value.TheVariants as values
use Rattle.profiles.specs.declared.profile.Profile.{Profile}
use Rattle.recorder.specs.Projects.{Project}
use Rattle.recorder.specs.Programs.{Ret, runs, asks, Fits, each}
use Rattle.recorder.proofs.Rules.{fold_of, each_runs, each_fits}
use Rattle.recorder.specs.Backed.{is_seen}
use Rattle.query_rules.specs.Items.{tree_at, name_of, index_row}
use Rattle.query_rules.specs.Meaning.{mean}
use Rattle.query_rules.specs.Reads.{asked_keys, first_keys, reads}
use Rattle.text_queries.specs.Index.{row_in, file_rows, rows_step, first_rows, index_steps}
use Rattle.text_queries.specs.Laws.{IndexTies}
use Rattle.text_queries.proofs.Files.{tree_by_name, moved, classes_moved}

-- ---- the rows of all files

module _ (p : Project) (is : IsProject p) where
  classes_rows : (i : ℕ) (f : SourceFile) → slice_get p i ≡ Some f → (ks : List ClassDecl) → map (index_row p) (map (moved i) ks) ≡ map (row_in f.name) (class_names ks)
  classes_rows i f here [] = refl
  classes_rows i f here (k ∷ ks) = ap₂ (λ n rows. row_in n k.name ∷ rows) (ap name_of here) (classes_rows i f here ks)

  tree_rows : (i : ℕ) (f : SourceFile) → slice_get p i ≡ Some f → (tree : File) → map (index_row p) (classes_of i tree) ≡ file_rows f.name (Some tree)
  tree_rows i f here tree = ap (map (index_row p)) (classes_moved i tree) ∙ classes_rows i f here (classes_of 0 tree)

  abbrev step : Name → List IndexRow → List IndexRow
  step n rows = rows ++ file_rows n (tree_at p n)

  -- the rows of the files from a number on
  rows_from : (i : ℕ) (fs : List SourceFile) → ((j : ℕ) (f : SourceFile) → slice_get fs j ≡ Some f → slice_get p (i + j) ≡ Some f) → (rows : List IndexRow)
      → fold_of step (names_of fs) rows ≡ rows ++ map (index_row p) (declared_from i (trees_of fs))
  unfolding fold_of
  rows_from i [] here rows = sym (append-nil rows)
  rows_from i (f ∷ fs) here rows =
      let start : i + 0 ≡ i = omega arith in
      let at : slice_get p i ≡ Some f = ap (slice_get p) (sym start) ∙ here 0 f refl in
      ap (λ t. fold_of step (names_of fs) (rows ++ file_rows f.name t)) (tree_by_name p is i f at)
      ∙ (rows_from (suc i) fs (λ j g e. let over : suc i + j ≡ i + suc j = omega arith in ap (slice_get p) over ∙ here (suc j) g e) (rows ++ file_rows f.name (file_of f.bytes))
      ∙ by_tree at (file_of f.bytes))
    where
      by_tree : slice_get p i ≡ Some f → (o : Option File) → (rows ++ file_rows f.name o) ++ map (index_row p) (declared_from (suc i) (trees_of fs)) ≡ rows ++ map (index_row p) (declared_from i (o ∷ trees_of fs))
      by_tree at None = ap (λ rs. rs ++ map (index_row p) (declared_from (suc i) (trees_of fs))) (append-nil rows)
      by_tree at (Some tree) =
          append_assoc rows (file_rows f.name (Some tree)) (map (index_row p) (declared_from (suc i) (trees_of fs)))
          ∙ ap (λ rs. rows ++ rs)
          (ap (λ rs. rs ++ map (index_row p) (declared_from (suc i) (trees_of fs))) (sym (tree_rows i f at tree))
          ∙ sym (map-append (index_row p) (classes_of i tree) (declared_from (suc i) (trees_of fs))))

  all_rows : fold_of step (names_of p) [] ≡ map (index_row p) (classes_in p)
  all_rows = rows_from 0 p (λ j f e. let start : 0 + j ≡ j = omega arith in ap (slice_get p) start ∙ e) []

-- ---- the first row of each class

module _ (p : Project) where
  row_names : (ks : List ClassDecl) → map (λ (row : IndexRow). row.class) (map (index_row p) ks) ≡ class_names ks
  row_names [] = refl
  row_names (k ∷ ks) = ap (λ ns. k.name ∷ ns) (row_names ks)

  rows_named : (ks : List ClassDecl) (ns : List Name) → filter_map (λ c. find (λ (row : IndexRow). bytes_eq row.class c) (map (index_row p) ks)) ns ≡ map (index_row p) (filter_map (decl ks) ns)
  unfolding decl
  rows_named ks [] = refl
  rows_named ks (n ∷ ns) =
      ap₂ cons_option (find-map (index_row p) (λ (row : IndexRow). bytes_eq row.class n) ks) (rows_named ks ns)
      ∙ by_first (decl ks n)
    where
      by_first : (o : Option ClassDecl) → cons_option (option_map (index_row p) o) (map (index_row p) (filter_map (decl ks) ns)) ≡ map (index_row p) (cons_option o (filter_map (decl ks) ns))
      by_first None = refl
      by_first (Some k) = refl

  first_of_all : (ks : List ClassDecl) → first_rows (map (index_row p) ks) ≡ map (index_row p) (first_classes ks)
  unfolding first_rows
  first_of_all ks =
      ap (λ ns. filter_map (λ c. find (λ (row : IndexRow). bytes_eq row.class c) (map (index_row p) ks)) (set_of name_order ns)) (row_names ks)
      ∙ rows_named ks (set_of name_order (class_names ks))

-- ---- the tie

means : (profile : Profile) (p : Project) → IsProject p → mean profile p keys.Index ≡ runs (index_steps Ret) (mean profile p)
unfolding mean runs
means profile p is = sym
    (each_runs rows_step (mean profile p) (step p is) (λ n rows k. refl) (names_of p) [] (λ rows. Ret (values.Index (first_rows rows)))
    ∙ ap (λ rows. values.Index (first_rows rows)) (all_rows p is)
    ∙ ap values.Index (first_of_all p (classes_in p)))

each_asked : (profile : Profile) (p : Project) (names : List Name) (rows : List IndexRow) (value : List IndexRow → Value) (seen : List Key)
    → asks (each rows_step names rows (λ rs. Ret (value rs))) (mean profile p) seen ≡ first_keys seen (map keys.Tree names)
unfolding asks each
each_asked profile p [] rows value seen = refl
each_asked profile p (n ∷ names) rows value seen =
    ap₂ (λ x y. if is_seen seen (keys.Tree n) then x else keys.Tree n ∷ y)
    (each_asked profile p names (rows ++ file_rows n (tree_in (mean profile p (keys.Tree n)))) value seen)
    (each_asked profile p names (rows ++ file_rows n (tree_in (mean profile p (keys.Tree n)))) value (seen ++ keys.Tree n ∷ []))

asked : (profile : Profile) (p : Project) → reads profile p keys.Index ≡ asks (index_steps Ret) (mean profile p) []
unfolding mean asks reads asked_keys
asked profile p = sym (ap (λ ks. keys.Files ∷ ks) (each_asked profile p (names_of p) [] (λ rows. values.Index (first_rows rows)) (keys.Files ∷ [])))

fits : Fits keys.Index (index_steps Ret)
unfolding Fits
fits = (omega arith, λ v. each_fits keys.Index rows_step (λ n rows k h. (omega arith, λ w. h _)) _ [] (λ rows. Ret (values.Index (first_rows rows))) (λ rows. refl))

pub index_ties : IndexTies
index_ties profile = record {
  means = means profile;
  asked = λ p is. asked profile p;
  fits = fits;
}
