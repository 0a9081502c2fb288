-- The first row of each class.
use Rattle.std.proofs.Common.{◌≡◌, ℕ, suc, Bool, true, false, cond, List, [], ◌∷◌, ◌++◌, map, find, Option, Some, None, option_map, refl, sym, ap, ◌∙◌, subst, append_assoc}
use Rattle.std.specs.Option.{option_or}
use Rattle.std.specs.Map.{lookup, keys_of, values_of}
use Rattle.std.specs.BTreeMap.{is_at}
use Rattle.std.specs.Ordering.{is_eq}
use Rattle.std.specs.Str.{bytes_eq}
use Rattle.std.proofs.lemmas.Map.Lookups.{exact_bytes}
use Rattle.std.proofs.lemmas.Map.Views.{tells_apart}
use Rattle.mj_tree.specs.Trees.{Name, Main, File}
use Rattle.tree_bytes.specs.declared.stored.StoredClass.{StoredClass}
use Rattle.tree_bytes.specs.declared.stored.StoredFile.{StoredFile}
use Rattle.tree_bytes.specs.Stored.{stored_class, stored_file}
use Rattle.ordered_names.specs.Order.{NameBefore, IsAscendingBy, IsAscendingByName}
use Rattle.mj_classes.specs.Declarations.{number_classes, main_first}
use Rattle.mj_members.proofs.Tables.{by_bytes, under}
use Rattle.mj_rules.specs.FaultLists.{class_names}
use Rattle.mj_rules.proofs.TableLaws.{found_name}
use Rattle.result_bytes.specs.declared.files.IndexRow.{IndexRow}
use Rattle.text_queries.specs.Index.{row_in, file_rows, first_file, first_rows}
use Rattle.text_queries.proofs.Firsts.{values_are, firsts_ascend}

-- ---- the rows of a file

numbered_rows : (file : Name) (number : ℕ) (cs : List StoredClass) → map (λ (k : StoredClass). row_in file k.name) cs ≡ map (row_in file) (class_names (number_classes 0 number (map stored_class cs)))
numbered_rows file number [] = refl
numbered_rows file number (k ∷ cs) = ap (λ rows. row_in file k.name ∷ rows) (numbered_rows file (suc number) cs)

abbrev rows_by_main : Name → List StoredClass → Option Main → List IndexRow
rows_by_main file cs o = map (row_in file) (class_names (main_first 0 o (map stored_class cs)))

module _ (file : Name) (root : StoredFile) (tree : File) (seen : stored_file root ≡ tree) (old new : List IndexRow) (classes : List StoredClass) (all : classes ≡ root.classes.items) where
  -- those of a file without a main class
  pub rows_alone : root.main ≡ None → new ≡ old ++ map (λ (k : StoredClass). row_in file k.name) classes → new ≡ old ++ file_rows file (Some tree)
  rows_alone none added =
      added
      ∙ ap (λ (rows : List IndexRow). old ++ rows)
      (ap (map (λ (k : StoredClass). row_in file k.name)) all
      ∙ (numbered_rows file 0 root.classes.items ∙ (ap (rows_by_main file root.classes.items) (sym none) ∙ ap (λ (t : File). file_rows file (Some t)) seen)))

  -- those of a file with one
  pub rows_with_main : (main : Main) (mid : List IndexRow) → root.main ≡ Some main → mid ≡ old ++ row_in file main.name ∷ [] → new ≡ mid ++ map (λ (k : StoredClass). row_in file k.name) classes → new ≡ old ++ file_rows file (Some tree)
  rows_with_main main mid some first added =
      added
      ∙ (ap (λ (rows : List IndexRow). rows ++ map (λ (k : StoredClass). row_in file k.name) classes) first
      ∙ (append_assoc old (row_in file main.name ∷ []) (map (λ (k : StoredClass). row_in file k.name) classes)
      ∙ ap (λ (rows : List IndexRow). old ++ rows)
      (ap (λ (ks : List StoredClass). row_in file main.name ∷ map (λ (k : StoredClass). row_in file k.name) ks) all
      ∙ (ap (λ (rows : List IndexRow). row_in file main.name ∷ rows) (numbered_rows file 1 root.classes.items)
      ∙ (ap (rows_by_main file root.classes.items) (sym some) ∙ ap (λ (t : File). file_rows file (Some t)) seen)))))

-- ---- the files by their classes, one row after the other

-- what one row more says, and the rest
pub row_more : (old new : Option Name) (row : IndexRow) (rest : List IndexRow) (c : Name) → new ≡ option_or old (cond (bytes_eq row.class c) (Some row.file) None)
    → option_or new (first_file rest c) ≡ option_or old (first_file (row ∷ rest) c)
row_more old new row rest c e = ap (λ o. option_or o (first_file rest c)) e ∙ by_file old (bytes_eq row.class c)
  where
    by_file : (o : Option Name) (b : Bool) → option_or (option_or o (cond b (Some row.file) None)) (first_file rest c) ≡ option_or o (option_map (λ (r : IndexRow). r.file) (cond b (Some row) (find (λ (r : IndexRow). bytes_eq r.class c) rest)))
    by_file (Some n) b = refl
    by_file None true = refl
    by_file None false = refl

-- ---- the entries of the map, as rows

abbrev pub row_of : Name × Name → IndexRow
row_of e = row_in e.1 e.0

abbrev entry_of : Name × Name → Name × IndexRow
entry_of e = (e.0, row_of e)

same_keys : (es : List (Name × Name)) → keys_of es ≡ keys_of (map entry_of es)
same_keys [] = refl
same_keys (e ∷ es) = ap (λ (ns : List Name). e.0 ∷ ns) (same_keys es)

same_rows : (es : List (Name × Name)) → map row_of es ≡ values_of (map entry_of es)
same_rows [] = refl
same_rows (e ∷ es) = ap (λ (rows : List IndexRow). row_of e ∷ rows) (same_rows es)

-- the row under a class has its name and the file that is stored
row_under : (n : Name) (es : List (Name × Name)) → under n (map entry_of es) ≡ option_map (λ f. row_in f n) (lookup (is_at (by_bytes n)) es)
row_under n [] = refl
row_under n (e ∷ es) = by_test (is_eq (by_bytes n e.0)) refl (row_under n es)
  where
    by_test : (b : Bool) → is_eq (by_bytes n e.0) ≡ b → under n (map entry_of es) ≡ option_map (λ f. row_in f n) (lookup (is_at (by_bytes n)) es)
        → cond b (Some (row_of e)) (under n (map entry_of es)) ≡ option_map (λ f. row_in f n) (cond b (Some e.1) (lookup (is_at (by_bytes n)) es))
    by_test true t h = ap (λ (m : Name). Some (row_in e.1 m)) (sym (tells_apart exact_bytes n e.0 t))
    by_test false t h = h

module _ (rows : List IndexRow) where
  abbrev first_row : Name → Option IndexRow
  first_row n = find (λ (row : IndexRow). bytes_eq row.class n) rows

  row_found : (n : Name) (o : Option IndexRow) → first_row n ≡ o → option_map (λ f. row_in f n) (option_map (λ (row : IndexRow). row.file) o) ≡ o
  row_found n None e = refl
  row_found n (Some row) e = ap (λ (m : Name). Some (row_in row.file m)) (sym (found_name (λ (r : IndexRow). r.class) n rows row e))

  module _ (es : List (Name × Name)) (up : IsAscendingBy NameBefore (keys_of es)) (says : (n : Name) → lookup (is_at (by_bytes n)) es ≡ first_file rows n) where
    -- entries that ascend and say the first file of each class are the first rows
    pub first_are : map row_of es ≡ first_rows rows
    unfolding first_rows
    first_are =
        same_rows es
        ∙ values_are (λ (row : IndexRow). row.class) rows (map entry_of es) (subst (IsAscendingBy NameBefore) (same_keys es) up)
        (λ n. row_under n es ∙ (ap (option_map (λ f. row_in f n)) (says n) ∙ row_found n (first_row n) refl))

    -- and they ascend
    pub first_ascend : IsAscendingByName (λ (row : IndexRow). row.class) (map row_of es)
    unfolding first_rows
    first_ascend = subst (IsAscendingByName (λ (row : IndexRow). row.class)) (sym first_are) (firsts_ascend (λ (row : IndexRow). row.class) rows)
