-- Programs that take the same wherever they ask a key.
use Rattle.std.proofs.Common.{◌≡◌, Bool, true, false, List, [], ◌∷◌, ◌++◌, map, Option, Some, None, refl, sym, ap, ap₂, ◌∙◌, if◌then◌else◌}
use Rattle.std.specs.Ordering.{is_eq}
use Rattle.item_ids.specs.declared.key.Key.{Key}
use Rattle.item_ids.specs.declared.key.Key.TheVariants as keys
use Rattle.item_ids.specs.Keys.{key_cmp}
use Rattle.item_ids.proofs.Apart.{test_same, test_itself}
use Rattle.mj_tree.specs.Trees.{Name, File}
use Rattle.result_bytes.specs.declared.files.IndexRow.{IndexRow}
use Rattle.result_bytes.specs.declared.value.Value.{Value}
use Rattle.result_bytes.specs.declared.value.Value.TheVariants as values
use Rattle.result_bytes.specs.Parts.{files_in, index_in, tree_in}
use Rattle.recorder.specs.Backed.{is_seen}
use Rattle.recorder.specs.Programs.{Prog, Ret, Ask, runs, asks, each}
use Rattle.text_queries.specs.ClassTrees.{file_step, class_tree_step}
use Rattle.text_queries.specs.Index.{row_in, file_rows, rows_step, first_file, first_rows, index_steps}
use Rattle.keeping.specs.Kept.{KeptBy, AlikeBut}
use Rattle.kept_laws.specs.Parts.{Declared, declared_in, DeclareSame, HaveSameRow}
use Rattle.kept_laws.specs.Laws.{HeaderKept, MethodKept, IndexKept}
use Rattle.keeping.proofs.Kept.{kept_law}

-- wherever the program asks k, a and b lead on alike
unfoldable pub Takes : Key → Value → Value → Prog → Type 0
Takes k a b (Ret v) = Unit {0}
Takes k a b (Ask x f) = (x ≡ k → f a ≡ f b) × ((v : Value) → Takes k a b (f v))

module _ (k : Key) (a b : Value) (m n : Key → Value) (alike : AlikeBut k m n) (there : m k ≡ a) (here : n k ≡ b) where
  leads : (x : Key) (f : Value → Prog) → (x ≡ k → f a ≡ f b) → f (m x) ≡ f (n x)
  leads x f same = go (is_eq (key_cmp x k)) refl
    where
      go : (t : Bool) → is_eq (key_cmp x k) ≡ t → f (m x) ≡ f (n x)
      go true e =
          let at = test_same x k e in
          ap (λ y. f (m y)) at ∙ ap f there ∙ same at ∙ ap f (sym here) ∙ ap (λ y. f (n y)) (sym at)
      go false e = ap f (alike x (λ at. let no : false ≡ true = sym e ∙ test_itself x k at in absurd cc))

  pub runs_same : (p : Prog) → Takes k a b p → runs p m ≡ runs p n
  unfolding runs Takes
  runs_same (Ret v) t = refl
  runs_same (Ask x f) t = runs_same (f (m x)) (t.1 (m x)) ∙ ap (λ p. runs p n) (leads x f t.0)

  pub asks_same : (p : Prog) → Takes k a b p → (seen : List Key) → asks p m seen ≡ asks p n seen
  unfolding asks Takes
  asks_same (Ret v) t seen = refl
  asks_same (Ask x f) t seen =
      ap₂ (λ (old new : List Key). if is_seen seen x then old else x ∷ new)
      (asks_same (f (m x)) (t.1 (m x)) seen ∙ ap (λ p. asks p n seen) (leads x f t.0))
      (asks_same (f (m x)) (t.1 (m x)) (seen ++ x ∷ []) ∙ ap (λ p. asks p n (seen ++ x ∷ [])) (leads x f t.0))

pub kept_takes : (prog : Prog) (k : Key) (a b v : Value) → Takes k a b prog → KeptBy prog k a b v
kept_takes prog k a b v t = kept_law prog k a b v (λ m n alike there here e. (
  sym (runs_same k a b m n alike there here prog t) ∙ e,
  sym (asks_same k a b m n alike there here prog t []),
))

-- ---- a header and a method take the row of their class

class_tree_takes : (c : Name) (k : Option File → Value) (a b : Value) → HaveSameRow c a b → Takes keys.Index a b (class_tree_step c (λ tree. Ret (k tree)))
unfolding Takes
class_tree_takes c k a b same = ((λ _. ap (λ o. file_step o (λ tree. Ret (k tree))) same), λ v. by_file (first_file (index_in v) c))
  where
    by_file : (o : Option Name) → Takes keys.Index a b (file_step o (λ tree. Ret (k tree)))
    by_file None = tt
    by_file (Some f) = ((λ (e : keys.Tree f ≡ keys.Index). absurd cc), λ w. tt)

pub header_kept : HeaderKept
header_kept c a b v same = kept_takes _ keys.Index a b v (class_tree_takes c _ a b same)

pub method_kept : MethodKept
method_kept c m a b v same = kept_takes _ keys.Index a b v (class_tree_takes c _ a b same)

-- ---- the index takes what a file declares

abbrev rows_of : Name → Option Declared → List IndexRow
rows_of file None = []
rows_of file (Some d) = map (row_in file) d.names

rows_by_names : (file : Name) (o : Option File) → file_rows file o ≡ rows_of file (declared_in o)
rows_by_names file None = refl
rows_by_names file (Some f) = refl

same_rows : (file : Name) (a b : Value) → DeclareSame a b → file_rows file (tree_in a) ≡ file_rows file (tree_in b)
same_rows file a b same = rows_by_names file (tree_in a) ∙ ap (rows_of file) same ∙ sym (rows_by_names file (tree_in b))

pub index_kept : IndexKept
unfolding Takes each
index_kept f a b v same = kept_takes (index_steps Ret) (keys.Tree f) a b v ((λ (e : keys.Files ≡ keys.Tree f). absurd cc), λ w. loop (files_in w) [])
  where
    last : List IndexRow → Prog
    last rows = Ret (values.Index (first_rows rows))

    loop : (files : List Name) (rows : List IndexRow) → Takes (keys.Tree f) a b (each rows_step files rows last)
    loop [] rows = tt
    loop (x ∷ xs) rows = (
      (λ _. ap (λ (more : List IndexRow). each rows_step xs (rows ++ more) last) (same_rows x a b same)),
      λ w. loop xs (rows ++ file_rows x (tree_in w)),
    )
