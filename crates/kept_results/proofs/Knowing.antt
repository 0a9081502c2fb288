-- What is known of a change says what is kept.
use Rattle.std.proofs.Common.{◌≡◌, Bool, true, false, cond, not, ◌&&◌, ◌||◌, List, [], ◌∷◌, find, Option, Some, None, option_map, refl, sym, ap, ap₂, ◌∙◌, if◌then◌else◌}
use Rattle.std.specs.Prelude.{is_some, is_none}
use Rattle.std.specs.Str.{bytes_eq}
use Rattle.std.specs.BTreeMap.{get}
use Rattle.std.specs.Ordering.{nat_cmp}
use Rattle.std.specs.Cmp.Lexicographic.{slice_cmp}
use Rattle.item_ids.specs.declared.key.Key.{Key}
use Rattle.item_ids.specs.declared.key.Key.TheVariants as keys
use Rattle.mj_tree.specs.Trees.{Name}
use Rattle.result_bytes.specs.declared.files.IndexRow.{IndexRow}
use Rattle.result_bytes.specs.declared.value.Value.{Value}
use Rattle.result_bytes.specs.declared.parts.ChainEnd.{ChainEnd}
use Rattle.result_bytes.specs.declared.parts.ChainEnd.TheVariants.{Top, Undeclared, Repeated}
use Rattle.result_bytes.specs.Payloads.{ChainValue}
use Rattle.result_bytes.specs.Parts.{index_in, supers_in}
use Rattle.text_queries.specs.Index.{first_file}
use Rattle.member_queries.specs.Supers.{is_listed}
use Rattle.kept_laws.specs.Tests.{same_flag, same_file, declare_same, have_same_row, list_same, list_all_same, list_same_end, list_same_chain, of_tree, of_index, is_kept}
use Rattle.kept_results.specs.declared.change.Change.{Change}
use Rattle.kept_results.specs.declared.change.Change.TheVariants.{Tree, Index, Other}
use Rattle.kept_results.specs.declared.change.RowChange.{RowChange}
use Rattle.kept_results.specs.declared.change.RowChange.TheVariants.{Moves}
use Rattle.kept_results.specs.Rows.{row_change}
use Rattle.kept_results.specs.Changes.{is_other, TellsRows, Tells, takes_declarations, stays_listed, stay_listed, end_stays, chain_stays, kept_by_rows, kept_by}

-- ---- of rows

pub none_is : {X : Type 0} (o : Option X) → not (is_some o) ≡ is_none o
none_is None = refl
none_is (Some x) = refl

row_stays : (o n : Option Name) → is_none (row_change o n) ≡ same_file o n
row_stays None None = refl
row_stays None (Some y) = refl
row_stays (Some x) None = refl
row_stays (Some x) (Some y) = by_test (bytes_eq x y)
  where
    by_test : (b : Bool) → is_none (if b then None else Some Moves) ≡ b
    by_test true = refl
    by_test false = refl

class_stays : (o n : Option Name) → stays_listed (row_change o n) ≡ same_flag (is_some o) (is_some n)
class_stays None None = refl
class_stays None (Some y) = refl
class_stays (Some x) None = refl
class_stays (Some x) (Some y) = by_test (bytes_eq x y)
  where
    by_test : (b : Bool) → stays_listed (if b then None else Some Moves) ≡ true
    by_test true = refl
    by_test false = refl

-- an index has a class if it has a file for it
any_is : (rows : List IndexRow) (c : Name) → is_listed rows c ≡ is_some (first_file rows c)
any_is [] c = refl
any_is (r ∷ rs) c = by_first (any_is rs c) (bytes_eq r.class c)
  where
    by_first : is_listed rs c ≡ is_some (first_file rs c) → (b : Bool) → (b || is_listed rs c) ≡ is_some (option_map (λ (row : IndexRow). row.file) (cond b (Some r) (find (λ (row : IndexRow). bytes_eq row.class c) rs)))
    by_first rest true = refl
    by_first rest false = rest

module _ (at : Name → Option RowChange) (old new : Value) (tells : TellsRows at old new) where
  same_row : (c : Name) → is_none (at c) ≡ have_same_row c old new
  same_row c = ap is_none (tells c) ∙ row_stays (first_file (index_in old) c) (first_file (index_in new) c)

  same_class : (c : Name) → stays_listed (at c) ≡ list_same old new c
  same_class c =
      ap stays_listed (tells c)
      ∙ class_stays (first_file (index_in old) c) (first_file (index_in new) c)
      ∙ ap₂ same_flag (sym (any_is (index_in old) c)) (sym (any_is (index_in new) c))

  same_classes : (cs : List Name) → stay_listed at cs ≡ list_all_same old new cs
  same_classes [] = refl
  same_classes (c ∷ cs) = ap₂ (λ (s t : Bool). s && t) (same_class c) (same_classes cs)

  same_end : (end : ChainEnd) → end_stays at end ≡ list_same_end old new end
  same_end (Undeclared u) = same_class u
  same_end Top = refl
  same_end (Repeated u) = refl

  same_chain : (o : Option ChainValue) → chain_stays at o ≡ list_same_chain old new o
  same_chain None = refl
  same_chain (Some x) = ap₂ (λ (s t : Bool). s && t) (same_classes x.classes) (same_end x.end)

  rows_keep : (q : Key) (v : Value) → kept_by_rows at q v ≡ is_kept q v keys.Index old new
  unfolding kept_by_rows is_kept
  rows_keep (keys.Header c) v = same_row c
  rows_keep (keys.Method c m) v = same_row c
  rows_keep (keys.Supers c) v = ap₂ (λ (s t : Bool). s && t) (same_class c) (same_chain (supers_in v))
  rows_keep keys.Files v = refl
  rows_keep (keys.Source f) v = refl
  rows_keep (keys.Tree f) v = refl
  rows_keep keys.Index v = refl
  rows_keep (keys.Sig c m) v = refl
  rows_keep (keys.Members c) v = refl
  rows_keep (keys.CheckClass c) v = refl
  rows_keep (keys.CheckBody c m) v = refl
  rows_keep (keys.Diags c) v = refl
  rows_keep keys.Answer v = refl

-- ---- of trees, and of other keys

and_true : (t : Bool) → (t && true) ≡ t
and_true true = refl
and_true false = refl

and_false : (t : Bool) → (t && false) ≡ false
and_false true = refl
and_false false = refl

tree_keeps : (f : Name) (old new : Value) (q : Key) (v : Value) → (declare_same old new && takes_declarations q) ≡ is_kept q v (keys.Tree f) old new
unfolding is_kept
tree_keeps f old new keys.Index v = and_true (declare_same old new)
tree_keeps f old new keys.Answer v = and_true (declare_same old new)
tree_keeps f old new (keys.Header c) v = and_false (declare_same old new)
tree_keeps f old new (keys.Method c m) v = and_false (declare_same old new)
tree_keeps f old new (keys.Supers c) v = and_false (declare_same old new)
tree_keeps f old new keys.Files v = and_false (declare_same old new)
tree_keeps f old new (keys.Source g) v = and_false (declare_same old new)
tree_keeps f old new (keys.Tree g) v = and_false (declare_same old new)
tree_keeps f old new (keys.Sig c m) v = and_false (declare_same old new)
tree_keeps f old new (keys.Members c) v = and_false (declare_same old new)
tree_keeps f old new (keys.CheckClass c) v = and_false (declare_same old new)
tree_keeps f old new (keys.CheckBody c m) v = and_false (declare_same old new)
tree_keeps f old new (keys.Diags c) v = and_false (declare_same old new)

of_no_tree : (k : Key) (t : Bool) → is_other k ≡ true → false ≡ of_tree k t
of_no_tree (keys.Tree f) t e = absurd cc
of_no_tree keys.Index t e = refl
of_no_tree keys.Files t e = refl
of_no_tree (keys.Source f) t e = refl
of_no_tree (keys.Header c) t e = refl
of_no_tree (keys.Method c m) t e = refl
of_no_tree (keys.Sig c m) t e = refl
of_no_tree (keys.Supers c) t e = refl
of_no_tree (keys.Members c) t e = refl
of_no_tree (keys.CheckClass c) t e = refl
of_no_tree (keys.CheckBody c m) t e = refl
of_no_tree (keys.Diags c) t e = refl
of_no_tree keys.Answer t e = refl

of_no_index : (k : Key) (t : Bool) → is_other k ≡ true → false ≡ of_index k t
of_no_index keys.Index t e = absurd cc
of_no_index (keys.Tree f) t e = refl
of_no_index keys.Files t e = refl
of_no_index (keys.Source f) t e = refl
of_no_index (keys.Header c) t e = refl
of_no_index (keys.Method c m) t e = refl
of_no_index (keys.Sig c m) t e = refl
of_no_index (keys.Supers c) t e = refl
of_no_index (keys.Members c) t e = refl
of_no_index (keys.CheckClass c) t e = refl
of_no_index (keys.CheckBody c m) t e = refl
of_no_index (keys.Diags c) t e = refl
of_no_index keys.Answer t e = refl

other_keeps : (k : Key) (old new : Value) → is_other k ≡ true → (q : Key) (v : Value) → false ≡ is_kept q v k old new
unfolding is_kept
other_keeps k old new e keys.Index v = of_no_tree k (declare_same old new) e
other_keeps k old new e keys.Answer v = of_no_tree k (declare_same old new) e
other_keeps k old new e (keys.Header c) v = of_no_index k (have_same_row c old new) e
other_keeps k old new e (keys.Method c m) v = of_no_index k (have_same_row c old new) e
other_keeps k old new e (keys.Supers c) v = of_no_index k (list_same old new c && list_same_chain old new (supers_in v)) e
other_keeps k old new e keys.Files v = refl
other_keeps k old new e (keys.Source f) v = refl
other_keeps k old new e (keys.Tree f) v = refl
other_keeps k old new e (keys.Sig c m) v = refl
other_keeps k old new e (keys.Members c) v = refl
other_keeps k old new e (keys.CheckClass c) v = refl
other_keeps k old new e (keys.CheckBody c m) v = refl
other_keeps k old new e (keys.Diags c) v = refl

-- what is known says just what the test says
pub known_keeps : (change : Change) (q : Key) (v : Value) (k : Key) (old new : Value) → Tells change k old new → kept_by change q v ≡ is_kept q v k old new
known_keeps (Tree same) q v k old new h =
    ap (λ (t : Bool). t && takes_declarations q) h.2 ∙ tree_keeps h.0 old new q v ∙ ap (λ (x : Key). is_kept q v x old new) (sym h.1)
known_keeps (Index rows) q v k old new h =
    rows_keep (get (slice_cmp nat_cmp) rows) old new h.1 q v ∙ ap (λ (x : Key). is_kept q v x old new) (sym h.0)
known_keeps Other q v k old new h = other_keeps k old new h q v
