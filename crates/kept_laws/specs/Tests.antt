-- Whether a result is kept, if the answer to a key that was read changes.
use Rattle.std.specs.Prelude.{Bool, true, false, not, ◌&&◌, List, [], ◌∷◌, Option, Some, None, if◌then◌else◌}
use Rattle.std.specs.Str.{bytes_eq}
use Rattle.item_ids.specs.declared.key.Key.{Key}
use Rattle.item_ids.specs.declared.key.Key.TheVariants as keys
use Rattle.mj_tree.specs.Trees.{Name}
use Rattle.result_bytes.specs.declared.value.Value.{Value}
use Rattle.result_bytes.specs.declared.parts.ChainEnd.{ChainEnd}
use Rattle.result_bytes.specs.declared.parts.ChainEnd.TheVariants.{Top, Undeclared, Repeated}
use Rattle.result_bytes.specs.Payloads.{ChainValue}
use Rattle.result_bytes.specs.Parts.{index_in, tree_in, supers_in}
use Rattle.text_queries.specs.Index.{first_file}
use Rattle.member_queries.specs.Supers.{is_listed}
use Rattle.kept_laws.specs.Parts.{Declared, declared_in}

abbrev pub same_flag : Bool → Bool → Bool
same_flag a b = if a then b else not b

abbrev pub same_file : Option Name → Option Name → Bool
same_file None None = true
same_file None (Some y) = false
same_file (Some x) None = false
same_file (Some x) (Some y) = bytes_eq x y

abbrev pub same_names : List Name → List Name → Bool
same_names [] [] = true
same_names [] (y ∷ ys) = false
same_names (x ∷ xs) [] = false
same_names (x ∷ xs) (y ∷ ys) = bytes_eq x y && same_names xs ys

abbrev pub same_declared : Option Declared → Option Declared → Bool
same_declared None None = true
same_declared None (Some y) = false
same_declared (Some x) None = false
same_declared (Some x) (Some y) = same_flag x.has_main y.has_main && same_names x.names y.names

-- ---- of two trees, and of two indexes

abbrev pub declare_same : Value → Value → Bool
declare_same a b = same_declared (declared_in (tree_in a)) (declared_in (tree_in b))

abbrev pub have_same_row : Name → Value → Value → Bool
have_same_row c a b = same_file (first_file (index_in a) c) (first_file (index_in b) c)

abbrev pub list_same : Value → Value → Name → Bool
list_same a b c = same_flag (is_listed (index_in a) c) (is_listed (index_in b) c)

abbrev pub list_all_same : Value → Value → List Name → Bool
list_all_same a b [] = true
list_all_same a b (c ∷ cs) = list_same a b c && list_all_same a b cs

abbrev pub list_same_end : Value → Value → ChainEnd → Bool
list_same_end a b (Undeclared u) = list_same a b u
list_same_end a b Top = true
list_same_end a b (Repeated u) = true

abbrev pub list_same_chain : Value → Value → Option ChainValue → Bool
list_same_chain a b None = true
list_same_chain a b (Some chain) = list_all_same a b chain.classes && list_same_end a b chain.end

-- ---- by the keys

-- the test, if the key is a tree
abbrev pub of_tree : Key → Bool → Bool
of_tree (keys.Tree f) t = t
of_tree _ t = false

-- the test, if the key is the index
abbrev pub of_index : Key → Bool → Bool
of_index keys.Index t = t
of_index _ t = false

-- the result v of q is kept, if the answer to k goes from a to b
unfoldable pub is_kept : Key → Value → Key → Value → Value → Bool
is_kept keys.Index v k a b = of_tree k (declare_same a b)
is_kept keys.Answer v k a b = of_tree k (declare_same a b)
is_kept (keys.Header c) v k a b = of_index k (have_same_row c a b)
is_kept (keys.Method c m) v k a b = of_index k (have_same_row c a b)
is_kept (keys.Supers c) v k a b =
    of_index k (list_same a b c && list_same_chain a b (supers_in v))
is_kept _ v k a b = false
