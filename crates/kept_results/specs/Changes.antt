-- What is known of the change of a key's value, and what it keeps.
use Rattle.std.specs.Prelude.{◌≡◌, Bool, true, false, ◌&&◌, List, [], ◌∷◌, Option, Some, None, is_none}
use Rattle.std.specs.BTreeMap.{get}
use Rattle.std.specs.Ordering.{nat_cmp}
use Rattle.std.specs.Cmp.Lexicographic.{slice_cmp}
use Rattle.item_ids.specs.declared.key.Key.{Key}
use Rattle.item_ids.specs.declared.key.Key.TheVariants as keys
use Rattle.mj_tree.specs.Trees.{Name}
use Rattle.result_bytes.specs.declared.value.Value.{Value}
use Rattle.result_bytes.specs.declared.parts.ChainEnd.{ChainEnd}
use Rattle.result_bytes.specs.declared.parts.ChainEnd.TheVariants.{Top, Undeclared, Repeated}
use Rattle.result_bytes.specs.Payloads.{ChainValue}
use Rattle.result_bytes.specs.Parts.{index_in, supers_in}
use Rattle.kept_laws.specs.Tests.{declare_same}
use Rattle.kept_results.specs.declared.change.Change.{Change}
use Rattle.kept_results.specs.declared.change.Change.TheVariants.{Tree, Index, Other}
use Rattle.kept_results.specs.declared.change.RowChange.{RowChange}
use Rattle.kept_results.specs.declared.change.RowChange.TheVariants.{Moves, ComesOrGoes}
use Rattle.kept_results.specs.Rows.{change_at}

-- the key is neither a tree nor the index
abbrev pub is_other : Key → Bool
is_other (keys.Tree f) = false
is_other keys.Index = false
is_other _ = true

-- for each class, what becomes of its row from one index to another
abbrev pub TellsRows : (Name → Option RowChange) → Value → Value → Type 0
TellsRows at old new = (c : Name) → at c ≡ change_at (index_in old) (index_in new) c

-- this is known of the change of a key from one value to another
abbrev pub Tells : Change → Key → Value → Value → Type 0
Tells (Tree same) k old new = (f : Name) × (k ≡ keys.Tree f) × (same ≡ declare_same old new)
Tells (Index rows) k old new = (k ≡ keys.Index) × TellsRows (get (slice_cmp nat_cmp) rows) old new
Tells Other k old new = is_other k ≡ true

-- ---- what is kept, by what is known

-- the key reads trees, and takes of each what it declares
abbrev pub takes_declarations : Key → Bool
takes_declarations keys.Index = true
takes_declarations keys.Answer = true
takes_declarations _ = false

-- the class neither comes nor goes
abbrev pub stays_listed : Option RowChange → Bool
stays_listed None = true
stays_listed (Some Moves) = true
stays_listed (Some ComesOrGoes) = false

abbrev pub stay_listed : (Name → Option RowChange) → List Name → Bool
stay_listed at [] = true
stay_listed at (c ∷ cs) = stays_listed (at c) && stay_listed at cs

abbrev pub end_stays : (Name → Option RowChange) → ChainEnd → Bool
end_stays at (Undeclared u) = stays_listed (at u)
end_stays at Top = true
end_stays at (Repeated u) = true

abbrev pub chain_stays : (Name → Option RowChange) → Option ChainValue → Bool
chain_stays at None = true
chain_stays at (Some chain) = stay_listed at chain.classes && end_stays at chain.end

unfoldable pub kept_by_rows : (Name → Option RowChange) → Key → Value → Bool
kept_by_rows at (keys.Header c) v = is_none (at c)
kept_by_rows at (keys.Method c m) v = is_none (at c)
kept_by_rows at (keys.Supers c) v = stays_listed (at c) && chain_stays at (supers_in v)
kept_by_rows at _ v = false

abbrev pub kept_by : Change → Key → Value → Bool
kept_by (Tree same) q v = same && takes_declarations q
kept_by (Index rows) q v = kept_by_rows (get (slice_cmp nat_cmp) rows) q v
kept_by Other q v = false
