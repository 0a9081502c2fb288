-- The chain of a class: the index, then, if it has the class, the header of each class of the
-- chain.
use Rattle.std.specs.Prelude.{ℕ, zero, suc, Bool, List, [], ◌∷◌, ◌++◌, length, Option, Some, None, option_and_then, if◌then◌else◌}
use Rattle.std.specs.List.{list_any}
use Rattle.std.specs.Str.{bytes_eq}
use Rattle.item_ids.specs.declared.key.Key.TheVariants as keys
use Rattle.mj_tree.specs.Trees.{Name}
use Rattle.mj_classes.specs.Chains.{is_in}
use Rattle.result_bytes.specs.declared.files.IndexRow.{IndexRow}
use Rattle.result_bytes.specs.declared.parts.ChainEnd.{ChainEnd}
use Rattle.result_bytes.specs.declared.parts.ChainEnd.TheVariants.{Top, Undeclared, Repeated}
use Rattle.result_bytes.specs.Payloads.{ChainValue}
use Rattle.result_bytes.specs.Parts.{header_in, index_in}
use Rattle.result_bytes.specs.declared.value.Value.{Value}
use Rattle.result_bytes.specs.declared.value.Value.TheVariants as values
use Rattle.recorder.specs.Programs.{Prog, Ask}
use Rattle.member_queries.specs.declared.supers.Climb.{Climb}
use Rattle.member_queries.specs.declared.supers.Climb.TheVariants.{At, Over}

-- an index has a class
abbrev pub is_listed : List IndexRow → Name → Bool
is_listed rows c = list_any (λ row. bytes_eq row.class c) rows

abbrev pub chain : List Name → ChainEnd → ChainValue
chain names end = record { classes = names; end = end }

-- where a chain of these names continues, the last of which extends this
abbrev pub climb_by : List IndexRow → List Name → Option Name → Climb
climb_by rows names None = Over Top
climb_by rows names (Some u) =
    if is_in names u then Over (Repeated u) else if is_listed rows u
    then At u else Over (Undeclared u)

-- the header of one more class: the names with it, and where the chain continues
abbrev pub climb_step : List IndexRow → List Name → Name → (List Name × Climb → Prog) → Prog
climb_step rows names c k =
    Ask (keys.Header c) (λ v. k (
      names ++ c ∷ [],
      climb_by rows (names ++ c ∷ []) (option_and_then (λ h. h.superclass) (header_in v)),
    ))

abbrev pub climb_on : (List Name → Name → (ChainValue → Prog) → Prog) → List Name × Climb
    → (ChainValue → Prog) → Prog
climb_on on (names, At c) k = on names c k
climb_on on (names, Over end) k = k (chain names end)

-- the chain of these names and at most this many more classes, of which this is the first
unfoldable pub chain_steps : ℕ → List IndexRow → List Name → Name → (ChainValue → Prog) → Prog
chain_steps zero rows names c k = k (chain names Top)
chain_steps (suc more) rows names c k =
    climb_step rows names c (λ at. climb_on (chain_steps more rows) at k)

-- No chain has more classes than the index.
abbrev pub listed_steps : Bool → List IndexRow → Name → (Value → Prog) → Prog
listed_steps listed rows c k =
    if listed then chain_steps (length rows) rows [] c (λ chain. k (values.Supers (Some chain)))
    else k (values.Supers None)

abbrev pub supers_steps : Name → (Value → Prog) → Prog
supers_steps c k = Ask keys.Index (λ v. listed_steps (is_listed (index_in v) c) (index_in v) c k)
