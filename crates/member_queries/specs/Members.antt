-- The members of a class: its chain, the header of each class of the chain, then the types of each
-- method by name.
use Rattle.std.specs.Prelude.{List, [], ◌∷◌, ◌++◌, map, Option, Some, None}
use Rattle.item_ids.specs.declared.key.Key.TheVariants as keys
use Rattle.mj_tree.specs.Trees.{Name}
use Rattle.mj_tree.specs.declared.tree.Field.{Field}
use Rattle.mj_answer.specs.AnswerValues.{MethodRowValue, ClassTableValue}
use Rattle.mj_members.specs.Tables.{own_rows, firsts}
use Rattle.mj_rules.specs.Tables.{field_row}
use Rattle.result_bytes.specs.Payloads.{HeaderValue, SignatureValue, ChainValue}
use Rattle.result_bytes.specs.Parts.{header_in, signature_in, supers_in}
use Rattle.result_bytes.specs.declared.value.Value.{Value}
use Rattle.result_bytes.specs.declared.value.Value.TheVariants as values
use Rattle.recorder.specs.Programs.{Prog, Ask, each}

-- a class of a chain, and its header
abbrev pub Link : Type 0
Link = Name × Option HeaderValue

abbrev pub fields_of_header : Option HeaderValue → List Field
fields_of_header None = []
fields_of_header (Some h) = h.fields

abbrev pub methods_of_header : Option HeaderValue → List Name
methods_of_header None = []
methods_of_header (Some h) = h.methods

-- all that these classes declare, in order
abbrev pub rows_along : {A : Type 0} → (A → Name) → (Option HeaderValue → List A) → List Link
    → List (Name × (Name × A))
rows_along name own [] = []
rows_along name own (l ∷ ls) = own_rows name l.0 (own l.1) ++ rows_along name own ls

-- the nearest field of each name with its owner, ascending by name, and the nearest methods
unfoldable pub nearest_fields : List Link → List (Name × Field)
nearest_fields links = firsts (rows_along (λ f. f.name) fields_of_header links)

unfoldable pub nearest_methods : List Link → List (Name × Name)
nearest_methods links = firsts (rows_along (λ n. n) methods_of_header links)

-- the chain with one more class
abbrev pub link_step : Name → List Link → (List Link → Prog) → Prog
link_step c links k = Ask (keys.Header c) (λ v. k (links ++ (c, header_in v) ∷ []))

abbrev pub with_types : Name × Name → List MethodRowValue → Option SignatureValue
    → List MethodRowValue
with_types found rows None = rows
with_types found rows (Some s) =
    rows ++ record { name = found.1; owner = found.0; formals = s.formals; returns = s.returns }
    ∷ []

-- the rows with one more method, by its owner and its name
abbrev pub types_step : Name × Name → List MethodRowValue → (List MethodRowValue → Prog) → Prog
types_step found rows k =
    Ask (keys.Sig found.0 found.1) (λ v. k (with_types found rows (signature_in v)))

-- the table of a class whose chain has these headers
abbrev pub table_steps : List Link → (ClassTableValue → Prog) → Prog
table_steps links k =
    each types_step (nearest_methods links) []
    (λ rows. k (record { fields = map field_row (nearest_fields links); methods = rows }))

abbrev pub chain_table_steps : List Name → (ClassTableValue → Prog) → Prog
chain_table_steps classes k = each link_step classes [] (λ links. table_steps links k)

abbrev pub members_by : Option ChainValue → (Value → Prog) → Prog
members_by None k = k (values.Members None)
members_by (Some chain) k =
    chain_table_steps chain.classes (λ table. k (values.Members (Some table)))

abbrev pub members_steps : Name → (Value → Prog) → Prog
members_steps c k = Ask (keys.Supers c) (λ v. members_by (supers_in v) k)
