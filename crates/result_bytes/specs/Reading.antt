-- Reading the items that values are made of, from left to right.
use Rattle.std.specs.Prelude.{ℕ, zero, suc, Bool, true, false, not, ◌||◌, List, [], ◌∷◌, length, take, drop, Ok, Err, Option, nat_lt, ◌==◌, if◌then◌else◌}
use Rattle.std.specs.Str.{bytes_eq}
use Rattle.std.specs.List.{list_any}
use Rattle.mj_tree.specs.declared.tree.Ty.{Ty}
use Rattle.mj_tree.specs.declared.tree.Field.{Field}
use Rattle.byte_readers.specs.declared.breach.Breach.TheVariants.{Short}
use Rattle.byte_readers.specs.Reading.{◌>>=◌, Decoder, not_canonical, any, eight_at, name_at, pair_at, made_at, option_at, list_from, list_at}
use Rattle.byte_readers.specs.Orders.{is_after}
use Rattle.tree_spelling.specs.Reading.{ty_at, field_at}
use Rattle.result_bytes.specs.declared.parts.ChainEnd.{ChainEnd}
use Rattle.result_bytes.specs.declared.parts.ChainEnd.TheVariants.{Top, Undeclared, Repeated}
use Rattle.result_bytes.specs.declared.files.IndexRow.{IndexRow}
use Rattle.result_bytes.specs.Payloads.{HeaderValue, SignatureValue, ChainValue}
use Rattle.named_files.specs.Projects.{most_files}
use Rattle.answer_bytes.specs.Reading.{by_name}

-- whether no name in front is this one
abbrev pub is_new : List (List ℕ) → List ℕ → Bool
is_new front name = not (list_any (λ other. bytes_eq other name) front)

abbrev pub is_file_count : ℕ → Bool
is_file_count n = not (n == 0 || nat_lt most_files n)

-- the number of files is looked at before any name
unfoldable pub file_names_at : Decoder (List (List ℕ))
file_names_at bytes = do
  n ← eight_at bytes
  if is_file_count n.0 then list_from name_at is_new [] n.0 n.1 else not_canonical bytes

unfoldable pub text_at : Decoder (List ℕ)
text_at bytes = do
  n ← eight_at bytes
  if nat_lt (length n.1) n.0 then Err Short else Ok (take n.0 n.1, drop n.0 n.1)

abbrev pub index_row_of : List ℕ × List ℕ → IndexRow
index_row_of x = record { class = x.0; file = x.1 }

abbrev pub index_row_at : Decoder IndexRow
index_row_at bytes = made_at index_row_of (pair_at name_at name_at) bytes

unfoldable pub index_at : Decoder (List IndexRow)
index_at bytes = list_at index_row_at (is_after (by_name (λ row. row.class))) bytes

unfoldable pub boolean_at : Decoder Bool
boolean_at [] = Err Short
boolean_at (zero ∷ rest) = Ok (false, rest)
boolean_at (suc zero ∷ rest) = Ok (true, rest)
boolean_at (suc (suc b) ∷ rest) = not_canonical (suc (suc b) ∷ rest)

abbrev pub header_value : Bool × (Option (List ℕ) × (List Field × List (List ℕ))) → HeaderValue
header_value x = record { is_main = x.0; superclass = x.1.0; fields = x.1.1.0; methods = x.1.1.1 }

unfoldable pub header_at : Decoder HeaderValue
header_at bytes =
    made_at header_value (pair_at boolean_at
    (pair_at (option_at name_at) (pair_at (list_at field_at any) (list_at name_at any)))) bytes

abbrev pub signature_value : List Ty × Ty → SignatureValue
signature_value x = record { formals = x.0; returns = x.1 }

unfoldable pub signature_at : Decoder SignatureValue
signature_at bytes = made_at signature_value (pair_at (list_at ty_at any) ty_at) bytes

unfoldable pub chain_end_at : Decoder ChainEnd
chain_end_at [] = Err Short
chain_end_at (zero ∷ rest) = Ok (Top, rest)
chain_end_at (suc zero ∷ rest) = made_at Undeclared name_at rest
chain_end_at (suc (suc zero) ∷ rest) = made_at Repeated name_at rest
chain_end_at (suc (suc (suc b)) ∷ rest) = not_canonical (suc (suc (suc b)) ∷ rest)

abbrev pub chain_value : List (List ℕ) × ChainEnd → ChainValue
chain_value x = record { classes = x.0; end = x.1 }

unfoldable pub chain_at : Decoder ChainValue
chain_at bytes = made_at chain_value (pair_at (list_at name_at any) chain_end_at) bytes
