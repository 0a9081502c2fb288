-- What the rows of a parse have of an argument.
use Rattle.std.proofs.Common.{◌≡◌, ◌∙◌, ◌++◌, Bool, true, false, List, [], ◌∷◌, Option, Some, None, cond, refl, ap}
use Rattle.std.proofs.lemmas.Slice.Eq.{bytes_eq-Decides}
use Rattle.std.specs.Prelude.{find, if◌then◌else◌, option_and_then, option_map, slice_get, unwrap_or}
use Rattle.std.specs.Str.{bytes_eq}
use Rattle.std.proofs.lemmas.Bool.{or_parts}
use Rattle.clap.specs.Walk.{Row, first_of, has_row, more_values, with_values, without}
use Rattle.clap.specs.Words.{Text, all_of}
use Rattle.clap.specs.declared.builder.value_parser.Reading.{Reading}
use Rattle.clap.specs.declared.parser.ValueSource.{ValueSource}

-- ---- what the rows have of an argument

-- the values of an argument
abbrev pub told : Text → List Row → List Text
told id rows = unwrap_or (all_of id rows) []

abbrev pub values_in : Option Row → List Text
values_in o = unwrap_or (option_map (λ (r : Row). r.values) o) []

abbrev pub told_if : Bool → Row → Text → List Row → List Text
told_if t r id rest = values_in (cond t (Some r) (find (λ (x : Row). bytes_eq x.id id) rest))

module _ (id : Text) (how : Reading) (s : ValueSource) (vs : List Text) (itself : bytes_eq id id ≡ true) where
  more_told : (r : Row) (rest : List Row) (t : Bool) → bytes_eq r.id id ≡ t → told id (with_values id how s vs rest) ≡ told id rest ++ vs
      → told id (if t then more_values s vs r ++ rest else r ∷ with_values id how s vs rest) ≡ told id (r ∷ rest) ++ vs
  more_told r rest true is later = rw is refl
  more_told r rest false is later = rw is later

  pub values_told : (rows : List Row) → told id (with_values id how s vs rows) ≡ told id rows ++ vs
  values_told [] = rw itself refl
  values_told (r ∷ rest) = more_told r rest (bytes_eq r.id id) refl (values_told rest)

module _ (id other : Text) (how : Reading) (s : ValueSource) (vs : List Text) (apart : bytes_eq id other ≡ false) where
  others_behind : (r : Row) (t : Bool) (rest : List Row) → told other (with_values id how s vs rest) ≡ told other rest
      → told_if t r other (with_values id how s vs rest) ≡ told_if t r other rest
  others_behind r true rest later = refl
  others_behind r false rest later = later

  others_by : (r : Row) (rest : List Row) (t : Bool) → bytes_eq r.id id ≡ t → told other (with_values id how s vs rest) ≡ told other rest
      → told other (if t then more_values s vs r ++ rest else r ∷ with_values id how s vs rest) ≡ told other (r ∷ rest)
  others_by r rest true is later =
      let no : bytes_eq r.id other ≡ false = ap (λ x. bytes_eq x other) ((bytes_eq-Decides r.id id).0 is) ∙ apart in
      rw no refl
  others_by r rest false is later = others_behind r (bytes_eq r.id other) rest later

  pub others_told : (rows : List Row) → told other (with_values id how s vs rows) ≡ told other rows
  others_told [] = rw apart refl
  others_told (r ∷ rest) = others_by r rest (bytes_eq r.id id) refl (others_told rest)

-- if there is no row of an argument
pub without_none : (id : Text) (rows : List Row) → has_row id rows ≡ false → without id rows ≡ rows
without_none id [] none = refl
without_none id (r ∷ rest) none =
    let parts = or_parts (bytes_eq r.id id) (has_row id rest) none in
    rw parts.0 (ap (λ rs. r ∷ rs) (without_none id rest parts.1))

pub told_none : (id : Text) (rows : List Row) → has_row id rows ≡ false → told id rows ≡ []
told_none id [] none = refl
told_none id (r ∷ rest) none =
    let parts = or_parts (bytes_eq r.id id) (has_row id rest) none in
    rw parts.0 (told_none id rest parts.1)

pub first_told : (id : Text) (rows : List Row) → first_of id rows ≡ slice_get (told id rows) 0
first_told id rows = go (find (λ r. bytes_eq r.id id) rows)
  where
    go : (o : Option Row) → option_and_then (λ (r : Row). slice_get r.values 0) o ≡ slice_get (values_in o) 0
    go None = refl
    go (Some r) = refl
