-- Which items have a spelling: names, numbers in four bytes, and lists in their order.
use Rattle.std.specs.Prelude.{ℕ, ◌<◌, ◌≤◌, List, [], ◌∷◌, length, Contains, IfSome}
use Rattle.std.specs.List.{AllByRecursion}
use Rattle.byte_readers.specs.Names.{IsName}
use Rattle.tree_spelling.specs.Storable.{TyFits, FieldFits}
use Rattle.result_bytes.specs.declared.parts.ChainEnd.{ChainEnd}
use Rattle.result_bytes.specs.declared.parts.ChainEnd.TheVariants.{Top, Undeclared, Repeated}
use Rattle.result_bytes.specs.declared.files.IndexRow.{IndexRow}
use Rattle.named_files.specs.Projects.{most_files}
use Rattle.result_bytes.specs.Payloads.{HeaderValue, SignatureValue, ChainValue}
use Rattle.answer_bytes.specs.Storable.{IsCount, OrderedFits, ByName}

abbrev pub AreDistinctNames : List (List ℕ) → Type 0
AreDistinctNames [] = Unit {0}
AreDistinctNames (n ∷ ns) = (Contains ns n → ⊥) × AreDistinctNames ns

pub record FileNamesFit (names : List (List ℕ)) : Type 0 where
  pub some : 0 < length names
  pub few : length names ≤ most_files
  pub each : AllByRecursion IsName names
  pub distinct : AreDistinctNames names

abbrev pub TextFits : List ℕ → Type 0
TextFits bytes = IsCount (length bytes)

abbrev pub IndexRowFits : IndexRow → Type 0
IndexRowFits row = IsName row.class × IsName row.file

abbrev pub IndexFits : List IndexRow → Type 0
IndexFits rows = OrderedFits IndexRowFits (ByName (λ row. row.class)) rows

pub record HeaderFits (h : HeaderValue) : Type 0 where
  pub superclass : IfSome h.superclass IsName
  pub few_fields : IsCount (length h.fields)
  pub fields : AllByRecursion FieldFits h.fields
  pub few_methods : IsCount (length h.methods)
  pub methods : AllByRecursion IsName h.methods

pub record SignatureFits (s : SignatureValue) : Type 0 where
  pub few : IsCount (length s.formals)
  pub formals : AllByRecursion TyFits s.formals
  pub returns : TyFits s.returns

abbrev pub ChainEndFits : ChainEnd → Type 0
ChainEndFits Top = Unit {0}
ChainEndFits (Undeclared class) = IsName class
ChainEndFits (Repeated class) = IsName class

pub record ChainFits (c : ChainValue) : Type 0 where
  pub few : IsCount (length c.classes)
  pub classes : AllByRecursion IsName c.classes
  pub end : ChainEndFits c.end
