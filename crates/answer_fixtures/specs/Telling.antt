-- What short texts stand for: keys by their names, and results by the digits that spell them.
use Rattle.std.specs.Prelude.{◌≡◌, ◌<◌, ◌↔◌, ℕ, Bool, List, [], ◌∷◌, codes, length, Option, Some, None, Ok, IsTrue, slice_set, slice_index, bit_xor}
use Rattle.std.specs.declared.cmp.Ordering.TheVariants.{Less}
use Rattle.hex.specs.Hex.{decode_of, encode_lower}
use Rattle.item_ids.specs.declared.kind.Kind.{Kind}
use Rattle.item_ids.specs.declared.kind.Kind.TheVariants as kinds
use Rattle.item_ids.specs.declared.key.Key.{Key}
use Rattle.item_ids.specs.Kinds.{FitNames}
use Rattle.item_ids.specs.Keys.{kind_of as kind_of_key, class_of, member_of, key_cmp}
use Rattle.mj_answer.specs.Text.{text_of}
use Rattle.named_files.specs.Projects.{SourceFile}
use Rattle.mj_tree.specs.Trees.{File}
use Rattle.tree_bytes.specs.NamedBodies.{body_named}
use Rattle.result_bytes.specs.declared.value.Value.{Value}
use Rattle.result_bytes.specs.declared.value.Value.TheVariants.{Tree, Header, Method, Answer}
use Rattle.result_bytes.specs.Values.{IsValue, canon, kind_of_value}
use Rattle.fingerprint.specs.Prints.{print_of}
use Rattle.answer_fixtures.specs.declared.keys.KeyParts.{KeyParts}

-- ---- keys

-- a name that is given: none by no text
abbrev pub name_told : List ℕ → Option (List ℕ)
name_told [] = None
name_told (b ∷ text) = Some (b ∷ text)

-- the key of the kind, with the names that are given
pub record IsKeyOf (asked : KeyParts) (key : Key) : Type 0 where
  pub kind : kind_of_key key ≡ asked.0
  pub class : class_of key ≡ name_told asked.1.now
  pub member : member_of key ≡ name_told asked.2.now

-- whether a key of the kind has the names that are given
abbrev pub FitTold : KeyParts → Type 0
FitTold asked = FitNames asked.0 (name_told asked.1.now) (name_told asked.2.now)

-- the same kind and names are given
pub record AreAlike (one other : KeyParts) : Type 0 where
  pub kind : one.0 ≡ other.0
  pub class : name_told one.1.now ≡ name_told other.1.now
  pub member : name_told one.2.now ≡ name_told other.2.now

-- the answer to whether the key that is given first is less than the other one
pub record IsOrderOf (lesser greater : KeyParts) (answer : Bool) : Type 0 where
  pub first : Key
  pub second : Key
  pub of_first : IsKeyOf lesser first
  pub of_second : IsKeyOf greater second
  pub told : IsTrue answer ↔ (key_cmp first second ≡ Less)

-- ---- results

-- the digits spell these bytes
abbrev pub Tell : List ℕ → List ℕ → Type 0
Tell digits bytes = decode_of digits ≡ Ok bytes

-- the bytes spell this value, of this kind
pub record Spell (kind : Kind) (bytes : List ℕ) (v : Value) : Type 0 where
  pub is_value : IsValue v
  pub of_kind : kind_of_value v ≡ kind
  pub spelled : bytes ≡ canon v

-- the bytes spell a value of the kind
abbrev pub IsSpelling : Kind → List ℕ → Type 0
IsSpelling kind bytes = (v : Value) × Spell kind bytes v

-- the digits spell this value, of this kind
pub record IsSpelledValue (kind : Kind) (digits : List ℕ) (v : Value) : Type 0 where
  pub is_value : IsValue v
  pub of_kind : kind_of_value v ≡ kind
  pub spelled : Tell digits (canon v)

abbrev pub IsToldSpelling : Kind → List ℕ → Type 0
IsToldSpelling kind digits = (v : Value) × IsSpelledValue kind digits v

-- both spell the same value of the kind
abbrev pub AreSpellings : Kind → List ℕ → List ℕ → Type 0
AreSpellings kind bytes others = (v : Value) × Spell kind bytes v × Spell kind others v

-- the bytes with these bits of one of them turned
abbrev pub flipped : List ℕ → ℕ → ℕ → List ℕ
flipped bytes at flip = slice_set bytes at (bit_xor (slice_index bytes at) flip)

-- other bytes spell the same value
abbrev pub IsIdle : Kind → List ℕ → ℕ → ℕ → Type 0
IsIdle kind bytes at flip = AreSpellings kind (flipped bytes at flip) bytes

-- another value, or none, if the byte's lowest bit is turned, its highest, or all of them
pub record CountsTurns (kind : Kind) (bytes : List ℕ) (at : ℕ) : Type 0 where
  pub lowest : ¬ IsIdle kind bytes at 0x01
  pub highest : ¬ IsIdle kind bytes at 0x80
  pub all : ¬ IsIdle kind bytes at 0xff

abbrev pub AllCount : Kind → List ℕ → Type 0
AllCount kind bytes = (at : ℕ) → at < length bytes → CountsTurns kind bytes at

-- the answer to whether each byte that is given counts
pub record IsTightness (kind : Kind) (digits : List ℕ) (answer : Bool) : Type 0 where
  pub bytes : List ℕ
  pub of_digits : Tell digits bytes
  pub told : IsTrue answer ↔ AllCount kind bytes

-- the value is an answer that is printed as this text
abbrev pub IsPrintedAs : Value → List ℕ → Type 0
IsPrintedAs (Answer answer) text = text_of answer ≡ text
IsPrintedAs _ text = ⊥

-- a header without superclass and methods; what any other value is
abbrev pub bare : Value → Value
bare (Header (Some h)) =
    Header (Some (record { is_main = h.is_main; superclass = None; fields = h.fields; methods = [] }))
bare v = v

-- the answer to whether the value that is given has a copy, without superclass and methods, that is
-- given by the same digits
pub record IsCopied (kind : Kind) (digits : List ℕ) (answer : Bool) : Type 0 where
  pub value : Value
  pub of_digits : IsSpelledValue kind digits value
  pub told : IsTrue answer ↔ Tell digits (canon (bare value))

-- the answer to whether the answer that is given is printed as this text
pub record IsPrintOf (digits text : List ℕ) (answer : Bool) : Type 0 where
  pub value : Value
  pub of_digits : IsSpelledValue kinds.Answer digits value
  pub told : IsTrue answer ↔ IsPrintedAs value text

-- the answer to whether the digits spell the body that a class and a method name in the tree that
-- is given
pub record NamesBody (tree class method digits : List ℕ) (answer : Bool) : Type 0 where
  pub file : File
  pub of_digits : IsSpelledValue kinds.Tree tree (Tree (Some file))
  pub told : IsTrue answer ↔ Tell digits (canon (Method (body_named file class method)))

-- ---- sealed results

-- the bytes spell a value of the kind, which has this fingerprint
pub record IsSealing (kind : Kind) (bytes print : List ℕ) (v : Value) : Type 0 where
  pub of_bytes : Spell kind bytes v
  pub of_print : print ≡ print_of v

abbrev pub IsOpenable : Kind → List ℕ → List ℕ → Type 0
IsOpenable kind bytes print = (v : Value) × IsSealing kind bytes print v

-- the answer to whether the fingerprint of the value that is given has these digits
pub record IsSealedAs (kind : Kind) (digits print : List ℕ) (answer : Bool) : Type 0 where
  pub value : Value
  pub of_digits : IsSpelledValue kind digits value
  pub told : IsTrue answer ↔ (encode_lower (print_of value) ≡ print)

-- ---- projects

-- the files of a project of the one file M.java
abbrev pub one_file : List ℕ → List SourceFile
one_file text = (record { name = codes "M.java"; bytes = text }) ∷ []
