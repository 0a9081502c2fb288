-- What a key asks for, and the order of keys.
use Rattle.std.specs.Prelude.{ℕ, List, Option, Some, None, IfSome}
use Rattle.std.specs.Ordering.{nat_cmp, on, then_cmp}
use Rattle.std.specs.declared.cmp.Ordering.{Ordering}
use Rattle.std.specs.Cmp.{IsTotalOrder}
use Rattle.std.specs.Cmp.Lexicographic.{slice_cmp, on_texts}
use Rattle.std.proofs.lemmas.Cmp.{then_total, on_total, nat_cmp_total}
use Rattle.byte_readers.specs.Names.{IsName}
use Rattle.steps_keys.specs.declared.kind.Kind.{Kind}
use Rattle.steps_keys.specs.declared.kind.Kind.TheVariants as kinds
use Rattle.steps_keys.specs.declared.key.Key.{Key}
use Rattle.steps_keys.specs.declared.key.Key.TheVariants.{Files, Source, Plan, Compile, Link, Answer}
use Rattle.steps_keys.specs.Kinds.{number_of, text_of}

abbrev pub kind_of : Key → Kind
kind_of Files = kinds.Files
kind_of (Source file) = kinds.Source
kind_of Plan = kinds.Plan
kind_of (Compile step) = kinds.Compile
kind_of (Link step) = kinds.Link
kind_of Answer = kinds.Answer

-- the file, or the step
abbrev pub class_of : Key → Option (List ℕ)
class_of (Source file) = Some file
class_of (Compile step) = Some step
class_of (Link step) = Some step
class_of _ = None

-- no key has a second name; by cases, since proofs of the engine rewrite by it
abbrev pub member_of : Key → Option (List ℕ)
member_of Files = None
member_of (Source file) = None
member_of Plan = None
member_of (Compile step) = None
member_of (Link step) = None
member_of Answer = None

-- what a key keeps in its type: what names it is a name
pub record IsKey (key : Key) : Type 0 where
  pub class : IfSome (class_of key) IsName
  pub member : IfSome (member_of key) IsName

abbrev pub number : Key → ℕ
number key = number_of (kind_of key)

abbrev pub class_text : Key → List ℕ
class_text key = text_of (class_of key)

abbrev pub member_text : Key → List ℕ
member_text key = text_of (member_of key)

-- by the number of the kind, then by class, then by member
abbrev pub key_cmp : Key → Key → Ordering
key_cmp =
    then_cmp (then_cmp (on number nat_cmp) (on class_text (slice_cmp nat_cmp)))
    (on member_text (slice_cmp nat_cmp))

pub key_total : IsTotalOrder key_cmp
key_total =
    then_total (then_total (on_total number nat_cmp_total) (on_texts class_text))
    (on_texts member_text)
