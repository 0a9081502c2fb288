-- Keys by their kinds: which names a key has, and which key has them.
use Rattle.std.specs.Prelude.{◌≡◌, ℕ, Bool, true, false, List, Option, Some, None}
use Rattle.std.proofs.Common.{refl}
use Rattle.steps_keys.specs.declared.kind.Kind.{Kind}
use Rattle.steps_keys.specs.declared.kind.Kind.TheVariants as kinds
use Rattle.steps_keys.specs.Kinds.{has_class, has_member, FitNames}
use Rattle.steps_keys.specs.declared.key.Key.{Key}
use Rattle.steps_keys.specs.declared.key.Key.TheVariants.{Files, Source, Plan, Compile, Link, Answer}
use Rattle.steps_keys.specs.Keys.{kind_of, class_of, member_of, class_text, member_text}

-- the key of a kind, with those of the names that the kind has
abbrev pub key_of_parts : Kind → List ℕ → List ℕ → Key
key_of_parts kinds.Files class member = Files
key_of_parts kinds.Source class member = Source class
key_of_parts kinds.Plan class member = Plan
key_of_parts kinds.Compile class member = Compile class
key_of_parts kinds.Link class member = Link class
key_of_parts kinds.Answer class member = Answer

-- the name, if there is to be one
abbrev pub name_if : Bool → List ℕ → Option (List ℕ)
name_if true name = Some name
name_if false name = None

-- a key of the kind, with those of the names that the kind has
pub record HasParts (kind : Kind) (class member : List ℕ) (key : Key) : Type 0 where
  pub of_kind : kind_of key ≡ kind
  pub class_is : class_of key ≡ name_if (has_class kind) class
  pub member_is : member_of key ≡ name_if (has_member kind) member

pub has_parts : (kind : Kind) (class member : List ℕ) → HasParts kind class member (key_of_parts kind class member)
has_parts kinds.Files class member = record { of_kind = refl; class_is = refl; member_is = refl }
has_parts _ class member = record { of_kind = refl; class_is = refl; member_is = refl }

-- a key has the names of its kind, and is the key that its parts make
pub record IsOfItsParts (key : Key) : Type 0 where
  pub names : FitNames (kind_of key) (class_of key) (member_of key)
  pub made : key_of_parts (kind_of key) (class_text key) (member_text key) ≡ key

pub is_of_its_parts : (key : Key) → IsOfItsParts key
is_of_its_parts Files = record { names = (refl, refl); made = refl }
is_of_its_parts _ = record { names = (refl, refl); made = refl }
