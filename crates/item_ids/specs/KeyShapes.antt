-- Keys by their kinds: which names a key has, and which key has them.
use Rattle.std.specs.Prelude.{◌≡◌, ℕ, Bool, true, false, List, Option, Some, None}
use Rattle.std.proofs.Common.{refl}
use Rattle.item_ids.specs.declared.kind.Kind.{Kind}
use Rattle.item_ids.specs.declared.kind.Kind.TheVariants as kinds
use Rattle.item_ids.specs.Kinds.{has_class, has_member, FitNames}
use Rattle.item_ids.specs.declared.key.Key.{Key}
use Rattle.item_ids.specs.declared.key.Key.TheVariants.{Files, Source, Tree, Index, Header, Method, Sig, Supers, Members, CheckClass, CheckBody, Diags, Answer}
use Rattle.item_ids.specs.Keys.{kind_of, class_of, member_of, class_text, member_text}

-- the key of a kind, with those of the names that the kind has
abbrev pub key_of_parts : Kind → List ℕ → List ℕ → Key
key_of_parts kinds.Files class member = Files
key_of_parts kinds.Source class member = Source class
key_of_parts kinds.Tree class member = Tree class
key_of_parts kinds.Index class member = Index
key_of_parts kinds.Header class member = Header class
key_of_parts kinds.Method class member = Method class member
key_of_parts kinds.Sig class member = Sig class member
key_of_parts kinds.Supers class member = Supers class
key_of_parts kinds.Members class member = Members class
key_of_parts kinds.CheckClass class member = CheckClass class
key_of_parts kinds.CheckBody class member = CheckBody class member
key_of_parts kinds.Diags class member = Diags class
key_of_parts kinds.Answer class member = Answer

-- the name, if there is to be one
abbrev pub name_if : Bool → List ℕ → Option (List ℕ)
name_if true name = Some name
name_if false name = None

-- a key of the kind, with those of the names that the kind has
pub record HasParts (kind : Kind) (class member : List ℕ) (key : Key) : Type 0 where
  pub of_kind : kind_of key ≡ kind
  pub class_is : class_of key ≡ name_if (has_class kind) class
  pub member_is : member_of key ≡ name_if (has_member kind) member

pub has_parts : (kind : Kind) (class member : List ℕ) → HasParts kind class member (key_of_parts kind class member)
has_parts kinds.Files class member = record { of_kind = refl; class_is = refl; member_is = refl }
has_parts _ class member = record { of_kind = refl; class_is = refl; member_is = refl }

-- a key has the names of its kind, and is the key that its parts make
pub record IsOfItsParts (key : Key) : Type 0 where
  pub names : FitNames (kind_of key) (class_of key) (member_of key)
  pub made : key_of_parts (kind_of key) (class_text key) (member_text key) ≡ key

pub is_of_its_parts : (key : Key) → IsOfItsParts key
is_of_its_parts Files = record { names = (refl, refl); made = refl }
is_of_its_parts _ = record { names = (refl, refl); made = refl }
