-- Keys and marks by what stands for them in a file.
use Rattle.std.specs.Prelude.{ℕ, Bool, List, [], ◌∷◌, Option, Some, None, is_some, find, ◌==◌, ◌&&◌, if◌then◌else◌}
use Rattle.std.specs.Bool.{beq}
use Rattle.std.specs.Str.{is_utf8}
use Rattle.item_ids.specs.declared.kind.Kind.{Kind}
use Rattle.item_ids.specs.Kinds.{kind_with, has_class, has_member}
use Rattle.item_ids.specs.declared.key.Key.{Key}
use Rattle.sessions.specs.declared.mark.Mark.{Mark}
use Rattle.sessions.specs.declared.mark.Mark.TheVariants.{Input, Executed, Green}
use Rattle.sessions.specs.Marks.{mark_number}
use Rattle.item_ids.specs.KeyShapes.{key_of_parts}

-- the mark of this number
unfoldable pub mark_with : ℕ → Option Mark
mark_with n = find (λ mark. mark_number mark == n) (Input ∷ Executed ∷ Green ∷ [])

-- the name that these bytes are; no bytes are no name
abbrev pub name_with : List ℕ → Option (List ℕ)
name_with [] = None
name_with (b ∷ bytes) = Some (b ∷ bytes)

-- a name is there exactly if the kind has one
abbrev pub are_names : Kind → Option (List ℕ) → Option (List ℕ) → Bool
are_names kind class member =
    beq (is_some class) (has_class kind) && beq (is_some member) (has_member kind)

abbrev pub key_of_kind : Kind → List ℕ → List ℕ → Option Key
key_of_kind kind class member =
    if are_names kind (name_with class) (name_with member)
    then Some (key_of_parts kind class member) else None

abbrev pub key_of_some : Option Kind → List ℕ → List ℕ → Option Key
key_of_some None class member = None
key_of_some (Some kind) class member =
    if is_utf8 class && is_utf8 member then key_of_kind kind class member else None

-- the key of the kind of this number with these names, if no name is missing or one too many,
-- and each is a text
unfoldable pub key_with : ℕ → List ℕ → List ℕ → Option Key
key_with n class member = key_of_some (kind_with n) class member
