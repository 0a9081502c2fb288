-- Where the first read of a key stands.
use Rattle.std.specs.Prelude.{ℕ, suc, List, [], ◌∷◌, Option, Some, None, option_map, if◌then◌else◌}
use Rattle.std.specs.Ordering.{is_eq}
use Rattle.item_ids.specs.declared.key.Key.{Key}
use Rattle.item_ids.specs.Keys.{key_cmp}
use Rattle.recorder.specs.Backed.{ReadValue}

-- the place of the first read of k
abbrev pub first_place : List ReadValue → Key → Option ℕ
first_place [] k = None
first_place (t ∷ ts) k =
    if is_eq (key_cmp t.key k) then Some 0 else option_map suc (first_place ts k)
