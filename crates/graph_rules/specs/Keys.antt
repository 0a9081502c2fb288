-- Equality of keys, and the keys that are inputs of a project.
use Rattle.std.specs.Prelude.{Bool, Option, Some, None}
use Rattle.std.specs.Ordering.{is_eq}
use Rattle.item_ids.specs.declared.key.Key.{Key}
use Rattle.item_ids.specs.Keys.{key_cmp}
use Rattle.item_ids.specs.Inputs.{by_input}
use Rattle.result_bytes.specs.declared.value.Value.{Value}
use Rattle.result_bytes.specs.declared.value.Value.TheVariants as values
use Rattle.named_files.specs.Projects.{names_of}
use Rattle.recorder.specs.Projects.{Project, bytes_at}

-- whether the two keys are one
unfoldable pub same_key : Key → Key → Bool
same_key a b = is_eq (key_cmp a b)

-- The value of a key that is an input: the names of the files, or the bytes of a file. Other keys
-- are none.
unfoldable pub input_of : Project → Key → Option Value
input_of p key =
    by_input (Some (values.Files (names_of p))) (λ file. Some (values.Source (bytes_at p file))) None key
