-- What a worker was given.
use Rattle.std.specs.Prelude.{◌≡◌, List, Contains}
use Rattle.std.specs.Arc.{arc_value}
use Rattle.item_ids.specs.declared.key.Key.{Key}
use Rattle.result_bytes.specs.declared.value.Value.{Value}
use Rattle.recorder.specs.Backed.{ReadValue}
use Rattle.job_table.specs.declared.fault.Asked.{Asked}
use Rattle.job_table.specs.declared.fault.Asked.TheVariants as asked

-- the list has the key with this value
abbrev pub is_told : List ReadValue → Key → Value → Type 0
is_told list q v = Contains list (record { key = q; value = v })

-- a key was found done with this value
abbrev pub IsFound : Asked → Value → Type 0
IsFound (asked.Done a) v = arc_value a ≡ v
IsFound _ v = ⊥
