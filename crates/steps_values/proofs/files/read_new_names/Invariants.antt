use Rattle.std.proofs.Common.{◌≡◌, ◌-◌, []}
use Rattle.byte_readers.specs.Reading.{list_from, name_at}
use Rattle.named_files.proofs.RepeatLemmas.{HasNames}
use Rattle.steps_values.specs.Reading.{is_new}
use Rattle.steps_values.proofs.files.read_new_names.Given as goal

abbrev pub invariant-loop : goal.invariant-loop
invariant-loop l = record {
  seen : HasNames l.seen l.items.items;
  read : list_from name_at is_new l.items.items (l.count - l.counter) l.rest ≡ list_from name_at is_new [] l.count l.bytes;
}
