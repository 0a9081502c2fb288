use Rattle.std.proofs.lemmas.Str.{is_utf8-from_IsUtf8}
use Rattle.byte_readers.proofs.names.check_name.Goals as goal

pub returns : goal.returns
returns c = record { some = c.bytes-bytes.ensures.some; short = c.bytes-bytes.ensures.short; text = rw c.as_str-text.ensures at (is_utf8-from_IsUtf8 _ c.as_str-text.utf8) }
