use Rattle.devices.proofs.PutLaws.{handed_on}
use Rattle.std.proofs.Common.{map}
use Rattle.redgreen_files.specs.Spelling.{value_of}
use Rattle.redgreen_files.specs.Reading.{roots_at, records_at, parts_at, session_with, body_at}
use Rattle.redgreen_files.proofs.FeedLaws.{pair_took, pair_first, pair_second, made_took, made_stops}
use Rattle.redgreen_files.proofs.reading.files.read_body.Goals as goal

pub returns-in_err-head-clause-value : goal.returns-in_err-head-clause-value
unfolding body_at parts_at
returns-in_err-head-clause-value g c = rw (handed_on c.from_residual.result _ c.from_residual.ensures.1) (made_stops _ _ session_with c.in_err-head.field-0.0 (pair_first _ _ records_at c.in_err-head.field-0.0 (pair_first _ _ roots_at c.in_err-head.field-0.0 c.in_err-head.ensures.value)))

pub returns-in_err-roots-clause-value : goal.returns-in_err-roots-clause-value
unfolding body_at parts_at
returns-in_err-roots-clause-value g c = rw (handed_on c.from_residual-in_err-roots.result _ c.from_residual-in_err-roots.ensures.1) (made_stops _ _ session_with c.in_err-roots.field-0.0 (pair_first _ _ records_at c.in_err-roots.field-0.0 (pair_second roots_at c.in_err-roots.field-0.0 c.in_ok-head.ensures.value c.in_err-roots.ensures.value)))

pub returns-in_err-records-clause-value : goal.returns-in_err-records-clause-value
unfolding body_at parts_at
returns-in_err-records-clause-value g c = rw (handed_on c.from_residual-in_err-records.result _ c.from_residual-in_err-records.ensures.1) (made_stops _ _ session_with c.in_err-records.field-0.0 (pair_second records_at c.in_err-records.field-0.0 (pair_took (((tt, tt), c.in_ok-head.head.0), c.in_ok-head.head.1) c.in_ok-roots.roots.items c.in_ok-head.ensures.value c.in_ok-roots.ensures.value) c.in_err-records.ensures.value))

pub returns-clause-value : goal.returns-clause-value
unfolding body_at parts_at
returns-clause-value g c =
    made_took session_with (((((tt, tt), c.in_ok-head.head.0), c.in_ok-head.head.1), c.in_ok-roots.roots.items), map value_of c.in_ok-records.records.items)
    (pair_took ((((tt, tt), c.in_ok-head.head.0), c.in_ok-head.head.1), c.in_ok-roots.roots.items) (map value_of c.in_ok-records.records.items)
    (pair_took (((tt, tt), c.in_ok-head.head.0), c.in_ok-head.head.1) c.in_ok-roots.roots.items c.in_ok-head.ensures.value c.in_ok-roots.ensures.value) c.in_ok-records.ensures.value)
