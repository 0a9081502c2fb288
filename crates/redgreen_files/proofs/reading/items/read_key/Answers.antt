use Rattle.devices.proofs.PutLaws.{handed_on}
use Rattle.std.proofs.Common.{sym, ◌∙◌}
use Rattle.redgreen_files.specs.Reading.{is_key_length, slice_at, key_at}
use Rattle.redgreen_files.proofs.FeedLaws.{after_took, after_first, after_refused, after_second}
use Rattle.redgreen_files.proofs.reading.items.read_key.Goals as goal

pub returns-in_err-count-clause-value : goal.returns-in_err-count-clause-value
unfolding key_at
returns-in_err-count-clause-value g c = rw (handed_on c.from_residual.result _ c.from_residual.ensures.1) (after_first _ is_key_length c.args.fault slice_at c.in_err-count.field-0.0 c.in_err-count.ensures.value)

pub returns-then-not-admitted-clause-value : goal.returns-then-not-admitted-clause-value
unfolding key_at
returns-then-not-admitted-clause-value g c = after_refused is_key_length c.args.fault slice_at c.in_ok-count.count c.in_ok-count.ensures.value (sym c.is_key_length-admitted.ensures ∙ c.if-not-admitted.true)

pub returns-in_err-key-clause-value : goal.returns-in_err-key-clause-value
unfolding key_at
returns-in_err-key-clause-value g c = rw (handed_on c.from_residual-in_err-key.result _ c.from_residual-in_err-key.ensures.1) (after_second is_key_length c.args.fault slice_at c.in_ok-count.count c.in_err-key.field-0.0 c.in_ok-count.ensures.value (sym c.is_key_length-admitted.ensures ∙ c.if-not-admitted.false) c.in_err-key.ensures.value)

pub returns-clause-value : goal.returns-clause-value
unfolding key_at
returns-clause-value g c = rw c.from_vec.ensures (after_took is_key_length c.args.fault slice_at c.in_ok-count.count c.in_ok-key.key.items c.in_ok-count.ensures.value (sym c.is_key_length-admitted.ensures ∙ c.if-not-admitted.false) c.in_ok-key.ensures.value)
