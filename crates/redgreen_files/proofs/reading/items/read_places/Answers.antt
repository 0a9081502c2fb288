use Rattle.devices.proofs.PutLaws.{handed_on}
use Rattle.std.proofs.Common.{◌∙◌}
use Rattle.redgreen_files.specs.Reading.{number_part}
use Rattle.redgreen_files.proofs.FeedLaws.{many_step, many_halts, many_took}
use Rattle.redgreen_files.proofs.reading.items.read_places.Goals as goal

pub returns-in_err-place-clause-value : goal.returns-in_err-place-clause-value
unfolding number_part
returns-in_err-place-clause-value g c = rw (handed_on c.from_residual.result _ c.from_residual.ensures.1) (many_halts number_part c.loop.places.items c.args.count c.loop.counter c.in_err-place.field-0.0 c.loop.invariant.lead c.loop-test.true c.in_err-place.ensures.value)

pub loop-preserved : goal.loop-preserved
unfolding number_part
loop-preserved g c =
    rw c.in_ok-push.ensures.items record {
      lead = many_step number_part c.loop.places.items c.args.count c.loop.counter c.in_ok-place.place c.loop.invariant.lead c.loop-test.true c.in_ok-place.ensures.value;
      failed = c.in_ok-place.ensures.counted ∙ c.loop.invariant.failed;
    }

pub returns-clause-value : goal.returns-clause-value
returns-clause-value g c = rw c.shrink_to_fit.ensures.items (many_took number_part c.loop.places.items c.args.count c.loop.counter c.loop.invariant.lead c.loop-test.false)
