use Rattle.devices.proofs.PutLaws.{handed_on}
use Rattle.std.proofs.Common.{rules, ◌≡◌, ◌∙◌, length}
use Rattle.redgreen_files.specs.Reading.{root_at}
use Rattle.redgreen_files.proofs.FeedLaws.{many_step, many_halts, many_took}
use Rattle.redgreen_files.proofs.reading.records.read_keys.Goals as goal

pub returns-in_err-key-clause-value : goal.returns-in_err-key-clause-value
returns-in_err-key-clause-value g c =
    let i : c.len.result ≡ length c.loop.keys.items = search rules in
    rw (handed_on c.from_residual.result _ c.from_residual.ensures.1) (many_halts root_at c.loop.keys.items c.args.count c.loop.counter c.in_err-key.field-0.0 c.loop.invariant.lead c.loop-test.true (rw i at c.in_err-key.ensures.value))

pub loop-preserved : goal.loop-preserved
loop-preserved g c =
    let i : c.len.result ≡ length c.loop.keys.items = search rules in
    rw c.in_ok-push.ensures.items record {
      lead = many_step root_at c.loop.keys.items c.args.count c.loop.counter c.in_ok-key.key c.loop.invariant.lead c.loop-test.true (rw i at c.in_ok-key.ensures.value);
      failed = c.in_ok-key.ensures.counted ∙ c.loop.invariant.failed;
    }

pub returns-clause-value : goal.returns-clause-value
returns-clause-value g c = many_took root_at c.loop.keys.items c.args.count c.loop.counter c.loop.invariant.lead c.loop-test.false
