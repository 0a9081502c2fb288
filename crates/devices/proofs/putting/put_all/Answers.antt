use Rattle.std.proofs.Common.{◌++◌, take, ◌∙◌}
use Rattle.devices.proofs.PutLaws.{handed_on, within_both, holds_both, begins_with}
use Rattle.devices.proofs.putting.put_all.Goals as goal

pub loop-at-preserved : goal.loop-at-preserved
loop-at-preserved g c =
    let bytes = c.args.bytes.now in
    record {
      within = within_both bytes c.loop-at.at c.in_ok-count.count c.loop-at.invariant.within c.in_ok-count.ensures.count.within;
      holds = λ front h. holds_both (g.W.Sink.holds c.put.new.self) front bytes c.loop-at.at c.in_ok-count.count (c.in_ok-count.ensures.holds (front ++ take c.loop-at.at bytes) (c.loop-at.invariant.holds front h));
      failed = c.in_ok-count.ensures.counted ∙ c.loop-at.invariant.failed;
    }

pub returns-in_err-count-clause-holds : goal.returns-in_err-count-clause-holds
returns-in_err-count-clause-holds g c =
    rw (handed_on c.from_residual.result _ c.from_residual.ensures.1) (λ front h. begins_with (g.W.Sink.holds c.put.new.self) front c.args.bytes.now c.loop-at.at (c.in_err-count.ensures.holds (front ++ take c.loop-at.at c.args.bytes.now) (c.loop-at.invariant.holds front h)))
