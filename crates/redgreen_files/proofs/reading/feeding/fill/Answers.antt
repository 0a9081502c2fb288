use Rattle.std.proofs.Common.{rules, ◌-◌, ◌≤◌, length, ◌∙◌}
use Rattle.redgreen_files.proofs.FeedLaws.{given_more}
use Rattle.redgreen_files.proofs.reading.feeding.fill.Goals as goal

pub loop-at-preserved : goal.loop-at-preserved
loop-at-preserved g c =
    let le : c.in-Ok.count ≤ length c.take.new.room = search rules in
    record {
      within = search rules;
      length = search rules;
      given = given_more c.loop-at.room c.loop-at.at (g.F.Feed.holds c.take.new.self) _ c.take.new.room (length c.loop-at.room - c.loop-at.at) c.in-Ok.count c.loop-at.invariant.given c.in-Ok.ensures.taken.1 c.loop-at.invariant.within le;
      failed = c.in-Ok.ensures.counted ∙ c.loop-at.invariant.failed;
    }
