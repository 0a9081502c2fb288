use Rattle.std.proofs.Common.{subst}
use Rattle.redgreen_rules.specs.Runs.{IsIn}
use Rattle.redgreen_sessions.specs.Views.{tell_at, told_at}
use Rattle.redgreen_audit.proofs.Places.{in_map_at}
use Rattle.redgreen_audit.proofs.answers.value_among.Goals as goal

pub returns-in-Some : goal.returns-in-Some
returns-in-Some c = subst (IsIn (told_at c.args.records.now c.args.places.now)) c.in-Some.ensures (in_map_at (tell_at c.args.records.now) c.args.places.now c.loop-place.place-index 0 c.loop-place-test.true)
