use Rattle.std.proofs.Common.{◌≡◌}
use Rattle.query_fixtures.proofs.driver.Driver.bring_all.Given as goal

abbrev pub invariant-loop : goal.invariant-loop
invariant-loop g l = l.self ≡ l.initial.self
