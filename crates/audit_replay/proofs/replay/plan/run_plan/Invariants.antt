use Rattle.std.proofs.Common.{◌≡◌, ◌++◌, map, take}
use Rattle.std.specs.List.{AllByRecursion}
use Rattle.sessions.specs.Sessions.{key_at}
use Rattle.audit_replay.proofs.OrderRules.{FollowsAt}
use Rattle.audit_replay.proofs.replay.plan.run_plan.Given as goal

abbrev pub invariant-loop-n : goal.invariant-loop-n
invariant-loop-n g l = record {
  each : AllByRecursion (FollowsAt (g.R.Runner.queries.mean l.session.terms.profile) (g.R.Runner.queries.reads l.session.terms.profile) l.session) (take l.n-index l.plan);
  log : g.R.Runner.log l.runner ≡ g.R.Runner.log l.initial.runner ++ map (key_at l.session.records) (take l.n-index l.plan);
}
