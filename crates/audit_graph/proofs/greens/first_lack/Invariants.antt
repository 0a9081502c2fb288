use Rattle.std.proofs.Common.{take}
use Rattle.std.specs.Option.{option_copied}
use Rattle.std.specs.List.{AllByRecursion}
use Rattle.sessions.specs.Sessions.{entries, entry_at}
use Rattle.audit_graph.specs.Greens.{StandsIfGreen}
use Rattle.audit_graph.specs.Steps.{setting_behind}
use Rattle.audit_graph.proofs.greens.first_lack.Given as goal

abbrev pub invariant-loop-n : goal.invariant-loop-n
invariant-loop-n g l =
    AllByRecursion (StandsIfGreen (setting_behind g.R.Runner.queries.by_profile (option_copied l.past) l.session) (entry_at l.session)) (take l.n (entries l.session))
