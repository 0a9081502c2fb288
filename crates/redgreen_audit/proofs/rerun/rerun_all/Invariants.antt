use Rattle.std.proofs.Common.{take, map}
use Rattle.redgreen_rules.specs.Runs.{AreMade}
use Rattle.redgreen_rules.specs.Sessions.{runs_of}
use Rattle.redgreen_sessions.specs.Views.{entry_in}
use Rattle.redgreen_audit.proofs.rerun.rerun_all.Given as goal

abbrev pub invariant-loop-n : goal.invariant-loop-n
invariant-loop-n g l = AreMade g.C.Client.makes l.fn.client (runs_of (map (entry_in l.records) (take l.n l.records))) l.client
