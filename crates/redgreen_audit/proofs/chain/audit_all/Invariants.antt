use Rattle.std.proofs.Common.{◌≡◌, [], take, map}
use Rattle.redgreen_rules.specs.Runs.{AreMade}
use Rattle.redgreen_rules.specs.Sessions.{runs_in}
use Rattle.redgreen_sessions.specs.Views.{session_of}
use Rattle.redgreen_audit.specs.Answering.{AreAllInside}
use Rattle.redgreen_audit.specs.Refusals.{records_after}
use Rattle.redgreen_audit.proofs.Making.{PassSoFar}
use Rattle.redgreen_audit.proofs.chain.audit_all.Given as goal

abbrev pub invariant-loop-k : goal.invariant-loop-k
invariant-loop-k g l = record {
  passed : PassSoFar l.chain l.k l.past;
  made : AreMade g.C.Client.makes l.fn.client (runs_in (map session_of (take l.k l.chain))) l.client;
  inside : AreAllInside l.past;
  past_is : l.past ≡ records_after [] (take l.k l.chain);
}
