use Rattle.std.proofs.Common.{ℕ, List, map}
use Rattle.std.specs.Borrow.{Bor}
use Rattle.audit_replay.proofs.AuditLogs.{refused_log}
use Rattle.audit_replay.proofs.SumEnds.{audit_accepts, audit_last, audit_right, audit_means, audit_refuses, audit_logs, audit_logs_refused, behind}
use Rattle.audit_replay.proofs.chain.audit.Goals as goal

pub returns-in-Ok : goal.returns-in-Ok
returns-in-Ok g c =
    let files : List (List ℕ) = map (λ (f : Bor (List ℕ)). f.now) c.args.chain.now in
    let old = g.R.Runner.log c.args.runner.now in
    let new = g.R.Runner.log c.audit_files.new.runner in
    let t = c.in-Ok.ensures.summed in
    let e = c.end.ensures.gives t.sessions t.sums in
    record {
      accepted = audit_accepts g.R.Runner.queries g.met.R.Runner.laws files old new c.in-Ok.auditor.state t c.end.result e;
      profile = audit_last g.R.Runner.queries g.met.R.Runner.laws files old new c.in-Ok.auditor.state t c.end.result e;
      right = audit_right g.R.Runner.queries g.met.R.Runner.laws files old new c.in-Ok.auditor.state t c.end.result e;
      means = audit_means g.R.Runner.queries g.met.R.Runner.laws files old new c.in-Ok.auditor.state t c.end.result e;
      refused = audit_refuses g.R.Runner.queries g.met.R.Runner.laws files old new c.in-Ok.auditor.state t c.end.result e;
      log = audit_logs g.R.Runner.queries g.met.R.Runner.laws files old new c.in-Ok.auditor.state t c.end.result e;
      log_refused = audit_logs_refused g.R.Runner.queries g.met.R.Runner.laws files old new c.in-Ok.auditor.state t c.end.result e;
    }

pub returns-in-Err-clause-refused : goal.returns-in-Err-clause-refused
returns-in-Err-clause-refused g c =
    behind g.R.Runner.queries (map (λ (f : Bor (List ℕ)). f.now) c.args.chain.now) (g.R.Runner.log c.args.runner.now) (g.R.Runner.log c.audit_files.new.runner) c.in-Err.fault c.in-Err.ensures.refused

pub returns-in-Err-clause-log_refused : goal.returns-in-Err-clause-log_refused
returns-in-Err-clause-log_refused g c =
    let files : List (List ℕ) = map (λ (f : Bor (List ℕ)). f.now) c.args.chain.now in
    let old = g.R.Runner.log c.args.runner.now in
    let new = g.R.Runner.log c.audit_files.new.runner in
    refused_log g.R.Runner.queries files old new c.in-Err.fault (behind g.R.Runner.queries files old new c.in-Err.fault c.in-Err.ensures.refused)
