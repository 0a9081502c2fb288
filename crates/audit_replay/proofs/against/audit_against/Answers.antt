use Rattle.std.proofs.Common.{ℕ, List, map}
use Rattle.std.specs.Borrow.{Bor}
use Rattle.audit_replay.proofs.AuditLogs.{refused_log}
use Rattle.audit_replay.proofs.SumEnds.{against_accepts, against_last, against_right, against_means, against_refuses, against_logs, against_logs_refused, behind, behind_against}
use Rattle.audit_replay.proofs.against.audit_against.Goals as goal

pub returns-in-Ok : goal.returns-in-Ok
returns-in-Ok g c =
    let files : List (List ℕ) = map (λ (f : Bor (List ℕ)). f.now) c.args.chain.now in
    let old = g.R.Runner.log c.args.runner.now in
    let new = g.R.Runner.log c.audit_files.new.runner in
    let t = c.in-Ok.ensures.summed in
    let e = c.end_against.ensures.gives t.sessions t.sums in
    record {
      accepted = against_accepts g.R.Runner.queries g.met.R.Runner.laws files old new c.in-Ok.auditor.state t c.args.project.now c.end_against.result e;
      profile = against_last g.R.Runner.queries g.met.R.Runner.laws files old new c.in-Ok.auditor.state t c.args.project.now c.end_against.result e;
      right = against_right g.R.Runner.queries g.met.R.Runner.laws files old new c.in-Ok.auditor.state t c.args.project.now c.end_against.result e;
      means = against_means g.R.Runner.queries g.met.R.Runner.laws files old new c.in-Ok.auditor.state t c.args.project.now c.end_against.result e;
      refused = against_refuses g.R.Runner.queries g.met.R.Runner.laws files old new c.in-Ok.auditor.state t c.args.project.now c.end_against.result e;
      log = against_logs g.R.Runner.queries g.met.R.Runner.laws files old new c.in-Ok.auditor.state t c.args.project.now c.end_against.result e;
      log_refused = against_logs_refused g.R.Runner.queries g.met.R.Runner.laws files old new c.in-Ok.auditor.state t c.args.project.now c.end_against.result e;
    }

pub returns-in-Err-clause-refused : goal.returns-in-Err-clause-refused
returns-in-Err-clause-refused g c =
    let files : List (List ℕ) = map (λ (f : Bor (List ℕ)). f.now) c.args.chain.now in
    let old = g.R.Runner.log c.args.runner.now in
    let new = g.R.Runner.log c.audit_files.new.runner in
    behind_against g.R.Runner.queries files old new c.args.project.now c.in-Err.fault (behind g.R.Runner.queries files old new c.in-Err.fault c.in-Err.ensures.refused)

pub returns-in-Err-clause-log_refused : goal.returns-in-Err-clause-log_refused
returns-in-Err-clause-log_refused g c =
    let files : List (List ℕ) = map (λ (f : Bor (List ℕ)). f.now) c.args.chain.now in
    let old = g.R.Runner.log c.args.runner.now in
    let new = g.R.Runner.log c.audit_files.new.runner in
    refused_log g.R.Runner.queries files old new c.in-Err.fault (behind g.R.Runner.queries files old new c.in-Err.fault c.in-Err.ensures.refused)
