use Rattle.std.proofs.Common.{◌≤◌, ℕ, List, map, length, arith}
use Rattle.std.specs.Borrow.{Bor}
use Rattle.std.proofs.lemmas.List.{length-map}
use Rattle.audit_replay.proofs.FileRules.{file_there}
use Rattle.audit_replay.proofs.SumEnds.{summed_none, summed_next, summed_refused, summed_all}
use Rattle.audit_replay.proofs.chain.audit_files.Goals as goal

pub loop-file-init : goal.loop-file-init
loop-file-init g c = summed_none g.R.Runner.queries (g.R.Runner.log c.args.runner.now) c.new-auditor.result.state c.new-auditor.ensures

pub returns-in-Err-clause-refused : goal.returns-in-Err-clause-refused
returns-in-Err-clause-refused g c =
    let t = c.loop-file.invariant in
    summed_refused g.R.Runner.queries (map (λ (f : Bor (List ℕ)). f.now) c.args.chain.now) c.loop-file.file-index _ (file_there c.args.chain.now c.loop-file.file-index _ c.loop-file-test.true)
    (g.R.Runner.log c.args.runner.now) (g.R.Runner.log c.loop-file.runner) (g.R.Runner.log c.take.new.runner) c.loop-file.auditor.state t c.in-Err.fault
    (c.in-Err.ensures.counted t.sessions t.sums) (c.in-Err.ensures.refused t.sessions _ t.sums c.new-feed.ensures)

pub loop-file-preserved : goal.loop-file-preserved
loop-file-preserved g c =
    summed_next g.R.Runner.queries (map (λ (f : Bor (List ℕ)). f.now) c.args.chain.now) c.loop-file.file-index _ (file_there c.args.chain.now c.loop-file.file-index _ c.loop-file-test.true)
    (g.R.Runner.log c.args.runner.now) (g.R.Runner.log c.loop-file.runner) (g.R.Runner.log c.take.new.runner) c.loop-file.auditor.state c.loop-file.invariant c.take.new.self.state _ _
    c.in-Ok.ensures.taken.0 c.new-feed.ensures c.in-Ok.ensures.taken.1

pub returns-clause-summed : goal.returns-clause-summed
returns-clause-summed g c =
    let many = length-map c.args.chain.now (λ (f : Bor (List ℕ)). f.now) in
    let le : length (map (λ (f : Bor (List ℕ)). f.now) c.args.chain.now) ≤ c.loop-file.file-index = omega (arith, many) in
    summed_all g.R.Runner.queries (map (λ (f : Bor (List ℕ)). f.now) c.args.chain.now) c.loop-file.file-index le
    (g.R.Runner.log c.args.runner.now) (g.R.Runner.log c.loop-file.runner) c.loop-file.auditor.state c.loop-file.invariant
