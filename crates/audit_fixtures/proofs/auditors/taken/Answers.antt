use Rattle.std.proofs.Common.{ℕ, List, map, arith}
use Rattle.std.specs.Borrow.{Bor}
use Rattle.std.proofs.lemmas.List.{length-map}
use Rattle.query_rules.specs.Queries.{queries}
use Rattle.audit_replay.proofs.FileRules.{file_there}
use Rattle.audit_replay.proofs.SumEnds.{summed_next, summed_all}
use Rattle.audit_fixtures.proofs.auditors.taken.Goals as goal

pub loop-file-preserved : goal.loop-file-preserved
loop-file-preserved c =
    let chain = c.args.files.now in
    let files : List (List ℕ) = map (λ (f : Bor (List ℕ)). f.now) chain in
    let at = c.loop-file.file-index in
    summed_next queries files at _ (file_there chain at _ c.loop-file-test.true)
    c.args.runner.now.log.items c.loop-file.runner.log.items c.take.new.runner.log.items c.loop-file.auditor.state c.loop-file.invariant c.take.new.self.state _ _
    c.in_ok-take.ensures.taken.0 c.in_pieces.ensures c.in_ok-take.ensures.taken.1

pub returns : goal.returns
returns c =
    let chain = c.args.files.now in
    let files : List (List ℕ) = map (λ (f : Bor (List ℕ)). f.now) chain in
    let many = length-map chain (λ (f : Bor (List ℕ)). f.now) in
    summed_all queries files c.loop-file.file-index (omega (arith, many)) c.args.runner.now.log.items c.loop-file.runner.log.items c.loop-file.auditor.state c.loop-file.invariant
