use Rattle.std.proofs.Common.{ℕ, List, inl, inr, map, refl, sym, subst, arith}
use Rattle.std.specs.Borrow.{Bor}
use Rattle.query_rules.specs.Queries.{queries}
use Rattle.audit_graph.specs.declared.fault.AuditFault.{AuditFault}
use Rattle.audit_replay.specs.Audits.{IsRefusedBehind}
use Rattle.audit_replay.specs.Sums.{CountsFault}
use Rattle.audit_replay.proofs.FileRules.{file_there}
use Rattle.audit_replay.proofs.SumEnds.{summed_next, summed_refused}
use Rattle.audit_fixtures.proofs.Saying.{said_in_end, accepts_all}
use Rattle.audit_fixtures.proofs.auditors.is_taken_or_stays.Goals as goal

pub loop-file-preserved : goal.loop-file-preserved
loop-file-preserved c =
    let chain = c.args.files.now in
    let files : List (List ℕ) = map (λ (f : Bor (List ℕ)). f.now) chain in
    let at = c.loop-file.file-index in
    summed_next queries files at _ (file_there chain at _ c.loop-file-test.true)
    c.args.runner.now.log.items c.loop-file.runner.log.items c.take.new.runner.log.items c.loop-file.auditor.state c.loop-file.invariant c.take.new.self.state _ _
    c.in-Ok.ensures.taken.0 c.plain-feed.ensures c.in-Ok.ensures.taken.1

pub returns-then-begins : goal.returns-then-begins
returns-then-begins c =
    let chain = c.args.files.now in
    let files : List (List ℕ) = map (λ (f : Bor (List ℕ)). f.now) chain in
    let at = c.loop-file.file-index in
    let old = c.args.runner.now.log.items in
    let new = c.take.new.runner.log.items in
    let t = c.loop-file.invariant in
    let fault = c.in-Err-OutOfMemory.field-0 in
    let is = c.in-Err-OutOfMemory.field-0-is in
    let counted : CountsFault fault 0 0 = subst (λ (f : AuditFault). CountsFault f 0 0) (sym is) refl in
    let refused = summed_refused queries files at _ (file_there chain at _ c.loop-file-test.true) old c.loop-file.runner.log.items new c.loop-file.auditor.state t fault counted
    (c.in-Err-OutOfMemory.ensures.refused t.sessions _ t.sums c.plain-feed.ensures) in
    λ _. inr (record { old = old; new = new; refused = subst (λ (f : AuditFault). IsRefusedBehind queries files old new f) is refused })

pub returns : goal.returns
returns c =
    let files : List (List ℕ) = map (λ (f : Bor (List ℕ)). f.now) c.args.files.now in
    let old = c.args.runner.now.log.items in
    let new = c.loop-file.runner.log.items in
    let told = said_in_end c.args.files.now c.loop-file.file-index (omega arith) old new c.loop-file.auditor.state c.loop-file.invariant c.end.result c.end.ensures.gives c.told.result c.told.ensures in
    λ yes. inl (accepts_all c.args.chain.now files c.in-Some.wanted c.in-Some.ensures old new c.told.result told (c.says.ensures yes))
