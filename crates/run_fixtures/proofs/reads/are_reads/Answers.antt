use Rattle.std.proofs.Common.{◌≡◌, ◌<◌, length, arith}
use Rattle.std.proofs.lemmas.Bool.Decides.{nat_tests}
use Rattle.std.proofs.lemmas.Slice.Zip.{AllZip-long}
use Rattle.run_fixtures.specs.Reading.{IsReadOf, AreReadsOf}
use Rattle.run_fixtures.proofs.Zips.{says_no, zip_at, zip_more}
use Rattle.run_fixtures.proofs.reads.are_reads.Goals as goal

pub returns-then-reads-given : goal.returns-then-reads-given
returns-then-reads-given c =
    let given = c.args.given.now in
    let reads = c.args.reads.now in
    says_no (AreReadsOf given reads)
    (λ all. let e : length reads ≡ length given = AllZip-long IsReadOf given reads all in grind (arith, nat_tests))

pub returns-then-not-branch : goal.returns-then-not-branch
returns-then-not-branch c =
    let given = c.args.given.now in
    let reads = c.args.reads.now in
    let at = c.loop-at.at in
    let l : at < length given = omega arith in
    let one = c.index-reads-at in
    says_no (AreReadsOf given reads)
    (λ all. let t = c.in_ok-is_read.ensures.1 (zip_at IsReadOf given reads at _ one.result all l one.is) in cc (t, c.if-not-branch.true))

pub loop-at-preserved : goal.loop-at-preserved
loop-at-preserved c =
    let given = c.args.given.now in
    let reads = c.args.reads.now in
    let at = c.loop-at.at in
    let l : at < length given = omega arith in
    let m : at < length reads = grind (arith, nat_tests) in
    let one = c.index-reads-at in
    zip_more IsReadOf given reads at _ one.result l m one.is c.loop-at.invariant (c.in_ok-is_read.ensures.0 c.if-not-branch.false)
