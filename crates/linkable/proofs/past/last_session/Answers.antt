use Rattle.std.proofs.Common.{◌≡◌, ℕ, suc, ◌+◌, ◌<◌, List, length, map, arith}
use Rattle.std.specs.Borrow.{Bor}
use Rattle.audit_replay.proofs.FileRules.{file_there}
use Rattle.linkable.proofs.PastRules.{end_more, end_unread}
use Rattle.linkable.proofs.past.last_session.Goals as goal

pub returns-in-Err-clause-refused : goal.returns-in-Err-clause-refused
returns-in-Err-clause-refused c =
    let at = c.loop-number in
    let lt : at.number < length c.args.files.now = omega (arith, c.loop-number-test.true) in
    end_unread (map (λ (f : Bor (List ℕ)). f.now) c.args.files.now) at.number _ (file_there c.args.files.now at.number _ lt) at.past at.invariant c.in-Err.stop c.in-Err.ensures.refused

pub loop-number-preserved : goal.loop-number-preserved
loop-number-preserved c =
    let at = c.loop-number in
    let lt : at.number < length c.args.files.now = omega (arith, c.loop-number-test.true) in
    let one : at.number + 1 ≡ suc at.number = omega arith in
    rw one (end_more (map (λ (f : Bor (List ℕ)). f.now) c.args.files.now) at.number _ (file_there c.args.files.now at.number _ lt) at.past at.invariant c.in-Ok.session
    c.in-Ok.ensures.session c.in-Ok.ensures.taken c.in-Ok.ensures.numbered c.in-Ok.ensures.file)
