use Rattle.std.proofs.Common.{◌+◌, ◌<◌, ◌≤◌, [], map, length, take, arith, subst, sym, List}
use Rattle.std.proofs.lemmas.List.{take_all, append-nil}
use Rattle.redgreen_rules.specs.Sessions.{ArePassed}
use Rattle.redgreen_sessions.specs.declared.record.Session.{Session}
use Rattle.redgreen_sessions.specs.Views.{session_of}
use Rattle.redgreen_audit.proofs.Making.{PassSoFar, passed_session, made_session}
use Rattle.redgreen_audit.specs.Answering.{AreAllInside}
use Rattle.redgreen_audit.proofs.Chains.{after_more, first_wrong}
use Rattle.redgreen_audit.proofs.chain.audit_all.Goals as goal

pub loop-k-preserved : goal.loop-k-preserved
loop-k-preserved g c =
    let lt : c.loop-k.k < length c.args.chain.now = omega arith in
    record {
      passed = subst (PassSoFar c.args.chain.now (c.loop-k.k + 1)) (sym c.as_slice-past.ensures.value) (passed_session c.args.chain.now c.loop-k.k c.loop-k.past.now c.index-chain-k.result lt c.index-chain-k.is c.loop-k.invariant.passed c.in-Ok.ensures.passes);
      made = made_session g.C.Client.makes c.args.client.now c.loop-k.client c.step.new.client c.args.chain.now c.loop-k.k c.index-chain-k.result lt c.index-chain-k.is c.loop-k.invariant.made c.in-Ok.ensures.made;
      inside = subst AreAllInside (sym c.as_slice-past.ensures.value) c.in-Ok.ensures.inside;
      past_is = after_more c.args.chain.now c.loop-k.k c.index-chain-k.result c.as_slice-past.result.now lt c.index-chain-k.is c.as_slice-past.ensures.value;
    }

pub returns-clause-passed : goal.returns-clause-passed
returns-clause-passed g c =
    let le : length c.args.chain.now ≤ c.loop-k.k = omega arith in
    subst (λ (ss : List Session). ArePassed [] (map session_of ss)) (take_all c.loop-k.k c.args.chain.now le)
    (subst (ArePassed []) (append-nil (map session_of (take c.loop-k.k c.args.chain.now))) (c.loop-k.invariant.passed [] tt))

pub returns-in-Err-clause-refused : goal.returns-in-Err-clause-refused
returns-in-Err-clause-refused g c =
    let lt : c.loop-k.k < length c.args.chain.now = omega arith in
    first_wrong g.C.Client.makes c.args.client.now c.loop-k.client c.step.new.client c.args.chain.now c.loop-k.k c.index-chain-k.result c.loop-k.past.now c.in-Err.fault lt c.index-chain-k.is c.loop-k.invariant.passed c.loop-k.invariant.past_is c.loop-k.invariant.made c.in-Err.ensures.refused
