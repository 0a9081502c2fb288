use Rattle.std.proofs.Common.{rules}
use Rattle.mj_phrases.specs.Inquiries.{and_then}
use Rattle.mj_phrases.specs.Steps.{Aborts}
use Rattle.mj_phrases.specs.Table.{are_accepted}
use Rattle.mj_phrases.proofs.Asked.{left_more, left_refused, left_up, left_none}
use Rattle.mj_phrases.proofs.rows.are_accepted.Goals as goal

pub returns-in_err-is_accepted-clause-err : goal.returns-in_err-is_accepted-clause-err
returns-in_err-is_accepted-clause-err g c =
    let h : Aborts g.A.Asking.stands g.A.Asking.halts (and_then (are_accepted c.args.types.now c.args.formals.now)) c.args.asking.now c.in_err-is_accepted.field-0.0 c.is_accepted.new.asking =
    left_up g.A.Asking.stands g.A.Asking.halts c.args.types.now c.args.formals.now _ _ _ _ _ _ _ c.loop-n.invariant.comes c.loop-n-test.true c.requires c.index-types-n.is c.index-formals-n.is c.in_err-is_accepted.ensures.err in
    search rules

pub returns-then-not-branch-clause-ok : goal.returns-then-not-branch-clause-ok
returns-then-not-branch-clause-ok g c =
    left_refused g.A.Asking.stands g.A.Asking.halts c.args.types.now c.args.formals.now _ _ _ _ c.in_ok-is_accepted.field-0 _ _ c.loop-n.invariant.comes c.loop-n-test.true c.requires c.index-types-n.is c.index-formals-n.is c.in_ok-is_accepted.ensures.ok c.if-not-branch.true

pub loop-n-preserved : goal.loop-n-preserved
loop-n-preserved g c = record {
  comes = left_more g.A.Asking.stands g.A.Asking.halts c.args.types.now c.args.formals.now _ _ _ _ c.in_ok-is_accepted.field-0 _ _ c.loop-n.invariant.comes c.loop-n-test.true c.requires c.index-types-n.is c.index-formals-n.is c.in_ok-is_accepted.ensures.ok c.if-not-branch.false;
  follows = g.met.A.Asking.transitive _ _ _ c.loop-n.invariant.follows c.in_ok-is_accepted.ensures.follows;
}

pub returns-clause-ok : goal.returns-clause-ok
returns-clause-ok g c = left_none g.A.Asking.stands g.A.Asking.halts c.args.types.now c.args.formals.now _ _ _ c.loop-n.invariant.comes c.loop-n-test.false
