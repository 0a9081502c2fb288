use Rattle.redgreen_audit.proofs.SeenKeys.{told_more, strange_all}
use Rattle.redgreen_audit.proofs.answers.Answers.read.Goals as goal

pub returns-in-Some-clause-told : goal.returns-in-Some-clause-told
returns-in-Some-clause-told c =
    let a = c.args.self.now in
    told_more a.records.now a.reads.now a.count c.args.key.now c.in-Some.value.now a.once c.in-Some.ensures.0 c.in-Some.ensures.1

pub invariant_of-self-2-clause-strange : goal.invariant_of-self-2-clause-strange
invariant_of-self-2-clause-strange c = λ k e.
    let a = c.args.self.now in
    strange_all a.records.now a.reads.now a.count c.args.key.now c.in_ok-other.other k c.in_default.ensures c.in_default-value_among.ensures c.in_ok-other.ensures e
