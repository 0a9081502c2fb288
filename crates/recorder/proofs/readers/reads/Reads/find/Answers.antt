use Rattle.std.proofs.Common.{◌∙◌, Some, sym, ap, subst, arith}
use Rattle.recorder.proofs.FirstReads.{Finds, first_below, first_at, none_first, first_found}
use Rattle.recorder.proofs.readers.reads.Reads.find.Goals as goal

pub index-requires : goal.index-requires
index-requires c =
    let below = first_below c.self.inside.list.items c.args.key.now c.in-Some.at.now (sym (c.self.invariant c.args.key.now) ∙ sym c.in-Some.ensures.value) in
    omega (arith, below, c.self.inside.list.ok)

pub returns-in-Some-clause-first : goal.returns-in-Some-clause-first
returns-in-Some-clause-first c = rw (← c.self.view_is)
    (ap Some c.index.ensures
    ∙ sym (first_at c.self.inside.list.items c.args.key.now c.in-Some.at.now c.index.result.now (sym (c.self.invariant c.args.key.now) ∙ sym c.in-Some.ensures.value)))

pub returns-in-Some-clause-found : goal.returns-in-Some-clause-found
returns-in-Some-clause-found c = subst (Finds c.args.self.now c.args.key.now) (sym (returns-in-Some-clause-first c)) (first_found c.args.self.now c.args.key.now)

pub returns-in-None-clause-first : goal.returns-in-None-clause-first
returns-in-None-clause-first c = rw (← c.self.view_is) (sym (none_first c.self.inside.list.items c.args.key.now (sym (c.self.invariant c.args.key.now) ∙ sym c.in-None.ensures.value)))

pub returns-in-None-clause-found : goal.returns-in-None-clause-found
returns-in-None-clause-found c = subst (Finds c.args.self.now c.args.key.now) (sym (returns-in-None-clause-first c)) (first_found c.args.self.now c.args.key.now)
