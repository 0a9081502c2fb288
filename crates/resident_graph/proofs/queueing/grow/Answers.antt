use Rattle.std.proofs.Common.{List, Vec, ℕ, Contains, sym, subst}
use Rattle.std.specs.declared.alloc.Global.{Global}
use Rattle.resident_graph.specs.Lists.{list_in}
use Rattle.resident_graph.proofs.Lists.{wider_more}
use Rattle.resident_graph.proofs.queueing.grow.Goals as goal

pub loop-alloc-preserved : goal.loop-alloc-preserved
loop-alloc-preserved c = λ j i has.
    subst (λ (es : List (Vec ℕ Global)). Contains (list_in es j) i) (sym c.in_ok-push.ensures.items) (wider_more _ c.new.result j i (c.loop-alloc.invariant j i has))

pub returns-in_err-push-clause-wider : goal.returns-in_err-push-clause-wider
returns-in_err-push-clause-wider c = λ j i has.
    subst (λ (es : List (Vec ℕ Global)). Contains (list_in es j) i) (sym c.in_err-push.ensures.items) (c.loop-alloc.invariant j i has)
