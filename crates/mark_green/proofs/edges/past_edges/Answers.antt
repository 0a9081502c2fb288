use Rattle.std.proofs.Common.{ℕ, List, sym, subst}
use Rattle.std.specs.List.{AllByRecursion}
use Rattle.sessions.specs.Sessions.{entry_of}
use Rattle.mark_green.specs.Ensures.{IsRecordUnder}
use Rattle.mark_green.proofs.Working.{are_under}
use Rattle.mark_green.proofs.edges.past_edges.Goals as goal

pub returns-in-Some-clause-under : goal.returns-in-Some-clause-under
returns-in-Some-clause-under c =
    let s = c.args.past.now in
    let r = c.in-Some.record.now in
    let below = c.edges_are_below.ensures.below s c.records-records.ensures.session c.args.key.now (entry_of s.records r) c.in-Some.ensures.found in
    subst (λ (es : List ℕ). AllByRecursion (IsRecordUnder s.records c.args.key.now) es) (sym c.edges.ensures) (are_under s c.args.key.now r.edges c.in-Some.ensures.edges below)
