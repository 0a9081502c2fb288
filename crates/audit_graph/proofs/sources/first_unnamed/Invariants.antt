use Rattle.std.proofs.Common.{take}
use Rattle.std.specs.List.{AllByRecursion}
use Rattle.std.specs.BTreeSet.{contains}
use Rattle.item_ids.specs.Keys.{key_cmp}
use Rattle.sessions.specs.Sessions.{entries}
use Rattle.audit_graph.specs.Sources.{IsAdmitted}
use Rattle.audit_graph.proofs.sources.first_unnamed.Given as goal

abbrev pub invariant-loop-n : goal.invariant-loop-n
invariant-loop-n l =
    AllByRecursion (IsAdmitted (contains key_cmp l.named)) (take l.n (entries l.session))
