use Rattle.std.proofs.Common.{◌≤◌, ap, subst, arith, length}
use mathlib.Core.List.{IsPrefix}
use Rattle.std.proofs.lemmas.Bool.Decides.{nat_tests}
use Rattle.known_list.proofs.Beginnings.{prefix_shorter}
use Rattle.known_list.proofs.list.Known.begins_with.Goals as goal

-- both are beginnings of the list that was learned, so the shorter begins the longer
pub returns-clause-begins : goal.returns-clause-begins
returns-clause-begins g c test =
    let mine = c.self.inside.seen.log in
    let theirs = c.other.inside.seen.log in
    let both = c.learn.new.self.log in
    let this : IsPrefix mine both = subst (λ l. IsPrefix l both) (ap (λ s. s.log) c.again-both.ensures) c.learn.ensures.2 in
    let entries : c.other.inside.entries ≤ c.self.inside.entries = grind (arith, nat_tests, test) in
    let less : length theirs ≤ length mine = omega (arith, entries, c.self.invariant.0, c.other.invariant.0) in
    rw (← c.self.view_is, ← c.other.view_is) (prefix_shorter theirs mine both c.learn.ensures.3 this less)
