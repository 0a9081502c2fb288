use Rattle.std.proofs.Common.{ℕ, List, Contains, sym, subst}
use Rattle.resident_graph.specs.Lists.{list_in}
use Rattle.resident_graph.proofs.Same.{keeps_along, keeps_wider, keeps_added}
use Rattle.resident_graph.proofs.graph.add.Goals as goal

pub returns-in_err-link : goal.returns-in_err-link
returns-in_err-link g c = keeps_wider _ _ _ _ _ _ _ _ _ c.requires.keeps c.link.ensures.len c.link.ensures.wider

pub returns-in_err-make_room : goal.returns-in_err-make_room
returns-in_err-make_room g c =
    let m = c.make_room.ensures in
    keeps_along _ _ _ _ _ _ _ _ _ _ _ _ _ _ m.keys m.values m.edges m.readers m.queued m.queue
    (keeps_wider _ _ _ _ _ _ _ _ _ c.requires.keeps c.link.ensures.len c.link.ensures.wider)

pub returns : goal.returns
returns g c =
    let m = c.make_room.ensures in
    keeps_added _ _ _ _ _ _ _ _ _ c.make_room.new.graph c.push_node.new.graph c.args.key c.args.sealed c.args.edges c.new.result
    c.requires.keeps c.link.ensures.len c.link.ensures.wider
    (λ x has lt. subst (λ (n : ℕ). Contains (list_in c.link.new.readers.items x) n) c.len-at.ensures.len (c.in_ok-link.ensures.ok x (subst (λ (xs : List ℕ). Contains xs x) (sym c.as_slice.ensures.value) has) lt))
    m.keys m.values m.edges m.readers m.queued m.queue c.push_node.ensures c.requires.value
