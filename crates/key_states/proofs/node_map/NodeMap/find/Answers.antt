use Rattle.std.proofs.Common.{◌∙◌, sym, ap}
use Rattle.key_states.proofs.NodeRules.{first_at, status_found, status_by}
use Rattle.key_states.proofs.node_map.NodeMap.find.Goals as goal

pub returns-in-Some-clause-first : goal.returns-in-Some-clause-first
returns-in-Some-clause-first c = rw (← c.self.view_is) (first_at c.self.inside.nodes.entries c.args.key.now c.in-Some.at (sym c.in-Some.ensures.index)).0

pub returns-in-Some-clause-within : goal.returns-in-Some-clause-within
returns-in-Some-clause-within c = rw (← c.self.view_is) (first_at c.self.inside.nodes.entries c.args.key.now c.in-Some.at (sym c.in-Some.ensures.index)).1

pub returns-in-Some-clause-stands : goal.returns-in-Some-clause-stands
returns-in-Some-clause-stands c = rw (← c.self.view_is) (status_found c.self.inside.nodes.entries c.args.key.now ∙ sym (ap status_by c.in-Some.ensures.value))

pub returns-in-None-clause-none : goal.returns-in-None-clause-none
returns-in-None-clause-none c = rw (← c.self.view_is) (status_found c.self.inside.nodes.entries c.args.key.now ∙ sym (ap status_by c.in-None.ensures.value))
