use Rattle.std.proofs.Common.{◌∙◌}
use Rattle.body_query.proofs.Sets.{same_places, same_set}
use Rattle.body_query.proofs.faults.class_fault_set.Goals as goal

pub new-requires-clause-places : goal.new-requires-clause-places
new-requires-clause-places c = same_places c.args.faults.items c.fault_set.result.items c.fault_set.ensures.same c.requires

pub returns : goal.returns
returns c = c.new.ensures ∙ same_set c.args.faults.items c.fault_set.result.items c.fault_set.ensures.ascending c.fault_set.ensures.same
