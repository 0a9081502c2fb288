use Rattle.resident.proofs.resident.Resident.of.Goals as goal

pub invariant_of-result : goal.invariant_of-result
invariant_of-result g c = c.new-2.ensures (g.R.Keeping.programs c.args.profile) c.of.result
