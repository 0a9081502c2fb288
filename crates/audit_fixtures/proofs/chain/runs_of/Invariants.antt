use Rattle.std.proofs.Common.{◌≡◌, take}
use Rattle.audit_fixtures.specs.Chains.{runs_told}
use Rattle.audit_fixtures.proofs.chain.runs_of.Given as goal

abbrev pub invariant-loop-change : goal.invariant-loop-change
invariant-loop-change l = l.runs ≡ runs_told (take l.change-index l.chain)
