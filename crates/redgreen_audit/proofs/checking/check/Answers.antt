use Rattle.redgreen_audit.specs.Refusals.{Repeats}
use Rattle.redgreen_audit.proofs.Passing.{all_inside, all_once}
use Rattle.redgreen_audit.proofs.Differing.{match_none}
use Rattle.redgreen_audit.proofs.checking.check.Goals as goal

pub returns-in-Ok-clause-once : goal.returns-in-Ok-clause-once
returns-in-Ok-clause-once c = all_once c.args.past.now c.args.now.now (match_none (Repeats c.args.now.now) c.in-Ok-None.field-0 c.in-Ok-None.field-0-is c.in-Ok-None.ensures) c.in-Ok.ensures.passes

pub returns-in-Ok-clause-inside : goal.returns-in-Ok-clause-inside
returns-in-Ok-clause-inside c = all_inside c.args.past.now c.args.now.now c.in-Ok.ensures.passes
