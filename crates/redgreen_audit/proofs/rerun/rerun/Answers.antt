use Rattle.std.proofs.Common.{◌∙◌}
use Rattle.redgreen_audit.proofs.Differing.{strange_run}
use Rattle.redgreen_audit.proofs.rerun.rerun.Goals as goal

pub returns-then-is_other-clause-refused : goal.returns-then-is_other-clause-refused
returns-then-is_other-clause-refused g c =
    let other = c.if-is_other.ensures in
    let a = c.run-run.new.answers in
    strange_run g.C.Client.makes c.args.client.now c.run-run.new.self c.args.records.now a.records.now c.args.item.now a.reads.now c.as_slice-2.result.now a.count other.0
    (c.run-run.ensures.records ∙ c.new-answers.ensures.records)
    (c.run-run.ensures.reads ∙ c.new-answers.ensures.reads ∙ c.as_slice.ensures.value)
    c.as_slice-2.ensures c.facts.ensures.within (c.facts.ensures.strange other.0 other.1) (c.run-run.ensures.wanted other.0 other.1)
