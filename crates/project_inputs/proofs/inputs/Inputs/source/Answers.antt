use Rattle.std.proofs.Common.{sym, ap, ◌∙◌}
use Rattle.result_bytes.specs.declared.value.Value.TheVariants as values
use Rattle.project_inputs.proofs.SourceRules.{source_there, source_missing}
use Rattle.project_inputs.proofs.inputs.Inputs.source.Goals as goal

pub returns-in-Some : goal.returns-in-Some
returns-in-Some c = rw (← c.self.view_is) (source_there c.self.inside.sources.entries c.self.invariant.2 c.args.name.now c.in-Some.sealed.now (sym c.in-Some.ensures.value))

pub returns-in-None : goal.returns-in-None
returns-in-None c = c.self.invariant.1 ∙ ap values.Source (rw (← c.self.view_is) (sym (source_missing c.self.inside.sources.entries c.self.invariant.2 c.args.name.now (sym c.in-None.ensures.value))))
