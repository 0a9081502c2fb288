use Rattle.std.proofs.Common.{◌∙◌, ap}
use Rattle.std.specs.Arc.{arc_value}
use Rattle.recorder.specs.Backed.{keys}
use Rattle.resident_graph.proofs.Results.{value_of_run}
use Rattle.resident_graph.proofs.running.done.Goals as goal

pub returns : goal.returns
returns g c = value_of_run (g.R.Keeping.programs c.args.profile) c.args.inputs.now c.args.key.now (arc_value c.args.sealed) c.args.keys.now.keys _ c.args.values.now _ _ _
    c.requires.above c.requires.kind c.requires.along c.requires.lower c.requires.keys c.requires.values c.reads-reads.ensures.keeps.answers (c.in_ok-places.ensures.same ∙ ap keys c.reads-reads.ensures.value) c.in_ok-places.ensures.inside
