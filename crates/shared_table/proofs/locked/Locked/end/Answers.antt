use Rattle.std.proofs.Common.{List, subst}
use Rattle.std.specs.Arc.{arc_value}
use mathlib.Core.List.{IsPrefix}
use Rattle.recorder.specs.Backed.{ReadValue}
use Rattle.job_table.specs.Tables.{state_of}
use Rattle.shared_table.proofs.Told.{reads_held, finish_held}
use Rattle.shared_table.proofs.locked.Locked.end.Goals as goal

pub finish_held-requires : goal.finish_held-requires
finish_held-requires g c =
    let known : IsPrefix c.args.memo.now c.self.inside.told = subst (λ (l : List ReadValue). IsPrefix l c.self.inside.told) c.known.ensures (c.begins_with.ensures.begins c.if-begins_with.true) in
    reads_held g.R.Runner.queries g.J.Naming.opened (state_of c.self.inside.counted) c.args.memo.now c.self.inside.told (arc_value c.args.outcome).told c.requires.reads known c.self.invariant

pub invariant_of-self : goal.invariant_of-self
invariant_of-self g c = finish_held c.args.w c.self.inside.counted c.finish_held.new.self c.self.inside.told c.self.invariant (arc_value c.args.outcome) c.finish_held.result c.finish_held.ensures

pub invariant_of-self-else-begins_with : goal.invariant_of-self-else-begins_with
invariant_of-self-else-begins_with g c = finish_held c.args.w c.self.inside.counted c.finish.new.self c.self.inside.told c.self.invariant (arc_value c.args.outcome) c.finish.result c.finish.ensures
