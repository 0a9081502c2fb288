use Rattle.std.proofs.Common.{◌≡◌, inl, inr, ℕ, false, Some, ◌∙◌, subst, sym, arith}
use Rattle.std.proofs.lemmas.Bool.{cases_eq}
use Rattle.item_ids.specs.Inputs.{rank}
use Rattle.graph_rules.specs.Keys.{input_of}
use Rattle.resident_graph.specs.Lists.{key_in, value_in, flag_in}
use Rattle.resident_graph.proofs.Keep.{no_fewer}
use Rattle.resident_graph.proofs.graph.queue_stale.Goals as goal

pub loop-at-preserved : goal.loop-at-preserved
loop-at-preserved c =
    let so_far = c.loop-at.invariant in
    let e = c.in_ok-queue_if_stale.ensures in (
      e.len ∙ so_far.0,
      e.queue,
      (λ i on. e.more i (so_far.2 i on)),
      (λ i lt low off. elim (cases_eq i c.loop-at.at) [
        | inl same ↦ subst
            (λ (x : ℕ). rank (key_in c.args.keys.now.keys x) ≡ 0 → flag_in c.queue_if_stale.new.queued.items x ≡ false
            → input_of c.args.inputs.now (key_in c.args.keys.now.keys x) ≡ Some (value_in c.args.values.now x)) (sym same) e.ok low off
        | inr other ↦ so_far.3 i (let ne = other in omega (arith, lt)) low (no_fewer c.loop-at.queued.items c.queue_if_stale.new.queued.items e.more i off)
      ]),
    )
