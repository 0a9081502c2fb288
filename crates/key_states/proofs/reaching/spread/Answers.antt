use Rattle.std.proofs.Common.{◌≡◌, ◌<◌, ◌≤◌, arith, length, refl, sym, ap, ◌∙◌, false, List}
use Rattle.std.proofs.lemmas.List.{length-append}
use Rattle.std.specs.Arc.{arc_value}
use Rattle.item_ids.specs.declared.key.Key.{Key}
use Rattle.graph_rules.specs.Steps.{Done}
use Rattle.key_states.specs.Nodes.{state_of_nodes, status_at}
use Rattle.key_states.specs.Reached.{key_in}
use Rattle.key_states.proofs.ReachRules.{spreads_first, spreads_more, spreads_last, reached_done}
use Rattle.key_states.proofs.SetRules.{key_at, at_has, at_within, at_end}
use Rattle.key_states.proofs.ReachRules.{roots_done}
use Rattle.key_states.proofs.FoundRules.{founds_more, longer}
use Rattle.key_states.proofs.reaching.spread.Goals as goal

pub loop-i-init : goal.loop-i-init
loop-i-init c = rw (c.reserve.ensures.items, c.requires.empty) (spreads_first _ _ _ c.requires.roots, (λ i d lt. absurd (omega arith)), refl, omega arith)

pub entry_of-entry-requires-clause-done : goal.entry_of-entry-requires-clause-done
entry_of-entry-requires-clause-done c =
    let q = c.in-Some.key.now in
    reached_done c.args.inputs.now (state_of_nodes c.args.inputs.now c.args.nodes.now false) c.requires.order (roots_done c.args.inputs.now c.args.nodes.now c.requires.answer) q (c.loop-i.invariant.0.only q (at_has c.loop-i.keys.keys c.loop-i.i q (sym c.in-Some.ensures.key)))

pub loop-i-preserved : goal.loop-i-preserved
loop-i-preserved c =
    let q = c.in-Some.key.now in
    let s = state_of_nodes c.args.inputs.now c.args.nodes.now false in
    let is = sym c.in-Some.ensures.key in
    let old = c.loop-i.keys.keys in
    let new = c.add.new.keys.keys in
    let here : key_in old c.loop-i.i ≡ q = key_at old c.loop-i.i q is in
    let lt : c.loop-i.i < length old = at_within old c.loop-i.i q is in
    let done = ap (status_at c.args.inputs.now c.args.nodes.now) here ∙ c.entry_of-entry.ensures in
    let adds = c.in_ok-edges.ensures.adds in
    let le : length old ≤ length new = longer old new adds.more adds.whole in
    rw c.in_ok-push.ensures.items (
      spreads_more c.args.inputs.now s _ _ c.loop-i.i _ _ _ c.loop-i.invariant.0 lt done adds,
      founds_more s old new adds.more adds.whole c.loop-i.found.items _ c.loop-i.i c.loop-i.invariant.2 lt c.loop-i.invariant.1 (record {
        done = done ∙ ap (λ (es : List Key). Done (arc_value c.entry_of-entry.result.sealed.now) es c.entry_of-entry.result.mark) (sym c.in_ok-edges.ensures.same);
        inside = c.in_ok-edges.ensures.inside;
      }),
      length-append c.loop-i.found.items _ ∙ omega (arith, c.loop-i.invariant.2),
      omega (arith, lt, le),
    )

pub returns-in_default-clause-reached : goal.returns-in_default-clause-reached
returns-in_default-clause-reached c = spreads_last _ _ _ c.loop-i.i c.loop-i.invariant.0 (at_end c.loop-i.keys.keys c.loop-i.i (sym c.in_default.ensures.key))

pub returns-in_default-clause-count : goal.returns-in_default-clause-count
returns-in_default-clause-count c = let l = at_end c.loop-i.keys.keys c.loop-i.i (sym c.in_default.ensures.key) in omega (arith, l, c.loop-i.invariant.2, c.loop-i.invariant.3)

pub returns-clause-reached : goal.returns-clause-reached
returns-clause-reached c = spreads_last _ _ _ c.loop-i.i c.loop-i.invariant.0 (omega (arith, c.len-len.ensures))

pub returns-clause-count : goal.returns-clause-count
returns-clause-count c = omega (arith, c.len-len.ensures, c.loop-i.invariant.2, c.loop-i.invariant.3)
