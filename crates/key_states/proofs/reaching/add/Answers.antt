use Rattle.std.proofs.Common.{length, ◌<◌, ◌≤◌, arith, refl, ◌∙◌}
use Rattle.std.proofs.lemmas.List.{take_all}
use Rattle.key_states.proofs.ReachRules.{adds_none, adds_more}
use Rattle.key_states.proofs.FoundRules.{places_stay, inside_all, longer}
use Rattle.key_states.proofs.RecordRules.{places_more, inside_more}
use Rattle.key_states.proofs.reaching.add.Goals as goal

pub loop-i-init : goal.loop-i-init
loop-i-init c = rw c.in_ok-places.ensures.items (adds_none _, refl, tt)

pub loop-i-preserved : goal.loop-i-preserved
loop-i-preserved c =
    let lt : c.loop-i.i < length c.args.edges.now = omega (arith, c.len-count.ensures) in
    let one = c.in_ok-add_key.ensures.adds in
    let old = c.loop-i.keys.keys in
    let new = c.add_key.new.keys.keys in
    let stay = places_stay old new one.more one.whole c.loop-i.places.items c.loop-i.invariant.2 in
    rw c.in_ok-push.ensures.items (
      adds_more _ _ _ _ c.loop-i.i c.at.result.now lt c.at.ensures c.loop-i.invariant.0 one,
      places_more new c.args.edges.now c.loop-i.places.items c.loop-i.i c.at.result.now _ lt c.at.ensures (stay ∙ c.loop-i.invariant.1) c.in_ok-add_key.ensures.same,
      inside_more (length new) c.loop-i.places.items _ (inside_all (length old) (length new) (longer old new one.more one.whole) c.loop-i.places.items c.loop-i.invariant.2) c.in_ok-add_key.ensures.inside,
    )

pub returns-clause-adds : goal.returns-clause-adds
returns-clause-adds c =
    let le : length c.args.edges.now ≤ c.loop-i.i = omega (arith, c.len-count.ensures) in
    let all = take_all c.loop-i.i c.args.edges.now le in rw all at c.loop-i.invariant.0

pub returns-clause-same : goal.returns-clause-same
returns-clause-same c =
    let le : length c.args.edges.now ≤ c.loop-i.i = omega (arith, c.len-count.ensures) in
    let all = take_all c.loop-i.i c.args.edges.now le in rw all at c.loop-i.invariant.1
