use Rattle.std.proofs.Common.{◌<◌, ◌≤◌, [], length, arith, sym, subst, ◌∙◌}
use Rattle.std.proofs.lemmas.List.{take_all}
use Rattle.redgreen_audit.specs.Checks.{HaveOnce}
use Rattle.redgreen_audit.proofs.SeenKeys.{not_true, not_false, places_more, not_once}
use Rattle.redgreen_audit.proofs.keys.are_distinct.Goals as goal

pub returns-then-not-new : goal.returns-then-not-new
returns-then-not-new c =
    let lt : c.loop-place.place-index < length c.args.places.now = omega arith in
    not_once c.args.places.now c.loop-place.place-index c.loop-place.seen.keys lt c.loop-place.invariant.seen (not_false _ (sym c.if-not-new.true ∙ c.in_ok-new.ensures.added))

pub loop-place-preserved : goal.loop-place-preserved
loop-place-preserved c =
    let lt : c.loop-place.place-index < length c.args.places.now = omega arith in
    let s = places_more c.args.places.now c.loop-place.place-index c.loop-place.seen.keys c.insert_full.new.self.keys lt c.loop-place.invariant.once c.loop-place.invariant.seen (not_true _ (sym c.if-not-new.false ∙ c.in_ok-new.ensures.added)) c.in_ok-new.ensures.keys in
    record { once = s.once; seen = s.seen }

pub returns : goal.returns
returns c =
    let le : length c.args.places.now ≤ c.loop-place.place-index = omega arith in
    subst (HaveOnce []) (take_all c.loop-place.place-index c.args.places.now le) c.loop-place.invariant.once
