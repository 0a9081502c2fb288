use Rattle.std.proofs.Common.{arith}
use Rattle.mj_classes.specs.Index.{declared_in}
use Rattle.mj_tables.proofs.TableSteps.{next_first, next_within, places_pushed}
use Rattle.mj_tables.proofs.making.missing_above.Goals as goal

pub offset_bounds-tables-above : goal.offset_bounds-tables-above
offset_bounds-tables-above c =
    let cs = declared_in c.args.declarations.now in
    let lt = next_within cs c.loop.at c.in-Some.above c.loop.invariant.here c.in-Some.ensures in
    omega (arith, lt, c.requires.all)

pub bounds-tables-above : goal.bounds-tables-above
bounds-tables-above c =
    let cs = declared_in c.args.declarations.now in
    let lt = next_within cs c.loop.at c.in-Some.above c.loop.invariant.here c.in-Some.ensures in
    omega (arith, lt, c.requires.all)

pub returns-then-above-turn : goal.returns-then-above-turn
returns-then-above-turn c =
    let cs = declared_in c.args.declarations.now in
    places_pushed cs c.loop.places.items c.push.new.self.items c.in-Some.above c.loop.invariant.places (next_first cs c.loop.at c.in-Some.above c.loop.invariant.here c.in-Some.ensures) c.in_ok-push.ensures.items

pub loop-preserved : goal.loop-preserved
loop-preserved c =
    let cs = declared_in c.args.declarations.now in
    let first = next_first cs c.loop.at c.in-Some.above c.loop.invariant.here c.in-Some.ensures in
    record { here = first; places = places_pushed cs c.loop.places.items c.push.new.self.items c.in-Some.above c.loop.invariant.places first c.in_ok-push.ensures.items }
