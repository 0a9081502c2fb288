use Rattle.std.proofs.Common.{◌∙◌, ◌≤◌, length, refl, sym, ap, arith}
use Rattle.std.proofs.lemmas.List.{length-map}
use Rattle.mj_members.specs.Classes.{classes_view, class_ref_view}
use Rattle.mj_classes.proofs.Keeping.{stretch_at, stretch_stops, stretch_some, stretch_found, stretch_on, stretch_ends, same_places, other_places, same_goal, view_pushed}
use Rattle.mj_classes.proofs.declarations.Declarations.keep_until.Goals as goal

pub loop-init : goal.loop-init
loop-init c = λ w. (w, refl, refl, omega arith)

pub declaring_at-next-requires : goal.declaring_at-next-requires
declaring_at-next-requires c =
    let v = c.loop.invariant c.requires in
    stretch_at (classes_view c.args.self.now.classes.items) c.loop.at c.args.stop (classes_view c.loop.classes.items) v.0

pub returns-then-eq : goal.returns-then-eq
returns-then-eq c = λ w.
    let cs = classes_view c.args.self.now.classes.items in
    let v = c.loop.invariant w in
    let same = same_places c.declaring_at-next.result c.args.stop (sym c.eq.ensures ∙ c.if-eq.true) in
    same_goal cs v.0.chain w.chain v.0.goal w.goal (classes_view c.loop.classes.items) v.1 v.2 (stretch_stops cs c.loop.at c.args.stop (classes_view c.loop.classes.items) v.0 c.declaring_at-next.result c.declaring_at-next.ensures same)

pub unreachable-requires : goal.unreachable-requires
unreachable-requires c =
    let v = c.loop.invariant c.requires in
    let apart = other_places c.declaring_at-next.result c.args.stop (sym c.eq.ensures ∙ c.if-eq.false) in
    stretch_some (classes_view c.args.self.now.classes.items) c.loop.at c.args.stop (classes_view c.loop.classes.items) v.0 c.declaring_at-next.result c.in_default.is c.declaring_at-next.ensures apart

pub class_at-requires : goal.class_at-requires
class_at-requires c =
    let v = c.loop.invariant c.requires in
    let apart = other_places c.declaring_at-next.result c.args.stop (sym c.eq.ensures ∙ c.if-eq.false) in
    stretch_found (classes_view c.args.self.now.classes.items) c.loop.at c.args.stop (classes_view c.loop.classes.items) v.0 c.declaring_at-next.result c.declaring_at-next.ensures apart c.in-Some.place c.in-Some.is

pub above-at-requires : goal.above-at-requires
above-at-requires c =
    let v = c.loop.invariant c.requires in
    let apart = other_places c.declaring_at-next.result c.args.stop (sym c.eq.ensures ∙ c.if-eq.false) in
    stretch_found (classes_view c.args.self.now.classes.items) c.loop.at c.args.stop (classes_view c.loop.classes.items) v.0 c.declaring_at-next.result c.declaring_at-next.ensures apart c.in-Some.place c.in-Some.is

pub loop-preserved : goal.loop-preserved
loop-preserved c = λ w.
    let v = c.loop.invariant w in
    let far = v.3 in
    let apart = other_places c.declaring_at-next.result c.args.stop (sym c.eq.ensures ∙ c.if-eq.false) in
    let on = stretch_on (classes_view c.args.self.now.classes.items) c.loop.at c.args.stop (classes_view c.loop.classes.items) v.0 c.declaring_at-next.result c.declaring_at-next.ensures apart c.in-Some.place c.in-Some.is
    (class_ref_view c.class_at.result) c.class_at.ensures (classes_view c.push.new.self.items) (view_pushed c.loop.classes.items c.push.new.self.items c.class_at.result c.in_ok-push.ensures.items) c.above-at.result c.above-at.ensures in
    let more = on.3 in
    (on.0, on.1 ∙ v.1, on.2 ∙ v.2, omega arith)

pub returns : goal.returns
returns c = λ w.
    let cs = classes_view c.args.self.now.classes.items in
    let v = c.loop.invariant w in
    let far = v.3 in
    let all : length cs ≤ v.0.number = omega (arith, ap length c.classes-end.ensures, length-map c.classes-end.result.now class_ref_view) in
    same_goal cs v.0.chain w.chain v.0.goal w.goal (classes_view c.loop.classes.items) v.1 v.2 (stretch_ends cs c.loop.at c.args.stop (classes_view c.loop.classes.items) v.0 all)
