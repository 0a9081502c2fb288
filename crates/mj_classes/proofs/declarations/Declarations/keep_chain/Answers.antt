use Rattle.std.proofs.Common.{◌∙◌, ap}
use Rattle.mj_members.specs.Classes.{classes_view, class_ref_view}
use Rattle.mj_classes.proofs.Keeping.{turn_inside, stretch_first, stretch_second, stretch_whole, stop_inside, view_pushed}
use Rattle.mj_classes.proofs.declarations.Declarations.keep_chain.Goals as goal

pub declaring_at-stop-requires : goal.declaring_at-stop-requires
declaring_at-stop-requires c = turn_inside (classes_view c.args.self.now.classes.items) c.requires.first.0 c.args.first c.args.turn c.requires.first.1 c.requires.turns

pub keep_until-requires : goal.keep_until-requires
keep_until-requires c =
    (stretch_first (classes_view c.args.self.now.classes.items) c.requires.first.0 c.args.first c.args.turn c.declaring_at-stop.result _ c.requires.first.1 c.requires.turns c.declaring_at-stop.ensures (ap (λ ks. classes_view ks) c.requires.none)).0

pub class_at-requires : goal.class_at-requires
class_at-requires c =
    let cs = classes_view c.args.self.now.classes.items in
    let w = stretch_first cs c.requires.first.0 c.args.first c.args.turn c.declaring_at-stop.result (classes_view c.args.classes.now.items) c.requires.first.1 c.requires.turns c.declaring_at-stop.ensures (ap (λ ks. classes_view ks) c.requires.none) in
    stop_inside cs c.args.first c.declaring_at-stop.result (classes_view c.args.classes.now.items) w.0 c.in-Some.place c.in-Some.is

pub above-requires : goal.above-requires
above-requires c =
    let cs = classes_view c.args.self.now.classes.items in
    let w = stretch_first cs c.requires.first.0 c.args.first c.args.turn c.declaring_at-stop.result (classes_view c.args.classes.now.items) c.requires.first.1 c.requires.turns c.declaring_at-stop.ensures (ap (λ ks. classes_view ks) c.requires.none) in
    stop_inside cs c.args.first c.declaring_at-stop.result (classes_view c.args.classes.now.items) w.0 c.in-Some.place c.in-Some.is

pub keep_until-requires-in-Some : goal.keep_until-requires-in-Some
keep_until-requires-in-Some c =
    let cs = classes_view c.args.self.now.classes.items in
    let none = classes_view c.args.classes.now.items in
    let w = stretch_first cs c.requires.first.0 c.args.first c.args.turn c.declaring_at-stop.result none c.requires.first.1 c.requires.turns c.declaring_at-stop.ensures (ap (λ ks. classes_view ks) c.requires.none) in
    (stretch_second cs c.args.first c.declaring_at-stop.result none (classes_view c.keep_until.new.classes.items) (classes_view c.push.new.self.items) w.0 w.2 c.in-Some.place c.in-Some.is (c.in_ok-keep_until.ensures w.0)
    (class_ref_view c.class_at.result) c.class_at.ensures (view_pushed c.keep_until.new.classes.items c.push.new.self.items c.class_at.result c.in_ok-push.ensures.items) c.above.result c.above.ensures).0

pub returns-in_ok-keep_until-2 : goal.returns-in_ok-keep_until-2
returns-in_ok-keep_until-2 c d e =
    let cs = classes_view c.args.self.now.classes.items in
    let none = classes_view c.args.classes.now.items in
    let w = stretch_first cs d c.args.first c.args.turn c.declaring_at-stop.result none e c.requires.turns c.declaring_at-stop.ensures (ap (λ ks. classes_view ks) c.requires.none) in
    let v = stretch_second cs c.args.first c.declaring_at-stop.result none (classes_view c.keep_until.new.classes.items) (classes_view c.push.new.self.items) w.0 w.2 c.in-Some.place c.in-Some.is (c.in_ok-keep_until.ensures w.0)
    (class_ref_view c.class_at.result) c.class_at.ensures (view_pushed c.keep_until.new.classes.items c.push.new.self.items c.class_at.result c.in_ok-push.ensures.items) c.above.result c.above.ensures in
    stretch_whole cs _ _ _ v.0 d (classes_view c.keep_until-in-Some.new.classes.items) (v.1 ∙ w.1) v.2 (c.in_ok-keep_until-2.ensures v.0)

pub returns-in_default : goal.returns-in_default
returns-in_default c d e =
    let cs = classes_view c.args.self.now.classes.items in
    let none = classes_view c.args.classes.now.items in
    let w = stretch_first cs d c.args.first c.args.turn c.declaring_at-stop.result none e c.requires.turns c.declaring_at-stop.ensures (ap (λ ks. classes_view ks) c.requires.none) in
    stretch_whole cs _ _ _ w.0 d (classes_view c.keep_until.new.classes.items) w.1 (w.3 c.in_default.is) (c.in_ok-keep_until.ensures w.0)
