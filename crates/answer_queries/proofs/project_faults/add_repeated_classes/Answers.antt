use Rattle.std.proofs.Common.{◌≡◌, ◌<◌, ◌++◌, get_or, slice_get, false, ap, ◌∙◌, inl, inr, length, arith}
use Rattle.std.proofs.lemmas.List.{length-map}
use Rattle.mj_tree.proofs.Positions.{read_at}
use Rattle.named_files.specs.Repeats.{repeats}
use Rattle.named_files.proofs.Listed.{map_at}
use Rattle.mj_rules.proofs.Steps.{each_step, flag_read, flag_within}
use Rattle.answer_queries.specs.Trees.{named_trees}
use Rattle.answer_queries.specs.ProjectFaults.{NamedClass, class_names, name_view, names_view, repeated_class, repeat_faults}
use Rattle.answer_queries.proofs.Steps.{by_flag}
use Rattle.answer_queries.proofs.project_faults.add_repeated_classes.Goals as goal
use Rattle.answer_queries.proofs.project_faults.add_repeated_classes.Goals.{then-flags-number+in_ok-add_repeated_class, else-flags-number}

pub bounds-flags-number : goal.bounds-flags-number
bounds-flags-number c =
    let views = length-map c.args.classes.now name_view in
    let same = length-map (names_view c.args.classes.now) (λ (k : NamedClass). k.name) in
    let within : c.loop-number.number < length (class_names (names_view c.args.classes.now)) = omega arith in
    flag_within (class_names (names_view c.args.classes.now)) c.as_slice-flags.result.now c.loop-number.number (c.as_slice-flags.ensures.value ∙ c.in_ok-repeated.ensures) within

pub loop-number-preserved : goal.loop-number-preserved
loop-number-preserved c =
    let within : c.loop-number.number < length c.args.classes.now = omega arith in
    let views = length-map c.args.classes.now name_view in
    let same = length-map (names_view c.args.classes.now) (λ (k : NamedClass). k.name) in
    let named : c.loop-number.number < length (class_names (names_view c.args.classes.now)) = omega arith in
    let flags = c.as_slice-flags.ensures.value ∙ c.in_ok-repeated.ensures in
    let class = c.index-classes-number.result in
    let flag = get_or c.as_slice-flags.result.now c.loop-number.number false in
    let faults = repeat_faults (named_trees c.args.files.now) in
    let repeated = repeated_class (slice_get (named_trees c.args.files.now) class.file) class.number in
    let added : c.if-flags-number.faults.items ≡ c.loop-number.faults.items ++ faults c.loop-number.number flag (name_view class) =
    elim c.if-flags-number.branch [
      | then-flags-number+in_ok-add_repeated_class w ↦
          by_flag flag c.loop-number.faults.items c.if-flags-number.faults.items repeated (inl (w.if-flags-number.true, ap (λ v. v.items) w.faults-is ∙ w.in_ok-add_repeated_class.ensures))
      | else-flags-number w ↦ by_flag flag c.loop-number.faults.items c.if-flags-number.faults.items repeated (inr (w.if-flags-number.false, ap (λ v. v.items) w.faults-is))
    ] in
    each_step faults (names_view c.args.classes.now) (repeats (class_names (names_view c.args.classes.now))) c.loop-number.number (name_view class) flag
    c.loop-number.faults.items c.if-flags-number.faults.items
    (map_at name_view c.args.classes.now c.loop-number.number class (read_at c.args.classes.now c.loop-number.number class within c.index-classes-number.is))
    (flag_read (repeats (class_names (names_view c.args.classes.now))) c.as_slice-flags.result.now c.loop-number.number false flags
    (flag_within (class_names (names_view c.args.classes.now)) c.as_slice-flags.result.now c.loop-number.number flags named))
    added
    ∙ c.loop-number.invariant
