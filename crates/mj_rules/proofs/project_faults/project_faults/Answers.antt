use Rattle.std.proofs.Common.{◌≡◌, ◌∙◌, ◌++◌, false, true, not, ap, inl, inr, arith}
use Rattle.std.proofs.lemmas.Bool.Decides.{nat_tests}
use Rattle.mj_tree.specs.declared.place.Place.TheVariants.{Project}
use Rattle.mj_answer.specs.declared.code.Code.TheVariants.{E102}
use Rattle.named_files.specs.Repeats.{repeats}
use Rattle.mj_rules.specs.Sentences.{classes_in}
use Rattle.mj_rules.specs.FaultLists.{any_main, files_faults, repeated_class_faults, class_names, each_numbered, when_fault, project_faults}
use Rattle.mj_rules.proofs.Steps.{three_parts, main_added}
use Rattle.mj_rules.proofs.project_faults.project_faults.Goals as goal
use Rattle.mj_rules.proofs.project_faults.project_faults.Goals.{then-not-has_main+in_ok-push, else-not-has_main}

pub returns : goal.returns
unfolding project_faults
returns c =
    let any = rw c.files-files.ensures.files at c.in_ok-has_main.ensures.any in
    let files = rw c.files-files.ensures.files at c.in_ok-has_main.ensures.faults in
    let classes = rw (c.files-files.ensures.files, c.requires.classes) at c.in_ok-add_repeated_classes.ensures in
    let last : c.if-not-has_main.faults.items ≡ c.add_repeated_classes.new.faults.items ++ when_fault (not c.in_ok-has_main.has_main) Project E102 =
    elim c.if-not-has_main.branch [
      | then-not-has_main+in_ok-push w ↦
          let off : c.in_ok-has_main.has_main ≡ false = grind (arith, nat_tests) in
          main_added c.add_repeated_classes.new.faults.items c.if-not-has_main.faults.items c.in_ok-has_main.has_main (inl (off, ap (λ v. v.items) w.faults-is ∙ w.in_ok-push.ensures.items))
      | else-not-has_main w ↦
          let on : c.in_ok-has_main.has_main ≡ true = grind (arith, nat_tests) in
          main_added c.add_repeated_classes.new.faults.items c.if-not-has_main.faults.items c.in_ok-has_main.has_main (inr (on, ap (λ v. v.items) w.faults-is))
    ] in
    three_parts (files_faults false c.args.project.now)
    (each_numbered (repeated_class_faults c.args.project.now) 0 (classes_in c.args.project.now) (repeats (class_names (classes_in c.args.project.now))))
    (when_fault (not (any_main c.args.project.now)) Project E102)
    c.new-faults.result.items c.add_file_faults.new.faults.items c.add_repeated_classes.new.faults.items c.if-not-has_main.faults.items c.new-faults.ensures.items files classes (rw any at last)
