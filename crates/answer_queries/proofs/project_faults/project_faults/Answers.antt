use Rattle.std.proofs.Common.{◌≡◌, ◌∙◌, ◌++◌, false, true, not, ap, sym, subst, inl, inr, arith}
use Rattle.std.proofs.lemmas.Bool.Decides.{nat_tests}
use Rattle.mj_tree.specs.declared.place.Place.TheVariants.{Project}
use Rattle.mj_answer.specs.declared.code.Code.TheVariants.{E102}
use Rattle.mj_rules.specs.FaultLists.{when_fault}
use Rattle.mj_rules.proofs.Steps.{three_parts, main_added}
use Rattle.answer_bytes.specs.Storable.{AreProjectFaults}
use Rattle.answer_queries.specs.Trees.{named_trees}
use Rattle.answer_queries.specs.ProjectFaults.{any_main, files_faults, declared_names, names_view, classes_faults, project_faults}
use Rattle.answer_queries.proofs.ProjectPlaces.{all_placed}
use Rattle.answer_queries.proofs.project_faults.project_faults.Goals as goal
use Rattle.answer_queries.proofs.project_faults.project_faults.Goals.{then-not-has_main+in_ok-note_fault, else-not-has_main}

pub returns-clause-value : goal.returns-clause-value
unfolding project_faults
returns-clause-value c =
    let files = named_trees c.args.files.now in
    let last : c.if-not-has_main.faults.items ≡ c.add_repeated_classes.new.faults.items ++ when_fault (not c.in_ok-has_main.has_main) Project E102 =
    elim c.if-not-has_main.branch [
      | then-not-has_main+in_ok-note_fault w ↦
          let off : c.in_ok-has_main.has_main ≡ false = grind (arith, nat_tests) in
          main_added c.add_repeated_classes.new.faults.items c.if-not-has_main.faults.items c.in_ok-has_main.has_main (inl (off, ap (λ v. v.items) w.faults-is ∙ w.in_ok-note_fault.ensures))
      | else-not-has_main w ↦
          let on : c.in_ok-has_main.has_main ≡ true = grind (arith, nat_tests) in
          main_added c.add_repeated_classes.new.faults.items c.if-not-has_main.faults.items c.in_ok-has_main.has_main (inr (on, ap (λ v. v.items) w.faults-is))
    ] in
    three_parts (files_faults false files) (classes_faults files (declared_names files)) (when_fault (not (any_main files)) Project E102)
    c.new-faults.result.items c.add_file_faults.new.faults.items c.add_repeated_classes.new.faults.items c.if-not-has_main.faults.items c.new-faults.ensures.items
    c.in_ok-has_main.ensures.faults
    (c.in_ok-add_repeated_classes.ensures ∙ ap (λ ks. c.add_file_faults.new.faults.items ++ classes_faults files ks) (ap names_view c.deref.ensures.value ∙ c.in_ok-classes.ensures))
    (last ∙ ap (λ b. c.add_repeated_classes.new.faults.items ++ when_fault (not b) Project E102) c.in_ok-has_main.ensures.any)

pub returns-clause-places : goal.returns-clause-places
returns-clause-places c = subst AreProjectFaults (sym (returns-clause-value c)) (all_placed (named_trees c.args.files.now))
