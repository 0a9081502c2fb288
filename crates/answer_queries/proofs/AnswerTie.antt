-- The answer for a project.
use Rattle.std.proofs.Common.{◌≡◌, List, [], ◌∷◌, ◌++◌, map, refl, sym, ap, subst, ◌∙◌, arith}
use Rattle.std.specs.Prelude.{flat_map}
use Rattle.std.specs.List.{AllByRecursion}
use Rattle.item_ids.specs.declared.key.Key.{Key}
use Rattle.item_ids.specs.declared.key.Key.TheVariants as keys
use Rattle.mj_tree.specs.Trees.{Name}
use Rattle.mj_answer.specs.declared.diagnostic.Diagnostic.{Diagnostic}
use Rattle.mj_answer.specs.AnswerValues.{ClassAnswerValue, AnswerValue}
use Rattle.mj_members.specs.Declarations.{ClassDecl}
use Rattle.named_files.specs.Projects.{names_of, IsProject}
use Rattle.profiles.specs.declared.profile.Profile.{Profile}
use Rattle.mj_rules.specs.Sentences.{classes_in}
use Rattle.mj_rules.specs.Answering as answering
use Rattle.mj_rules.specs.Answering.{first_classes, rules_of}
use Rattle.result_bytes.specs.Parts.{files_in, index_in, tree_in}
use Rattle.result_bytes.specs.declared.value.Value.TheVariants as values
use Rattle.recorder.specs.Projects.{Project}
use Rattle.recorder.specs.Programs.{Prog, Ret, Ask, runs, asks, Fits, each}
use Rattle.recorder.proofs.Rules.{each_fits, each_map}
use Rattle.query_rules.specs.Items.{index_row, index_of, fault_set}
use Rattle.query_rules.specs.Meaning.{mean}
use Rattle.query_rules.specs.Reads.{all_trees, answer_parts, asked_keys, reads}
use Rattle.member_queries.proofs.Passes.{Passes, Stays, Reads, passes_runs, passes_asks, passes_then, passes_each, flat_one}
use Rattle.member_queries.proofs.FaultSets.{fold_append}
use Rattle.answer_queries.specs.Trees.{NamedTree, tree_step}
use Rattle.answer_queries.specs.ProjectFaults.{project_faults}
use Rattle.answer_queries.specs.Answer.{class_answer, class_step, answer, classes_steps, answer_steps}
use Rattle.answer_queries.specs.Laws.{AnswerTies}
use Rattle.answer_queries.proofs.FileTrees.{read_files, tree_of_name, read_by_name}
use Rattle.answer_queries.proofs.ProjectFaults.{faults_same}
use Rattle.answer_queries.proofs.FirstClasses.{IsFirst, are_first}

module _ (profile : Profile) (p : Project) (is : IsProject p) where
  abbrev cs : List ClassDecl
  cs = classes_in p

  -- ---- the trees

  one_tree : (n : Name) (files : List NamedTree) (q : List NamedTree → Prog) → Passes (mean profile p) (tree_step n files q) (keys.Tree n ∷ []) (q (files ++ tree_of_name p n ∷ []))
  unfolding mean
  one_tree n files q = Reads (keys.Tree n) (λ v. q (files ++ (n, tree_in v) ∷ [])) [] (q (files ++ tree_of_name p n ∷ [])) (Stays _)

  every_tree : (ns : List Name) → AllByRecursion (λ (n : Name). (files : List NamedTree) (q : List NamedTree → Prog) → Passes (mean profile p) (tree_step n files q) (keys.Tree n ∷ []) (q (files ++ tree_of_name p n ∷ []))) ns
  every_tree [] = tt
  every_tree (n ∷ ns) = (one_tree n, every_tree ns)

  trees_pass : (q : List NamedTree → Prog) → Passes (mean profile p) (each tree_step (names_of p) [] q) (all_trees p) (q (read_files p))
  trees_pass q =
      subst (λ (ks : List Key). Passes (mean profile p) (each tree_step (names_of p) [] q) ks (q (read_files p))) (flat_one keys.Tree (names_of p))
      (subst (λ (fs : List NamedTree). Passes (mean profile p) (each tree_step (names_of p) [] q) (flat_map (λ (n : Name). keys.Tree n ∷ []) (names_of p)) (q fs))
      (fold_append (λ n. tree_of_name p n ∷ []) (names_of p) [] ∙ flat_one (tree_of_name p) (names_of p) ∙ read_by_name p is)
      (passes_each (mean profile p) tree_step (λ (n : Name). keys.Tree n ∷ []) (λ n files. files ++ tree_of_name p n ∷ []) (names_of p) (every_tree (names_of p)) [] q))

  -- ---- the classes

  one_class : (k : ClassDecl) → IsFirst cs k → (classes : List ClassAnswerValue) (q : List ClassAnswerValue → Prog)
      → Passes (mean profile p) (class_step (index_row p k) classes q) (answer_parts k) (q (classes ++ answering.class_answer profile cs k ∷ []))
  unfolding mean fault_set
  one_class k first classes q =
      Reads (keys.Members k.name) (λ members. Ask (keys.Diags k.name) (λ diags. q (classes ++ class_answer k.name members diags ∷ []))) (keys.Diags k.name ∷ []) (q (classes ++ answering.class_answer profile cs k ∷ []))
      (Reads (keys.Diags k.name) (λ diags. q (classes ++ class_answer k.name (mean profile p (keys.Members k.name)) diags ∷ [])) [] (q (classes ++ answering.class_answer profile cs k ∷ []))
      (rw first (Stays _)))

  every_class : (ks : List ClassDecl) → AllByRecursion (IsFirst cs) ks
      → AllByRecursion (λ (k : ClassDecl). (classes : List ClassAnswerValue) (q : List ClassAnswerValue → Prog) → Passes (mean profile p) (class_step (index_row p k) classes q) (answer_parts k) (q (classes ++ answering.class_answer profile cs k ∷ []))) ks
  every_class [] h = tt
  every_class (k ∷ ks) h = (one_class k h.0, every_class ks h.1)

  classes_pass : (q : List ClassAnswerValue → Prog) → Passes (mean profile p) (each class_step (index_of p) [] q) (flat_map answer_parts (first_classes cs)) (q (map (answering.class_answer profile cs) (first_classes cs)))
  classes_pass q =
      let ks : List ClassDecl = first_classes cs in
      subst (λ (x : Prog). Passes (mean profile p) x (flat_map answer_parts ks) (q (map (answering.class_answer profile cs) ks))) (sym (each_map class_step (index_row p) ks [] q))
      (subst (λ (classes : List ClassAnswerValue). Passes (mean profile p) (each (λ (k : ClassDecl). class_step (index_row p k)) ks [] q) (flat_map answer_parts ks) (q classes))
      (fold_append (λ k. answering.class_answer profile cs k ∷ []) ks [] ∙ flat_one (answering.class_answer profile cs) ks)
      (passes_each (mean profile p) (λ (k : ClassDecl). class_step (index_row p k)) answer_parts (λ k classes. classes ++ answering.class_answer profile cs k ∷ []) ks (every_class ks (are_first cs)) [] q))

  -- ---- the answer

  rules_same : answer (project_faults (read_files p)) (map (answering.class_answer profile cs) (first_classes cs)) ≡ rules_of profile p
  unfolding rules_of fault_set
  rules_same = ap (λ (ds : List Diagnostic). answer ds (map (answering.class_answer profile cs) (first_classes cs))) (faults_same p)

  index_pass : Passes (mean profile p) (classes_steps (project_faults (read_files p)) (λ a. Ret (values.Answer a))) (keys.Index ∷ flat_map answer_parts (first_classes cs)) (Ret (values.Answer (rules_of profile p)))
  unfolding mean
  index_pass =
      Reads keys.Index (λ v. each class_step (index_in v) [] (λ classes. Ret (values.Answer (answer (project_faults (read_files p)) classes)))) (flat_map answer_parts (first_classes cs)) (Ret (values.Answer (rules_of profile p)))
      (subst (λ (a : AnswerValue). Passes (mean profile p) (each class_step (index_of p) [] (λ classes. Ret (values.Answer (answer (project_faults (read_files p)) classes)))) (flat_map answer_parts (first_classes cs)) (Ret (values.Answer a))) rules_same
      (classes_pass (λ classes. Ret (values.Answer (answer (project_faults (read_files p)) classes)))))

  passes : Passes (mean profile p) (answer_steps Ret) (asked_keys profile p keys.Answer) (Ret (mean profile p keys.Answer))
  unfolding mean asked_keys
  passes =
      Reads keys.Files (λ v. each tree_step (files_in v) [] (λ files. classes_steps (project_faults files) (λ a. Ret (values.Answer a)))) (all_trees p ++ (keys.Index ∷ flat_map answer_parts (first_classes cs))) (Ret (values.Answer (rules_of profile p)))
      (passes_then (mean profile p) (each tree_step (names_of p) [] (λ files. classes_steps (project_faults files) (λ a. Ret (values.Answer a)))) (all_trees p)
      (classes_steps (project_faults (read_files p)) (λ a. Ret (values.Answer a))) (keys.Index ∷ flat_map answer_parts (first_classes cs)) (Ret (values.Answer (rules_of profile p)))
      (trees_pass (λ files. classes_steps (project_faults files) (λ a. Ret (values.Answer a)))) index_pass)

-- ---- ranks and kinds

fits : Fits keys.Answer (answer_steps Ret)
unfolding Fits
fits = (omega arith, λ v. each_fits keys.Answer tree_step (λ n files q g. (omega arith, λ w. g (files ++ (n, tree_in w) ∷ []))) (files_in v) [] (λ files. classes_steps (project_faults files) (λ a. Ret (values.Answer a))) by_files)
  where
    by_files : (files : List NamedTree) → Fits keys.Answer (classes_steps (project_faults files) (λ a. Ret (values.Answer a)))
    by_files files = (
      omega arith,
      λ v. each_fits keys.Answer class_step
          (λ row classes q g. (omega arith, λ members. (omega arith, λ diags. g (classes ++ class_answer row.class members diags ∷ []))))
          (index_in v) [] (λ classes. Ret (values.Answer (answer (project_faults files) classes))) (λ classes. refl),
    )

pub answer_ties : AnswerTies
unfolding runs asks reads
answer_ties profile = record {
  means = λ p is. sym (passes_runs (mean profile p) (answer_steps Ret) (asked_keys profile p keys.Answer) (Ret (mean profile p keys.Answer)) (passes profile p is));
  asked = λ p is. sym (passes_asks (mean profile p) (answer_steps Ret) (asked_keys profile p keys.Answer) (Ret (mean profile p keys.Answer)) (λ seen. refl) (passes profile p is) []);
  fits = fits;
}
