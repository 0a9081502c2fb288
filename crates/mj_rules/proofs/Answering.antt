-- The answer that is computed is the one that the rules give.
use Rattle.std.proofs.Common.{◌≡◌, List, [], ◌∷◌, map, Option, Some, None, All, Contains, filter_map, refl, sym, ap, ap₂, subst, ◌∙◌, ◌↔◌}
use Rattle.std.specs.List.{cons_option}
use Rattle.std.proofs.lemmas.List.Elements.{All-nil, All-cons}
use Rattle.mj_tree.specs.Trees.{Name}
use Rattle.mj_answer.specs.AnswerValues.{ClassAnswerValue, AnswerValue}
use Rattle.ordered_names.specs.Order.{NameBefore}
use Rattle.mj_answer.specs.Order.{Before}
use Rattle.ordered_names.proofs.Alike.{Contains-first, Contains-later}
use Rattle.mj_members.specs.Declarations.{ClassDecl}
use Rattle.mj_classes.specs.Declarations.{decl}
use Rattle.mj_classes.specs.Laws.{ChainLaws, MemberLaws}
use Rattle.mj_classes.proofs.Climb.{decl_name}
use Rattle.named_files.specs.Projects.{SourceFile}
use Rattle.profiles.specs.declared.profile.Profile.{Profile}
use Rattle.mj_rules.specs.Sentences.{classes_in}
use Rattle.mj_rules.specs.Rules.{IsAnswerFor, Rules}
use Rattle.mj_rules.specs.FaultLists.{project_faults, NamesFitIn, class_faults, class_names}
use Rattle.mj_rules.specs.Answering.{set_of, name_order, fault_order, class_answer, rules_of}
use Rattle.mj_rules.specs.Laws.{SentenceLaw, BodyFaultLaws}
use Rattle.named_files.proofs.Listed.{place_of, at_map}
use Rattle.mj_rules.proofs.RowLemmas.{finds_one}
use Rattle.mj_rules.proofs.Sets.{names_compare, faults_compare, set_ascends, from_set, to_set}
use Rattle.mj_rules.proofs.Composing.{class_answer as answer_of_class, class_answers, project_answer}
use Rattle.mj_rules.proofs.OneAnswer.{one_answer}
use Rattle.mj_rules.proofs.Declared.{names_fit_in}
use Rattle.std.proofs.lemmas.Slice.Eq.{bytes_eq-Decides}

-- a name of one of the classes is declared
pub is_named : (cs : List ClassDecl) (n : Name) (o : Option ClassDecl) → decl cs n ≡ o → Contains (class_names cs) n → (k : ClassDecl) × (decl cs n ≡ Some k)
unfolding decl
is_named cs n (Some k) e h = (k, e)
is_named cs n None e h =
    let p = place_of (class_names cs) n h in
    let k = at_map (λ (j : ClassDecl). j.name) cs p.0 n p.1 in
    absurd (finds_one _ cs p.0 k.0 k.1 ((bytes_eq-Decides k.0.name n).1 k.2) e)

module _ (chains : ChainLaws) (members : MemberLaws) (bodies : BodyFaultLaws) (profile : Profile) (cs : List ClassDecl) (fit : NamesFitIn cs) where
  right_class : (n : Name) (k : ClassDecl) → decl cs n ≡ Some k → IsAnswerFor profile cs (class_answer profile cs k)
  right_class n k e =
      answer_of_class chains members bodies profile cs fit k (class_answer profile cs k) (ap (decl cs) (decl_name cs n k e) ∙ e) refl refl
      (set_ascends fault_order Before faults_compare (class_faults profile cs k)) (λ d. (from_set fault_order Before faults_compare (class_faults profile cs k) d, to_set fault_order Before faults_compare (class_faults profile cs k) d))

  abbrev answers_for : List Name → List ClassAnswerValue
  answers_for names = map (class_answer profile cs) (filter_map (decl cs) names)

  one_more : (n : Name) (names : List Name) (k : ClassDecl) → decl cs n ≡ Some k → answers_for (n ∷ names) ≡ class_answer profile cs k ∷ answers_for names
  one_more n names k e = ap (λ o. map (class_answer profile cs) (cons_option o (filter_map (decl cs) names))) e

  all_right : (names : List Name) → ((n : Name) → Contains names n → Contains (class_names cs) n) → All (IsAnswerFor profile cs) (answers_for names)
  all_right [] h = All-nil (IsAnswerFor profile cs)
  all_right (n ∷ names) h =
      let k = is_named cs n (decl cs n) refl (h n (Contains-first n names)) in
      subst (All (IsAnswerFor profile cs)) (sym (one_more n names k.0 k.1))
      (All-cons (IsAnswerFor profile cs) (class_answer profile cs k.0) (answers_for names) (right_class n k.0 k.1) (all_right names (λ m i. h m (Contains-later n names m i))))

  all_named : (names : List Name) → ((n : Name) → Contains names n → Contains (class_names cs) n) → map (λ (c : ClassAnswerValue). c.name) (answers_for names) ≡ names
  all_named [] h = refl
  all_named (n ∷ names) h =
      let k = is_named cs n (decl cs n) refl (h n (Contains-first n names)) in
      ap (map (λ (c : ClassAnswerValue). c.name)) (one_more n names k.0 k.1)
      ∙ ap₂ (λ (m : Name) (ms : List Name). m ∷ ms) (decl_name cs n k.0 k.1) (all_named names (λ m i. h m (Contains-later n names m i)))

module _ (chains : ChainLaws) (members : MemberLaws) (bodies : BodyFaultLaws) (sentences : SentenceLaw) (profile : Profile) (files : List SourceFile) where
  abbrev sorted_names : List Name
  sorted_names = set_of name_order (class_names (classes_in files))

  declared : (n : Name) → Contains sorted_names n → Contains (class_names (classes_in files)) n
  declared n h = from_set name_order NameBefore names_compare (class_names (classes_in files)) n h

  pub rules_hold : Rules profile files (rules_of profile files)
  unfolding rules_of
  rules_hold =
      project_answer sentences profile files (rules_of profile files)
      (set_ascends fault_order Before faults_compare (project_faults files))
      (λ d. (from_set fault_order Before faults_compare (project_faults files) d, to_set fault_order Before faults_compare (project_faults files) d))
      (class_answers profile (classes_in files) (rules_of profile files).classes sorted_names
      (set_ascends name_order NameBefore names_compare (class_names (classes_in files)))
      (λ n. (declared n, to_set name_order NameBefore names_compare (class_names (classes_in files)) n))
      (all_named chains members bodies profile (classes_in files) (names_fit_in files) sorted_names declared)
      (all_right chains members bodies profile (classes_in files) (names_fit_in files) sorted_names declared))

  pub answer_law : (a : AnswerValue) → Rules profile files a ↔ (a ≡ rules_of profile files)
  answer_law a = (λ r. one_answer profile files a (rules_of profile files) r rules_hold, λ e. subst (Rules profile files) (sym e) rules_hold)
