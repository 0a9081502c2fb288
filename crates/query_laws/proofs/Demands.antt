-- The diagnostics of a body are those of the demands of its phrases.
use Rattle.std.proofs.Common.{◌≡◌, ◌↔◌, map, Contains, refl, sym, ap, subst, ◌∙◌}
use Rattle.std.proofs.lemmas.Option.{same_Some}
use Rattle.std.proofs.lemmas.List.Elements.{All-contains}
use Rattle.mj_tree.specs.Trees.{Name}
use Rattle.mj_tree.specs.declared.place.Place.TheVariants.{Inside}
use Rattle.mj_answer.specs.AnswerValues.{ClassAnswerValue}
use Rattle.mj_members.specs.Declarations.{ClassDecl}
use Rattle.mj_classes.specs.Declarations.{decl}
use Rattle.mj_classes.proofs.Climb.{decl_name}
use Rattle.mj_phrases.specs.declared.verdict.Mistake.{Mistake}
use Rattle.named_files.proofs.Listed.{contains_at, place_of, at_map}
use Rattle.profiles.specs.declared.profile.Profile.{Profile}
use Rattle.mj_rules.specs.Sentences.{classes_in}
use Rattle.mj_rules.specs.ClassFaults.{FaultOfClass}
use Rattle.mj_rules.specs.Rules.{IsAnswerFor, Rules}
use Rattle.mj_rules.specs.Answering.{rules_of}
use Rattle.mj_rules.proofs.OneAnswer.{decl_stands}
use Rattle.mj_rules.proofs.LowerLaws.{chain_laws, member_laws, sentence_law}
use Rattle.mj_rules.proofs.LowerBodies.{body_laws}
use Rattle.mj_rules.proofs.Answering.{answer_law}
use Rattle.rule_laws.specs.Typing.{IsFaultIn, FaultOfMethod, FaultOfMain}
use Rattle.rule_laws.proofs.Answers.{faults_inside}
use Rattle.recorder.specs.Projects.{Project}
use Rattle.query_laws.specs.Given.{IsFirstDeclaration, IsFaultOf}
use Rattle.query_laws.specs.Laws.{DemandLaw}
use Rattle.query_laws.proofs.Meanings.{mean_laws}

module _ (profile : Profile) (p : Project) where
  rules : Rules profile p (rules_of profile p)
  rules = (answer_law chain_laws member_laws body_laws sentence_law profile p (rules_of profile p)).1 refl

  -- the answer speaks of each declared class
  answer_of : (c : Name) (k : ClassDecl) → IsFirstDeclaration p c k → (x : ClassAnswerValue) × Contains (rules_of profile p).classes x × (x.name ≡ c)
  answer_of c k e =
      let at = place_of (map (λ (x : ClassAnswerValue). x.name) (rules_of profile p).classes) k.name (rules.classes.all k (decl_stands (classes_in p) c k e)) in
      let x = at_map (λ (x : ClassAnswerValue). x.name) (rules_of profile p).classes at.0 k.name at.1 in
      (x.0, contains_at (rules_of profile p).classes at.0 x.0 x.1, x.2 ∙ decl_name (classes_in p) c k e)

  module _ (c m : Name) (x : Mistake) where
    abbrev IsFault : Type 0
    IsFault = IsFaultOf profile p c (Inside m x.mark) x.code

    by_class : (k : ClassDecl) → IsFirstDeclaration p c k → IsFault ↔ IsFaultIn p c m x
    by_class k e =
        let y = answer_of c k e in
        let is = All-contains (IsAnswerFor profile (classes_in p)) (rules_of profile p).classes y.0 rules.classes.each y.1 in
        let law = faults_inside profile p (rules_of profile p) rules y.0 y.1 m x in
        let exactly = is.faults.exactly (Inside m x.mark) x.code in
        let counts : IsFirstDeclaration p c is.class = ap (decl (classes_in p)) (sym y.2) ∙ is.first in (
          λ f.
              let same = same_Some f.declaration is.class (sym f.counts ∙ counts) in
              subst (λ (n : Name). IsFaultIn p n m x) y.2 (law.0 (exactly.1 (subst (λ (j : ClassDecl). FaultOfClass profile (classes_in p) j (Inside m x.mark) x.code) same f.is_fault))),
          λ f. record { declaration = is.class; counts = counts; is_fault = exactly.0 (law.1 (subst (λ (n : Name). IsFaultIn p n m x) (sym y.2) f)) },
        )

    declared : IsFaultIn p c m x → (k : ClassDecl) × IsFirstDeclaration p c k
    declared (FaultOfMethod a is named f) = (is.declaration, is.first_class)
    declared (FaultOfMain s is named f) = (is.declaration, is.first_class)

    demanded : IsFault ↔ IsFaultIn p c m x
    demanded = (λ f. (by_class f.declaration f.counts).0 f, λ f. let k = declared f in (by_class k.0 k.1).1 f)

pub demand_law : DemandLaw
demand_law profile p c m faults e x =
    let right = ((mean_laws profile p).check_body c m faults).0 e in
    let exactly = right.exactly (Inside m x.mark) x.code in
    (λ h. (demanded profile p c m x).0 (exactly.0 h).0, λ f. exactly.1 ((demanded profile p c m x).1 f, (x.mark, refl)))
