-- The diagnostics in a method that the answer has are those of the method's phrases and declared
-- types.
use Rattle.std.proofs.Common.{◌≡◌, ℕ, List, Some, Contains, refl, sym, ◌∙◌, subst, ◌⊎◌, inl, inr}
use Rattle.std.specs.Prelude.{◌↔◌}
use Rattle.std.proofs.lemmas.Option.{same_Some}
use Rattle.std.proofs.lemmas.List.Elements.{All-contains}
use Rattle.mj_tree.specs.Trees.{Name, Statement, Method}
use Rattle.mj_tree.specs.declared.place.Place.{Place}
use Rattle.mj_tree.specs.declared.place.Place.TheVariants as place
use Rattle.mj_answer.specs.declared.code.Code.{Code}
use Rattle.mj_answer.specs.AnswerValues.{ClassAnswerValue, AnswerValue}
use Rattle.mj_members.specs.Declarations.{ClassDecl}
use Rattle.mj_classes.specs.Declarations.{decl}
use Rattle.mj_classes.proofs.Climb.{decl_name}
use Rattle.mj_phrases.specs.declared.verdict.Mistake.{Mistake}
use Rattle.mj_typing.specs.Bodies.{MethodFault, MainFault}
use Rattle.named_files.specs.Projects.{SourceFile}
use Rattle.profiles.specs.declared.profile.Profile.{Profile}
use Rattle.mj_rules.specs.Sentences.{classes_in}
use Rattle.mj_rules.specs.Worlds.{world_of}
use Rattle.mj_rules.specs.ClassFaults.{FaultOfClass, UndeclaredSuperclass, CyclicChain, RepeatedField, RepeatedMethod, OtherSignature, UndeclaredFieldType, InMethod, InMain, IsFirstMethod, main_word, main_of}
use Rattle.mj_rules.specs.Rules.{IsAnswerFor, Rules}
use Rattle.mj_rules.proofs.Declared.{IsOrderly, orderly_class}
use Rattle.rule_laws.specs.Faults.{FaultInMethod, FaultInMain}
use Rattle.rule_laws.specs.Typing.{world_in, IsMethodIn, IsMainIn, IsFaultIn, FaultOfMethod, FaultOfMain}
use Rattle.rule_laws.specs.ProjectLaws.{fault_inside}
use Rattle.rule_laws.proofs.Bodies.{in_method, from_method, in_main, from_main}
use Rattle.rule_laws.proofs.Scopes.{one_first, no_method}

same_name : {a b : Name} {i j : ℕ} → place.Inside a i ≡ place.Inside b j → a ≡ b
same_name e = cc

same_mark : {a b : Name} {i j : ℕ} → place.Inside a i ≡ place.Inside b j → i ≡ j
same_mark e = cc

module _ (profile : Profile) (cs : List ClassDecl) (k : ClassDecl) (orderly : IsOrderly k) where
  module _ (n : ℕ) (m : Method) (is : IsFirstMethod k n m) (mark : ℕ) where
    of_method : (p : Place) (code : Code) → FaultOfClass profile cs k p code → p ≡ place.Inside m.name mark → MethodFault (world_of cs) k.name m (record { mark = mark; code = code })
    of_method p code (UndeclaredSuperclass u e d) at = absurd cc
    of_method p code (CyclicChain chain u e) at = absurd cc
    of_method p code (RepeatedField i j a b l e f s) at = absurd cc
    of_method p code (RepeatedMethod i j a b l e f s) at = absurd cc
    of_method p code (OtherSignature i a b f o s) at = absurd cc
    of_method p code (UndeclaredFieldType i f u e t d) at = absurd cc
    of_method p code (InMethod i a x f h) at =
        let whole = subst (λ (a : Method). MethodFault (world_of cs) k.name a x) (one_first k i n a m f is (same_name at)) h in
        subst (λ (j : ℕ). MethodFault (world_of cs) k.name m (record { mark = j; code = x.code })) (same_mark at) whole
    of_method p code (InMain statement x e h) at = absurd (no_method k n m (orderly.main_alone statement e) is.here)

  module _ (statement : Statement) (is : k.main ≡ Some statement) (mark : ℕ) where
    of_main : (p : Place) (code : Code) → FaultOfClass profile cs k p code → p ≡ place.Inside main_word mark → MainFault (world_of cs) (main_of k statement) (record { mark = mark; code = code })
    of_main p code (UndeclaredSuperclass u e d) at = absurd cc
    of_main p code (CyclicChain chain u e) at = absurd cc
    of_main p code (RepeatedField i j a b l e f s) at = absurd cc
    of_main p code (RepeatedMethod i j a b l e f s) at = absurd cc
    of_main p code (OtherSignature i a b f o s) at = absurd cc
    of_main p code (UndeclaredFieldType i f u e t d) at = absurd cc
    of_main p code (InMethod i a x f h) at = absurd (no_method k i a (orderly.main_alone statement is) f.here)
    of_main p code (InMain other x e h) at =
        let whole = subst (λ (s : Statement). MainFault (world_of cs) (main_of k s) x) (same_Some other statement (sym e ∙ is)) h in
        subst (λ (j : ℕ). MainFault (world_of cs) (main_of k statement) (record { mark = j; code = x.code })) (same_mark at) whole

-- ---- answers

module _ (profile : Profile) (files : List SourceFile) (answer : AnswerValue) (rules : Rules profile files answer) (class : ClassAnswerValue) (listed : Contains answer.classes class) where
  for_class : IsAnswerFor profile (classes_in files) class
  for_class = All-contains (IsAnswerFor profile (classes_in files)) answer.classes class rules.classes.each listed

  -- the class that the answer speaks of
  faults_are : (k : ClassDecl) → decl (classes_in files) class.name ≡ Some k → (p : Place) (code : Code) → Contains class.faults (record { place = p; code = code }) ↔ FaultOfClass profile (classes_in files) k p code
  faults_are k e p code =
      subst (λ (k : ClassDecl). Contains class.faults (record { place = p; code = code }) ↔ FaultOfClass profile (classes_in files) k p code) (same_Some for_class.class k (sym for_class.first ∙ e)) (for_class.faults.exactly p code)

  inside_of : (k : ClassDecl) → decl (classes_in files) class.name ≡ Some k → (p : Place) (code : Code) (name : Name) (mark : ℕ) → FaultOfClass profile (classes_in files) k p code → p ≡ place.Inside name mark
      → ((m : Method) × IsMethodIn files class.name m × (m.name ≡ name)) ⊎ ((statement : Statement) × IsMainIn files class.name statement × (main_word ≡ name))
  inside_of k first p code name mark (UndeclaredSuperclass u e d) at = absurd cc
  inside_of k first p code name mark (CyclicChain chain u e) at = absurd cc
  inside_of k first p code name mark (RepeatedField i j a b l e f s) at = absurd cc
  inside_of k first p code name mark (RepeatedMethod i j a b l e f s) at = absurd cc
  inside_of k first p code name mark (OtherSignature i a b f o s) at = absurd cc
  inside_of k first p code name mark (UndeclaredFieldType i f u e t d) at = absurd cc
  inside_of k first p code name mark (InMethod n m x f h) at = inl (m, record { declaration = k; first_class = first; number = n; first_method = f }, same_name at)
  inside_of k first p code name mark (InMain statement x e h) at = inr (statement, record { declaration = k; first_class = first; main = e }, same_name at)

  no_other_faults : (name : Name) (x : Mistake) → Contains class.faults (fault_inside name x)
      → ((m : Method) × IsMethodIn files class.name m × (m.name ≡ name)) ⊎ ((statement : Statement) × IsMainIn files class.name statement × (main_word ≡ name))
  no_other_faults name x h = inside_of for_class.class for_class.first (place.Inside name x.mark) x.code name x.mark ((for_class.faults.exactly (place.Inside name x.mark) x.code).0 h) refl

  method_to : (m : Method) (is : IsMethodIn files class.name m) (x : Mistake) → Contains class.faults (fault_inside m.name x) → FaultInMethod (world_in files) class.name m x
  method_to m is x h =
      let k = is.declaration in
      let o = orderly_class files class.name k is.first_class in
      let named = decl_name (classes_in files) class.name k is.first_class in
      let f = of_method profile (classes_in files) k o is.number m is.first_method x.mark (place.Inside m.name x.mark) x.code ((faults_are k is.first_class (place.Inside m.name x.mark) x.code).0 h) refl in
      in_method (world_in files) class.name m x (subst (λ (c : Name). MethodFault (world_in files) c m x) named f)

  to_method : (m : Method) (is : IsMethodIn files class.name m) (x : Mistake) → FaultInMethod (world_in files) class.name m x → Contains class.faults (fault_inside m.name x)
  to_method m is x f =
      let k = is.declaration in
      let named = decl_name (classes_in files) class.name k is.first_class in
      let g = from_method (world_in files) class.name m x f in
      (faults_are k is.first_class (place.Inside m.name x.mark) x.code).1 (InMethod is.number m x is.first_method (subst (λ (c : Name). MethodFault (world_in files) c m x) (sym named) g))

  main_to : (statement : Statement) (is : IsMainIn files class.name statement) (x : Mistake) → Contains class.faults (fault_inside main_word x) → FaultInMain (world_in files) (record { name = class.name; statement = statement }) x
  main_to statement is x h =
      let k = is.declaration in
      let o = orderly_class files class.name k is.first_class in
      let f = of_main profile (classes_in files) k o statement is.main x.mark (place.Inside main_word x.mark) x.code ((faults_are k is.first_class (place.Inside main_word x.mark) x.code).0 h) refl in
      in_main (world_in files) (record { name = class.name; statement = statement }) x f

  to_main : (statement : Statement) (is : IsMainIn files class.name statement) (x : Mistake) → FaultInMain (world_in files) (record { name = class.name; statement = statement }) x → Contains class.faults (fault_inside main_word x)
  to_main statement is x f =
      let k = is.declaration in
      (faults_are k is.first_class (place.Inside main_word x.mark) x.code).1 (InMain statement x is.main (from_main (world_in files) (record { name = class.name; statement = statement }) x f))

  from_answer : (m : Name) (x : Mistake) → Contains class.faults (fault_inside m x) → IsFaultIn files class.name m x
  from_answer m x h =
      elim (no_other_faults m x h) [
        | inl r ↦ FaultOfMethod r.0 r.1 r.2 (method_to r.0 r.1 x (subst (λ (n : Name). Contains class.faults (fault_inside n x)) (sym r.2) h))
        | inr r ↦ FaultOfMain r.0 r.1 r.2 (main_to r.0 r.1 x (subst (λ (n : Name). Contains class.faults (fault_inside n x)) (sym r.2) h))
      ]

  to_answer : (m : Name) (x : Mistake) → IsFaultIn files class.name m x → Contains class.faults (fault_inside m x)
  to_answer m x (FaultOfMethod method is e f) = subst (λ (n : Name). Contains class.faults (fault_inside n x)) e (to_method method is x f)
  to_answer m x (FaultOfMain statement is e f) = subst (λ (n : Name). Contains class.faults (fault_inside n x)) e (to_main statement is x f)

  pub faults_inside : (m : Name) (x : Mistake) → Contains class.faults (fault_inside m x) ↔ IsFaultIn files class.name m x
  faults_inside m x = (from_answer m x, to_answer m x)
