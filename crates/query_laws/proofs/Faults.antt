-- The diagnostics that the rules give are those that queries mean.
use Rattle.std.proofs.Common.{◌≡◌, ◌↔◌, ℕ, Bool, true, false, not, List, Option, Some, None, Contains, refl, sym, ap, subst, ◌∙◌, inl, inr}
use Rattle.std.proofs.lemmas.Option.{none-some, same_Some}
use Rattle.std.proofs.lemmas.List.Elements.{Contains-append_left, Contains-append_cases}
use Rattle.mj_tree.specs.Trees.{Name, Statement, Method}
use Rattle.mj_tree.specs.declared.place.Place.{Place}
use Rattle.mj_tree.specs.declared.place.Place.TheVariants as places
use Rattle.mj_answer.specs.declared.code.Code.{Code}
use Rattle.mj_answer.specs.declared.code.Code.TheVariants.{E201, E202, E203, E204, E205, E206}
use Rattle.mj_answer.specs.declared.diagnostic.Diagnostic.{Diagnostic}
use Rattle.mj_answer.specs.Order.{Before}
use Rattle.ordered_names.proofs.Alike.{nowhere}
use Rattle.mj_members.specs.Declarations.{ClassDecl}
use Rattle.mj_classes.specs.Declarations.{decl}
use Rattle.mj_classes.specs.Chains.{Chain, chain_of}
use Rattle.mj_classes.proofs.Climb.{decl_name}
use Rattle.mj_phrases.specs.declared.verdict.Mistake.{Mistake}
use Rattle.mj_phrases.specs.Inquiries.{Sig}
use Rattle.mj_typing.specs.Bodies.{MethodFault, MainFault, method_faults, main_faults}
use Rattle.named_files.specs.Repeats.{repeats}
use Rattle.named_files.proofs.Listed.{contains_at}
use Rattle.profiles.specs.declared.profile.Profile.{Profile}
use Rattle.mj_rules.specs.Sentences.{classes_in}
use Rattle.mj_rules.specs.Worlds.{world_of}
use Rattle.mj_rules.specs.Rules.{AreTheFaults}
use Rattle.mj_rules.specs.ClassFaults.{FaultOfClass, UndeclaredSuperclass, CyclicChain, RepeatedField, RepeatedMethod, OtherSignature, UndeclaredFieldType, InMethod, InMain, main_word}
use Rattle.mj_rules.specs.FaultLists.{fault, when_fault, each_numbered, superclass_faults, chain_faults, is_undeclared, field_faults, may_override, override_faults, inside, rest_of, nearest_sig, method_faults_of, body_faults_of, main_method_faults, field_names, method_names, declaration_faults, body_faults, class_faults}
use Rattle.mj_rules.specs.Answering.{fault_order}
use Rattle.mj_rules.proofs.Numbered.{only, from_when, IsFlagged, from_all}
use Rattle.mj_rules.proofs.Sets.{faults_compare, set_ascends, from_set, to_set}
use Rattle.mj_rules.proofs.Declared.{orderly_class, names_fit_in}
use Rattle.mj_rules.proofs.ClassFaultLaws.{class_fault_law, from_inside, to_inside}
use Rattle.mj_rules.proofs.LowerLaws.{chain_laws}
use Rattle.mj_rules.proofs.LowerBodies.{body_laws}
use Rattle.mj_rules.proofs.OneAnswer.{one_fault_list}
use Rattle.tree_bytes.specs.Bodies.{BodyValue}
use Rattle.tree_bytes.specs.Bodies as bodies
use Rattle.recorder.specs.Projects.{Project}
use Rattle.query_rules.specs.Items.{class_at, body_at, mistakes_in, fault_set, faults_of}
use Rattle.query_laws.specs.Given.{IsFirstDeclaration, IsFaultOf, IsInside, IsFaultInside, IsFaultOutside}
use Rattle.query_laws.proofs.Bodies.{method_body, main_body, is_method, is_main}

-- ---- lists of diagnostics

pub faults_given : (Fault : Place → Code → Type 0) (found : List Diagnostic) → AreTheFaults Fault found → (ds : List Diagnostic) → (found ≡ ds) ↔ AreTheFaults Fault ds
faults_given Fault found right ds = (λ e. subst (AreTheFaults Fault) e right, λ other. one_fault_list Fault found ds right other)

abbrev HasJust : List Diagnostic → (Place → Code → Type 0) → Type 0
HasJust ds Fault = (place : Place) (code : Code) → Contains ds (fault place code) ↔ Fault place code

set_right : (Fault : Place → Code → Type 0) (ds : List Diagnostic) → HasJust ds Fault → AreTheFaults Fault (fault_set ds)
unfolding fault_set
set_right Fault ds law = record {
  ascending = set_ascends fault_order Before faults_compare ds;
  exactly = λ place code. (
    λ h. (law place code).0 (from_set fault_order Before faults_compare ds (fault place code) h),
    λ f. to_set fault_order Before faults_compare ds (fault place code) ((law place code).1 f),
  );
}

-- ---- places

abbrev Outside : Diagnostic → Type 0
Outside d = (m : Name) → IsInside m d.place → ⊥

class_apart : {m : Name} {mark : ℕ} → places.Class ≡ places.Inside m mark → ⊥
class_apart e = cc

field_apart : {n : ℕ} {m : Name} {mark : ℕ} → places.Field n ≡ places.Inside m mark → ⊥
field_apart e = cc

method_apart : {n : ℕ} {m : Name} {mark : ℕ} → places.Method n ≡ places.Inside m mark → ⊥
method_apart e = cc

same_name : {a b : Name} {i j : ℕ} → places.Inside a i ≡ places.Inside b j → a ≡ b
same_name e = cc

when_outside : (b : Bool) (place : Place) (code : Code) (d : Diagnostic) → Outside (fault place code) → Contains (when_fault b place code) d → Outside d
when_outside b place code d out h = subst Outside (from_when b place code d h).1 out

module _ (profile : Profile) (cs : List ClassDecl) (k : ClassDecl) (d : Diagnostic) where
  superclass_outside : (o : Option Name) → Contains (superclass_faults cs o) d → Outside d
  superclass_outside None h = absurd (nowhere d h)
  superclass_outside (Some u) h = when_outside _ places.Class E201 d (λ m is. class_apart is.1) h

  chain_outside : (o : Option Chain) → Contains (chain_faults o) d → Outside d
  chain_outside None h = absurd (nowhere d h)
  chain_outside (Some chain) h = when_outside _ places.Class E202 d (λ m is. class_apart is.1) h

  field_outside : IsFlagged (field_faults cs) k.fields (repeats (field_names k)) d → Outside d
  field_outside r =
      elim (Contains-append_cases (when_fault r.flag (places.Field r.i) E203) (when_fault (is_undeclared cs r.item.ty) (places.Field r.i) E206) d r.found) [
        | inl a ↦ when_outside r.flag (places.Field r.i) E203 d (λ m is. field_apart is.1) a
        | inr b ↦ when_outside (is_undeclared cs r.item.ty) (places.Field r.i) E206 d (λ m is. field_apart is.1) b
      ]

  override_outside : (n : ℕ) (a : Method) (o : Option Sig) → Contains (override_faults profile cs n a o) d → Outside d
  override_outside n a None h = absurd (nowhere d h)
  override_outside n a (Some sig) h = when_outside (not (may_override profile cs a sig)) (places.Method n) E205 d (λ m is. method_apart is.1) h

  by_flag : (overridden : Name → Option Sig) (n : ℕ) (flag : Bool) (a : Method) → Contains (method_faults_of profile cs overridden n flag a) d → Outside d
  by_flag overridden n true a h = subst Outside (only (fault (places.Method n) E204) d h) (λ m is. method_apart is.1)
  by_flag overridden n false a h = override_outside n a (overridden a.name) h

  declared_outside : Contains (declaration_faults profile cs k) d → Outside d
  unfolding declaration_faults
  declared_outside h =
      elim (Contains-append_cases (superclass_faults cs k.superclass) _ d h) [
        | inl a ↦ superclass_outside k.superclass a
        | inr b ↦ elim (Contains-append_cases (chain_faults (chain_of cs k.name)) _ d b) [
          | inl a ↦ chain_outside (chain_of cs k.name) a
          | inr c ↦ elim (Contains-append_cases (each_numbered (field_faults cs) 0 k.fields (repeats (field_names k))) (each_numbered (method_faults_of profile cs (nearest_sig (rest_of cs k.name))) 0 k.methods (repeats (method_names k))) d c) [
            | inl a ↦ field_outside (from_all (field_faults cs) k.fields (repeats (field_names k)) d a)
            | inr e ↦
                let r = from_all (method_faults_of profile cs (nearest_sig (rest_of cs k.name))) k.methods (repeats (method_names k)) d e in
                by_flag (nearest_sig (rest_of cs k.name)) r.i r.flag r.item r.found
          ]
        ]
      ]

-- ---- mistakes

is_inside : (m : Name) (mistakes : List Mistake) (d : Diagnostic) → Contains (inside m mistakes) d → IsInside m d.place
is_inside m mistakes d h = let x = from_inside m mistakes d h in (x.0.mark, ap (λ (e : Diagnostic). e.place) (sym x.2))

module _ (cs : List ClassDecl) (k : ClassDecl) (d : Diagnostic) where
  abbrev InSome : Type 0
  InSome = (m : Name) × IsInside m d.place

  body_by_flag : (n : ℕ) (flag : Bool) (a : Method) → Contains (body_faults_of cs k.name n flag a) d → InSome
  body_by_flag n true a h = absurd (nowhere d h)
  body_by_flag n false a h = (a.name, is_inside a.name (method_faults (world_of cs) k.name a) d h)

  main_inside : (o : Option Statement) → Contains (main_method_faults cs k o) d → InSome
  main_inside None h = absurd (nowhere d h)
  main_inside (Some s) h = (main_word, is_inside main_word _ d h)

  body_inside : Contains (body_faults cs k) d → InSome
  unfolding body_faults
  body_inside h =
      elim (Contains-append_cases (each_numbered (body_faults_of cs k.name) 0 k.methods (repeats (method_names k))) (main_method_faults cs k k.main) d h) [
        | inl a ↦ let r = from_all (body_faults_of cs k.name) k.methods (repeats (method_names k)) d a in body_by_flag r.i r.flag r.item r.found
        | inr b ↦ main_inside k.main b
      ]

-- ---- the diagnostics of a class

module _ (profile : Profile) (p : Project) (c : Name) where
  module _ (k : ClassDecl) (e : IsFirstDeclaration p c k) where
    all_law : HasJust (class_faults profile (classes_in p) k) (IsFaultOf profile p c)
    all_law place code =
        let law = class_fault_law chain_laws body_laws profile (classes_in p) (names_fit_in p) k (ap (decl (classes_in p)) (decl_name (classes_in p) c k e) ∙ e) place code in (
          λ h. record { declaration = k; counts = e; is_fault = law.0 h },
          λ f. law.1 (subst (λ (j : ClassDecl). FaultOfClass profile (classes_in p) j place code) (same_Some f.declaration k (sym f.counts ∙ e)) f.is_fault),
        )

    outside_law : HasJust (declaration_faults profile (classes_in p) k) (IsFaultOutside profile p c)
    outside_law place code = (
      λ h. ((all_law place code).0 (Contains-append_left (declaration_faults profile (classes_in p) k) (body_faults (classes_in p) k) (fault place code) h), declared_outside profile (classes_in p) k (fault place code) h),
      λ f. elim (Contains-append_cases (declaration_faults profile (classes_in p) k) (body_faults (classes_in p) k) (fault place code) ((all_law place code).1 f.0)) [
        | inl a ↦ a
        | inr b ↦ let i = body_inside (classes_in p) k (fault place code) b in absurd (f.1 i.0 i.1)
      ],
    )

  -- the list is empty if the class isn't declared
  class_right : (Fault : Place → Code → Type 0) (faults : ClassDecl → List Diagnostic) → ((place : Place) (code : Code) → Fault place code → (k : ClassDecl) × IsFirstDeclaration p c k) → ((k : ClassDecl) → IsFirstDeclaration p c k → HasJust (faults k) Fault)
      → AreTheFaults Fault (faults_of faults (class_at p c))
  class_right Fault faults declared law = by_class (class_at p c) refl
    where
      by_class : (o : Option ClassDecl) → class_at p c ≡ o → AreTheFaults Fault (faults_of faults o)
      by_class None e = record {
        ascending = tt;
        exactly = λ place code. (
          λ h. absurd (nowhere (fault place code) h),
          λ f. let k = declared place code f in absurd (none-some k.0 (sym e ∙ k.1)),
        );
      }
      by_class (Some k) e = set_right Fault (faults k) (law k e)

  pub class_faults_right : AreTheFaults (IsFaultOf profile p c) (faults_of (class_faults profile (classes_in p)) (class_at p c))
  class_faults_right = class_right (IsFaultOf profile p c) (class_faults profile (classes_in p)) (λ place code f. (f.declaration, f.counts)) all_law

  pub declaration_faults_right : AreTheFaults (IsFaultOutside profile p c) (faults_of (declaration_faults profile (classes_in p)) (class_at p c))
  declaration_faults_right = class_right (IsFaultOutside profile p c) (declaration_faults profile (classes_in p)) (λ place code f. (f.0.declaration, f.0.counts)) outside_law

-- ---- the diagnostics in a method

module _ (profile : Profile) (p : Project) (c m : Name) where
  abbrev found_in : Option BodyValue → List Diagnostic
  found_in o = inside m (mistakes_in (world_of (classes_in p)) c o)

  -- a mistake in the body is a diagnostic of the class in the method
  inside_by : (k : ClassDecl) → IsFirstDeclaration p c k → (n : Name) → n ≡ m → (x : Mistake) (place : Place) (code : Code) → FaultOfClass profile (classes_in p) k (places.Inside n x.mark) x.code → fault (places.Inside m x.mark) x.code ≡ fault place code
      → IsFaultInside profile p c m place code
  inside_by k e n named x place code f same =
      let at_m = subst (λ (a : Name). FaultOfClass profile (classes_in p) k (places.Inside a x.mark) x.code) named f in (
        record { declaration = k; counts = e; is_fault = subst (λ (d : Diagnostic). FaultOfClass profile (classes_in p) k d.place d.code) same at_m },
        (x.mark, ap (λ (d : Diagnostic). d.place) (sym same)),
      )

  inside_from : (place : Place) (code : Code) (o : Option BodyValue) → body_at p c m ≡ o → Contains (found_in o) (fault place code) → IsFaultInside profile p c m place code
  inside_from place code None e h = absurd (nowhere (fault place code) h)
  inside_from place code (Some (bodies.OfMain s)) e h =
      let x = from_inside m (main_faults (world_of (classes_in p)) (record { name = c; statement = s })) (fault place code) h in
      let is = is_main p c m s e in
      let k = is.0.declaration in
      let named = decl_name (classes_in p) c k is.0.first_class in
      let ill = subst (λ (n : Name). MainFault (world_of (classes_in p)) (record { name = n; statement = s }) x.0) (sym named) ((body_laws.main (world_of (classes_in p)) (record { name = c; statement = s }) x.0).1 x.1) in
      inside_by k is.0.first_class main_word is.1 x.0 place code (InMain s x.0 is.0.main ill) x.2
  inside_from place code (Some (bodies.OfMethod a)) e h =
      let x = from_inside m (method_faults (world_of (classes_in p)) c a) (fault place code) h in
      let is = is_method p c m a e in
      let k = is.0.declaration in
      let named = decl_name (classes_in p) c k is.0.first_class in
      let fits = (orderly_class p c k is.0.first_class).names_fit a (contains_at k.methods is.0.number a is.0.first_method.here) in
      let ill = subst (λ (n : Name). MethodFault (world_of (classes_in p)) n a x.0) (sym named) ((body_laws.method (world_of (classes_in p)) c a fits x.0).1 x.1) in
      inside_by k is.0.first_class a.name is.1 x.0 place code (InMethod is.0.number a x.0 is.0.first_method ill) x.2

  in_body : (o : Option BodyValue) → body_at p c m ≡ o → (n : Name) → n ≡ m → (mark : ℕ) (code : Code) → Contains (found_in o) (fault (places.Inside m mark) code) → Contains (found_in (body_at p c m)) (fault (places.Inside n mark) code)
  in_body o body n named mark code h =
      subst (λ (a : Name). Contains (found_in (body_at p c m)) (fault (places.Inside a mark) code)) (sym named)
      (subst (λ (b : Option BodyValue). Contains (found_in b) (fault (places.Inside m mark) code)) (sym body) h)

  module _ (k : ClassDecl) (e : IsFirstDeclaration p c k) where
    inside_to : (place : Place) (code : Code) → FaultOfClass profile (classes_in p) k place code → (mark : ℕ) → place ≡ places.Inside m mark → Contains (found_in (body_at p c m)) (fault place code)
    inside_to place code (UndeclaredSuperclass u s d) mark at = absurd cc
    inside_to place code (CyclicChain chain u s) mark at = absurd cc
    inside_to place code (RepeatedField i j a b l s f g) mark at = absurd cc
    inside_to place code (RepeatedMethod i j a b l s f g) mark at = absurd cc
    inside_to place code (OtherSignature i a b f o s) mark at = absurd cc
    inside_to place code (UndeclaredFieldType i f u s t d) mark at = absurd cc
    inside_to place code (InMethod n a x is ill) mark at =
        let named = same_name at in
        let fits = (orderly_class p c k e).names_fit a (contains_at k.methods n a is.here) in
        let at_c = subst (λ (b : Name). MethodFault (world_of (classes_in p)) b a x) (decl_name (classes_in p) c k e) ill in
        let listed = (body_laws.method (world_of (classes_in p)) c a fits x).0 at_c in
        in_body (Some (bodies.OfMethod a)) (method_body p c m a (record { declaration = k; first_class = e; number = n; first_method = is }) named) a.name named x.mark x.code
        (to_inside m (method_faults (world_of (classes_in p)) c a) x listed)
    inside_to place code (InMain s x is ill) mark at =
        let named = same_name at in
        let at_c = subst (λ (b : Name). MainFault (world_of (classes_in p)) (record { name = b; statement = s }) x) (decl_name (classes_in p) c k e) ill in
        let listed = (body_laws.main (world_of (classes_in p)) (record { name = c; statement = s }) x).0 at_c in
        in_body (Some (bodies.OfMain s)) (main_body p c m s (record { declaration = k; first_class = e; main = is }) named) main_word named x.mark x.code
        (to_inside m (main_faults (world_of (classes_in p)) (record { name = c; statement = s })) x listed)

  pub body_faults_right : AreTheFaults (IsFaultInside profile p c m) (fault_set (found_in (body_at p c m)))
  body_faults_right = set_right (IsFaultInside profile p c m) (found_in (body_at p c m))
      (λ place code. (inside_from place code (body_at p c m) refl, λ f. inside_to f.0.declaration f.0.counts place code f.0.is_fault f.1.0 f.1.1))
