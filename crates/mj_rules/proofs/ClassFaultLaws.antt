-- The list of a class's diagnostics has just those of the rows.
use Rattle.std.proofs.Common.{◌≡◌, ℕ, ◌<◌, Bool, true, false, not, List, [], take, slice_get, Option, Some, None, is_none, option_map, Contains, refl, sym, ap, subst, ◌∙◌, inl, inr, true≢false, ◌↔◌}
use Rattle.std.proofs.lemmas.List.Elements.{Contains-append_left, Contains-append_right, Contains-append_cases}
use Rattle.std.proofs.lemmas.Bool.{not-true, false_from_ne_true}
use Rattle.ordered_names.proofs.Alike.{Contains-first, nowhere}
use Rattle.mj_tree.specs.Trees.{Name, Statement, Method}
use Rattle.mj_tree.specs.declared.tree.Ty.{Ty}
use Rattle.mj_tree.specs.declared.tree.Ty.TheVariants as types
use Rattle.mj_tree.specs.declared.tree.Field.{Field}
use Rattle.mj_tree.specs.declared.place.Place.{Place}
use Rattle.mj_tree.specs.declared.place.Place.TheVariants as places
use Rattle.mj_answer.specs.declared.code.Code.{Code}
use Rattle.mj_answer.specs.declared.code.Code.TheVariants.{E201, E202, E203, E204, E205, E206}
use Rattle.mj_answer.specs.declared.diagnostic.Diagnostic.{Diagnostic}
use Rattle.mj_members.specs.Declarations.{ClassDecl}
use Rattle.mj_classes.specs.Declarations.{decl}
use Rattle.mj_classes.specs.Chains.{EndOf, Top, Undeclared, Repeated, Chain, chain_of}
use Rattle.mj_classes.specs.Members.{nearest, own_method}
use Rattle.mj_classes.specs.Laws.{ChainLaws}
use Rattle.mj_phrases.specs.declared.verdict.Mistake.{Mistake}
use Rattle.mj_typing.specs.Bodies.{NamesFit, method_faults, main_faults}
use Rattle.named_files.specs.Repeats.{is_in, repeats}
use Rattle.profiles.specs.declared.profile.Profile.{Profile}
use Rattle.mj_rules.specs.Worlds.{sig_of, world_of}
use Rattle.mj_rules.specs.ClassFaults.{FaultOfClass, UndeclaredSuperclass, CyclicChain, RepeatedField, RepeatedMethod, OtherSignature, UndeclaredFieldType, InMethod, InMain, IsFirstMethod, main_word, main_of}
use Rattle.mj_rules.specs.FaultLists.{fault, when_fault, each_numbered, superclass_faults, is_cycle, chain_faults, is_undeclared, field_faults, may_override, override_faults, inside, rest_of, nearest_sig, method_faults_of, body_faults_of, main_method_faults, field_names, method_names, declaration_faults, NamesFitIn, body_faults, class_faults}
use Rattle.mj_rules.specs.Laws.{BodyFaultLaws}
use Rattle.named_files.proofs.Listed.{place_before, contains_before, contains_at, at_map, map_at, place_of}
use Rattle.named_files.proofs.RepeatLemmas.{Contains-is_in, is_in-Contains, repeats-at, flag_at}
use Rattle.mj_rules.proofs.Numbered.{only, from_when, to_when, IsFlagged, from_all, to_all}
use Rattle.mj_rules.proofs.MayOverride.{may_from, may_to}
use Rattle.mj_rules.proofs.Overriding.{overridden_from, overridden_to}
use Rattle.mj_rules.proofs.OneAnswer.{decl_stands}

none_when : {A : Type 0} (o : Option A) → is_none o ≡ true → o ≡ None
none_when None e = refl
none_when (Some x) e = absurd (true≢false (sym e))

-- ---- mistakes in bodies

-- what is listed inside a method comes from a mistake
pub from_inside : (m : Name) (mistakes : List Mistake) (d : Diagnostic) → Contains (inside m mistakes) d → (x : Mistake) × Contains mistakes x × (fault (places.Inside m x.mark) x.code ≡ d)
from_inside m mistakes d h =
    let p = place_of (inside m mistakes) d h in
    let x = at_map (λ (y : Mistake). fault (places.Inside m y.mark) y.code) mistakes p.0 d p.1 in
    (x.0, contains_at mistakes p.0 x.0 x.1, x.2)

-- each mistake is listed inside its method
pub to_inside : (m : Name) (mistakes : List Mistake) (x : Mistake) → Contains mistakes x → Contains (inside m mistakes) (fault (places.Inside m x.mark) x.code)
to_inside m mistakes x h =
    let p = place_of mistakes x h in
    contains_at (inside m mistakes) p.0 _ (map_at (λ (y : Mistake). fault (places.Inside m y.mark) y.code) mistakes p.0 x p.1)

module _ (chains : ChainLaws) (bodies : BodyFaultLaws) (profile : Profile) (cs : List ClassDecl) (fit : NamesFitIn cs) (k : ClassDecl) (first : decl cs k.name ≡ Some k) where
  abbrev Row : Diagnostic → Type 0
  Row d = FaultOfClass profile cs k d.place d.code

  -- ---- the class itself

  from_superclass : (d : Diagnostic) (o : Option Name) → k.superclass ≡ o → Contains (superclass_faults cs o) d → Row d
  from_superclass d None e h = absurd (nowhere d h)
  from_superclass d (Some u) e h =
      let w = from_when (is_none (decl cs u)) places.Class E201 d h in
      subst Row w.1 (UndeclaredSuperclass u e (none_when (decl cs u) w.0))

  from_end : (d : Diagnostic) (names : List Name) (end : EndOf) → chain_of cs k.name ≡ Some (names, end) → Contains (when_fault (is_cycle end) places.Class E202) d → Row d
  from_end d names Top e h = absurd (nowhere d h)
  from_end d names (Undeclared u) e h = absurd (nowhere d h)
  from_end d names (Repeated u) e h = subst Row (only _ d h) (CyclicChain names u ((chains.given cs k.name names (Repeated u)).1 e))

  from_chain : (d : Diagnostic) (o : Option Chain) → chain_of cs k.name ≡ o → Contains (chain_faults o) d → Row d
  from_chain d None e h = absurd (nowhere d h)
  from_chain d (Some chain) e h = from_end d chain.0 chain.1 e h

  -- ---- fields

  undeclared : (t : Ty) → is_undeclared cs t ≡ true → (u : Name) × (t ≡ types.Class u) × (decl cs u ≡ None)
  undeclared (types.Class u) e = (u, refl, none_when (decl cs u) e)
  undeclared types.Int e = absurd (true≢false (sym e))
  undeclared types.Boolean e = absurd (true≢false (sym e))
  undeclared types.IntArray e = absurd (true≢false (sym e))

  from_field : (d : Diagnostic) → IsFlagged (field_faults cs) k.fields (repeats (field_names k)) d → Row d
  from_field d r =
      elim (Contains-append_cases (when_fault r.flag (places.Field r.i) E203) (when_fault (is_undeclared cs r.item.ty) (places.Field r.i) E206) d r.found) [
        | inl a ↦
            let w = from_when r.flag (places.Field r.i) E203 d a in
            let flag = repeats-at (field_names k) r.i r.flag r.item.name (map_at (λ (f : Field). f.name) k.fields r.i r.item r.here) r.flagged in
            let p = place_before r.i (field_names k) r.item.name (Contains-is_in (take r.i (field_names k)) r.item.name (sym flag ∙ w.0)) in
            let f = at_map (λ (f : Field). f.name) k.fields p.0 r.item.name p.2 in
            subst Row w.1 (RepeatedField p.0 r.i f.0 r.item p.1 f.1 r.here f.2)
        | inr b ↦
            let w = from_when (is_undeclared cs r.item.ty) (places.Field r.i) E206 d b in
            let u = undeclared r.item.ty w.0 in
            subst Row w.1 (UndeclaredFieldType r.i r.item u.0 r.here u.1 u.2)
      ]

  -- ---- methods

  first_method : (n : ℕ) (m : Method) → slice_get k.methods n ≡ Some m → is_in (take n (method_names k)) m.name ≡ false → IsFirstMethod k n m
  first_method n m e fresh = record {
    here = e;
    first = λ i earlier below ei same. true≢false (sym (is_in-Contains (take n (method_names k)) m.name
        (contains_before n i (method_names k) m.name below (map_at (λ (f : Method). f.name) k.methods i earlier ei ∙ ap Some same))) ∙ fresh);
  }

  not_before : (n : ℕ) (m : Method) → IsFirstMethod k n m → is_in (take n (method_names k)) m.name ≡ false
  not_before n m is = false_from_ne_true (is_in (take n (method_names k)) m.name) (λ e. later (place_before n (method_names k) m.name (Contains-is_in (take n (method_names k)) m.name e)))
    where
      later : (i : ℕ) × (i < n) × (slice_get (method_names k) i ≡ Some m.name) → ⊥
      later p = let f = at_map (λ (f : Method). f.name) k.methods p.0 m.name p.2 in is.first p.0 f.0 p.1 f.1 f.2

  from_override : (d : Diagnostic) (n : ℕ) (m : Method) (o : Option (Name × Method)) → IsFirstMethod k n m → nearest (own_method m.name) (rest_of cs k.name) ≡ o
      → Contains (override_faults profile cs n m (option_map (λ (f : Name × Method). sig_of f.1) o)) d → Row d
  from_override d n m None is e h = absurd (nowhere d h)
  from_override d n m (Some found) is e h =
      let w = from_when (not (may_override profile cs m (sig_of found.1))) (places.Method n) E205 d h in
      subst Row w.1 (OtherSignature n m found.1 is (overridden_from chains cs k.name m.name k found.0 found.1 first e)
      (λ may. true≢false (sym (may_to profile cs m found.1 may) ∙ not-true (may_override profile cs m (sig_of found.1)) w.0)))

  by_flag : (d : Diagnostic) (n : ℕ) (m : Method) (flag : Bool) → slice_get k.methods n ≡ Some m → flag ≡ is_in (take n (method_names k)) m.name → Contains (method_faults_of profile cs (nearest_sig (rest_of cs k.name)) n flag m) d → Row d
  by_flag d n m true e s h =
      let p = place_before n (method_names k) m.name (Contains-is_in (take n (method_names k)) m.name (sym s)) in
      let f = at_map (λ (f : Method). f.name) k.methods p.0 m.name p.2 in
      subst Row (only _ d h) (RepeatedMethod p.0 n f.0 m p.1 f.1 e f.2)
  by_flag d n m false e s h = from_override d n m (nearest (own_method m.name) (rest_of cs k.name)) (first_method n m e (sym s)) refl h

  method_fits : (n : ℕ) (m : Method) → slice_get k.methods n ≡ Some m → NamesFit m
  method_fits n m e = fit k (decl_stands cs k.name k first) m (contains_at k.methods n m e)

  body_by_flag : (d : Diagnostic) (n : ℕ) (m : Method) (flag : Bool) → slice_get k.methods n ≡ Some m → flag ≡ is_in (take n (method_names k)) m.name → Contains (body_faults_of cs k.name n flag m) d → Row d
  body_by_flag d n m true e s h = absurd (nowhere d h)
  body_by_flag d n m false e s h =
      let x = from_inside m.name (method_faults (world_of cs) k.name m) d h in
      subst Row x.2 (InMethod n m x.0 (first_method n m e (sym s)) ((bodies.method (world_of cs) k.name m (method_fits n m e) x.0).1 x.1))

  method_flag : (i : ℕ) (flag : Bool) (m : Method) → slice_get k.methods i ≡ Some m → slice_get (repeats (method_names k)) i ≡ Some flag → flag ≡ is_in (take i (method_names k)) m.name
  method_flag i flag m e f = repeats-at (method_names k) i flag m.name (map_at (λ (g : Method). g.name) k.methods i m e) f

  from_method : (d : Diagnostic) → IsFlagged (method_faults_of profile cs (nearest_sig (rest_of cs k.name))) k.methods (repeats (method_names k)) d → Row d
  from_method d r = by_flag d r.i r.item r.flag r.here (method_flag r.i r.flag r.item r.here r.flagged) r.found

  from_body : (d : Diagnostic) → IsFlagged (body_faults_of cs k.name) k.methods (repeats (method_names k)) d → Row d
  from_body d r = body_by_flag d r.i r.item r.flag r.here (method_flag r.i r.flag r.item r.here r.flagged) r.found

  from_main : (d : Diagnostic) (o : Option Statement) → k.main ≡ o → Contains (main_method_faults cs k o) d → Row d
  from_main d None e h = absurd (nowhere d h)
  from_main d (Some s) e h =
      let x = from_inside main_word (main_faults (world_of cs) (main_of k s)) d h in
      subst Row x.2 (InMain s x.0 e ((bodies.main (world_of cs) (main_of k s) x.0).1 x.1))

  from_declarations : (d : Diagnostic) → Contains (declaration_faults profile cs k) d → Row d
  unfolding declaration_faults
  from_declarations d h =
      elim (Contains-append_cases (superclass_faults cs k.superclass) _ d h) [
        | inl a ↦ from_superclass d k.superclass refl a
        | inr b ↦ elim (Contains-append_cases (chain_faults (chain_of cs k.name)) _ d b) [
          | inl a ↦ from_chain d (chain_of cs k.name) refl a
          | inr c ↦ elim (Contains-append_cases (each_numbered (field_faults cs) 0 k.fields (repeats (field_names k))) (each_numbered (method_faults_of profile cs (nearest_sig (rest_of cs k.name))) 0 k.methods (repeats (method_names k))) d c) [
            | inl a ↦ from_field d (from_all (field_faults cs) k.fields (repeats (field_names k)) d a)
            | inr e ↦ from_method d (from_all (method_faults_of profile cs (nearest_sig (rest_of cs k.name))) k.methods (repeats (method_names k)) d e)
          ]
        ]
      ]

  from_bodies : (d : Diagnostic) → Contains (body_faults cs k) d → Row d
  unfolding body_faults
  from_bodies d h =
      elim (Contains-append_cases (each_numbered (body_faults_of cs k.name) 0 k.methods (repeats (method_names k))) (main_method_faults cs k k.main) d h) [
        | inl a ↦ from_body d (from_all (body_faults_of cs k.name) k.methods (repeats (method_names k)) d a)
        | inr a ↦ from_main d k.main refl a
      ]

  pub from_class_faults : (d : Diagnostic) → Contains (class_faults profile cs k) d → Row d
  from_class_faults d h = elim (Contains-append_cases (declaration_faults profile cs k) (body_faults cs k) d h) [ inl a ↦ from_declarations d a | inr b ↦ from_bodies d b ]

  -- ---- the other way

  in_superclass : (d : Diagnostic) → Contains (superclass_faults cs k.superclass) d → Contains (class_faults profile cs k) d
  unfolding declaration_faults
  in_superclass d h = Contains-append_left (declaration_faults profile cs k) (body_faults cs k) d (Contains-append_left (superclass_faults cs k.superclass) _ d h)

  in_chain : (d : Diagnostic) → Contains (chain_faults (chain_of cs k.name)) d → Contains (class_faults profile cs k) d
  unfolding declaration_faults
  in_chain d h =
      Contains-append_left (declaration_faults profile cs k) (body_faults cs k) d
      (Contains-append_right (superclass_faults cs k.superclass) _ d (Contains-append_left (chain_faults (chain_of cs k.name)) _ d h))

  in_fields : (d : Diagnostic) → Contains (each_numbered (field_faults cs) 0 k.fields (repeats (field_names k))) d → Contains (class_faults profile cs k) d
  unfolding declaration_faults
  in_fields d h =
      Contains-append_left (declaration_faults profile cs k) (body_faults cs k) d
      (Contains-append_right (superclass_faults cs k.superclass) _ d (Contains-append_right (chain_faults (chain_of cs k.name)) _ d
      (Contains-append_left (each_numbered (field_faults cs) 0 k.fields (repeats (field_names k))) _ d h)))

  in_methods : (d : Diagnostic) → Contains (each_numbered (method_faults_of profile cs (nearest_sig (rest_of cs k.name))) 0 k.methods (repeats (method_names k))) d → Contains (class_faults profile cs k) d
  unfolding declaration_faults
  in_methods d h =
      Contains-append_left (declaration_faults profile cs k) (body_faults cs k) d
      (Contains-append_right (superclass_faults cs k.superclass) _ d (Contains-append_right (chain_faults (chain_of cs k.name)) _ d
      (Contains-append_right (each_numbered (field_faults cs) 0 k.fields (repeats (field_names k))) (each_numbered (method_faults_of profile cs (nearest_sig (rest_of cs k.name))) 0 k.methods (repeats (method_names k))) d h)))

  in_bodies : (d : Diagnostic) → Contains (each_numbered (body_faults_of cs k.name) 0 k.methods (repeats (method_names k))) d → Contains (class_faults profile cs k) d
  unfolding body_faults
  in_bodies d h =
      Contains-append_right (declaration_faults profile cs k) (body_faults cs k) d
      (Contains-append_left (each_numbered (body_faults_of cs k.name) 0 k.methods (repeats (method_names k))) (main_method_faults cs k k.main) d h)

  in_main : (d : Diagnostic) → Contains (main_method_faults cs k k.main) d → Contains (class_faults profile cs k) d
  unfolding body_faults
  in_main d h =
      Contains-append_right (declaration_faults profile cs k) (body_faults cs k) d
      (Contains-append_right (each_numbered (body_faults_of cs k.name) 0 k.methods (repeats (method_names k))) (main_method_faults cs k k.main) d h)

  in_first_method : (n : ℕ) (m : Method) (d : Diagnostic) → IsFirstMethod k n m → Contains (override_faults profile cs n m (nearest_sig (rest_of cs k.name) m.name)) d → Contains (class_faults profile cs k) d
  in_first_method n m d is h =
      let here = map_at (λ (f : Method). f.name) k.methods n m is.here in
      let flag = flag_at (method_names k) n m.name here in
      in_methods d (to_all (method_faults_of profile cs (nearest_sig (rest_of cs k.name))) k.methods (repeats (method_names k)) d n flag.0 m is.here flag.1
      (subst (λ b. Contains (method_faults_of profile cs (nearest_sig (rest_of cs k.name)) n b m) d) (sym (flag.2 ∙ not_before n m is)) h))

  in_first_body : (n : ℕ) (m : Method) (d : Diagnostic) → IsFirstMethod k n m → Contains (inside m.name (method_faults (world_of cs) k.name m)) d → Contains (class_faults profile cs k) d
  in_first_body n m d is h =
      let here = map_at (λ (f : Method). f.name) k.methods n m is.here in
      let flag = flag_at (method_names k) n m.name here in
      in_bodies d (to_all (body_faults_of cs k.name) k.methods (repeats (method_names k)) d n flag.0 m is.here flag.1
      (subst (λ b. Contains (body_faults_of cs k.name n b m) d) (sym (flag.2 ∙ not_before n m is)) h))

  pub to_class_faults : {place : Place} {code : Code} → FaultOfClass profile cs k place code → Contains (class_faults profile cs k) (fault place code)
  to_class_faults (UndeclaredSuperclass u e none) =
      in_superclass _ (subst (λ o. Contains (superclass_faults cs o) (fault places.Class E201)) (sym e) (to_when _ _ _ (ap (λ (o : Option ClassDecl). is_none o) none)))
  to_class_faults (CyclicChain chain u is) =
      in_chain _ (subst (λ o. Contains (chain_faults o) (fault places.Class E202)) (sym ((chains.given cs k.name chain (Repeated u)).0 is)) (Contains-first _ []))
  to_class_faults (RepeatedField i n earlier f below ei en same) =
      let here = map_at (λ (g : Field). g.name) k.fields n f en in
      let flag = flag_at (field_names k) n f.name here in
      let before = contains_before n i (field_names k) f.name below (map_at (λ (g : Field). g.name) k.fields i earlier ei ∙ ap Some same) in
      let set : flag.0 ≡ true = flag.2 ∙ is_in-Contains (take n (field_names k)) f.name before in
      in_fields _ (to_all (field_faults cs) k.fields (repeats (field_names k)) _ n flag.0 f en flag.1
      (Contains-append_left (when_fault flag.0 (places.Field n) E203) _ _ (to_when _ _ _ set)))
  to_class_faults (RepeatedMethod i n earlier m below ei en same) =
      let here = map_at (λ (g : Method). g.name) k.methods n m en in
      let flag = flag_at (method_names k) n m.name here in
      let before = contains_before n i (method_names k) m.name below (map_at (λ (g : Method). g.name) k.methods i earlier ei ∙ ap Some same) in
      let set : flag.0 ≡ true = flag.2 ∙ is_in-Contains (take n (method_names k)) m.name before in
      in_methods _ (to_all (method_faults_of profile cs (nearest_sig (rest_of cs k.name))) k.methods (repeats (method_names k)) _ n flag.0 m en flag.1
      (subst (λ b. Contains (method_faults_of profile cs (nearest_sig (rest_of cs k.name)) n b m) (fault (places.Method n) E204)) (sym set) (Contains-first _ [])))
  to_class_faults (OtherSignature n m found is over other) =
      let differs : not (may_override profile cs m (sig_of found)) ≡ true = ap not (false_from_ne_true (may_override profile cs m (sig_of found)) (λ e. other (may_from profile cs m found e))) in
      in_first_method n m _ is
      (subst (λ (o : Option (Name × Method)). Contains (override_faults profile cs n m (option_map (λ (f : Name × Method). sig_of f.1) o)) (fault (places.Method n) E205)) (sym (overridden_to chains cs k.name m.name found over)) (to_when _ _ _ differs))
  to_class_faults (UndeclaredFieldType n f u en et none) =
      let here = map_at (λ (g : Field). g.name) k.fields n f en in
      let flag = flag_at (field_names k) n f.name here in
      let is : is_undeclared cs f.ty ≡ true = ap (is_undeclared cs) et ∙ ap (λ (o : Option ClassDecl). is_none o) none in
      in_fields _ (to_all (field_faults cs) k.fields (repeats (field_names k)) _ n flag.0 f en flag.1
      (Contains-append_right (when_fault flag.0 (places.Field n) E203) _ _ (to_when _ _ _ is)))
  to_class_faults (InMethod n m x is ill) = in_first_body n m _ is (to_inside m.name (method_faults (world_of cs) k.name m) x ((bodies.method (world_of cs) k.name m (method_fits n m is.here) x).0 ill))
  to_class_faults (InMain s x e ill) =
      in_main _ (subst (λ o. Contains (main_method_faults cs k o) (fault (places.Inside main_word x.mark) x.code)) (sym e)
      (to_inside main_word (main_faults (world_of cs) (main_of k s)) x ((bodies.main (world_of cs) (main_of k s) x).0 ill)))

pub class_fault_law : ChainLaws → BodyFaultLaws → (profile : Profile) (cs : List ClassDecl) → NamesFitIn cs → (k : ClassDecl) → decl cs k.name ≡ Some k → (place : Place) (code : Code)
    → Contains (class_faults profile cs k) (fault place code) ↔ FaultOfClass profile cs k place code
class_fault_law chains bodies profile cs fit k first place code = (λ h. from_class_faults chains bodies profile cs fit k first (fault place code) h, λ r. to_class_faults chains bodies profile cs fit k first r)
