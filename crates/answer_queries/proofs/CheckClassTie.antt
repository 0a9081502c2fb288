-- The diagnostics of a class's declarations in a project.
use Rattle.std.proofs.Common.{◌≡◌, ℕ, ◌+◌, ◌≤◌, Bool, true, false, not, List, [], ◌∷◌, ◌++◌, map, length, Option, Some, None, option_map, is_some, is_none, Contains, bytes_eq, ◌&&◌, if◌then◌else◌, refl, sym, ap, ap₂, subst, ◌∙◌, arith, append_assoc}
use Rattle.std.specs.Prelude.{flat_map}
use Rattle.std.proofs.lemmas.Option.{same_Some}
use Rattle.std.proofs.lemmas.List.{map-append}
use Rattle.std.proofs.lemmas.Slice.Eq.{bytes_eq-Decides}
use Rattle.item_ids.specs.declared.key.Key.{Key}
use Rattle.item_ids.specs.declared.key.Key.TheVariants as keys
use Rattle.item_ids.proofs.Lists.{all_from}
use Rattle.mj_lexer.specs.Lexes.{limit}
use Rattle.mj_tree.specs.Trees.{Name, Method}
use Rattle.mj_tree.specs.declared.tree.Ty.{Ty}
use Rattle.mj_tree.specs.declared.tree.Ty.TheVariants as types
use Rattle.mj_tree.specs.declared.tree.Field.{Field}
use Rattle.mj_tree.specs.declared.place.Place.TheVariants as places
use Rattle.mj_answer.specs.declared.code.Code.TheVariants.{E201, E202, E203, E204, E205, E206}
use Rattle.mj_answer.specs.declared.diagnostic.Diagnostic.{Diagnostic}
use Rattle.mj_members.specs.Declarations.{ClassDecl}
use Rattle.mj_classes.specs.Declarations.{decl}
use Rattle.mj_classes.specs.Chains.{EndOf, Top, Undeclared, Repeated, Extends, IsChain, Chain, chain_of, chain_names, ancestry}
use Rattle.mj_classes.specs.Members.{own_method}
use Rattle.mj_classes.proofs.Climb.{decl_name, links_declared, all_declared, chain_of_is, has_chain}
use Rattle.mj_classes.proofs.Distinct.{contains_in}
use Rattle.named_files.proofs.Listed.{place_of, at_map}
use Rattle.named_files.specs.Repeats.{is_in, repeats_behind, repeats}
use Rattle.mj_phrases.specs.Types.{is_same}
use Rattle.mj_phrases.specs.Inquiries.{Sig, World, Concludes, AsksDescent, conclusion}
use Rattle.mj_phrases.specs.Table.{is_accepted}
use Rattle.profiles.specs.declared.profile.Profile.{Profile}
use Rattle.profiles.specs.declared.profile.Profile.TheVariants.{One, Two}
use Rattle.mj_rules.specs.Sentences.{classes_in}
use Rattle.mj_rules.specs.Worlds.{sig_of, world_of}
use Rattle.mj_rules.specs.FaultLists.{fault, when_fault, each_numbered, superclass_faults, is_cycle, chain_faults, is_undeclared, field_faults, same_type, accepts, override_faults, rest_of, nearest_sig, method_faults_of, field_names, method_names, declaration_faults}
use Rattle.mj_rules.proofs.TableLaws.{found_name}
use Rattle.mj_rules.proofs.RowLemmas.{finds_one}
use Rattle.result_bytes.specs.Payloads.{HeaderValue, ChainValue}
use Rattle.result_bytes.specs.Parts.{header_in, supers_in}
use Rattle.result_bytes.specs.declared.value.Value.{Value}
use Rattle.result_bytes.specs.declared.value.Value.TheVariants as values
use Rattle.recorder.specs.Projects.{Project}
use Rattle.recorder.specs.Programs.{Prog, Ret, Ask, Fits, each}
use Rattle.recorder.proofs.Rules.{each_fits}
use Rattle.query_rules.specs.Items.{class_at, header_of, end_value, chain_value, fault_set, faults_of}
use Rattle.query_rules.specs.Meaning.{mean}
use Rattle.query_rules.specs.BodyReads.{type_reads, accept_reads}
use Rattle.query_rules.specs.Reads.{field_headers, return_chain, return_chains, overriding, class_check_reads, asked_keys, reads}
use Rattle.body_query.specs.Bounds.{bound}
use Rattle.body_questions.specs.Classes.{is_declared_in, descends_in, chain_classes}
use Rattle.body_questions.specs.Members.{method_in}
use Rattle.body_questions.specs.Questions.{descends_step}
use Rattle.body_query.proofs.Bounds.{same_number}
use Rattle.body_query.proofs.Worlds.{world_same}
use Rattle.member_queries.proofs.Passes.{Passes, Stays, Reads, passes_each, passes_then, flat_one, ties_by}
use Rattle.member_queries.proofs.Declared.{found_behind}
use Rattle.member_queries.proofs.FaultSets.{fold_append}
use Rattle.answer_queries.specs.Signatures.{same_types, same_signature}
use Rattle.answer_queries.specs.Told.{superclass_told, cycle_told, chain_told, field_told, method_told, faults_told}
use Rattle.answer_queries.specs.CheckClass.{type_step, field_type_step, accept_step, may_step, override_flag, override_flag_step, overridden_class, override_step, check_declared_steps, check_class_by, check_class_steps}
use Rattle.answer_queries.specs.Laws.{CheckClassTies}
use Rattle.answer_queries.proofs.Counts.{class_few}
use Rattle.answer_queries.proofs.Overriding.{clash, override_told, sig_chain, flag_reads, rest_along, own_nearest, clash_alike, chain_alike, flat_none, flat_same}

abbrev name_of : Method → Name
name_of m = m.name

module _ (profile : Profile) (p : Project) where
  abbrev cs : List ClassDecl
  cs = classes_in p

  -- ---- fields

  undeclared_told : (o : Option ClassDecl) → not (is_some (option_map header_of o)) ≡ is_none o
  undeclared_told None = refl
  undeclared_told (Some k) = refl

  one_type : (t : Ty) (g : Bool → Prog) → Passes (mean profile p) (type_step t g) (type_reads t) (g (is_undeclared cs t))
  unfolding mean
  one_type (types.Class u) g =
      Reads (keys.Header u) (λ v. g (not (is_declared_in v))) [] (g (is_none (decl cs u)))
      (subst (λ (b : Bool). Passes (mean profile p) (g (not (is_declared_in (mean profile p (keys.Header u))))) [] (g b)) (undeclared_told (decl cs u)) (Stays _))
  one_type types.Int g = Stays _
  one_type types.Boolean g = Stays _
  one_type types.IntArray g = Stays _

  abbrev undeclared : List Field → List Bool
  undeclared fs = map (λ (f : Field). is_undeclared cs f.ty) fs

  fields_pass : (fs : List Field) (g : List Bool → Prog) → Passes (mean profile p) (each field_type_step fs [] g) (field_headers fs) (g (undeclared fs))
  fields_pass fs g =
      subst (λ (flags : List Bool). Passes (mean profile p) (each field_type_step fs [] g) (field_headers fs) (g flags)) (fold_append (λ (f : Field). is_undeclared cs f.ty ∷ []) fs [] ∙ flat_one (λ (f : Field). is_undeclared cs f.ty) fs)
      (passes_each (mean profile p) field_type_step (λ (f : Field). type_reads f.ty) (λ (f : Field) flags. flags ++ is_undeclared cs f.ty ∷ []) fs
      (all_from (λ (f : Field). (flags : List Bool) (q : List Bool → Prog) → Passes (mean profile p) (field_type_step f flags q) (type_reads f.ty) (q (flags ++ is_undeclared cs f.ty ∷ []))) fs
      (λ f h flags q. one_type f.ty (λ b. q (flags ++ b ∷ [])))) [] g)

  each_field : (fs : List Field) (n : ℕ) (flags : List Bool) → n + length fs ≤ limit → each_numbered field_told n (undeclared fs) flags ≡ each_numbered (field_faults cs) n fs flags
  each_field [] n flags few = refl
  each_field (f ∷ fs) n [] few = refl
  each_field (f ∷ fs) n (b ∷ flags) few =
      ap₂ (λ (xs ys : List Diagnostic). xs ++ ys) (ap (λ i. when_fault b (places.Field i) E203 ++ when_fault (is_undeclared cs f.ty) (places.Field i) E206) (same_number n (omega (arith, few))))
      (each_field fs (n + 1) flags (omega (arith, few)))

  members_told : (d x : Name) → method_in (mean profile p (keys.Members d)) x ≡ nearest_sig (ancestry cs d) x
  members_told d x = ap (λ (w : World). w.method d x) (world_same profile p)

  -- ---- methods

  descends_told : (c d : Name) → descends_in (mean profile p (keys.Supers c)) d ≡ (world_of cs).descends c d
  descends_told c d = ap (λ (w : World). w.descends c d) (world_same profile p)

  accept_pass : (t u : Ty) (g : Bool → Prog) → Passes (mean profile p) (accept_step t u g) (accept_reads t u) (g (accepts cs t u))
  unfolding is_accepted
  accept_pass (types.Class c) (types.Class d) g = by_test (is_same c d)
    where
      by_test : (b : Bool) → Passes (mean profile p) (if b then g true else descends_step c d g) (if b then [] else keys.Supers c ∷ []) (g (conclusion (world_of cs) (if b then Concludes true else AsksDescent c d (λ descends. Concludes descends))))
      by_test true = Stays _
      by_test false =
          Reads (keys.Supers c) (λ v. g (descends_in v d)) [] (g ((world_of cs).descends c d))
          (subst (λ (b : Bool). Passes (mean profile p) (g (descends_in (mean profile p (keys.Supers c)) d)) [] (g b)) (descends_told c d) (Stays _))
  accept_pass t u g = Stays _

  flag_pass : (a : Profile) (own other : Option Sig) (g : Bool → Prog) → Passes (mean profile p) (override_flag a own other g) (flag_reads a own other) (g (clash a cs own other))
  flag_pass One None other g = Stays _
  flag_pass One (Some own) None g = Stays _
  flag_pass One (Some own) (Some other) g = Stays _
  flag_pass Two None other g = Stays _
  flag_pass Two (Some own) None g = Stays _
  flag_pass Two (Some own) (Some other) g = by_test (same_types own.formals other.formals)
    where
      by_test : (b : Bool) → Passes (mean profile p) (if b then accept_step own.returns other.returns (λ may. g (not may)) else g (not false)) (if b then accept_reads own.returns other.returns else []) (g (not (b && accepts cs own.returns other.returns)))
      by_test true = accept_pass own.returns other.returns (λ may. g (not may))
      by_test false = Stays _

  -- the flag of a method, and what is read for it, by the members of both classes
  abbrev flag_by : Value → Value → Name → Bool
  flag_by own other x = clash profile cs (method_in own x) (method_in other x)

  abbrev reads_by : Profile → Value → Value → Name → List Key
  reads_by a own other x = flag_reads a (method_in own x) (method_in other x)

  methods_pass : (own other : Value) (names : List Name) (g : List Bool → Prog) → Passes (mean profile p) (each (override_flag_step profile own other) names [] g) (flat_map (reads_by profile own other) names) (g (map (flag_by own other) names))
  methods_pass own other names g =
      subst (λ (flags : List Bool). Passes (mean profile p) (each (override_flag_step profile own other) names [] g) (flat_map (reads_by profile own other) names) (g flags)) (fold_append (λ (x : Name). flag_by own other x ∷ []) names [] ∙ flat_one (flag_by own other) names)
      (passes_each (mean profile p) (override_flag_step profile own other) (reads_by profile own other) (λ (x : Name) flags. flags ++ flag_by own other x ∷ []) names
      (all_from (λ (x : Name). (flags : List Bool) (q : List Bool → Prog) → Passes (mean profile p) (override_flag_step profile own other x flags q) (reads_by profile own other x) (q (flags ++ flag_by own other x ∷ []))) names
      (λ x h flags q. flag_pass profile (method_in own x) (method_in other x) (λ b. q (flags ++ b ∷ [])))) [] g)

  module _ (c : Name) (k : ClassDecl) (e : class_at p c ≡ Some k) where
    -- ---- the chain

    extended : (s : Option Name) → Extends cs c s → k.superclass ≡ s
    extended s x = ap (λ (j : ClassDecl). j.superclass) (sym (same_Some x.0 k (sym x.1 ∙ e))) ∙ x.2

    extends_declared : (u : Name) (j : ClassDecl) → k.superclass ≡ Some u → decl cs u ≡ Some j → [] ≡ superclass_faults cs k.superclass
    extends_declared u j s d = sym (ap (superclass_faults cs) s ∙ ap (λ (o : Option ClassDecl). when_fault (is_none o) places.Class E201) d)

    superclass_same : (rest : List Name) (end : EndOf) → IsChain cs c (c ∷ rest) end → superclass_told (c ∷ rest) (end_value end) ≡ superclass_faults cs k.superclass
    superclass_same [] Top is = sym (ap (superclass_faults cs) (extended None is.links))
    superclass_same [] (Undeclared u) is = sym (ap (superclass_faults cs) (extended (Some u) is.links.0) ∙ ap (λ (o : Option ClassDecl). when_fault (is_none o) places.Class E201) is.links.1)
    superclass_same [] (Repeated u) is =
        let j = all_declared cs (c ∷ []) (c ∷ []) (Repeated u) is.links u (contains_in (c ∷ []) u is.links.1) in
        extends_declared u j.0 (extended (Some u) is.links.0) j.1
    superclass_same (d ∷ rest) end is =
        let j = links_declared cs (c ∷ d ∷ rest) d rest end is.links.1 in
        extends_declared d j.0 (extended (Some d) is.links.0) j.1

    cycle_same : (end : EndOf) → cycle_told (end_value end) ≡ when_fault (is_cycle end) places.Class E202
    cycle_same Top = refl
    cycle_same (Undeclared u) = refl
    cycle_same (Repeated u) = refl

    named : k.name ≡ c
    named = decl_name cs c k e

    chain_same : (rest : List Name) (end : EndOf) → IsChain cs c (c ∷ rest) end → chain_told (Some (chain_value (c ∷ rest, end))) ≡ superclass_faults cs k.superclass ++ chain_faults (chain_of cs k.name)
    chain_same rest end is =
        ap₂ (λ (xs ys : List Diagnostic). xs ++ ys) (superclass_same rest end is)
        (cycle_same end ∙ ap chain_faults (sym (ap (chain_of cs) named ∙ chain_of_is cs c (c ∷ rest) end is)))

    -- ---- methods

    abbrev overridden : Name → Option Sig
    overridden x = nearest_sig (rest_of cs k.name) x

    -- these flags say which first methods override one that they may not
    abbrev Tells : (Name → Bool) → Type 0
    Tells flag = (n : ℕ) (m : Method) → own_method m.name k ≡ Some m → override_faults profile cs n m (overridden m.name) ≡ when_fault (flag m.name) (places.Method n) E205

    abbrev flags_behind : List Method → List Method → List Bool
    flags_behind done rest = repeats_behind (map name_of done) (map name_of rest)

    module _ (flag : Name → Bool) (tells : Tells flag) where
      each_method : (done rest : List Method) (n : ℕ) → n + length rest ≤ limit → k.methods ≡ done ++ rest
          → each_numbered method_told n (map flag (map name_of rest)) (flags_behind done rest) ≡ each_numbered (method_faults_of profile cs overridden) n rest (flags_behind done rest)
      each_method done [] n few is = refl
      each_method done (m ∷ rest) n few is = by_flag (later (each_method (done ++ m ∷ []) rest (n + 1) (omega (arith, few)) (is ∙ sym (append_assoc done (m ∷ []) rest)))) (is_in (map name_of done) m.name) refl
        where
          others : List Bool
          others = repeats_behind (map name_of done ++ m.name ∷ []) (map name_of rest)

          Later : List Bool → Type 0
          Later flags = each_numbered method_told (n + 1) (map flag (map name_of rest)) flags ≡ each_numbered (method_faults_of profile cs overridden) (n + 1) rest flags

          later : Later (flags_behind (done ++ m ∷ []) rest) → Later others
          later h = subst (λ (names : List Name). Later (repeats_behind names (map name_of rest))) (map-append name_of done (m ∷ [])) h

          small : bound n ≡ n
          small = same_number n (omega (arith, few))

          own : is_in (map name_of done) m.name ≡ false → own_method m.name k ≡ Some m
          own new = ap (λ (ms : List Method). own_method m.name (record k { methods = ms })) is ∙ found_behind done rest m new ((bytes_eq-Decides m.name m.name).1 refl)

          by_flag : Later others → (b : Bool) → is_in (map name_of done) m.name ≡ b
              → method_told n b (flag m.name) ++ each_numbered method_told (n + 1) (map flag (map name_of rest)) others
              ≡ method_faults_of profile cs overridden n b m ++ each_numbered (method_faults_of profile cs overridden) (n + 1) rest others
          by_flag behind true t = ap₂ (λ (xs ys : List Diagnostic). xs ++ ys) (ap (λ i. fault (places.Method i) E204 ∷ []) small) behind
          by_flag behind false t = ap₂ (λ (xs ys : List Diagnostic). xs ++ ys) (ap (λ i. when_fault (flag m.name) (places.Method i) E205) small ∙ sym (tells n m (own t))) behind

      all_methods : (ms : List Method) → k.methods ≡ ms → each_numbered method_told 0 (map flag (map name_of ms)) (repeats (map name_of ms)) ≡ each_numbered (method_faults_of profile cs overridden) 0 ms (repeats (map name_of ms))
      unfolding repeats
      all_methods ms is = let few = (class_few p c k e).methods in each_method [] ms 0 (omega (arith, few, ap length is)) is

    none_overridden : (end : EndOf) → IsChain cs c (c ∷ []) end → Tells (λ m. false)
    none_overridden end is n m own = ap (λ (ks : List ClassDecl). override_faults profile cs n m (nearest_sig ks m.name)) (ap (rest_of cs) named ∙ rest_along cs c k e [] end is)

    second_overridden : (s : Name) (rest : List Name) (end : EndOf) → IsChain cs c (c ∷ s ∷ rest) end → Tells (flag_by (mean profile p (keys.Members c)) (mean profile p (keys.Members s)))
    second_overridden s rest end is n m own =
        override_told profile cs n m (overridden m.name)
        ∙ ap (λ b. when_fault b (places.Method n) E205)
        (ap (λ (d : Name). clash profile cs (Some (sig_of m)) (nearest_sig (rest_of cs d) m.name)) named
        ∙ (sym (clash_alike cs c k e s rest end is m own profile)
        ∙ sym (ap₂ (clash profile cs) (members_told c m.name ∙ own_nearest cs c k e (s ∷ rest) end is m own) (members_told s m.name))))

    -- ---- the chains of return types

    -- a name of a method is that of a first method
    first_named : (x : Name) → Contains (method_names k) x → (m : Method) × (m.name ≡ x) × (own_method m.name k ≡ Some m)
    first_named x h = by_own (own_method x k) refl
      where
        by_own : (o : Option Method) → own_method x k ≡ o → (m : Method) × (m.name ≡ x) × (own_method m.name k ≡ Some m)
        by_own None own =
            let at = place_of (method_names k) x h in
            let m = at_map name_of k.methods at.0 x at.1 in
            absurd (finds_one (λ (f : Method). bytes_eq f.name x) k.methods at.0 m.0 m.1 ((bytes_eq-Decides m.0.name x).1 m.2) own)
        by_own (Some m) own =
            let same : m.name ≡ x = found_name name_of x k.methods m own in
            (m, same, ap (λ (n : Name). own_method n k) same ∙ own)

    chain_same_at : (s : Name) (rest : List Name) (end : EndOf) → IsChain cs c (c ∷ s ∷ rest) end → (x : Name) → Contains (method_names k) x
        → sig_chain (method_in (mean profile p (keys.Members c)) x) (method_in (mean profile p (keys.Members s)) x) ≡ return_chain (own_method x k) (nearest_sig (rest_of cs k.name) x)
    chain_same_at s rest end is x h = by_first (first_named x h)
      where
        by_first : (m : Method) × (m.name ≡ x) × (own_method m.name k ≡ Some m) → sig_chain (method_in (mean profile p (keys.Members c)) x) (method_in (mean profile p (keys.Members s)) x) ≡ return_chain (own_method x k) (nearest_sig (rest_of cs k.name) x)
        by_first w =
            let m : Method = w.0 in
            let own : own_method m.name k ≡ Some m = w.2 in
            subst (λ (y : Name). sig_chain (method_in (mean profile p (keys.Members c)) y) (method_in (mean profile p (keys.Members s)) y) ≡ return_chain (own_method y k) (nearest_sig (rest_of cs k.name) y)) w.1
            (ap₂ sig_chain (members_told c m.name ∙ own_nearest cs c k e (s ∷ rest) end is m own) (members_told s m.name)
            ∙ (chain_alike cs c k e s rest end is m own
            ∙ ap₂ (λ (o : Option Method) (d : Name). return_chain o (nearest_sig (rest_of cs d) m.name)) (sym own) (sym named)))

    reads_same : (a : Profile) (s : Name) (rest : List Name) (end : EndOf) → IsChain cs c (c ∷ s ∷ rest) end
        → flat_map (reads_by a (mean profile p (keys.Members c)) (mean profile p (keys.Members s))) (method_names k) ≡ return_chains a cs k
    reads_same One s rest end is = flat_none (method_names k)
    reads_same Two s rest end is =
        let told : Name → List Key = reads_by Two (mean profile p (keys.Members c)) (mean profile p (keys.Members s)) in
        let chain : Name → List Key = λ x. return_chain (own_method x k) (nearest_sig (rest_of cs k.name) x) in
        flat_same told chain (method_names k) (all_from (λ (x : Name). told x ≡ chain x) (method_names k) (chain_same_at s rest end is))

    -- what comes of the methods
    record Compared (ms : List Method) (names : List Name) (q : List Bool → Prog) : Type 0 where
      flags : List Bool
      passed : Passes (mean profile p) (override_step profile c (map name_of ms) (overridden_class (map name_of ms) names) q) (overriding ms names (return_chains profile cs k)) (q flags)
      same : each_numbered method_told 0 flags (repeats (map name_of ms)) ≡ each_numbered (method_faults_of profile cs overridden) 0 ms (repeats (map name_of ms))

    compared : (ms : List Method) → k.methods ≡ ms → (rest : List Name) (end : EndOf) → IsChain cs c (c ∷ rest) end → (q : List Bool → Prog) → Compared ms (c ∷ rest) q
    compared [] e rest end is q = record { flags = []; passed = Stays _; same = refl }
    compared (m ∷ ms) e [] end is q = record { flags = map (λ (x : Name). false) (map name_of (m ∷ ms)); passed = Stays _; same = all_methods (λ x. false) (none_overridden end is) (m ∷ ms) e }
    compared (m ∷ ms) e (s ∷ rest) end is q =
        let names : List Name = map name_of (m ∷ ms) in
        let own : Value = mean profile p (keys.Members c) in
        let other : Value = mean profile p (keys.Members s) in
        let flags : List Bool = map (flag_by own other) names in
        let returned : List Key = return_chains profile cs k in
        let chains : flat_map (reads_by profile own other) names ≡ returned = ap (λ xs. flat_map (reads_by profile own other) (map name_of xs)) (sym e) ∙ reads_same profile s rest end is in
        record {
          flags = flags;
          passed =
              Reads (keys.Members c) (λ v. Ask (keys.Members s) (λ w. each (override_flag_step profile v w) names [] q)) (keys.Members s ∷ returned) (q flags)
              (Reads (keys.Members s) (λ w. each (override_flag_step profile own w) names [] q) returned (q flags)
              (subst (λ (ks : List Key). Passes (mean profile p) (each (override_flag_step profile own other) names [] q) ks (q flags)) chains (methods_pass own other names q)));
          same = all_methods (flag_by own other) (second_overridden s rest end is) (m ∷ ms) e;
        }

    -- ---- the class

    all_same : (rest : List Name) (end : EndOf) (flags : List Bool) → IsChain cs c (c ∷ rest) end
        → each_numbered method_told 0 flags (repeats (method_names k)) ≡ each_numbered (method_faults_of profile cs overridden) 0 k.methods (repeats (method_names k))
        → faults_told (header_of k) (Some (chain_value (c ∷ rest, end))) (undeclared k.fields) flags ≡ declaration_faults profile cs k
    unfolding faults_told declaration_faults
    all_same rest end flags is methods =
        let few = (class_few p c k e).fields in
        ap₂ (λ (xs ys : List Diagnostic). xs ++ ys) (chain_same rest end is) (ap₂ (λ (xs ys : List Diagnostic). xs ++ ys) (each_field k.fields 0 (repeats (field_names k)) (omega (arith, few))) methods)
        ∙ append_assoc (superclass_faults cs k.superclass) (chain_faults (chain_of cs k.name)) _

    rest_pass : (rest : List Name) (end : EndOf) → IsChain cs c (c ∷ rest) end
        → Passes (mean profile p) (check_declared_steps profile c (header_of k) (Some (chain_value (c ∷ rest, end))) Ret) (field_headers k.fields ++ overriding k.methods (c ∷ rest) (return_chains profile cs k)) (Ret (values.CheckClass (fault_set (declaration_faults profile cs k))))
    rest_pass rest end is =
        let chain : Option ChainValue = Some (chain_value (c ∷ rest, end)) in
        let last : List Bool → List Bool → Prog = λ flags others. Ret (values.CheckClass (fault_set (faults_told (header_of k) chain flags others))) in
        let on : List Bool → Prog = λ flags. override_step profile c (method_names k) (overridden_class (method_names k) (c ∷ rest)) (last flags) in
        let w = compared k.methods refl rest end is (last (undeclared k.fields)) in
        subst (λ (ds : List Diagnostic). Passes (mean profile p) (each field_type_step k.fields [] on) (field_headers k.fields ++ overriding k.methods (c ∷ rest) (return_chains profile cs k)) (Ret (values.CheckClass (fault_set ds)))) (all_same rest end w.flags is w.same)
        (passes_then (mean profile p) (each field_type_step k.fields [] on) (field_headers k.fields) (on (undeclared k.fields)) (overriding k.methods (c ∷ rest) (return_chains profile cs k)) (last (undeclared k.fields) w.flags) (fields_pass k.fields on) w.passed)

    chain_pass : (names : List Name) (end : EndOf) → IsChain cs c names end
        → Passes (mean profile p) (check_declared_steps profile c (header_of k) (Some (chain_value (names, end))) Ret) (field_headers k.fields ++ overriding k.methods names (return_chains profile cs k)) (Ret (values.CheckClass (fault_set (declaration_faults profile cs k))))
    chain_pass names end is =
        subst (λ (ns : List Name). Passes (mean profile p) (check_declared_steps profile c (header_of k) (Some (chain_value (ns, end))) Ret) (field_headers k.fields ++ overriding k.methods ns (return_chains profile cs k)) (Ret (values.CheckClass (fault_set (declaration_faults profile cs k))))) (sym is.first)
        (rest_pass is.rest end (subst (λ (ns : List Name). IsChain cs c ns end) is.first is))

    declared_pass : Passes (mean profile p) (check_declared_steps profile c (header_of k) (option_map chain_value (chain_of cs c)) Ret) (field_headers k.fields ++ overriding k.methods (chain_names (chain_of cs c)) (return_chains profile cs k)) (Ret (values.CheckClass (fault_set (declaration_faults profile cs k))))
    declared_pass =
        let h = has_chain cs c k e in
        subst (λ (o : Option Chain). Passes (mean profile p) (check_declared_steps profile c (header_of k) (option_map chain_value o) Ret) (field_headers k.fields ++ overriding k.methods (chain_names o) (return_chains profile cs k)) (Ret (values.CheckClass (fault_set (declaration_faults profile cs k))))) (sym (chain_of_is cs c h.0 h.1 h.2))
        (chain_pass h.0 h.1 h.2)

  -- ---- the key

  by_class : (c : Name) (o : Option ClassDecl) → class_at p c ≡ o → Passes (mean profile p) (check_class_by profile c (option_map header_of o) Ret) (class_check_reads profile p c o) (Ret (values.CheckClass (faults_of (declaration_faults profile cs) o)))
  unfolding mean
  by_class c None e = Stays _
  by_class c (Some k) e =
      Reads (keys.Supers c) (λ v. check_declared_steps profile c (header_of k) (supers_in v) Ret) (field_headers k.fields ++ overriding k.methods (chain_names (chain_of cs c)) (return_chains profile cs k)) (Ret (values.CheckClass (fault_set (declaration_faults profile cs k)))) (declared_pass c k e)

  passes : (c : Name) → Passes (mean profile p) (check_class_steps profile c Ret) (asked_keys profile p (keys.CheckClass c)) (Ret (mean profile p (keys.CheckClass c)))
  unfolding mean asked_keys
  passes c = Reads (keys.Header c) (λ v. check_class_by profile c (header_in v) Ret) (class_check_reads profile p c (class_at p c)) (Ret (mean profile p (keys.CheckClass c))) (by_class c (class_at p c) refl)

-- ---- ranks and kinds

module _ (c : Name) where
  abbrev Fitting : Prog → Type 0
  Fitting prog = Fits (keys.CheckClass c) prog

  fits_type : (t : Ty) (g : Bool → Prog) → ((b : Bool) → Fitting (g b)) → Fitting (type_step t g)
  unfolding Fits
  fits_type (types.Class u) g h = (omega arith, λ v. h (not (is_declared_in v)))
  fits_type types.Int g h = h false
  fits_type types.Boolean g h = h false
  fits_type types.IntArray g h = h false

  fits_accept : (t u : Ty) (g : Bool → Prog) → ((b : Bool) → Fitting (g b)) → Fitting (accept_step t u g)
  unfolding Fits
  fits_accept (types.Class d) (types.Class u) g h = by_test (is_same d u)
    where
      by_test : (b : Bool) → Fitting (if b then g true else descends_step d u g)
      by_test true = h true
      by_test false = (omega arith, λ v. h (descends_in v u))
  fits_accept t u g h = h (same_type t u)

  fits_may : (profile : Profile) (own other : Sig) (g : Bool → Prog) → ((b : Bool) → Fitting (g b)) → Fitting (may_step profile own other g)
  fits_may One own other g h = h (same_signature own other)
  fits_may Two own other g h = by_test (same_types own.formals other.formals)
    where
      by_test : (b : Bool) → Fitting (if b then accept_step own.returns other.returns g else g false)
      by_test true = fits_accept own.returns other.returns g h
      by_test false = h false

  fits_flag : (profile : Profile) (own other : Option Sig) (g : Bool → Prog) → ((b : Bool) → Fitting (g b)) → Fitting (override_flag profile own other g)
  fits_flag profile None other g h = h false
  fits_flag profile (Some own) None g h = h false
  fits_flag profile (Some own) (Some other) g h = fits_may profile own other (λ may. g (not may)) (λ b. h (not b))

  fits_second : (profile : Profile) (methods : List Name) (o : Option Name) (g : List Bool → Prog) → ((flags : List Bool) → Fitting (g flags)) → Fitting (override_step profile c methods o g)
  unfolding Fits
  fits_second profile methods None g h = h (map (λ (x : Name). false) methods)
  fits_second profile methods (Some s) g h = (
    omega arith,
    λ own. (
      omega arith,
      λ other.
          each_fits (keys.CheckClass c) (override_flag_step profile own other)
          (λ (x : Name) flags q r. fits_flag profile (method_in own x) (method_in other x) (λ b. q (flags ++ b ∷ [])) (λ b. r (flags ++ b ∷ []))) methods [] g h,
    ),
  )

  fits_chain : (profile : Profile) (h : HeaderValue) (chain : Option ChainValue) → Fitting (check_declared_steps profile c h chain Ret)
  unfolding Fits
  fits_chain profile h chain =
      each_fits (keys.CheckClass c) field_type_step (λ (f : Field) flags q g. fits_type f.ty (λ b. q (flags ++ b ∷ [])) (λ b. g (flags ++ b ∷ []))) h.fields []
      (λ flags. override_step profile c h.methods (overridden_class h.methods (chain_classes chain)) (λ others. Ret (values.CheckClass (fault_set (faults_told h chain flags others)))))
      (λ flags. fits_second profile h.methods (overridden_class h.methods (chain_classes chain)) (λ others. Ret (values.CheckClass (fault_set (faults_told h chain flags others)))) (λ others. refl))

  fits_header : (profile : Profile) (o : Option HeaderValue) → Fitting (check_class_by profile c o Ret)
  unfolding Fits
  fits_header profile None = refl
  fits_header profile (Some h) = (omega arith, λ v. fits_chain profile h (supers_in v))

  fits : (profile : Profile) → Fitting (check_class_steps profile c Ret)
  unfolding Fits
  fits profile = (omega arith, λ v. fits_header profile (header_in v))

pub check_class_ties : CheckClassTies
unfolding reads
check_class_ties profile c = ties_by profile (keys.CheckClass c) (check_class_steps profile c Ret) (λ p. asked_keys profile p (keys.CheckClass c)) (λ p. passes profile p c) (λ p. refl) (fits c profile)
