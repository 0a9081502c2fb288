-- All diagnostics of a class in a project.
use Rattle.std.proofs.Common.{◌≡◌, ℕ, ◌+◌, Bool, true, false, List, [], ◌∷◌, ◌++◌, map, Option, Some, None, is_some, option_map, refl, sym, ap, ap₂, subst, ◌∙◌, arith, append_assoc, append-nil, if◌then◌else◌}
use Rattle.std.specs.Prelude.{flat_map}
use Rattle.std.specs.List.{AllByRecursion}
use Rattle.std.proofs.lemmas.List.{map-append}
use Rattle.std.proofs.lemmas.Slice.Eq.{bytes_eq-Decides}
use Rattle.item_ids.specs.declared.key.Key.{Key}
use Rattle.item_ids.specs.declared.key.Key.TheVariants as keys
use Rattle.mj_tree.specs.Trees.{Name, Statement, Method}
use Rattle.mj_answer.specs.declared.diagnostic.Diagnostic.{Diagnostic}
use Rattle.mj_members.specs.Declarations.{ClassDecl}
use Rattle.mj_classes.specs.Members.{own_method}
use Rattle.mj_classes.proofs.Climb.{decl_name}
use Rattle.named_files.specs.Repeats.{is_in, repeats_behind, repeats}
use Rattle.mj_typing.specs.Bodies.{method_faults, main_faults}
use Rattle.mj_rules.specs.Sentences.{classes_in}
use Rattle.mj_rules.specs.Worlds.{world_of}
use Rattle.mj_rules.specs.ClassFaults.{main_word}
use Rattle.mj_rules.specs.FaultLists.{each_numbered, declaration_faults, class_faults, method_names, inside, body_faults_of, main_method_faults, body_faults}
use Rattle.tree_bytes.specs.Bodies.{BodyValue, OfMain, OfMethod}
use Rattle.result_bytes.specs.Payloads.{HeaderValue}
use Rattle.result_bytes.specs.declared.value.Value.TheVariants as values
use Rattle.profiles.specs.declared.profile.Profile.{Profile}
use Rattle.recorder.specs.Projects.{Project}
use Rattle.recorder.specs.Programs.{Prog, Ret, Fits}
use Rattle.recorder.proofs.Rules.{each_fits}
use Rattle.recorder.specs.Backed.{is_seen}
use Rattle.query_rules.specs.Items.{class_at, header_of, body_at, mistakes_in, fault_set, faults_of}
use Rattle.query_rules.specs.Meaning.{mean}
use Rattle.query_rules.specs.Reads.{bodies_of, diagnosis_reads, asked_keys, first_keys, reads}
use Rattle.mj_rules.proofs.Composing.{SameFaults}
use Rattle.result_bytes.specs.Parts.{header_in, faults_in}
use Rattle.member_queries.specs.FirstNames.{without_repeats, first_names}
use Rattle.member_queries.specs.Diags.{bodies_in, body_step, bodies_steps, declared_faults_steps, diags_by, diags_steps}
use Rattle.member_queries.specs.Laws.{DiagsTies}
use Rattle.member_queries.proofs.Passes.{Passes, Stays, Reads, passes_each, flat_one, ties_by}
use Rattle.member_queries.proofs.Declared.{main_has_none, found_behind}
use Rattle.member_queries.proofs.Repeats.{firsts_once}
use Rattle.member_queries.proofs.FaultSets.{same_append, same_flat, set_same, one_set, fold_append}

abbrev name_of : Method → Name
name_of m = m.name

module _ (profile : Profile) (p : Project) (c : Name) where
  abbrev cs : List ClassDecl
  cs = classes_in p

  -- the diagnostics in a body, as they are found
  abbrev body_list : Name → List Diagnostic
  body_list m = inside m (mistakes_in (world_of cs) c (body_at p c m))

  module _ (k : ClassDecl) (e : class_at p c ≡ Some k) where
    method_there : (m : Method) → k.main ≡ None → own_method m.name k ≡ Some m → body_at p c m.name ≡ Some (OfMethod m)
    method_there m none own = rw (e, none, own) refl

    -- ---- the diagnostics of the bodies

    abbrev flags_behind : List Method → List Method → List Bool
    flags_behind done rest = repeats_behind (map name_of done) (map name_of rest)

    each_body : (done rest : List Method) (n : ℕ) → k.main ≡ None → k.methods ≡ done ++ rest
        → flat_map body_list (without_repeats (map name_of rest) (flags_behind done rest)) ≡ each_numbered (body_faults_of cs k.name) n rest (flags_behind done rest)
    each_body done [] n none is = refl
    each_body done (m ∷ rest) n none is = by_flag (later (each_body (done ++ m ∷ []) rest (n + 1) none (is ∙ sym (append_assoc done (m ∷ []) rest)))) (is_in (map name_of done) m.name) refl
      where
        others : List Bool
        others = repeats_behind (map name_of done ++ m.name ∷ []) (map name_of rest)

        Later : List Bool → Type 0
        Later flags = flat_map body_list (without_repeats (map name_of rest) flags) ≡ each_numbered (body_faults_of cs k.name) (n + 1) rest flags

        later : Later (flags_behind (done ++ m ∷ []) rest) → Later others
        later h = subst (λ (names : List Name). Later (repeats_behind names (map name_of rest))) (map-append name_of done (m ∷ [])) h

        here : is_in (map name_of done) m.name ≡ false → body_list m.name ≡ inside m.name (method_faults (world_of cs) k.name m)
        here new =
            let own : own_method m.name k ≡ Some m = ap (λ (ms : List Method). own_method m.name (record k { methods = ms })) is ∙ found_behind done rest m new ((bytes_eq-Decides m.name m.name).1 refl) in
            ap (λ (b : Option BodyValue). inside m.name (mistakes_in (world_of cs) c b)) (method_there m none own)
            ∙ ap (λ (x : Name). inside m.name (method_faults (world_of cs) x m)) (sym (decl_name cs c k e))

        by_flag : Later others → (b : Bool) → is_in (map name_of done) m.name ≡ b
            → flat_map body_list (if b then without_repeats (map name_of rest) others else m.name ∷ without_repeats (map name_of rest) others)
            ≡ (if b then [] else inside m.name (method_faults (world_of cs) k.name m)) ++ each_numbered (body_faults_of cs k.name) (n + 1) rest others
        by_flag behind true f = behind
        by_flag behind false f = ap₂ (λ (xs ys : List Diagnostic). xs ++ ys) (here f) behind

    all_bodies : (o : Option Statement) → k.main ≡ o → flat_map body_list (bodies_in (header_of k)) ≡ body_faults cs k
    unfolding body_faults first_names repeats
    all_bodies None none =
        ap (λ (o : Option Statement). flat_map body_list (if is_some o then main_word ∷ [] else first_names (method_names k))) none
        ∙ each_body [] k.methods 0 none refl
        ∙ sym (append-nil _)
        ∙ ap (λ (o : Option Statement). each_numbered (body_faults_of cs k.name) 0 k.methods (repeats (method_names k)) ++ main_method_faults cs k o) (sym none)
    all_bodies (Some s) some =
        let there : body_at p c main_word ≡ Some (OfMain s) = rw (e, some) refl in
        ap (λ (o : Option Statement). flat_map body_list (if is_some o then main_word ∷ [] else first_names (method_names k))) some
        ∙ append-nil (body_list main_word)
        ∙ ap (λ (b : Option BodyValue). inside main_word (mistakes_in (world_of cs) c b)) there
        ∙ ap (λ (n : Name). inside main_word (main_faults (world_of cs) (record { name = n; statement = s }))) (sym (decl_name cs c k e))
        ∙ ap₂ (λ (ms : List Method) (o : Option Statement). each_numbered (body_faults_of cs k.name) 0 ms (repeats (map name_of ms)) ++ main_method_faults cs k o) (sym (main_has_none p c k e s some)) (sym some)

    -- ---- what is asked, and what comes of it

    abbrev told : List Diagnostic
    told = fault_set (declaration_faults profile cs k) ++ flat_map (λ m. fault_set (body_list m)) (bodies_in (header_of k))

    told_same : SameFaults told (class_faults profile cs k)
    told_same =
        let bodies : SameFaults (flat_map (λ m. fault_set (body_list m)) (bodies_in (header_of k))) (body_faults cs k) =
        subst (SameFaults (flat_map (λ m. fault_set (body_list m)) (bodies_in (header_of k)))) (all_bodies k.main refl)
        (same_flat (λ m. fault_set (body_list m)) body_list (λ m. set_same (body_list m)) (bodies_in (header_of k))) in
        same_append (fault_set (declaration_faults profile cs k)) (declaration_faults profile cs k) (flat_map (λ m. fault_set (body_list m)) (bodies_in (header_of k))) (body_faults cs k)
        (set_same (declaration_faults profile cs k)) bodies

    one_body : (m : Name) (faults : List Diagnostic) (q : List Diagnostic → Prog) → Passes (mean profile p) (body_step c m faults q) (keys.CheckBody c m ∷ []) (q (faults ++ fault_set (body_list m)))
    unfolding mean
    one_body m faults q = Reads (keys.CheckBody c m) (λ v. q (faults ++ faults_in v)) [] (q (faults ++ fault_set (body_list m))) (Stays _)

    every_body : (ms : List Name) → AllByRecursion (λ (m : Name). (faults : List Diagnostic) (q : List Diagnostic → Prog) → Passes (mean profile p) (body_step c m faults q) (keys.CheckBody c m ∷ []) (q (faults ++ fault_set (body_list m)))) ms
    every_body [] = tt
    every_body (m ∷ ms) = (one_body m, every_body ms)

    bodies_pass : (start : List Diagnostic) (q : List Diagnostic → Prog) → Passes (mean profile p) (bodies_steps c (header_of k) start q) (map (keys.CheckBody c) (bodies_in (header_of k))) (q (start ++ flat_map (λ m. fault_set (body_list m)) (bodies_in (header_of k))))
    bodies_pass start q =
        subst (λ (ks : List Key). Passes (mean profile p) (bodies_steps c (header_of k) start q) ks (q (start ++ flat_map (λ m. fault_set (body_list m)) (bodies_in (header_of k))))) (flat_one (keys.CheckBody c) (bodies_in (header_of k)))
        (subst (λ (l : List Diagnostic). Passes (mean profile p) (bodies_steps c (header_of k) start q) (flat_map (λ (m : Name). keys.CheckBody c m ∷ []) (bodies_in (header_of k))) (q l)) (fold_append (λ (m : Name). fault_set (body_list m)) (bodies_in (header_of k)) start)
        (passes_each (mean profile p) (body_step c) (λ (m : Name). keys.CheckBody c m ∷ []) (λ m faults. faults ++ fault_set (body_list m)) (bodies_in (header_of k)) (every_body (bodies_in (header_of k))) start q))

    declared_pass : Passes (mean profile p) (declared_faults_steps c (header_of k) (λ faults. Ret (values.Diags faults))) (keys.CheckClass c ∷ map (keys.CheckBody c) (bodies_in (header_of k))) (Ret (values.Diags (fault_set (class_faults profile cs k))))
    unfolding mean
    declared_pass =
        let check : faults_in (mean profile p (keys.CheckClass c)) ≡ fault_set (declaration_faults profile cs k) = ap (faults_of (declaration_faults profile cs)) e in
        Reads (keys.CheckClass c) (λ v. bodies_steps c (header_of k) (faults_in v) (λ faults. Ret (values.Diags (fault_set faults)))) (map (keys.CheckBody c) (bodies_in (header_of k))) (Ret (values.Diags (fault_set (class_faults profile cs k))))
        (subst (λ (start : List Diagnostic). Passes (mean profile p) (bodies_steps c (header_of k) start (λ faults. Ret (values.Diags (fault_set faults)))) (map (keys.CheckBody c) (bodies_in (header_of k))) (Ret (values.Diags (fault_set (class_faults profile cs k))))) (sym check)
        (subst (λ (l : List Diagnostic). Passes (mean profile p) (bodies_steps c (header_of k) (fault_set (declaration_faults profile cs k)) (λ faults. Ret (values.Diags (fault_set faults)))) (map (keys.CheckBody c) (bodies_in (header_of k))) (Ret (values.Diags l)))
        (one_set told (class_faults profile cs k) told_same) (bodies_pass (fault_set (declaration_faults profile cs k)) (λ faults. Ret (values.Diags (fault_set faults))))))

    -- the bodies are those of the class, each where it stands first
    same_bodies : (o : Option Statement) → k.main ≡ o → (seen : List Key) → first_keys seen (map (keys.CheckBody c) (bodies_in (header_of k))) ≡ first_keys seen (map (keys.CheckBody c) (bodies_of k))
    same_bodies None f seen = rw f (firsts_once (keys.CheckBody c) (method_names k) seen)
    same_bodies (Some s) f seen = rw f refl

  -- ---- the key

  abbrev asked_by : Option ClassDecl → List Key
  asked_by None = []
  asked_by (Some k) = keys.CheckClass c ∷ map (keys.CheckBody c) (bodies_in (header_of k))

  by_class : (o : Option ClassDecl) → class_at p c ≡ o → Passes (mean profile p) (diags_by c (option_map header_of o) Ret) (asked_by o) (Ret (values.Diags (faults_of (class_faults profile cs) o)))
  by_class None e = Stays _
  by_class (Some k) e = declared_pass k e

  passes : Passes (mean profile p) (diags_steps c Ret) (keys.Header c ∷ asked_by (class_at p c)) (Ret (mean profile p (keys.Diags c)))
  unfolding mean
  passes = Reads (keys.Header c) (λ v. diags_by c (header_in v) Ret) (asked_by (class_at p c)) (Ret (mean profile p (keys.Diags c))) (by_class (class_at p c) refl)

  firsts_on : (k : Key) (xs ys : List Key) → ((seen : List Key) → first_keys seen xs ≡ first_keys seen ys) → (seen : List Key) → first_keys seen (k ∷ xs) ≡ first_keys seen (k ∷ ys)
  firsts_on k xs ys h seen = ap₂ (λ (as' bs : List Key). if is_seen seen k then as' else k ∷ bs) (h seen) (h (seen ++ k ∷ []))

  same_by : (o : Option ClassDecl) → class_at p c ≡ o → (seen : List Key) → first_keys seen (asked_by o) ≡ first_keys seen (diagnosis_reads c o)
  same_by None e seen = refl
  same_by (Some k) e seen = firsts_on (keys.CheckClass c) (map (keys.CheckBody c) (bodies_in (header_of k))) (map (keys.CheckBody c) (bodies_of k)) (same_bodies k e k.main refl) seen

  same_reads : first_keys [] (keys.Header c ∷ asked_by (class_at p c)) ≡ reads profile p (keys.Diags c)
  unfolding reads asked_keys
  same_reads = firsts_on (keys.Header c) (asked_by (class_at p c)) (diagnosis_reads c (class_at p c)) (same_by (class_at p c) refl) []

-- ---- ranks and kinds

fits : (c : Name) → Fits (keys.Diags c) (diags_steps c Ret)
unfolding Fits
fits c = (omega arith, λ v. by_header (header_in v))
  where
    by_header : (o : Option HeaderValue) → Fits (keys.Diags c) (diags_by c o Ret)
    by_header None = refl
    by_header (Some h) = (omega arith, λ v. each_fits (keys.Diags c) (body_step c) (λ m faults q g. (omega arith, λ w. g (faults ++ faults_in w))) (bodies_in h) (faults_in v) (λ faults. Ret (values.Diags (fault_set faults))) (λ faults. refl))

pub diags_ties : DiagsTies
diags_ties c profile = ties_by profile (keys.Diags c) (diags_steps c Ret) (λ p. keys.Header c ∷ asked_by profile p c (class_at p c)) (λ p. passes profile p c) (λ p. same_reads profile p c) (fits c)
