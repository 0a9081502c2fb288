-- The members of a class in a project.
use Rattle.std.proofs.Common.{◌≡◌, List, [], ◌∷◌, ◌++◌, map, Option, Some, None, find, option_map, refl, sym, ap, subst, ◌∙◌, arith, bytes_eq}
use Rattle.std.specs.Prelude.{Contains, flat_map}
use Rattle.std.proofs.lemmas.Option.{none-some}
use Rattle.item_ids.specs.declared.key.Key.{Key}
use Rattle.item_ids.specs.declared.key.Key.TheVariants as keys
use Rattle.item_ids.proofs.Lists.{all_from}
use Rattle.mj_tree.specs.Trees.{Name, Statement, Method}
use Rattle.mj_tree.specs.declared.tree.Field.{Field}
use Rattle.mj_answer.specs.AnswerValues.{MethodRowValue, ClassTableValue}
use Rattle.mj_members.specs.Declarations.{ClassDecl}
use Rattle.mj_classes.specs.Declarations.{decl}
use Rattle.mj_classes.specs.Chains.{EndOf, IsChain, ancestry, chain_of}
use Rattle.mj_classes.specs.Members.{nearest, own_method}
use Rattle.mj_members.specs.Tables.{fields_along, methods_along}
use Rattle.mj_classes.specs.Tables.{IsTable}
use Rattle.mj_classes.proofs.Climb.{all_declared, chain_of_is, has_chain, has_none}
use Rattle.mj_classes.proofs.Nearest.{ancestry_by, ancestry_of_chain, is_from_nearest}
use Rattle.mj_members.proofs.Tables.{firsts_are}
use Rattle.mj_classes.proofs.Tables.{is_table}
use Rattle.mj_rules.specs.Sentences.{classes_in}
use Rattle.mj_rules.specs.Tables.{field_row, method_row, table_of}
use Rattle.tree_bytes.specs.Bodies.{OfMethod}
use Rattle.result_bytes.specs.Payloads.{ChainValue}
use Rattle.result_bytes.specs.declared.value.Value.TheVariants as values
use Rattle.profiles.specs.declared.profile.Profile.{Profile}
use Rattle.recorder.specs.Projects.{Project}
use Rattle.recorder.specs.Programs.{Prog, Ret, Fits, each}
use Rattle.recorder.proofs.Rules.{fold_of, each_fits, each_map}
use Rattle.query_rules.specs.Items.{class_at, chain_value, body_at}
use Rattle.query_rules.specs.Meaning.{mean}
use Rattle.query_rules.specs.Reads.{row_signature, chain_headers, signatures, asked_keys, reads}
use Rattle.result_bytes.specs.Parts.{header_in, signature_in, supers_in}
use Rattle.member_queries.specs.Members.{Link, nearest_fields, nearest_methods, link_step, with_types, types_step, table_steps, chain_table_steps, members_by, members_steps}
use Rattle.member_queries.specs.Laws.{MembersTies}
use Rattle.member_queries.proofs.Passes.{Passes, Stays, Reads, passes_each, passes_then, flat_one, ties_by}
use Rattle.member_queries.proofs.Indexed.{AreDeclared}
use Rattle.member_queries.proofs.Declared.{main_has_none}
use Rattle.member_queries.proofs.FaultSets.{fold_append}
use Rattle.member_queries.proofs.Tables.{map_twice, told_link, fields_same, named_method, methods_same}

-- what each item adds, in order
one_each : {A B : Type 0} (f : A → B) (xs : List A) → fold_of (λ a list. list ++ f a ∷ []) xs [] ≡ map f xs
one_each f xs = fold_append (λ a. f a ∷ []) xs [] ∙ flat_one f xs

module _ (profile : Profile) (p : Project) where
  abbrev cs : List ClassDecl
  cs = classes_in p

  -- ---- the headers of a chain

  one_link : (n : Name) (links : List Link) (q : List Link → Prog) → Passes (mean profile p) (link_step n links q) (keys.Header n ∷ []) (q (links ++ told_link cs n ∷ []))
  unfolding mean
  one_link n links q = Reads (keys.Header n) (λ v. q (links ++ (n, header_in v) ∷ [])) [] (q (links ++ told_link cs n ∷ [])) (Stays _)

  links_pass : (ns : List Name) (q : List Link → Prog) → Passes (mean profile p) (each link_step ns [] q) (map keys.Header ns) (q (map (told_link cs) ns))
  links_pass ns q =
      subst (λ (ks : List Key). Passes (mean profile p) (each link_step ns [] q) ks (q (map (told_link cs) ns))) (flat_one keys.Header ns)
      (subst (λ (ls : List Link). Passes (mean profile p) (each link_step ns [] q) (flat_map (λ (n : Name). keys.Header n ∷ []) ns) (q ls)) (one_each (told_link cs) ns)
      (passes_each (mean profile p) link_step (λ (n : Name). keys.Header n ∷ []) (λ n links. links ++ told_link cs n ∷ []) ns
      (all_from (λ (n : Name). (links : List Link) (q : List Link → Prog) → Passes (mean profile p) (link_step n links q) (keys.Header n ∷ []) (q (links ++ told_link cs n ∷ []))) ns (λ n h. one_link n)) [] q))

  -- ---- the types of a method

  own_none : (k : ClassDecl) (m : Name) → k.methods ≡ [] → own_method m k ≡ None
  own_none k m e = ap (find (λ (f : Method). bytes_eq f.name m)) e

  body_there : (owner : Name) (k : ClassDecl) (m : Method) (o : Option Statement) → decl cs owner ≡ Some k → k.main ≡ o → own_method m.name k ≡ Some m → body_at p owner m.name ≡ Some (OfMethod m)
  body_there owner k m None e main own = rw (e, main, own) refl
  body_there owner k m (Some s) e main own = absurd (none-some m (sym (own_none k m.name (main_has_none p owner k e s main)) ∙ own))

  module _ (c : Name) where
    along : IsTable (λ (m : Method). m.name) (λ owner m. nearest (own_method m.name) (ancestry cs c) ≡ Some (owner, m)) (methods_along (ancestry cs c))
    unfolding methods_along
    along = is_table (λ (m : Method). m.name) (λ (k : ClassDecl). k.methods) (ancestry cs c) (λ owner m. nearest (own_method m.name) (ancestry cs c) ≡ Some (owner, m)) (λ owner m h. h) (λ owner m h. h)

    member_there : (r : Name × Method) → Contains (methods_along (ancestry cs c)) r → body_at p r.0 r.1.name ≡ Some (OfMethod r.1)
    member_there r h =
        let is = is_from_nearest (own_method r.1.name) cs c r.0 r.1 ((along.members r.0 r.1).0 h) in
        body_there r.0 is.here.0 r.1 is.here.0.main is.here.1 refl is.here.2

    one_row : (r : Name × Method) → Contains (methods_along (ancestry cs c)) r → (rows : List MethodRowValue) (q : List MethodRowValue → Prog)
        → Passes (mean profile p) (types_step (named_method cs r) rows q) (keys.Sig r.0 r.1.name ∷ []) (q (rows ++ method_row r ∷ []))
    unfolding mean
    one_row r h rows q =
        let there = member_there r h in
        Reads (keys.Sig r.0 r.1.name) (λ v. q (with_types (named_method cs r) rows (signature_in v))) [] (q (rows ++ method_row r ∷ [])) (rw there (Stays _))

    rows_pass : (q : List MethodRowValue → Prog) → Passes (mean profile p) (each types_step (map (named_method cs) (methods_along (ancestry cs c))) [] q) (signatures p c) (q (map method_row (methods_along (ancestry cs c))))
    rows_pass q =
        let rs : List (Name × Method) = methods_along (ancestry cs c) in
        subst (λ (x : Prog). Passes (mean profile p) x (signatures p c) (q (map method_row rs))) (sym (each_map types_step (named_method cs) rs [] q))
        (subst (λ (ks : List Key). Passes (mean profile p) (each (λ (r : Name × Method). types_step (named_method cs r)) rs [] q) ks (q (map method_row rs))) (flat_one (λ (r : Name × Method). keys.Sig r.0 r.1.name) rs ∙ sym (map_twice method_row row_signature rs))
        (subst (λ (rows : List MethodRowValue). Passes (mean profile p) (each (λ (r : Name × Method). types_step (named_method cs r)) rs [] q) (flat_map (λ (r : Name × Method). keys.Sig r.0 r.1.name ∷ []) rs) (q rows)) (one_each method_row rs)
        (passes_each (mean profile p) (λ (r : Name × Method). types_step (named_method cs r)) (λ (r : Name × Method). keys.Sig r.0 r.1.name ∷ []) (λ r rows. rows ++ method_row r ∷ []) rs
        (all_from (λ (r : Name × Method). (rows : List MethodRowValue) (q : List MethodRowValue → Prog) → Passes (mean profile p) (types_step (named_method cs r) rows q) (keys.Sig r.0 r.1.name ∷ []) (q (rows ++ method_row r ∷ []))) rs one_row) [] q)))

    -- ---- the table

    table_pass : (names : List Name) (end : EndOf) (q : ClassTableValue → Prog) → IsChain cs c names end → Passes (mean profile p) (table_steps (map (told_link cs) names) q) (signatures p c) (q (table_of cs c))
    table_pass names end q is =
        let all : AreDeclared cs names = λ x i. all_declared cs names names end is.links x i in
        let classes = ancestry_of_chain cs c names end is in
        let fields : nearest_fields (map (told_link cs) names) ≡ fields_along (ancestry cs c) = fields_same cs names all ∙ ap fields_along (sym classes) in
        let methods : nearest_methods (map (told_link cs) names) ≡ map (named_method cs) (methods_along (ancestry cs c)) = methods_same cs names all ∙ ap (λ ks. map (named_method cs) (methods_along ks)) (sym classes) in
        subst (λ (ms : List (Name × Name)). Passes (mean profile p) (each types_step ms [] (λ rows. q (record { fields = map field_row (nearest_fields (map (told_link cs) names)); methods = rows }))) (signatures p c) (q (table_of cs c))) (sym methods)
        (subst (λ (fs : List (Name × Field)). Passes (mean profile p) (each types_step (map (named_method cs) (methods_along (ancestry cs c))) [] (λ rows. q (record { fields = map field_row fs; methods = rows }))) (signatures p c) (q (table_of cs c))) (sym fields)
        (rows_pass (λ rows. q (record { fields = map field_row (fields_along (ancestry cs c)); methods = rows }))))

    chain_pass : (names : List Name) (end : EndOf) (q : ClassTableValue → Prog) → IsChain cs c names end → Passes (mean profile p) (chain_table_steps names q) (map keys.Header names ++ signatures p c) (q (table_of cs c))
    chain_pass names end q is =
        passes_then (mean profile p) (chain_table_steps names q) (map keys.Header names) (table_steps (map (told_link cs) names) q) (signatures p c) (q (table_of cs c))
        (links_pass names (λ links. table_steps links q)) (table_pass names end q is)

    no_methods : ancestry cs c ≡ [] → [] ≡ methods_along (ancestry cs c)
    unfolding methods_along
    no_methods e = firsts_are [] [] tt (λ n. refl) ∙ ap methods_along (sym e)

    by_class : (o : Option ClassDecl) → class_at p c ≡ o → Passes (mean profile p) (members_by (option_map chain_value (chain_of cs c)) Ret) (chain_headers p c ++ signatures p c) (Ret (values.Members (option_map (λ k. table_of cs c) o)))
    by_class None e =
        let none = has_none cs c e in
        let empty = no_methods (ancestry_by cs c None none) in
        let unread : [] ≡ signatures p c = ap (λ rs. map row_signature (map method_row rs)) empty in
        rw none (subst (λ (ks : List Key). Passes (mean profile p) (Ret (values.Members None)) ks (Ret (values.Members None))) unread (Stays _))
    by_class (Some k) e =
        let h = has_chain cs c k e in
        let same = chain_of_is cs c h.0 h.1 h.2 in
        rw same (chain_pass h.0 h.1 (λ table. Ret (values.Members (Some table))) h.2)

    passes : Passes (mean profile p) (members_steps c Ret) (asked_keys profile p (keys.Members c)) (Ret (mean profile p (keys.Members c)))
    unfolding mean asked_keys
    passes = Reads (keys.Supers c) (λ v. members_by (supers_in v) Ret) (chain_headers p c ++ signatures p c) (Ret (mean profile p (keys.Members c))) (by_class (class_at p c) refl)

-- ---- ranks and kinds

fits : (c : Name) → Fits (keys.Members c) (members_steps c Ret)
unfolding Fits
fits c = (omega arith, λ v. by_chain (supers_in v))
  where
    by_links : (links : List Link) → Fits (keys.Members c) (table_steps links (λ table. Ret (values.Members (Some table))))
    by_links links =
        each_fits (keys.Members c) types_step (λ m rows q g. (omega arith, λ w. g (with_types m rows (signature_in w)))) (nearest_methods links) []
        (λ rows. Ret (values.Members (Some (record { fields = map field_row (nearest_fields links); methods = rows })))) (λ rows. refl)

    by_chain : (o : Option ChainValue) → Fits (keys.Members c) (members_by o Ret)
    by_chain None = refl
    by_chain (Some chain) =
        each_fits (keys.Members c) link_step (λ n links q g. (omega arith, λ w. g (links ++ (n, header_in w) ∷ []))) chain.classes [] (λ links. table_steps links (λ table. Ret (values.Members (Some table)))) by_links

pub members_ties : MembersTies
unfolding reads
members_ties c profile = ties_by profile (keys.Members c) (members_steps c Ret) (λ p. asked_keys profile p (keys.Members c)) (λ p. passes profile p c) (λ p. refl) (fits c)
