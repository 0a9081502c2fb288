-- What the rules give of classes is what queries mean.
use Rattle.std.proofs.Common.{◌≡◌, ◌↔◌, ℕ, Bool, List, [], ◌∷◌, map, filter_map, Option, Some, None, option_map, Contains, refl, sym, ap, ap₂, subst, ◌∙◌, inl, inr}
use Rattle.std.specs.Prelude.{option_and_then, is_some}
use Rattle.std.specs.List.{cons_option}
use Rattle.std.proofs.lemmas.Option.{none-some, same_Some}
use Rattle.mj_tree.specs.Trees.{Name, File}
use Rattle.mj_tree.specs.declared.tree.Field.{Field}
use Rattle.mj_answer.specs.AnswerValues.{ClassTableValue}
use Rattle.ordered_names.specs.Order.{NameBefore, IsAscendingBy}
use Rattle.ordered_names.proofs.Alike.{one_list_by, Contains-cases, Contains-first, Contains-later, nowhere}
use Rattle.ordered_names.proofs.Orders.{names}
use Rattle.mj_members.specs.Declarations.{ClassDecl}
use Rattle.mj_classes.specs.Declarations.{decl}
use Rattle.mj_classes.specs.Chains.{chain_of}
use Rattle.mj_classes.proofs.Climb.{decl_name}
use Rattle.named_files.proofs.Listed.{contains_at, place_of, map_at, from_map}
use Rattle.mj_rules.specs.Sentences.{file_of, classes_in}
use Rattle.mj_rules.specs.Rules.{IsTableOf}
use Rattle.mj_rules.specs.FaultLists.{class_names}
use Rattle.mj_rules.specs.Answering.{set_of, name_order}
use Rattle.mj_rules.specs.Tables.{table_of}
use Rattle.mj_rules.proofs.OneAnswer.{decl_stands, one_table}
use Rattle.mj_rules.proofs.Answering.{is_named}
use Rattle.mj_rules.proofs.Sets.{names_compare, set_ascends, from_set, to_set}
use Rattle.mj_rules.proofs.TableLaws.{table_law, ascend_by_names}
use Rattle.mj_rules.proofs.LowerLaws.{chain_laws, member_laws, sentence_law}
use Rattle.result_bytes.specs.declared.files.IndexRow.{IndexRow}
use Rattle.result_bytes.specs.declared.parts.ChainEnd.{ChainEnd}
use Rattle.result_bytes.specs.Payloads.{HeaderValue, ChainValue}
use Rattle.recorder.specs.Projects.{Project, bytes_at}
use Rattle.query_rules.specs.Items.{tree_at, class_at, name_of, index_row, index_of, header_of, chain_value}
use Rattle.query_laws.specs.Given.{IsTreeAt, IsIndexed, IsProjectIndex, IsHeaderOf, IsClassChain, AreMembersOf}
use Rattle.query_laws.proofs.Declared.{is_declared}

-- ---- trees

pub tree_given : (p : Project) (f : Name) (tree : File) → IsTreeAt p f tree ↔ (tree_at p f ≡ Some tree)
tree_given p f tree = (λ is. ap (option_and_then file_of) is.1 ∙ (sentence_law is.0 tree).0 is.2, from (bytes_at p f) refl)
  where
    from : (o : Option (List ℕ)) → bytes_at p f ≡ o → option_and_then file_of o ≡ Some tree → IsTreeAt p f tree
    from None e h = absurd (none-some tree h)
    from (Some bytes) e h = (bytes, e, (sentence_law bytes tree).1 h)

-- ---- headers, chains and members

pub header_given : (p : Project) (c : Name) (h : HeaderValue) → IsHeaderOf p c h ↔ (option_map header_of (class_at p c) ≡ Some h)
header_given p c h = (to, from)
  where
    to : IsHeaderOf p c h → option_map header_of (class_at p c) ≡ Some h
    to is =
        let k = is.declaration in
        let build : Bool → Option Name → List Field → List Name → HeaderValue = λ m s fs ms. record { is_main = m; superclass = s; fields = fs; methods = ms } in
        let whole : h ≡ header_of k =
        ap (λ (m : Bool). build m h.superclass h.fields h.methods) is.is_main
        ∙ (ap (λ (s : Option Name). build (is_some k.main) s h.fields h.methods) is.superclass
        ∙ (ap (λ (fs : List Field). build (is_some k.main) k.superclass fs h.methods) is.fields
        ∙ ap (λ (ms : List Name). build (is_some k.main) k.superclass k.fields ms) is.methods)) in
        ap (option_map header_of) is.counts ∙ ap (λ (v : HeaderValue). Some v) (sym whole)

    from : option_map header_of (class_at p c) ≡ Some h → IsHeaderOf p c h
    from e =
        let k = from_map header_of (class_at p c) h e in
        subst (IsHeaderOf p c) k.2 (record { declaration = k.0; counts = k.1; is_main = refl; superclass = refl; fields = refl; methods = refl })

pub chain_given : (p : Project) (c : Name) (x : ChainValue) → IsClassChain p c x ↔ (option_map chain_value (chain_of (classes_in p) c) ≡ Some x)
chain_given p c x = (to, from)
  where
    to : IsClassChain p c x → option_map chain_value (chain_of (classes_in p) c) ≡ Some x
    to is =
        let build : ChainEnd → ChainValue = λ end. record { classes = x.classes; end = end } in
        ap (option_map chain_value) ((chain_laws.given (classes_in p) c x.classes is.end).0 is.is_chain) ∙ ap (λ (end : ChainEnd). Some (build end)) (sym is.ends)

    from : option_map chain_value (chain_of (classes_in p) c) ≡ Some x → IsClassChain p c x
    from e =
        let k = from_map chain_value (chain_of (classes_in p) c) x e in
        subst (IsClassChain p c) k.2 (record { end = k.0.1; is_chain = (chain_laws.given (classes_in p) c k.0.0 k.0.1).1 k.1; ends = refl })

pub members_given : (p : Project) (c : Name) (t : ClassTableValue) → AreMembersOf p c t ↔ (option_map (λ (k : ClassDecl). table_of (classes_in p) c) (class_at p c) ≡ Some t)
members_given p c t = (to, from)
  where
    to : AreMembersOf p c t → option_map (λ (k : ClassDecl). table_of (classes_in p) c) (class_at p c) ≡ Some t
    to is =
        ap (option_map (λ (k : ClassDecl). table_of (classes_in p) c)) is.counts
        ∙ ap (λ (x : ClassTableValue). Some x) (one_table (classes_in p) c (table_of (classes_in p) c) t (table_law member_laws (classes_in p) c) is.is_table)

    from : option_map (λ (k : ClassDecl). table_of (classes_in p) c) (class_at p c) ≡ Some t → AreMembersOf p c t
    from e =
        let k = from_map (λ (k : ClassDecl). table_of (classes_in p) c) (class_at p c) t e in
        record { declaration = k.0; counts = k.1; is_table = subst (IsTableOf (classes_in p) c) k.2 (table_law member_laws (classes_in p) c) }

-- ---- the index

module _ (p : Project) where
  abbrev rows_for : List Name → List IndexRow
  rows_for ns = map (index_row p) (filter_map (decl (classes_in p)) ns)

  one_more : (n : Name) (ns : List Name) (k : ClassDecl) → decl (classes_in p) n ≡ Some k → rows_for (n ∷ ns) ≡ index_row p k ∷ rows_for ns
  one_more n ns k e = ap (λ o. map (index_row p) (cons_option o (filter_map (decl (classes_in p)) ns))) e

  rows_named : (ns : List Name) → ((n : Name) → Contains ns n → Contains (class_names (classes_in p)) n) → map (λ (row : IndexRow). row.class) (rows_for ns) ≡ ns
  rows_named [] h = refl
  rows_named (n ∷ ns) h =
      let k = is_named (classes_in p) n (decl (classes_in p) n) refl (h n (Contains-first n ns)) in
      ap (map (λ (row : IndexRow). row.class)) (one_more n ns k.0 k.1)
      ∙ ap₂ (λ (m : Name) (ms : List Name). m ∷ ms) (decl_name (classes_in p) n k.0 k.1) (rows_named ns (λ m i. h m (Contains-later n ns m i)))

  -- a row is that of a declared name
  abbrev IsRowFor : IndexRow → Type 0
  IsRowFor row = (n : Name) × (k : ClassDecl) × (decl (classes_in p) n ≡ Some k) × (index_row p k ≡ row)

  row_from : (ns : List Name) (row : IndexRow) → Contains (rows_for ns) row → IsRowFor row
  row_from [] row h = absurd (nowhere row h)
  row_from (n ∷ ns) row h = by_class (decl (classes_in p) n) refl (row_from ns row) h
    where
      by_class : (o : Option ClassDecl) → decl (classes_in p) n ≡ o → (Contains (rows_for ns) row → IsRowFor row) → Contains (map (index_row p) (cons_option o (filter_map (decl (classes_in p)) ns))) row → IsRowFor row
      by_class None e rest g = rest g
      by_class (Some k) e rest g = elim (Contains-cases (index_row p k) (rows_for ns) row g) [ inl same ↦ (n, k, e, same) | inr l ↦ rest l ]

  row_to : (ns : List Name) (n : Name) (k : ClassDecl) → Contains ns n → decl (classes_in p) n ≡ Some k → Contains (rows_for ns) (index_row p k)
  row_to [] n k h e = absurd (nowhere n h)
  row_to (m ∷ ms) n k h e = by_class (decl (classes_in p) m) refl (λ l. row_to ms n k l e)
    where
      by_class : (o : Option ClassDecl) → decl (classes_in p) m ≡ o → (Contains ms n → Contains (rows_for ms) (index_row p k)) → Contains (map (index_row p) (cons_option o (filter_map (decl (classes_in p)) ms))) (index_row p k)
      by_class None d rest = elim (Contains-cases m ms n h) [ inl same ↦ absurd (none-some k (sym d ∙ (ap (decl (classes_in p)) same ∙ e))) | inr l ↦ rest l ]
      by_class (Some j) d rest = elim (Contains-cases m ms n h) [
        | inl same ↦
            let one = same_Some j k (sym d ∙ (ap (decl (classes_in p)) same ∙ e)) in
            subst (λ (i : ClassDecl). Contains (index_row p j ∷ rows_for ms) (index_row p i)) one (Contains-first (index_row p j) (rows_for ms))
        | inr l ↦ Contains-later (index_row p j) (rows_for ms) (index_row p k) (rest l)
      ]

  abbrev sorted_names : List Name
  sorted_names = set_of name_order (class_names (classes_in p))

  indexed : (n : Name) (k : ClassDecl) → decl (classes_in p) n ≡ Some k → IsIndexed p (index_row p k)
  indexed n k e =
      let is = is_declared p n k e in
      record {
        declaration = k;
        counts = ap (decl (classes_in p)) (decl_name (classes_in p) n k e) ∙ e;
        source = is.source;
        here = is.here;
        file = ap name_of is.here;
      }

  row_is : (row : IndexRow) (is : IsIndexed p row) → index_row p is.declaration ≡ row
  row_is row is =
      let build : Name → Name → IndexRow = λ c f. record { class = c; file = f } in
      ap₂ build (decl_name (classes_in p) row.class is.declaration is.counts) (ap name_of is.here ∙ sym is.file)

  named_in : (n : Name) (k : ClassDecl) → decl (classes_in p) n ≡ Some k → Contains (class_names (classes_in p)) n
  named_in n k e =
      let at = place_of (classes_in p) k (decl_stands (classes_in p) n k e) in
      contains_at (class_names (classes_in p)) at.0 n (map_at (λ (j : ClassDecl). j.name) (classes_in p) at.0 k at.1 ∙ ap (λ (m : Name). Some m) (decl_name (classes_in p) n k e))

  pub index_right : IsProjectIndex p (index_of p)
  index_right = record {
    ascending = ascend_by_names (λ (row : IndexRow). row.class) (index_of p)
        (subst (IsAscendingBy NameBefore) (sym (rows_named sorted_names (λ n h. from_set name_order NameBefore names_compare (class_names (classes_in p)) n h)))
        (set_ascends name_order NameBefore names_compare (class_names (classes_in p))));
    exactly = λ row. (
      λ h. let r = row_from sorted_names row h in subst (IsIndexed p) r.3 (indexed r.0 r.1 r.2),
      λ is. subst (Contains (index_of p)) (row_is row is)
          (row_to sorted_names row.class is.declaration (to_set name_order NameBefore names_compare (class_names (classes_in p)) row.class (named_in row.class is.declaration is.counts)) is.counts),
    );
  }

  pub index_given : (rows : List IndexRow) → (index_of p ≡ rows) ↔ IsProjectIndex p rows
  index_given rows = (
    λ e. subst (IsProjectIndex p) e index_right,
    λ is. one_list_by IndexRow Name (λ row. row.class) NameBefore names (index_of p) rows index_right.ascending is.ascending
        (λ row. (λ h. (is.exactly row).1 ((index_right.exactly row).0 h), λ h. (index_right.exactly row).1 ((is.exactly row).0 h))),
  )
