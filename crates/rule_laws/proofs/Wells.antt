-- A phrase is well exactly if all its demands hold.
use Rattle.std.proofs.Common.{◌≡◌, ℕ, List, [], ◌∷◌, ◌++◌, map, refl, sym, subst, inl, inr}
use Rattle.std.specs.Prelude.{Contains, ◌↔◌}
use Rattle.std.proofs.lemmas.List.Elements.{Contains-append_left, Contains-append_right, Contains-append_cases}
use Rattle.mj_tree.specs.Trees.{Name, Expression, Named, none, more, Statement, Statements, Block, If, While, Print, Assign, Store, done, next, Method}
use Rattle.mj_tree.specs.declared.tree.Ty.{Ty}
use Rattle.mj_tree.specs.declared.tree.Ty.TheVariants as ty
use Rattle.ordered_names.proofs.Alike.{nowhere, Contains-first, Contains-later, Contains-cases}
use Rattle.mj_phrases.specs.declared.verdict.Verdict.{Verdict}
use Rattle.mj_phrases.specs.Inquiries.{World, conclusion}
use Rattle.mj_phrases.specs.Phrases.{Phrase, HasType, Well}
use Rattle.mj_phrases.specs.Table.{Scope, own_phrase, return_phrase}
use Rattle.mj_phrases.specs.Cases.{Accepted, IsVariable, HasTypeByCases, IsWellThroughoutByCases, AreWellThroughoutByCases}
use Rattle.mj_phrases.specs.Laws.{IsOfExpression, IsOfStatement}
use Rattle.mj_phrases.proofs.ByCases.{by_cases, from_cases}
use Rattle.rule_laws.specs.Demands.{BodyPhrase, OfExpression, OfStatement, OfReturn, parts_of, demands}
use Rattle.rule_laws.specs.Faults.{HaveTypes, AllHold, IsWell, IsWellThroughout, statements_of, all_statements, phrases_in}
use Rattle.rule_laws.specs.PhraseLaws.{form_of}
use Rattle.rule_laws.proofs.Verdicts.{Tells, fine_by, type_by}
use Rattle.rule_laws.proofs.Rows.{row_of, row_tells}
use Rattle.rule_laws.proofs.Phrases.{form_is, to_have_types, from_have_types}

-- one of the mapped
mapped_of : (bs : List Statement) (p : BodyPhrase) → Contains (map OfStatement bs) p → (b : Statement) × Contains bs b × (OfStatement b ≡ p)
mapped_of [] p c = absurd (nowhere p c)
mapped_of (b ∷ bs) p c =
    elim (Contains-cases (OfStatement b) (map OfStatement bs) p c) [
      | inl is ↦ (b, Contains-first b bs, is)
      | inr l ↦ let r = mapped_of bs p l in (r.0, Contains-later b bs r.0 r.1, r.2)
    ]

of_mapped : (bs : List Statement) (b : Statement) → Contains bs b → Contains (map OfStatement bs) (OfStatement b)
of_mapped [] b c = absurd (nowhere b c)
of_mapped (d ∷ ds) b c =
    elim (Contains-cases d ds b c) [
      | inl is ↦ subst (λ (b : Statement). Contains (map OfStatement (d ∷ ds)) (OfStatement b)) is (Contains-first (OfStatement d) (map OfStatement ds))
      | inr l ↦ Contains-later (OfStatement d) (map OfStatement ds) (OfStatement b) (of_mapped ds b l)
    ]

module _ (w : World) (s : Scope) where
  -- ---- a phrase

  well_expression : (e : Expression) → (t : Ty) × HasTypeByCases w s e t → IsWell w s (OfExpression e)
  well_expression e h =
      let p = OfExpression e in
      let a = subst (λ (q : Phrase). HasType w q h.0) (form_is s p) (from_cases w s e h.0 h.1) in
      let types = to_have_types w s (parts_of p) a.0 a.1 in
      let told = subst (λ (v : Verdict). Tells IsOfExpression v (demands w s p a.0)) a.2 (row_tells w s p a.0 types) in
      record { types = a.0; have_types = types; holds = told.1 }

  expression_well : (e : Expression) → IsWell w s (OfExpression e) → (t : Ty) × HasTypeByCases w s e t
  expression_well e i =
      let p = OfExpression e in
      let t = type_by (conclusion w (row_of s p i.types)) (demands w s p i.types) (row_tells w s p i.types i.have_types) i.holds in
      (t.0, by_cases w s e t.0 (subst (λ (q : Phrase). HasType w q t.0) (sym (form_is s p)) (i.types, from_have_types w s (parts_of p) i.types i.have_types, t.1)))

  pub expression_law : (e : Expression) → ((t : Ty) × HasTypeByCases w s e t) ↔ IsWell w s (OfExpression e)
  expression_law e = (well_expression e, expression_well e)

  -- the row is that of a statement or a return
  abbrev TellsWell : BodyPhrase → Type 0
  TellsWell p = (ts : List Ty) → HaveTypes w s (parts_of p) ts → Tells IsOfStatement (conclusion w (row_of s p ts)) (demands w s p ts)

  form_well : (p : BodyPhrase) → TellsWell p → Well w (form_of s p) → IsWell w s p
  form_well p tells h =
      let a = subst (λ (q : Phrase). Well w q) (form_is s p) h in
      let types = to_have_types w s (parts_of p) a.0 a.1 in
      let told = subst (λ (v : Verdict). Tells IsOfStatement v (demands w s p a.0)) a.2 (tells a.0 types) in
      record { types = a.0; have_types = types; holds = told.1 }

  well_form : (p : BodyPhrase) → TellsWell p → IsWell w s p → Well w (form_of s p)
  well_form p tells i =
      subst (λ (q : Phrase). Well w q) (sym (form_is s p))
      (i.types, from_have_types w s (parts_of p) i.types i.have_types, fine_by (conclusion w (row_of s p i.types)) (demands w s p i.types) (tells i.types i.have_types) i.holds)

  pub statement_law : (a : Statement) → Well w (own_phrase s a) ↔ IsWell w s (OfStatement a)
  statement_law a = (form_well (OfStatement a) (row_tells w s (OfStatement a)), well_form (OfStatement a) (row_tells w s (OfStatement a)))

  pub return_law : (mark : ℕ) (wanted : Ty) (e : Expression) → Well w (return_phrase s mark wanted e) ↔ IsWell w s (OfReturn mark wanted e)
  return_law mark wanted e = (form_well (OfReturn mark wanted e) (row_tells w s (OfReturn mark wanted e)), well_form (OfReturn mark wanted e) (row_tells w s (OfReturn mark wanted e)))

  -- ---- a statement and those in it

  abbrev At : Statement → Type 0
  At b = IsWell w s (OfStatement b)

  mutual
    well_within : (a : Statement) → IsWellThroughoutByCases w s a → (b : Statement) → Contains (statements_of a) b → At b
    well_within (Block mark ss) h b c =
        elim (Contains-cases (Block mark ss) (all_statements ss) b c) [
          | inl is ↦ subst At is (record { types = []; have_types = tt; holds = tt })
          | inr l ↦ all_within ss h b l
        ]
    well_within (If mark e a d) h b c =
        elim (Contains-cases (If mark e a d) (statements_of a ++ statements_of d) b c) [
          | inl is ↦ subst At is (record { types = ty.Boolean ∷ []; have_types = (h.0, tt); holds = (refl, tt) })
          | inr l ↦ elim (Contains-append_cases (statements_of a) (statements_of d) b l) [ inl x ↦ well_within a h.1 b x | inr y ↦ well_within d h.2 b y ]
        ]
    well_within (While mark e a) h b c =
        elim (Contains-cases (While mark e a) (statements_of a) b c) [
          | inl is ↦ subst At is (record { types = ty.Boolean ∷ []; have_types = (h.0, tt); holds = (refl, tt) })
          | inr l ↦ well_within a h.1 b l
        ]
    well_within (Print mark e) h b c =
        elim (Contains-cases (Print mark e) [] b c) [
          | inl is ↦ subst At is (record { types = ty.Int ∷ []; have_types = (h, tt); holds = (refl, tt) })
          | inr l ↦ absurd (nowhere b l)
        ]
    well_within (Assign mark x x_mark e) h b c =
        elim (Contains-cases (Assign mark x x_mark e) [] b c) [
          | inl is ↦ subst At is (record { types = h.1 ∷ h.0 ∷ []; have_types = (h.2, (h.3, tt)); holds = (h.4, tt) })
          | inr l ↦ absurd (nowhere b l)
        ]
    well_within (Store mark x x_mark i e) h b c =
        elim (Contains-cases (Store mark x x_mark i e) [] b c) [
          | inl is ↦ subst At is (record { types = ty.IntArray ∷ ty.Int ∷ ty.Int ∷ []; have_types = (h.0, (h.1, (h.2, tt))); holds = (refl, (refl, (refl, tt))) })
          | inr l ↦ absurd (nowhere b l)
        ]

    all_within : (ss : Statements) → AreWellThroughoutByCases w s ss → (b : Statement) → Contains (all_statements ss) b → At b
    all_within done h b c = absurd (nowhere b c)
    all_within (next a ss) h b c = elim (Contains-append_cases (statements_of a) (all_statements ss) b c) [ inl x ↦ well_within a h.0 b x | inr y ↦ all_within ss h.1 b y ]

  if_by : (mark : ℕ) (e : Expression) (a b : Statement) (ts : List Ty) → HaveTypes w s (more e none) ts → AllHold (demands w s (OfStatement (If mark e a b)) ts) → HasTypeByCases w s e ty.Boolean
  if_by mark e a b [] h d = absurd h
  if_by mark e a b (t ∷ []) h d = subst (HasTypeByCases w s e) d.0 h.0
  if_by mark e a b (t ∷ u ∷ ts) h d = absurd h.1

  while_by : (mark : ℕ) (e : Expression) (a : Statement) (ts : List Ty) → HaveTypes w s (more e none) ts → AllHold (demands w s (OfStatement (While mark e a)) ts) → HasTypeByCases w s e ty.Boolean
  while_by mark e a [] h d = absurd h
  while_by mark e a (t ∷ []) h d = subst (HasTypeByCases w s e) d.0 h.0
  while_by mark e a (t ∷ u ∷ ts) h d = absurd h.1

  print_by : (mark : ℕ) (e : Expression) (ts : List Ty) → HaveTypes w s (more e none) ts → AllHold (demands w s (OfStatement (Print mark e)) ts) → HasTypeByCases w s e ty.Int
  print_by mark e [] h d = absurd h
  print_by mark e (t ∷ []) h d = subst (HasTypeByCases w s e) d.0 h.0
  print_by mark e (t ∷ u ∷ ts) h d = absurd h.1

  assign_by : (mark : ℕ) (x : Name) (x_mark : ℕ) (e : Expression) (ts : List Ty) → HaveTypes w s (more (Named x_mark x) (more e none)) ts → AllHold (demands w s (OfStatement (Assign mark x x_mark e)) ts) → IsWellThroughoutByCases w s (Assign mark x x_mark e)
  assign_by mark x x_mark e [] h d = absurd h
  assign_by mark x x_mark e (u ∷ []) h d = absurd h.1
  assign_by mark x x_mark e (u ∷ t ∷ []) h d = (t, u, h.0, h.1.0, d.0)
  assign_by mark x x_mark e (u ∷ t ∷ v ∷ ts) h d = absurd h.1.1

  store_by : (mark : ℕ) (x : Name) (x_mark : ℕ) (i e : Expression) (ts : List Ty) → HaveTypes w s (more (Named x_mark x) (more i (more e none))) ts → AllHold (demands w s (OfStatement (Store mark x x_mark i e)) ts) → IsWellThroughoutByCases w s (Store mark x x_mark i e)
  store_by mark x x_mark i e [] h d = absurd h
  store_by mark x x_mark i e (u ∷ []) h d = absurd h.1
  store_by mark x x_mark i e (u ∷ n ∷ []) h d = absurd h.1.1
  store_by mark x x_mark i e (u ∷ n ∷ t ∷ []) h d = (subst (IsVariable w s x) d.0 h.0, subst (HasTypeByCases w s i) d.1.0 h.1.0, subst (HasTypeByCases w s e) d.1.1.0 h.1.1.0)
  store_by mark x x_mark i e (u ∷ n ∷ t ∷ v ∷ ts) h d = absurd h.1.1.1

  mutual
    within_well : (a : Statement) → IsWellThroughout w s a → IsWellThroughoutByCases w s a
    within_well (Block mark ss) h = within_all ss (λ b c. h b (Contains-later (Block mark ss) (all_statements ss) b c))
    within_well (If mark e a b) h =
        let own = h (If mark e a b) (Contains-first (If mark e a b) (statements_of a ++ statements_of b)) in (
          if_by mark e a b own.types own.have_types own.holds,
          within_well a (λ d c. h d (Contains-later (If mark e a b) (statements_of a ++ statements_of b) d (Contains-append_left (statements_of a) (statements_of b) d c))),
          within_well b (λ d c. h d (Contains-later (If mark e a b) (statements_of a ++ statements_of b) d (Contains-append_right (statements_of a) (statements_of b) d c))),
        )
    within_well (While mark e a) h =
        let own = h (While mark e a) (Contains-first (While mark e a) (statements_of a)) in
        (while_by mark e a own.types own.have_types own.holds, within_well a (λ d c. h d (Contains-later (While mark e a) (statements_of a) d c)))
    within_well (Print mark e) h = let own = h (Print mark e) (Contains-first (Print mark e) []) in print_by mark e own.types own.have_types own.holds
    within_well (Assign mark x x_mark e) h =
        let own = h (Assign mark x x_mark e) (Contains-first (Assign mark x x_mark e) []) in assign_by mark x x_mark e own.types own.have_types own.holds
    within_well (Store mark x x_mark i e) h =
        let own = h (Store mark x x_mark i e) (Contains-first (Store mark x x_mark i e) []) in store_by mark x x_mark i e own.types own.have_types own.holds

    within_all : (ss : Statements) → ((b : Statement) → Contains (all_statements ss) b → At b) → AreWellThroughoutByCases w s ss
    within_all done h = tt
    within_all (next a ss) h =
        (within_well a (λ d c. h d (Contains-append_left (statements_of a) (all_statements ss) d c)), within_all ss (λ d c. h d (Contains-append_right (statements_of a) (all_statements ss) d c)))

  pub throughout_law : (a : Statement) → IsWellThroughoutByCases w s a ↔ IsWellThroughout w s a
  throughout_law a = (well_within a, within_well a)

  -- ---- the return

  return_by : (mark : ℕ) (wanted : Ty) (e : Expression) (ts : List Ty) → HaveTypes w s (more e none) ts → AllHold (demands w s (OfReturn mark wanted e) ts) → (t : Ty) × HasTypeByCases w s e t × Accepted w t wanted
  return_by mark wanted e [] h d = absurd h
  return_by mark wanted e (t ∷ []) h d = (t, h.0, d.0)
  return_by mark wanted e (t ∷ u ∷ ts) h d = absurd h.1

  body_within : (bs : List Statement) (mark : ℕ) (wanted : Ty) (e : Expression) → ((b : Statement) → Contains bs b → At b) → (t : Ty) × HasTypeByCases w s e t × Accepted w t wanted
      → (p : BodyPhrase) → Contains (map OfStatement bs ++ OfReturn mark wanted e ∷ []) p → IsWell w s p
  body_within bs mark wanted e h r p c =
      elim (Contains-append_cases (map OfStatement bs) (OfReturn mark wanted e ∷ []) p c) [
        | inl x ↦ let b = mapped_of bs p x in subst (IsWell w s) b.2 (h b.0 b.1)
        | inr y ↦ elim (Contains-cases (OfReturn mark wanted e) [] p y) [
          | inl is ↦ subst (IsWell w s) is (record { types = r.0 ∷ []; have_types = (r.1, tt); holds = (r.2, tt) })
          | inr l ↦ absurd (nowhere p l)
        ]
      ]

  pub method_within : (m : Method) → AreWellThroughoutByCases w s m.body × ((t : Ty) × HasTypeByCases w s m.returned t × Accepted w t m.returns) → (p : BodyPhrase) → Contains (phrases_in m) p → IsWell w s p
  method_within m h = body_within (all_statements m.body) m.return_mark m.returns m.returned (all_within m.body h.0) h.1

  pub within_method : (m : Method) → ((p : BodyPhrase) → Contains (phrases_in m) p → IsWell w s p) → AreWellThroughoutByCases w s m.body × ((t : Ty) × HasTypeByCases w s m.returned t × Accepted w t m.returns)
  within_method m h =
      let bs = all_statements m.body in
      let last = OfReturn m.return_mark m.returns m.returned in
      let own = h last (Contains-append_right (map OfStatement bs) (last ∷ []) last (Contains-first last [])) in (
        within_all m.body (λ b c. h (OfStatement b) (Contains-append_left (map OfStatement bs) (last ∷ []) (OfStatement b) (of_mapped bs b c))),
        return_by m.return_mark m.returns m.returned own.types own.have_types own.holds,
      )
