-- A body without mistakes is one whose phrases all have types or are well.
use Rattle.std.proofs.Common.{◌≡◌, ℕ, suc, List, [], ◌∷◌, ◌++◌, length, refl, sym, ap, ◌∙◌, subst, ◌⊎◌, inl, inr}
use Rattle.std.specs.Prelude.{Contains}
use Rattle.mj_tree.specs.Trees.{Name, Expression, Statement, Statements, Block, If, While, Print, Assign, Store, done, next, Method, Main}
use Rattle.mj_tree.specs.declared.tree.Ty.{Ty}
use Rattle.mj_tree.specs.declared.tree.Ty.TheVariants as ty
use Rattle.mj_answer.specs.declared.code.Code.TheVariants.{E307, E308, E316, E317, E318, E319}
use Rattle.ordered_names.proofs.Alike.{nowhere, Contains-first, Contains-later, Contains-cases}
use Rattle.mj_phrases.specs.Types.{is_int, is_boolean, is_int_array}
use Rattle.mj_phrases.specs.declared.verdict.Verdict.{Verdict}
use Rattle.mj_phrases.specs.declared.verdict.Verdict.TheVariants.{Is, Fine, Wrong, Silent}
use Rattle.mj_phrases.specs.declared.verdict.Mistake.{Mistake}
use Rattle.mj_phrases.specs.Inquiries.{World, Inquiry, conclusion}
use Rattle.mj_phrases.specs.Phrases.{Phrase, Phrases, phrase, nothing, part, demand, fine, HasType, AllTyped, Well, FaultIn, FaultInAny, FaultInSome}
use Rattle.mj_phrases.specs.Table.{Scope, main_scope, method_scope, phrase_of, name_phrase, own_phrase, statement_phrases, statements_phrases, return_phrase, method_phrases, main_phrases, condition, print, assign, store, return_value, is_accepted, variable}
use Rattle.mj_phrases.specs.Cases.{Accepted, IsVariable, HasTypeByCases, IsWellThroughoutByCases, AreWellThroughoutByCases, MethodIsWell, MainIsWell}
use Rattle.mj_phrases.specs.Laws.{count, IsOfExpression, IsOfStatement, Decides, DecideAll, DecidesStatement, AllDecide}
use Rattle.mj_phrases.proofs.Agree.{one_list}
use Rattle.mj_phrases.proofs.NeverSilent.{method_decides, main_decides}
use Rattle.mj_phrases.proofs.ByCases.{by_cases, from_cases, accepted_from, from_accepted, variable_from, from_variable, from_one, from_two, from_three, from_none, demand_holds, asked_holds, asked_true, boolean_is, int_is, array_is}

module _ (w : World) where
  -- ---- a phrase has a type, or there is a mistake in it

  said : (mark : ℕ) (row : List Ty → Inquiry Verdict) (parts : Phrases) (ts : List Ty) → AllTyped w parts ts → (v : Verdict) → conclusion w (row ts) ≡ v → IsOfExpression v → ((t : Ty) × HasType w (phrase mark row parts) t) ⊎ ((m : Mistake) × FaultIn w (phrase mark row parts) m)
  said mark row parts ts a (Is t) e h = inl (t, (ts, a, e))
  said mark row parts ts a Fine e h = absurd h
  said mark row parts ts a (Wrong code) e h = inr (record { mark = mark; code = code }, inr (refl, (ts, a, e)))
  said mark row parts ts a Silent e h = absurd h

  mutual
    typed_or_faulty : (p : Phrase) → Decides w p → ((t : Ty) × HasType w p t) ⊎ ((m : Mistake) × FaultIn w p m)
    typed_or_faulty (phrase mark row parts) d =
        elim (all_or_faulty parts d.1) [
          | inl a ↦ said mark row parts a.0 a.1 (conclusion w (row a.0)) refl (d.0 a.0 a.2)
          | inr f ↦ inr (f.0, inl f.1)
        ]

    all_or_faulty : (ps : Phrases) → DecideAll w ps → ((ts : List Ty) × AllTyped w ps ts × (length ts ≡ count ps)) ⊎ ((m : Mistake) × FaultInAny w ps m)
    all_or_faulty nothing d = inl ([], tt, refl)
    all_or_faulty (part p ps) d =
        elim (typed_or_faulty p d.0) [
          | inr f ↦ inr (f.0, inl f.1)
          | inl t ↦ elim (all_or_faulty ps d.1) [
            | inr f ↦ inr (f.0, inr f.1)
            | inl a ↦ inl (t.0 ∷ a.0, (t.1, a.1), ap (λ (n : ℕ). suc n) a.2)
          ]
        ]

  well_said : (mark : ℕ) (row : List Ty → Inquiry Verdict) (parts : Phrases) (ts : List Ty) → AllTyped w parts ts → (v : Verdict) → conclusion w (row ts) ≡ v → IsOfStatement v → Well w (phrase mark row parts) ⊎ ((m : Mistake) × FaultIn w (phrase mark row parts) m)
  well_said mark row parts ts a (Is t) e h = absurd h
  well_said mark row parts ts a Fine e h = inl (ts, a, e)
  well_said mark row parts ts a (Wrong code) e h = inr (record { mark = mark; code = code }, inr (refl, (ts, a, e)))
  well_said mark row parts ts a Silent e h = absurd h

  well_or_faulty : (p : Phrase) → DecidesStatement w p → Well w p ⊎ ((m : Mistake) × FaultIn w p m)
  well_or_faulty (phrase mark row parts) d =
      elim (all_or_faulty parts d.1) [
        | inl a ↦ well_said mark row parts a.0 a.1 (conclusion w (row a.0)) refl (d.0 a.0 a.2)
        | inr f ↦ inr (f.0, inl f.1)
      ]

  -- ---- a phrase that has a type has no mistake in it

  mutual
    typed_faultless : (p : Phrase) (t : Ty) (m : Mistake) → HasType w p t → FaultIn w p m → ⊥
    typed_faultless (phrase mark row parts) t m h (inl f) = all_faultless parts h.0 m h.1 f
    typed_faultless (phrase mark row parts) t m h (inr f) =
        let e : Is t ≡ Wrong m.code = sym h.2 ∙ ap (λ ts. conclusion w (row ts)) (one_list w parts h.0 f.1.0 h.1 f.1.1) ∙ f.1.2 in
        absurd cc

    all_faultless : (ps : Phrases) (ts : List Ty) (m : Mistake) → AllTyped w ps ts → FaultInAny w ps m → ⊥
    all_faultless nothing ts m h f = absurd f
    all_faultless (part p ps) [] m h f = absurd h
    all_faultless (part p ps) (t ∷ ts) m h (inl f) = typed_faultless p t m h.0 f
    all_faultless (part p ps) (t ∷ ts) m h (inr f) = all_faultless ps ts m h.1 f

  well_faultless : (p : Phrase) (m : Mistake) → Well w p → FaultIn w p m → ⊥
  well_faultless (phrase mark row parts) m h (inl f) = all_faultless parts h.0 m h.1 f
  well_faultless (phrase mark row parts) m h (inr f) =
      let e : Fine ≡ Wrong m.code = sym h.2 ∙ ap (λ ts. conclusion w (row ts)) (one_list w parts h.0 f.1.0 h.1 f.1.1) ∙ f.1.2 in
      absurd cc

  -- ---- lists of phrases

  abbrev AllWell : List Phrase → Type 0
  AllWell [] = Unit {0}
  AllWell (p ∷ ps) = Well w p × AllWell ps

  all_well : (ps : List Phrase) → AllDecide w ps → ((m : Mistake) → FaultInSome w ps m → ⊥) → AllWell ps
  all_well [] d h = tt
  all_well (p ∷ ps) d h =
      elim (well_or_faulty p d.0) [
        | inl a ↦ (a, all_well ps d.1 (λ m f. h m (f.0, Contains-later p ps f.0 f.1, f.2)))
        | inr f ↦ absurd (h f.0 (p, Contains-first p ps, f.1))
      ]

  none_faulty : (ps : List Phrase) (m : Mistake) (p : Phrase) → AllWell ps → Contains ps p → FaultIn w p m → ⊥
  none_faulty [] m p a c f = nowhere p c
  none_faulty (q ∷ qs) m p a c f =
      elim (Contains-cases q qs p c) [
        | inl e ↦ well_faultless q m a.0 (subst (λ p. FaultIn w p m) (sym e) f)
        | inr l ↦ none_faulty qs m p a.1 l f
      ]

  well_front : (ps qs : List Phrase) → AllWell (ps ++ qs) → AllWell ps × AllWell qs
  well_front [] qs h = (tt, h)
  well_front (p ∷ ps) qs h = let r = well_front ps qs h.1 in ((h.0, r.0), r.1)

  well_both : (ps qs : List Phrase) → AllWell ps → AllWell qs → AllWell (ps ++ qs)
  well_both [] qs h k = k
  well_both (p ∷ ps) qs h k = (h.0, well_both ps qs h.1 k)

  -- ---- statements by cases

  condition_from : (mark : ℕ) (s : Scope) (e : Expression) → Well w (own_phrase s (While mark e (Block mark done))) → HasTypeByCases w s e ty.Boolean
  unfolding condition
  condition_from mark s e h =
      let a = from_one w condition (phrase_of s e) Fine h in
      let d = demand_holds w (is_boolean a.0) E316 fine Fine tt a.2 in
      subst (HasTypeByCases w s e) (boolean_is a.0 d.0) (by_cases w s e a.0 a.1)

  from_condition : (mark : ℕ) (s : Scope) (e : Expression) → HasTypeByCases w s e ty.Boolean → Well w (own_phrase s (While mark e (Block mark done)))
  unfolding condition
  from_condition mark s e h = (ty.Boolean ∷ [], (from_cases w s e ty.Boolean h, tt), refl)

  name_typed : (s : Scope) (mark : ℕ) (x : Name) (t : Ty) → HasType w (name_phrase s mark x) t → IsVariable w s x t
  name_typed s mark x t h = variable_from w s x t (from_none w (variable s x) (Is t) h)

  typed_name : (s : Scope) (mark : ℕ) (x : Name) (t : Ty) → IsVariable w s x t → HasType w (name_phrase s mark x) t
  typed_name s mark x t h = ([], tt, from_variable w s x t h)

  mutual
    unfolding print assign store

    well_from : (s : Scope) (a : Statement) → AllWell (statement_phrases s a) → IsWellThroughoutByCases w s a
    well_from s (Block mark ss) h = all_well_from s ss h.1
    well_from s (If mark e a b) h = let r = well_front (statement_phrases s a) (statement_phrases s b) h.1 in (condition_from mark s e h.0, well_from s a r.0, well_from s b r.1)
    well_from s (While mark e a) h = (condition_from mark s e h.0, well_from s a h.1)
    well_from s (Print mark e) h =
        let a = from_one w print (phrase_of s e) Fine h.0 in
        let d = demand_holds w (is_int a.0) E317 fine Fine tt a.2 in
        subst (HasTypeByCases w s e) (int_is a.0 d.0) (by_cases w s e a.0 a.1)
    well_from s (Assign mark x x_mark e) h =
        let a = from_two w assign (name_phrase s x_mark x) (phrase_of s e) Fine h.0 in
        let d = asked_holds w (is_accepted a.1 a.0) E318 fine Fine tt a.4 in
        (a.1, a.0, name_typed s x_mark x a.0 a.2, by_cases w s e a.1 a.3, accepted_from w a.1 a.0 d.0)
    well_from s (Store mark x x_mark i e) h =
        let a = from_three w store (name_phrase s x_mark x) (phrase_of s i) (phrase_of s e) Fine h.0 in
        let b = demand_holds w (is_int_array a.0) E307 (demand (is_int a.1) E308 (demand (is_int a.2) E318 fine)) Fine tt a.6 in
        let c = demand_holds w (is_int a.1) E308 (demand (is_int a.2) E318 fine) Fine tt b.1 in
        let d = demand_holds w (is_int a.2) E318 fine Fine tt c.1 in
        (subst (IsVariable w s x) (array_is a.0 b.0) (name_typed s x_mark x a.0 a.3), subst (HasTypeByCases w s i) (int_is a.1 c.0) (by_cases w s i a.1 a.4), subst (HasTypeByCases w s e) (int_is a.2 d.0) (by_cases w s e a.2 a.5))

    all_well_from : (s : Scope) (ss : Statements) → AllWell (statements_phrases s ss) → AreWellThroughoutByCases w s ss
    all_well_from s done h = tt
    all_well_from s (next a ss) h = let r = well_front (statement_phrases s a) (statements_phrases s ss) h in (well_from s a r.0, all_well_from s ss r.1)

  mutual
    unfolding print assign store

    from_well : (s : Scope) (a : Statement) → IsWellThroughoutByCases w s a → AllWell (statement_phrases s a)
    from_well s (Block mark ss) h = (([], tt, refl), from_all_well s ss h)
    from_well s (If mark e a b) h = (from_condition mark s e h.0, well_both (statement_phrases s a) (statement_phrases s b) (from_well s a h.1) (from_well s b h.2))
    from_well s (While mark e a) h = (from_condition mark s e h.0, from_well s a h.1)
    from_well s (Print mark e) h = ((ty.Int ∷ [], (from_cases w s e ty.Int h, tt), refl), tt)
    from_well s (Assign mark x x_mark e) h =
        ((h.1 ∷ h.0 ∷ [], (typed_name s x_mark x h.1 h.2, (from_cases w s e h.0 h.3, tt)), asked_true w (is_accepted h.0 h.1) E318 fine (from_accepted w h.0 h.1 h.4)), tt)
    from_well s (Store mark x x_mark i e) h =
        ((ty.IntArray ∷ ty.Int ∷ ty.Int ∷ [], (typed_name s x_mark x ty.IntArray h.0, (from_cases w s i ty.Int h.1, (from_cases w s e ty.Int h.2, tt))), refl), tt)

    from_all_well : (s : Scope) (ss : Statements) → AreWellThroughoutByCases w s ss → AllWell (statements_phrases s ss)
    from_all_well s done h = tt
    from_all_well s (next a ss) h = well_both (statement_phrases s a) (statements_phrases s ss) (from_well s a h.0) (from_all_well s ss h.1)

  return_from : (s : Scope) (mark : ℕ) (wanted : Ty) (e : Expression) → Well w (return_phrase s mark wanted e) → (t : Ty) × HasTypeByCases w s e t × Accepted w t wanted
  unfolding return_value
  return_from s mark wanted e h =
      let a = from_one w (return_value wanted) (phrase_of s e) Fine h in
      let d = asked_holds w (is_accepted a.0 wanted) E319 fine Fine tt a.2 in
      (a.0, by_cases w s e a.0 a.1, accepted_from w a.0 wanted d.0)

  from_return : (s : Scope) (mark : ℕ) (wanted : Ty) (e : Expression) → (t : Ty) × HasTypeByCases w s e t × Accepted w t wanted → Well w (return_phrase s mark wanted e)
  unfolding return_value
  from_return s mark wanted e h = (h.0 ∷ [], (from_cases w s e h.0 h.1, tt), asked_true w (is_accepted h.0 wanted) E319 fine (from_accepted w h.0 wanted h.2))

  pub method_well : (class : Name) (m : Method) → ((x : Mistake) → FaultInSome w (method_phrases class m) x → ⊥) → MethodIsWell w class m
  method_well class m h =
      let s = method_scope class m in
      let r = well_front (statements_phrases s m.body) (return_phrase s m.return_mark m.returns m.returned ∷ []) (all_well (method_phrases class m) (method_decides w class m) h) in
      (all_well_from s m.body r.0, return_from s m.return_mark m.returns m.returned r.1.0)

  pub well_method : (class : Name) (m : Method) → MethodIsWell w class m → (x : Mistake) → FaultInSome w (method_phrases class m) x → ⊥
  well_method class m h x f =
      let s = method_scope class m in
      none_faulty (method_phrases class m) x f.0
      (well_both (statements_phrases s m.body) (return_phrase s m.return_mark m.returns m.returned ∷ []) (from_all_well s m.body h.0) (from_return s m.return_mark m.returns m.returned h.1, tt)) f.1 f.2

  pub main_well : (m : Main) → ((x : Mistake) → FaultInSome w (main_phrases m) x → ⊥) → MainIsWell w m
  main_well m h = well_from main_scope m.statement (all_well (main_phrases m) (main_decides w m) h)

  pub well_main : (m : Main) → MainIsWell w m → (x : Mistake) → FaultInSome w (main_phrases m) x → ⊥
  well_main m h x f = none_faulty (main_phrases m) x f.0 (from_well main_scope m.statement h) f.1 f.2
