-- The list of a body's mistakes has each of them and no other.
use Rattle.std.proofs.Common.{◌≡◌, ℕ, ◌<◌, ◌^◌, Bool, true, false, cond, List, [], ◌∷◌, ◌++◌, refl, sym, ap, ◌∙◌, subst, ◌⊎◌, inl, inr, append_assoc, append-nil, arith}
use Rattle.std.specs.Prelude.{Contains}
use Rattle.std.proofs.lemmas.List.Elements.{Contains-append_left, Contains-append_right, Contains-append_cases, Contains-push, Contains-push_cases}
use Rattle.mj_tree.specs.Trees.{Name, Method}
use Rattle.mj_tree.specs.declared.tree.Ty.{Ty}
use Rattle.mj_tree.specs.declared.tree.Ty.TheVariants as ty
use Rattle.mj_tree.specs.declared.tree.Variable.{Variable}
use Rattle.mj_answer.specs.declared.code.Code.{Code}
use Rattle.mj_answer.specs.declared.code.Code.TheVariants.{E206, E207}
use Rattle.ordered_names.proofs.Alike.{nowhere, Contains-first, Contains-later, Contains-cases}
use Rattle.mj_phrases.specs.declared.verdict.Mistake.{Mistake}
use Rattle.mj_phrases.specs.Types.{is_same}
use Rattle.mj_phrases.specs.Inquiries.{World}
use Rattle.mj_phrases.specs.Table.{method_phrases}
use Rattle.mj_phrases.specs.Variables.{name_token, name_mark, has_name, variables_of, add_repeated, add_repeated_each}
use Rattle.mj_phrases.proofs.Names.{same_from, from_same}
use Rattle.mj_phrases.proofs.Agree.{each_listed, each_kept, each_there}
use Rattle.mj_typing.specs.Bodies.{MethodFault, UndeclaredReturn, UndeclaredVariable, RepeatedVariable, IllPhrase, return_type_mark, NamesFit, add_undeclared, add_undeclared_each, method_faults}

abbrev mistake : ℕ → Code → Mistake
mistake mark code = record { mark = mark; code = code }

-- ---- undeclared types

module _ (w : World) where
  -- at the mark stands a type that is an undeclared class
  abbrev Undeclared : ℕ → Ty → Mistake → Type 0
  Undeclared mark t x = (c : Name) × (t ≡ ty.Class c) × (w.is_declared c ≡ false) × (mistake mark E206 ≡ x)

  class_listed : (mark : ℕ) (c : Name) (faults : List Mistake) (x : Mistake) (b : Bool) → w.is_declared c ≡ b → Contains (cond b faults (faults ++ mistake mark E206 ∷ [])) x → Contains faults x ⊎ Undeclared mark (ty.Class c) x
  class_listed mark c faults x true e h = inl h
  class_listed mark c faults x false e h = elim (Contains-push_cases faults (mistake mark E206) x h) [ inl a ↦ inl a | inr is ↦ inr (c, refl, e, is) ]

  own_listed : (mark : ℕ) (t : Ty) (faults : List Mistake) (x : Mistake) → Contains (add_undeclared w faults mark t) x → Contains faults x ⊎ Undeclared mark t x
  own_listed mark ty.Int faults x h = inl h
  own_listed mark ty.Boolean faults x h = inl h
  own_listed mark ty.IntArray faults x h = inl h
  own_listed mark (ty.Class c) faults x h = class_listed mark c faults x (w.is_declared c) refl h

  class_kept : (mark : ℕ) (faults : List Mistake) (x : Mistake) (b : Bool) → Contains faults x → Contains (cond b faults (faults ++ mistake mark E206 ∷ [])) x
  class_kept mark faults x true h = h
  class_kept mark faults x false h = Contains-append_left faults (mistake mark E206 ∷ []) x h

  own_kept : (mark : ℕ) (t : Ty) (faults : List Mistake) (x : Mistake) → Contains faults x → Contains (add_undeclared w faults mark t) x
  own_kept mark ty.Int faults x h = h
  own_kept mark ty.Boolean faults x h = h
  own_kept mark ty.IntArray faults x h = h
  own_kept mark (ty.Class c) faults x h = class_kept mark faults x (w.is_declared c) h

  own_there : (mark : ℕ) (t : Ty) (faults : List Mistake) (c : Name) → t ≡ ty.Class c → w.is_declared c ≡ false → Contains (add_undeclared w faults mark t) (mistake mark E206)
  own_there mark t faults c e d = rw (e, d) (Contains-push faults (mistake mark E206))

  each_undeclared_listed : (vs : List Variable) (faults : List Mistake) (x : Mistake) → Contains (add_undeclared_each w faults vs) x → Contains faults x ⊎ ((v : Variable) × Contains vs v × Undeclared v.mark v.ty x)
  each_undeclared_listed [] faults x h = inl h
  each_undeclared_listed (v ∷ vs) faults x h =
      elim (each_undeclared_listed vs (add_undeclared w faults v.mark v.ty) x h) [
        | inl a ↦ elim (own_listed v.mark v.ty faults x a) [ inl b ↦ inl b | inr u ↦ inr (v, Contains-first v vs, u) ]
        | inr u ↦ inr (u.0, Contains-later v vs u.0 u.1, u.2)
      ]

  each_undeclared_kept : (vs : List Variable) (faults : List Mistake) (x : Mistake) → Contains faults x → Contains (add_undeclared_each w faults vs) x
  each_undeclared_kept [] faults x h = h
  each_undeclared_kept (v ∷ vs) faults x h = each_undeclared_kept vs (add_undeclared w faults v.mark v.ty) x (own_kept v.mark v.ty faults x h)

  each_undeclared_there : (vs : List Variable) (faults : List Mistake) (v : Variable) (c : Name) → Contains vs v → v.ty ≡ ty.Class c → w.is_declared c ≡ false → Contains (add_undeclared_each w faults vs) (mistake v.mark E206)
  each_undeclared_there [] faults v c h e d = absurd (nowhere v h)
  each_undeclared_there (u ∷ us) faults v c h e d =
      elim (Contains-cases u us v h) [
        | inl is ↦ each_undeclared_kept us (add_undeclared w faults u.mark u.ty) (mistake v.mark E206)
            (subst (λ (y : Variable). Contains (add_undeclared w faults u.mark u.ty) (mistake y.mark E206)) is (own_there u.mark u.ty faults c (ap (λ (y : Variable). y.ty) is ∙ e) d))
        | inr l ↦ each_undeclared_there us (add_undeclared w faults u.mark u.ty) v c l e d
      ]

-- ---- repeated names

pub named_among : (vs : List Variable) (x : Name) → has_name vs x ≡ true → (u : Variable) × Contains vs u × (u.name ≡ x)
named_among [] x h = absurd cc
named_among (v ∷ vs) x h = by_first (λ h. named_among vs x h) (is_same v.name x) refl h
  where
    by_first : (has_name vs x ≡ true → (u : Variable) × Contains vs u × (u.name ≡ x)) → (b : Bool) → is_same v.name x ≡ b → cond b true (has_name vs x) ≡ true → (u : Variable) × Contains (v ∷ vs) u × (u.name ≡ x)
    by_first rest true e h = (v, Contains-first v vs, same_from v.name x e)
    by_first rest false e h = let u = rest h in (u.0, Contains-later v vs u.0 u.1, u.2)

cond_true : (b : Bool) → cond b true true ≡ true
cond_true true = refl
cond_true false = refl

pub among_named : (vs : List Variable) (x : Name) (u : Variable) → Contains vs u → u.name ≡ x → has_name vs x ≡ true
among_named [] x u h e = absurd (nowhere u h)
among_named (v ∷ vs) x u h e =
    elim (Contains-cases v vs u h) [
      | inl is ↦ let f = from_same v.name x (ap (λ (y : Variable). y.name) is ∙ e) in rw f refl
      | inr l ↦ let r = among_named vs x u l e in rw r (cond_true (is_same v.name x))
    ]

repeated_listed : (v : Variable) (faults : List Mistake) (x : Mistake) (b : Bool) → Contains (cond b (faults ++ mistake (name_mark v) E207 ∷ []) faults) x → Contains faults x ⊎ ((b ≡ true) × (mistake (name_mark v) E207 ≡ x))
repeated_listed v faults x false h = inl h
repeated_listed v faults x true h = elim (Contains-push_cases faults (mistake (name_mark v) E207) x h) [ inl a ↦ inl a | inr e ↦ inr (refl, e) ]

repeated_kept : (v : Variable) (faults : List Mistake) (x : Mistake) (b : Bool) → Contains faults x → Contains (cond b (faults ++ mistake (name_mark v) E207 ∷ []) faults) x
repeated_kept v faults x false h = h
repeated_kept v faults x true h = Contains-append_left faults (mistake (name_mark v) E207 ∷ []) x h

-- a variable at these places stands behind one of its name
abbrev Repeated : List Variable → List Variable → Mistake → Type 0
Repeated before vs x = (among : List Variable) × (v : Variable) × (after : List Variable) × (vs ≡ among ++ v ∷ after) × (has_name (before ++ among) v.name ≡ true) × (mistake (name_mark v) E207 ≡ x)

each_repeated_listed : (vs before : List Variable) (faults : List Mistake) (x : Mistake) → Contains (add_repeated_each faults before vs) x → Contains faults x ⊎ Repeated before vs x
each_repeated_listed [] before faults x h = inl h
each_repeated_listed (v ∷ vs) before faults x h =
    elim (each_repeated_listed vs (before ++ v ∷ []) (add_repeated faults before v) x h) [
      | inl a ↦ elim (repeated_listed v faults x (has_name before v.name) a) [
        | inl b ↦ inl b
        | inr r ↦ inr ([], v, vs, refl, subst (λ l. has_name l v.name ≡ true) (sym (append-nil before)) r.0, r.1)
      ]
      | inr r ↦ inr (v ∷ r.0, r.1, r.2, ap (λ l. v ∷ l) r.3, subst (λ l. has_name l r.1.name ≡ true) (append_assoc before (v ∷ []) r.0) r.4, r.5)
    ]

each_repeated_kept : (vs before : List Variable) (faults : List Mistake) (x : Mistake) → Contains faults x → Contains (add_repeated_each faults before vs) x
each_repeated_kept [] before faults x h = h
each_repeated_kept (v ∷ vs) before faults x h = each_repeated_kept vs (before ++ v ∷ []) (add_repeated faults before v) x (repeated_kept v faults x (has_name before v.name) h)

each_repeated_there : (among : List Variable) (v : Variable) (after before : List Variable) (faults : List Mistake) → has_name (before ++ among) v.name ≡ true → Contains (add_repeated_each faults before (among ++ v ∷ after)) (mistake (name_mark v) E207)
each_repeated_there [] v after before faults h =
    let e : has_name before v.name ≡ true = subst (λ l. has_name l v.name ≡ true) (append-nil before) h in
    each_repeated_kept after (before ++ v ∷ []) (add_repeated faults before v) (mistake (name_mark v) E207) (rw e (Contains-push faults (mistake (name_mark v) E207)))
each_repeated_there (u ∷ us) v after before faults h =
    each_repeated_there us v after (before ++ u ∷ []) (add_repeated faults before u) (subst (λ l. has_name l v.name ≡ true) (sym (append_assoc before (u ∷ []) us)) h)

-- ---- the token of a name

same_mark : (x : Name) (t : Ty) (mark : ℕ) → name_token (record { name = x; ty = t; mark = mark }) < 2 ^ 64 → name_mark (record { name = x; ty = t; mark = mark }) ≡ name_token (record { name = x; ty = t; mark = mark })
same_mark x ty.Int mark h = omega (arith, h)
same_mark x ty.Boolean mark h = omega (arith, h)
same_mark x ty.IntArray mark h = omega (arith, h)
same_mark x (ty.Class c) mark h = omega (arith, h)

same_token : (v : Variable) → name_token v < 2 ^ 64 → name_mark v ≡ name_token v
same_token v h = same_mark v.name v.ty v.mark h

stands_among : (before : List Variable) (v : Variable) (after all : List Variable) → all ≡ before ++ v ∷ after → Contains all v
stands_among before v after all e = subst (λ vs. Contains vs v) (sym e) (Contains-append_right before (v ∷ after) v (Contains-first v after))

token_fits : (m : Method) → NamesFit m → (before : List Variable) (v : Variable) (after : List Variable) → variables_of m ≡ before ++ v ∷ after → mistake (name_mark v) E207 ≡ mistake (name_token v) E207
token_fits m fit before v after e = ap (λ (n : ℕ). mistake n E207) (same_token v (fit v (stands_among before v after (variables_of m) e)))

-- ---- a method

module _ (w : World) (class : Name) (m : Method) (fit : NamesFit m) where
  pub method_listed : (x : Mistake) → Contains (method_faults w class m) x → MethodFault w class m x
  method_listed x h =
      let repeated = add_repeated_each [] [] (variables_of m) in
      let a = add_undeclared w repeated return_type_mark m.returns in
      let b = add_undeclared_each w a m.formals in
      let c = add_undeclared_each w b m.locals in
      elim (each_listed w (method_phrases class m) c x h) [
        | inr f ↦ IllPhrase x f
        | inl h ↦ elim (each_undeclared_listed w m.locals b x h) [
          | inr u ↦ subst (MethodFault w class m) u.2.3 (UndeclaredVariable u.0 u.2.0 (Contains-append_right m.formals m.locals u.0 u.1) u.2.1 u.2.2)
          | inl h ↦ elim (each_undeclared_listed w m.formals a x h) [
            | inr u ↦ subst (MethodFault w class m) u.2.3 (UndeclaredVariable u.0 u.2.0 (Contains-append_left m.formals m.locals u.0 u.1) u.2.1 u.2.2)
            | inl h ↦ elim (own_listed w return_type_mark m.returns repeated x h) [
              | inr u ↦ subst (MethodFault w class m) u.3 (UndeclaredReturn u.0 u.1 u.2)
              | inl h ↦ elim (each_repeated_listed (variables_of m) [] [] x h) [
                | inl n ↦ absurd (nowhere x n)
                | inr r ↦ let u = named_among r.0 r.1.name r.4 in subst (MethodFault w class m) (sym (token_fits m fit r.0 r.1 r.2 r.3) ∙ r.5) (RepeatedVariable r.0 u.0 r.1 r.2 r.3 u.1 u.2)
              ]
            ]
          ]
        ]
      ]

  pub method_there : (x : Mistake) → MethodFault w class m x → Contains (method_faults w class m) x
  method_there x (UndeclaredReturn c e d) =
      let repeated = add_repeated_each [] [] (variables_of m) in
      let a = add_undeclared w repeated return_type_mark m.returns in
      let b = add_undeclared_each w a m.formals in
      let c' = add_undeclared_each w b m.locals in
      let x = mistake return_type_mark E206 in
      each_kept w (method_phrases class m) c' x (each_undeclared_kept w m.locals b x (each_undeclared_kept w m.formals a x (own_there w return_type_mark m.returns repeated c e d)))
  method_there x (UndeclaredVariable v c h e d) =
      let repeated = add_repeated_each [] [] (variables_of m) in
      let a = add_undeclared w repeated return_type_mark m.returns in
      let b = add_undeclared_each w a m.formals in
      let c' = add_undeclared_each w b m.locals in
      let x = mistake v.mark E206 in
      each_kept w (method_phrases class m) c' x
      (elim (Contains-append_cases m.formals m.locals v h) [
        | inl f ↦ each_undeclared_kept w m.locals b x (each_undeclared_there w m.formals a v c f e d)
        | inr l ↦ each_undeclared_there w m.locals b v c l e d
      ])
  method_there x (RepeatedVariable before u v after split h e) =
      let repeated = add_repeated_each [] [] (variables_of m) in
      let a = add_undeclared w repeated return_type_mark m.returns in
      let b = add_undeclared_each w a m.formals in
      let c' = add_undeclared_each w b m.locals in
      let x = mistake (name_mark v) E207 in
      subst (Contains (method_faults w class m)) (token_fits m fit before v after split)
      (each_kept w (method_phrases class m) c' x (each_undeclared_kept w m.locals b x (each_undeclared_kept w m.formals a x (own_kept w return_type_mark m.returns repeated x
      (subst (λ vs. Contains (add_repeated_each [] [] vs) x) (sym split) (each_repeated_there before v after [] [] (among_named before v.name u h e)))))))
  method_there x (IllPhrase x' f) =
      let repeated = add_repeated_each [] [] (variables_of m) in
      let a = add_undeclared w repeated return_type_mark m.returns in
      let b = add_undeclared_each w a m.formals in
      let c' = add_undeclared_each w b m.locals in
      each_there w (method_phrases class m) c' x' f.0 f.1 f.2
