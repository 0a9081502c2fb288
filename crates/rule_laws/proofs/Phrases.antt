-- A check finds a phrase at fault exactly if its demands say so.
use Rattle.std.proofs.Common.{◌≡◌, List, [], ◌∷◌, refl, sym, subst, inl, inr}
use Rattle.mj_tree.specs.Trees.{Expression, Expressions, Binary, Index, Length, Call, Literal, Boolean, Named, This, NewArray, NewObject, Not, Parenthesized, none, more, Block, If, While, Print, Assign, Store}
use Rattle.mj_tree.specs.declared.tree.Ty.{Ty}
use Rattle.mj_phrases.specs.declared.verdict.Verdict.{Verdict}
use Rattle.mj_phrases.specs.declared.verdict.Mistake.{Mistake}
use Rattle.mj_phrases.specs.Inquiries.{World, conclusion}
use Rattle.mj_phrases.specs.Phrases.{Phrase, phrase, AllTyped, PhraseFault, FaultIn, FaultInAny}
use Rattle.mj_phrases.specs.Table.{Scope, phrase_of, phrases_of}
use Rattle.mj_phrases.proofs.ByCases.{by_cases, from_cases}
use Rattle.rule_laws.specs.Demands.{BodyPhrase, OfExpression, OfStatement, OfReturn, mark_of, parts_of, demands}
use Rattle.rule_laws.specs.Faults.{HaveTypes, IsAtFault, IsAmong, FaultWithin, Own, Inner}
use Rattle.rule_laws.specs.PhraseLaws.{form_of}
use Rattle.rule_laws.proofs.Verdicts.{Tells, wrong_by}
use Rattle.rule_laws.proofs.Rows.{row_of, kind_of, row_tells}

-- the mark, the row and the immediate expressions
pub form_is : (s : Scope) (p : BodyPhrase) → form_of s p ≡ phrase (mark_of p) (row_of s p) (phrases_of s (parts_of p))
form_is s (OfExpression (Literal mark value)) = refl
form_is s (OfExpression (Boolean mark value)) = refl
form_is s (OfExpression (Named mark x)) = refl
form_is s (OfExpression (This mark)) = refl
form_is s (OfExpression (Parenthesized mark e)) = refl
form_is s (OfExpression (Not mark e)) = refl
form_is s (OfExpression (Binary o mark l r)) = refl
form_is s (OfExpression (Index mark a i)) = refl
form_is s (OfExpression (Length mark a)) = refl
form_is s (OfExpression (Call mark e m es)) = refl
form_is s (OfExpression (NewArray mark e)) = refl
form_is s (OfExpression (NewObject mark c)) = refl
form_is s (OfStatement (Block mark ss)) = refl
form_is s (OfStatement (If mark e a b)) = refl
form_is s (OfStatement (While mark e a)) = refl
form_is s (OfStatement (Print mark e)) = refl
form_is s (OfStatement (Assign mark x x_mark e)) = refl
form_is s (OfStatement (Store mark x x_mark i e)) = refl
form_is s (OfReturn mark wanted e) = refl

module _ (w : World) (s : Scope) where
  -- ---- types of parts

  pub to_have_types : (es : Expressions) (ts : List Ty) → AllTyped w (phrases_of s es) ts → HaveTypes w s es ts
  to_have_types none [] h = tt
  to_have_types none (t ∷ ts) h = absurd h
  to_have_types (more e es) [] h = absurd h
  to_have_types (more e es) (t ∷ ts) h = (by_cases w s e t h.0, to_have_types es ts h.1)

  pub from_have_types : (es : Expressions) (ts : List Ty) → HaveTypes w s es ts → AllTyped w (phrases_of s es) ts
  from_have_types none [] h = tt
  from_have_types none (t ∷ ts) h = absurd h
  from_have_types (more e es) [] h = absurd h
  from_have_types (more e es) (t ∷ ts) h = (from_cases w s e t h.0, from_have_types es ts h.1)

  -- ---- a phrase itself

  pub at_fault : (p : BodyPhrase) (x : Mistake) → PhraseFault w (form_of s p) x → IsAtFault w s p x
  at_fault p x f =
      let h = subst (λ (q : Phrase). PhraseFault w q x) (form_is s p) f in
      let types = to_have_types (parts_of p) h.1.0 h.1.1 in record {
        mark = h.0;
        types = h.1.0;
        have_types = types;
        code = subst (λ (v : Verdict). Tells (kind_of p) v (demands w s p h.1.0)) h.1.2 (row_tells w s p h.1.0 types);
      }

  pub fault_at : (p : BodyPhrase) (x : Mistake) → IsAtFault w s p x → PhraseFault w (form_of s p) x
  fault_at p x a =
      subst (λ (q : Phrase). PhraseFault w q x) (sym (form_is s p))
      (a.mark, (a.types, from_have_types (parts_of p) a.types a.have_types, wrong_by (kind_of p) (conclusion w (row_of s p a.types)) (demands w s p a.types) x.code (row_tells w s p a.types a.have_types) a.code))

  -- ---- a phrase and what is in it

  own : (e : Expression) (x : Mistake) → PhraseFault w (phrase_of s e) x → FaultWithin w s (OfExpression e) x
  own e x f = Own (OfExpression e) x (at_fault (OfExpression e) x f)

  inner : (e part : Expression) (x : Mistake) → IsAmong part (parts_of (OfExpression e)) → FaultWithin w s (OfExpression part) x → FaultWithin w s (OfExpression e) x
  inner e part x among f = Inner (OfExpression e) part x among f

  mutual
    expression_within : (e : Expression) (x : Mistake) → FaultIn w (phrase_of s e) x → FaultWithin w s (OfExpression e) x
    expression_within (Literal mark value) x (inl f) = absurd f
    expression_within (Literal mark value) x (inr f) = own (Literal mark value) x f
    expression_within (Boolean mark value) x (inl f) = absurd f
    expression_within (Boolean mark value) x (inr f) = own (Boolean mark value) x f
    expression_within (Named mark n) x (inl f) = absurd f
    expression_within (Named mark n) x (inr f) = own (Named mark n) x f
    expression_within (This mark) x (inl f) = absurd f
    expression_within (This mark) x (inr f) = own (This mark) x f
    expression_within (Parenthesized mark e) x (inl (inl f)) = inner (Parenthesized mark e) e x (inl refl) (expression_within e x f)
    expression_within (Parenthesized mark e) x (inl (inr f)) = absurd f
    expression_within (Parenthesized mark e) x (inr f) = own (Parenthesized mark e) x f
    expression_within (Not mark e) x (inl (inl f)) = inner (Not mark e) e x (inl refl) (expression_within e x f)
    expression_within (Not mark e) x (inl (inr f)) = absurd f
    expression_within (Not mark e) x (inr f) = own (Not mark e) x f
    expression_within (Binary o mark l r) x (inl (inl f)) = inner (Binary o mark l r) l x (inl refl) (expression_within l x f)
    expression_within (Binary o mark l r) x (inl (inr (inl f))) = inner (Binary o mark l r) r x (inr (inl refl)) (expression_within r x f)
    expression_within (Binary o mark l r) x (inl (inr (inr f))) = absurd f
    expression_within (Binary o mark l r) x (inr f) = own (Binary o mark l r) x f
    expression_within (Index mark l r) x (inl (inl f)) = inner (Index mark l r) l x (inl refl) (expression_within l x f)
    expression_within (Index mark l r) x (inl (inr (inl f))) = inner (Index mark l r) r x (inr (inl refl)) (expression_within r x f)
    expression_within (Index mark l r) x (inl (inr (inr f))) = absurd f
    expression_within (Index mark l r) x (inr f) = own (Index mark l r) x f
    expression_within (Length mark e) x (inl (inl f)) = inner (Length mark e) e x (inl refl) (expression_within e x f)
    expression_within (Length mark e) x (inl (inr f)) = absurd f
    expression_within (Length mark e) x (inr f) = own (Length mark e) x f
    expression_within (Call mark e m es) x (inl (inl f)) = inner (Call mark e m es) e x (inl refl) (expression_within e x f)
    expression_within (Call mark e m es) x (inl (inr f)) = let a = some_within es x f in inner (Call mark e m es) a.0 x (inr a.1) a.2
    expression_within (Call mark e m es) x (inr f) = own (Call mark e m es) x f
    expression_within (NewArray mark e) x (inl (inl f)) = inner (NewArray mark e) e x (inl refl) (expression_within e x f)
    expression_within (NewArray mark e) x (inl (inr f)) = absurd f
    expression_within (NewArray mark e) x (inr f) = own (NewArray mark e) x f
    expression_within (NewObject mark c) x (inl f) = absurd f
    expression_within (NewObject mark c) x (inr f) = own (NewObject mark c) x f

    some_within : (es : Expressions) (x : Mistake) → FaultInAny w (phrases_of s es) x → (e : Expression) × IsAmong e es × FaultWithin w s (OfExpression e) x
    some_within none x f = absurd f
    some_within (more e es) x (inl f) = (e, inl refl, expression_within e x f)
    some_within (more e es) x (inr f) = let a = some_within es x f in (a.0, inr a.1, a.2)

  whole_within : (p : BodyPhrase) (x : Mistake) → FaultIn w (phrase (mark_of p) (row_of s p) (phrases_of s (parts_of p))) x → FaultWithin w s p x
  whole_within p x (inl f) = let a = some_within (parts_of p) x f in Inner p a.0 x a.1 a.2
  whole_within p x (inr f) = Own p x (at_fault p x (subst (λ (q : Phrase). PhraseFault w q x) (sym (form_is s p)) f))

  pub within : (p : BodyPhrase) (x : Mistake) → FaultIn w (form_of s p) x → FaultWithin w s p x
  within p x f = whole_within p x (subst (λ (q : Phrase). FaultIn w q x) (form_is s p) f)

  among_in : (e : Expression) (es : Expressions) (x : Mistake) → IsAmong e es → FaultIn w (phrase_of s e) x → FaultInAny w (phrases_of s es) x
  among_in e none x a f = absurd a
  among_in e (more g gs) x (inl is) f = inl (subst (λ (e : Expression). FaultIn w (phrase_of s e) x) is f)
  among_in e (more g gs) x (inr a) f = inr (among_in e gs x a f)

  pub in_form : (p : BodyPhrase) (x : Mistake) → FaultWithin w s p x → FaultIn w (form_of s p) x
  in_form p x (Own p' x' a) =
      subst (λ (q : Phrase). FaultIn w q x) (sym (form_is s p)) (inr (subst (λ (q : Phrase). PhraseFault w q x) (form_is s p) (fault_at p x a)))
  in_form p x (Inner p' e x' among f) =
      subst (λ (q : Phrase). FaultIn w q x) (sym (form_is s p)) (inl (among_in e (parts_of p) x among (in_form (OfExpression e) x f)))
