-- A check finds the mistakes of a body that the demands of its phrases give.
use Rattle.std.proofs.Common.{◌≡◌, List, [], ◌∷◌, ◌++◌, map, refl, sym, ap, ap₂, ◌∙◌, subst, inl, inr}
use Rattle.std.specs.Prelude.{Contains, ◌↔◌}
use Rattle.std.proofs.lemmas.List.{map-append}
use Rattle.mj_tree.specs.Trees.{Name, Statement, Statements, Block, If, While, Print, Assign, Store, done, next, Method, Main}
use Rattle.ordered_names.proofs.Alike.{nowhere, Contains-first, Contains-later, Contains-cases}
use Rattle.mj_phrases.specs.declared.verdict.Mistake.{Mistake}
use Rattle.mj_phrases.specs.Inquiries.{World}
use Rattle.mj_phrases.specs.Phrases.{Phrase, FaultIn, FaultInSome}
use Rattle.mj_phrases.specs.Table.{Scope, method_scope, main_scope, own_phrase, statement_phrases, statements_phrases, method_phrases, main_phrases}
use Rattle.mj_phrases.proofs.Agree.{each_exact}
use Rattle.mj_typing.specs.Bodies.{MethodFault, MainFault, UndeclaredReturn, UndeclaredVariable, RepeatedVariable, IllPhrase, NamesFit, method_faults, main_faults}
use Rattle.mj_typing.proofs.Mistakes.{method_listed, method_there}
use Rattle.rule_laws.specs.Demands.{BodyPhrase, OfStatement, OfReturn}
use Rattle.rule_laws.specs.Faults.{FaultWithin, statements_of, all_statements, phrases_in, phrases_in_main, FaultInMethod, InReturnType, InVariableType, InVariableName, InPhrase, FaultInMain}
use Rattle.rule_laws.specs.PhraseLaws.{form_of}
use Rattle.rule_laws.proofs.Phrases.{within, in_form}

-- ---- the phrases of a body

mutual
  statement_forms : (s : Scope) (a : Statement) → statement_phrases s a ≡ map (own_phrase s) (statements_of a)
  statement_forms s (Block mark ss) = ap (λ ps. own_phrase s (Block mark ss) ∷ ps) (statements_forms s ss)
  statement_forms s (If mark e a b) =
      ap (λ ps. own_phrase s (If mark e a b) ∷ ps) (ap₂ (λ ps qs. ps ++ qs) (statement_forms s a) (statement_forms s b) ∙ sym (map-append (own_phrase s) (statements_of a) (statements_of b)))
  statement_forms s (While mark e a) = ap (λ ps. own_phrase s (While mark e a) ∷ ps) (statement_forms s a)
  statement_forms s (Print mark e) = refl
  statement_forms s (Assign mark x x_mark e) = refl
  statement_forms s (Store mark x x_mark i e) = refl

  statements_forms : (s : Scope) (ss : Statements) → statements_phrases s ss ≡ map (own_phrase s) (all_statements ss)
  statements_forms s done = refl
  statements_forms s (next a ss) = ap₂ (λ ps qs. ps ++ qs) (statement_forms s a) (statements_forms s ss) ∙ sym (map-append (own_phrase s) (statements_of a) (all_statements ss))

of_statements : (s : Scope) (bs : List Statement) → map (own_phrase s) bs ≡ map (form_of s) (map OfStatement bs)
of_statements s [] = refl
of_statements s (b ∷ bs) = ap (λ ps. own_phrase s b ∷ ps) (of_statements s bs)

method_forms : (class : Name) (m : Method) → method_phrases class m ≡ map (form_of (method_scope class m)) (phrases_in m)
method_forms class m =
    let s = method_scope class m in
    let last = OfReturn m.return_mark m.returns m.returned ∷ [] in
    ap (λ ps. ps ++ form_of s (OfReturn m.return_mark m.returns m.returned) ∷ []) (statements_forms s m.body ∙ of_statements s (all_statements m.body))
    ∙ sym (map-append (form_of s) (map OfStatement (all_statements m.body)) last)

main_forms : (m : Main) → main_phrases m ≡ map (form_of main_scope) (phrases_in_main m)
main_forms m = statement_forms main_scope m.statement ∙ of_statements main_scope (statements_of m.statement)

-- ---- one of them

module _ (w : World) (s : Scope) (x : Mistake) where
  abbrev Within : List BodyPhrase → Type 0
  Within ps = (p : BodyPhrase) × Contains ps p × FaultWithin w s p x

  some_mapped : (ps : List BodyPhrase) (q : Phrase) → Contains (map (form_of s) ps) q → FaultIn w q x → Within ps
  some_mapped [] q c f = absurd (nowhere q c)
  some_mapped (p ∷ ps) q c f =
      elim (Contains-cases (form_of s p) (map (form_of s) ps) q c) [
        | inl is ↦ (p, Contains-first p ps, within w s p x (subst (λ (q : Phrase). FaultIn w q x) (sym is) f))
        | inr l ↦ let r = some_mapped ps q l f in (r.0, Contains-later p ps r.0 r.1, r.2)
      ]

  mapped_some : (ps : List BodyPhrase) (p : BodyPhrase) → Contains ps p → FaultWithin w s p x → FaultInSome w (map (form_of s) ps) x
  mapped_some [] p c f = absurd (nowhere p c)
  mapped_some (q ∷ qs) p c f =
      elim (Contains-cases q qs p c) [
        | inl is ↦ (form_of s q, Contains-first (form_of s q) (map (form_of s) qs), in_form w s q x (subst (λ (p : BodyPhrase). FaultWithin w s p x) (sym is) f))
        | inr l ↦ let r = mapped_some qs p l f in (r.0, Contains-later (form_of s q) (map (form_of s) qs) r.0 r.1, r.2)
      ]

-- ---- methods and main

module _ (w : World) (class : Name) (m : Method) where
  pub in_method : (x : Mistake) → MethodFault w class m x → FaultInMethod w class m x
  in_method x (UndeclaredReturn c e d) = InReturnType c e d
  in_method x (UndeclaredVariable v c h e d) = InVariableType v c h e d
  in_method x (RepeatedVariable before u v after split h e) = InVariableName before u v after split h e
  in_method x (IllPhrase x' f) =
      let g = subst (λ (ps : List Phrase). FaultInSome w ps x) (method_forms class m) f in
      let r = some_mapped w (method_scope class m) x (phrases_in m) g.0 g.1 g.2 in
      InPhrase r.0 x r.1 r.2

  pub from_method : (x : Mistake) → FaultInMethod w class m x → MethodFault w class m x
  from_method x (InReturnType c e d) = UndeclaredReturn c e d
  from_method x (InVariableType v c h e d) = UndeclaredVariable v c h e d
  from_method x (InVariableName before u v after split h e) = RepeatedVariable before u v after split h e
  from_method x (InPhrase p x' c f) =
      IllPhrase x (subst (λ (ps : List Phrase). FaultInSome w ps x) (sym (method_forms class m)) (mapped_some w (method_scope class m) x (phrases_in m) p c f))

  pub method_law : NamesFit m → (x : Mistake) → Contains (method_faults w class m) x ↔ FaultInMethod w class m x
  method_law fit x = (λ h. in_method x (method_listed w class m fit x h), λ h. method_there w class m fit x (from_method x h))

pub in_main : (w : World) (m : Main) (x : Mistake) → MainFault w m x → FaultInMain w m x
in_main w m x h =
    let f = subst (λ (ps : List Phrase). FaultInSome w ps x) (main_forms m) h in
    some_mapped w main_scope x (phrases_in_main m) f.0 f.1 f.2

pub from_main : (w : World) (m : Main) (x : Mistake) → FaultInMain w m x → MainFault w m x
from_main w m x h = subst (λ (ps : List Phrase). FaultInSome w ps x) (sym (main_forms m)) (mapped_some w main_scope x (phrases_in_main m) h.0 h.1 h.2)

pub main_law : (w : World) (m : Main) (x : Mistake) → Contains (main_faults w m) x ↔ FaultInMain w m x
main_law w m x = (λ h. in_main w m x ((each_exact w (main_phrases m) x).0 h), λ h. (each_exact w (main_phrases m) x).1 (from_main w m x h))
