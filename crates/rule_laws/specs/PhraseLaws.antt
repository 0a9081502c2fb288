-- What is said by the demands of phrases is what a check of a body finds.
use Rattle.std.specs.Prelude.{◌↔◌, ℕ, Contains}
use Rattle.mj_tree.specs.Trees.{Name, Expression, Statement, Method, Main}
use Rattle.mj_tree.specs.declared.tree.Ty.{Ty}
use Rattle.mj_phrases.specs.declared.verdict.Mistake.{Mistake}
use Rattle.mj_phrases.specs.Inquiries.{World}
use Rattle.mj_phrases.specs.Phrases.{Phrase, PhraseFault, Well}
use Rattle.mj_phrases.specs.Table.{Scope, method_scope, phrase_of, own_phrase, return_phrase}
use Rattle.mj_phrases.specs.Cases.{HasTypeByCases, IsWellThroughoutByCases, MethodIsWell}
use Rattle.mj_typing.specs.Bodies.{NamesFit, method_faults, main_faults}
use Rattle.rule_laws.specs.Demands.{BodyPhrase, OfExpression, OfStatement, OfReturn}
use Rattle.rule_laws.specs.Faults.{IsAtFault, IsWell, IsWellThroughout, phrases_in, FaultInMethod, FaultInMain}

-- the phrase as a check of a body walks over it
abbrev pub form_of : Scope → BodyPhrase → Phrase
form_of s (OfExpression e) = phrase_of s e
form_of s (OfStatement a) = own_phrase s a
form_of s (OfReturn mark wanted e) = return_phrase s mark wanted e

-- a check finds the diagnostics that the demands give
pub record FaultLaws : Type 0 where
  pub phrase : (w : World) (s : Scope) (p : BodyPhrase) (x : Mistake)
      → PhraseFault w (form_of s p) x ↔ IsAtFault w s p x
  pub method : (w : World) (class : Name) (m : Method) → NamesFit m → (x : Mistake)
      → Contains (method_faults w class m) x ↔ FaultInMethod w class m x
  pub main : (w : World) (m : Main) (x : Mistake)
      → Contains (main_faults w m) x ↔ FaultInMain w m x

-- a phrase is well if all its demands hold; what is well by cases is well throughout
pub record WellLaws : Type 0 where
  pub expression : (w : World) (s : Scope) (e : Expression)
      → ((t : Ty) × HasTypeByCases w s e t) ↔ IsWell w s (OfExpression e)
  pub statement : (w : World) (s : Scope) (a : Statement)
      → Well w (own_phrase s a) ↔ IsWell w s (OfStatement a)
  pub return_value : (w : World) (s : Scope) (mark : ℕ) (wanted : Ty) (e : Expression)
      → Well w (return_phrase s mark wanted e) ↔ IsWell w s (OfReturn mark wanted e)
  pub throughout : (w : World) (s : Scope) (a : Statement)
      → IsWellThroughoutByCases w s a ↔ IsWellThroughout w s a
  pub method : (w : World) (class : Name) (m : Method)
      → MethodIsWell w class m
      ↔ ((p : BodyPhrase) → Contains (phrases_in m) p → IsWell w (method_scope class m) p)
