-- Laws of the definitions.
use Rattle.std.specs.Prelude.{◌≡◌, ◌↔◌, ℕ, suc, true, List, [], ◌∷◌, length, Some, Contains}
use Rattle.mj_tree.specs.Trees.{Name, Expression, Method, Main}
use Rattle.mj_tree.specs.declared.tree.Ty.{Ty}
use Rattle.mj_phrases.specs.declared.verdict.Mistake.{Mistake}
use Rattle.mj_phrases.specs.declared.verdict.Verdict.{Verdict}
use Rattle.mj_phrases.specs.declared.verdict.Verdict.TheVariants.{Is, Fine, Wrong, Silent}
use Rattle.mj_phrases.specs.Inquiries.{World, conclusion}
use Rattle.mj_phrases.specs.Phrases.{Phrase, Phrases, phrase, nothing, part, HasType, FaultInSome, type_of, add_each}
use Rattle.mj_phrases.specs.Table.{Scope, is_accepted, phrase_of, method_phrases, main_phrases}
use Rattle.mj_phrases.specs.Cases.{Accepted, HasTypeByCases, MethodIsWell, MainIsWell}

-- the functions compute the judgement, and a phrase has one type at most
pub record TypingLaws : Type 0 where
  pub types : (w : World) (p : Phrase) (t : Ty) → (type_of w p ≡ Some t) ↔ HasType w p t
  pub unique : (w : World) (p : Phrase) (t u : Ty) → HasType w p t → HasType w p u → t ≡ u
  pub faults : (w : World) (ps : List Phrase) (m : Mistake)
      → Contains (add_each w [] ps) m ↔ FaultInSome w ps m

abbrev pub count : Phrases → ℕ
count nothing = 0
count (part p ps) = suc (count ps)

-- the verdicts that an expression may have, and a statement, once all parts have types
abbrev pub IsOfExpression : Verdict → Type 0
IsOfExpression (Is t) = Unit {0}
IsOfExpression Fine = ⊥
IsOfExpression (Wrong code) = Unit {0}
IsOfExpression Silent = ⊥

abbrev pub IsOfStatement : Verdict → Type 0
IsOfStatement (Is t) = ⊥
IsOfStatement Fine = Unit {0}
IsOfStatement (Wrong code) = Unit {0}
IsOfStatement Silent = ⊥

-- on types as many as the parts the phrase, and each in it, has a type or a code
abbrev mutual
  pub Decides : World → Phrase → Type 0
  Decides w (phrase mark row parts) =
      ((ts : List Ty) → length ts ≡ count parts → IsOfExpression (conclusion w (row ts)))
      × DecideAll w parts

  pub DecideAll : World → Phrases → Type 0
  DecideAll w nothing = Unit {0}
  DecideAll w (part p ps) = Decides w p × DecideAll w ps

-- the same for a statement, which is well or has a code
abbrev pub DecidesStatement : World → Phrase → Type 0
DecidesStatement w (phrase mark row parts) =
    ((ts : List Ty) → length ts ≡ count parts → IsOfStatement (conclusion w (row ts)))
    × DecideAll w parts

abbrev pub AllDecide : World → List Phrase → Type 0
AllDecide w [] = Unit {0}
AllDecide w (p ∷ ps) = DecidesStatement w p × AllDecide w ps

-- no row of the table is silent
pub record RowLaws : Type 0 where
  pub expression : (w : World) (s : Scope) (e : Expression) → Decides w (phrase_of s e)
  pub method : (w : World) (class : Name) (m : Method) → AllDecide w (method_phrases class m)
  pub main : (w : World) (m : Main) → AllDecide w (main_phrases m)

-- what is accepted and the table are the judgement by cases, and a body without mistakes is one
-- that is well
pub record CaseLaws : Type 0 where
  pub accepted : (w : World) (t u : Ty) → (conclusion w (is_accepted t u) ≡ true) ↔ Accepted w t u
  pub expression : (w : World) (s : Scope) (e : Expression) (t : Ty)
      → HasType w (phrase_of s e) t ↔ HasTypeByCases w s e t
  pub method : (w : World) (class : Name) (m : Method)
      → ((x : Mistake) → FaultInSome w (method_phrases class m) x → ⊥) ↔ MethodIsWell w class m
  pub main : (w : World) (m : Main) → ((x : Mistake) → FaultInSome w (main_phrases m) x → ⊥) ↔ MainIsWell w m
