-- The table of phrases: the mark of each, its immediate expressions, and what it demands of their
-- types, in order.
use Rattle.std.specs.Prelude.{◌≡◌, ◌≤◌, ℕ, true, List, [], ◌∷◌, length, Some}
use Rattle.mj_tree.specs.Trees.{Name, Expression, Expressions, Binary, Index, Length, Call, Literal, Boolean, Named, This, NewArray, NewObject, Not, Parenthesized, none, more, Statement, Block, If, While, Print, Assign, Store}
use Rattle.mj_tree.specs.declared.tree.Operator.{Operator}
use Rattle.mj_tree.specs.declared.tree.Operator.TheVariants.{And, Less, Plus, Minus, Times}
use Rattle.mj_tree.specs.declared.tree.Ty.{Ty}
use Rattle.mj_tree.specs.declared.tree.Ty.TheVariants as ty
use Rattle.mj_answer.specs.declared.code.Code.{Code}
use Rattle.mj_answer.specs.declared.code.Code.TheVariants.{E301, E302, E303, E304, E305, E306, E307, E308, E309, E310, E311, E312, E313, E314, E315, E316, E317, E318, E319}
use Rattle.mj_phrases.specs.Inquiries.{World, Sig}
use Rattle.mj_phrases.specs.Table.{Scope, most_value}
use Rattle.mj_phrases.specs.Cases.{Accepted, IsVariable, operand_type}

-- a phrase of a body: an expression, a statement, or the return of a method with the type that is
-- wanted
pub data BodyPhrase : Type 0 where
  OfExpression : Expression → BodyPhrase
  OfStatement : Statement → BodyPhrase
  OfReturn : (mark : ℕ) (wanted : Ty) (value : Expression) → BodyPhrase

-- the token by which a diagnostic of the phrase is reported
abbrev pub mark_of : BodyPhrase → ℕ
mark_of (OfExpression (Literal mark value)) = mark
mark_of (OfExpression (Boolean mark value)) = mark
mark_of (OfExpression (Named mark x)) = mark
mark_of (OfExpression (This mark)) = mark
mark_of (OfExpression (Parenthesized mark e)) = mark
mark_of (OfExpression (Not mark e)) = mark
mark_of (OfExpression (Binary o mark l r)) = mark
mark_of (OfExpression (Index mark a i)) = mark
mark_of (OfExpression (Length mark a)) = mark
mark_of (OfExpression (Call mark e m es)) = mark
mark_of (OfExpression (NewArray mark e)) = mark
mark_of (OfExpression (NewObject mark c)) = mark
mark_of (OfStatement (Block mark ss)) = mark
mark_of (OfStatement (If mark e a b)) = mark
mark_of (OfStatement (While mark e a)) = mark
mark_of (OfStatement (Print mark e)) = mark
mark_of (OfStatement (Assign mark x x_mark e)) = mark
mark_of (OfStatement (Store mark x x_mark i e)) = mark
mark_of (OfReturn mark wanted e) = mark

-- the immediate expressions of a phrase; the name on the left of an assignment is one
abbrev pub parts_of : BodyPhrase → Expressions
parts_of (OfExpression (Literal mark value)) = none
parts_of (OfExpression (Boolean mark value)) = none
parts_of (OfExpression (Named mark x)) = none
parts_of (OfExpression (This mark)) = none
parts_of (OfExpression (Parenthesized mark e)) = more e none
parts_of (OfExpression (Not mark e)) = more e none
parts_of (OfExpression (Binary o mark l r)) = more l (more r none)
parts_of (OfExpression (Index mark a i)) = more a (more i none)
parts_of (OfExpression (Length mark a)) = more a none
parts_of (OfExpression (Call mark e m es)) = more e es
parts_of (OfExpression (NewArray mark e)) = more e none
parts_of (OfExpression (NewObject mark c)) = none
parts_of (OfStatement (Block mark ss)) = none
parts_of (OfStatement (If mark e a b)) = more e none
parts_of (OfStatement (While mark e a)) = more e none
parts_of (OfStatement (Print mark e)) = more e none
parts_of (OfStatement (Assign mark x x_mark e)) = more (Named x_mark x) (more e none)
parts_of (OfStatement (Store mark x x_mark i e)) = more (Named x_mark x) (more i (more e none))
parts_of (OfReturn mark wanted e) = more e none

-- demands in their order, each with the code of its failure
abbrev pub Demands : Type 1
Demands = List (Type 0 × Code)

abbrev pub IsInScope : World → Scope → Name → Type 0
IsInScope w s x = (t : Ty) × IsVariable w s x t

-- not in main
abbrev pub IsInMethod : Scope → Type 0
IsInMethod s = (c : Name) × (s.class ≡ Some c)

abbrev pub IsClassType : Ty → Type 0
IsClassType t = (c : Name) × (t ≡ ty.Class c)

-- the type is a class that has the method
abbrev pub HasMethod : World → Ty → Name → Sig → Type 0
HasMethod w t m sig = (c : Name) × (t ≡ ty.Class c) × (w.method c m ≡ Some sig)

-- each type is accepted by the one in its place
abbrev pub AreAccepted : World → List Ty → List Ty → Type 0
AreAccepted w [] [] = Unit {0}
AreAccepted w (t ∷ ts) (u ∷ us) = Accepted w t u × AreAccepted w ts us
AreAccepted w ts us = ⊥

-- the code of an operator between other types
abbrev pub operand_code : Operator → Code
operand_code And = E301
operand_code Less = E302
operand_code Plus = E304
operand_code Minus = E304
operand_code Times = E304

-- what a phrase demands if its immediate expressions have these types
abbrev pub demands : World → Scope → BodyPhrase → List Ty → Demands
demands w s (OfExpression (Literal mark value)) [] = (value ≤ most_value, E315) ∷ []
demands w s (OfExpression (Named mark x)) [] = (IsInScope w s x, E303) ∷ []
demands w s (OfExpression (This mark)) [] = (IsInMethod s, E306) ∷ []
demands w s (OfExpression (Not mark e)) (t ∷ []) = (t ≡ ty.Boolean, E301) ∷ []
demands w s (OfExpression (Binary o mark l r)) (t ∷ u ∷ []) =
    ((t ≡ operand_type o) × (u ≡ operand_type o), operand_code o) ∷ []
demands w s (OfExpression (Index mark a i)) (t ∷ u ∷ []) =
    (t ≡ ty.IntArray, E307) ∷ (u ≡ ty.Int, E308) ∷ []
demands w s (OfExpression (Length mark a)) (t ∷ []) = (t ≡ ty.IntArray, E309) ∷ []
demands w s (OfExpression (Call mark e m es)) (t ∷ ts) =
    (IsClassType t, E310)
    ∷ ((sig : Sig) × HasMethod w t m sig, E311)
    ∷ ((sig : Sig) × HasMethod w t m sig × (length ts ≡ length sig.formals), E312)
    ∷ ((sig : Sig) × HasMethod w t m sig × AreAccepted w ts sig.formals, E313) ∷ []
demands w s (OfExpression (NewArray mark e)) (t ∷ []) = (t ≡ ty.Int, E314) ∷ []
demands w s (OfExpression (NewObject mark c)) [] = (w.is_declared c ≡ true, E305) ∷ []
demands w s (OfStatement (If mark e a b)) (t ∷ []) = (t ≡ ty.Boolean, E316) ∷ []
demands w s (OfStatement (While mark e a)) (t ∷ []) = (t ≡ ty.Boolean, E316) ∷ []
demands w s (OfStatement (Print mark e)) (t ∷ []) = (t ≡ ty.Int, E317) ∷ []
demands w s (OfStatement (Assign mark x x_mark e)) (u ∷ t ∷ []) = (Accepted w t u, E318) ∷ []
demands w s (OfStatement (Store mark x x_mark i e)) (u ∷ n ∷ t ∷ []) =
    (u ≡ ty.IntArray, E307) ∷ (n ≡ ty.Int, E308) ∷ (t ≡ ty.Int, E318) ∷ []
demands w s (OfReturn mark wanted e) (t ∷ []) = (Accepted w t wanted, E319) ∷ []
-- all others demand nothing: `true`, `false`, parentheses and blocks; and no phrase has another
-- number of immediate expressions
demands w s p ts = []
