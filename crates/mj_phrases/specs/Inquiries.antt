-- What a check of a body asks about the declarations, and in which order.
use Rattle.std.specs.Prelude.{Bool, List, Option}
use Rattle.mj_tree.specs.Trees.{Name}
use Rattle.mj_tree.specs.declared.tree.Ty.{Ty}

-- the types of a method's formals, and the one that it returns
pub record Sig : Type 0 where
  pub formals : List Ty
  pub returns : Ty

-- what the declarations say
pub record World : Type 0 where
  -- the second class stands in the chain of the first
  pub descends : Name → Name → Bool
  -- the type of the field that a class has by this name
  pub field : Name → Name → Option Ty
  -- the method that a class has by this name
  pub method : Name → Name → Option Sig
  pub is_declared : Name → Bool

-- a conclusion, or a question and how the check continues after each answer
pub data Inquiry (R : Type 0) : Type 0 where
  Concludes : R → Inquiry R
  AsksDescent : (class ancestor : Name) → (Bool → Inquiry R) → Inquiry R
  AsksField : (class name : Name) → (Option Ty → Inquiry R) → Inquiry R
  AsksMethod : (class name : Name) → (Option Sig → Inquiry R) → Inquiry R
  AsksDeclared : (class : Name) → (Bool → Inquiry R) → Inquiry R

-- the conclusion, if the declarations give the answers
abbrev pub conclusion : {R : Type 0} → World → Inquiry R → R
conclusion w (Concludes r) = r
conclusion w (AsksDescent c d k) = conclusion w (k (w.descends c d))
conclusion w (AsksField c x k) = conclusion w (k (w.field c x))
conclusion w (AsksMethod c m k) = conclusion w (k (w.method c m))
conclusion w (AsksDeclared c k) = conclusion w (k (w.is_declared c))

-- a check that continues with the conclusion
abbrev pub and_then : {R S : Type 0} → Inquiry R → (R → Inquiry S) → Inquiry S
and_then (Concludes r) next = next r
and_then (AsksDescent c d k) next = AsksDescent c d (λ answer. and_then (k answer) next)
and_then (AsksField c x k) next = AsksField c x (λ answer. and_then (k answer) next)
and_then (AsksMethod c m k) next = AsksMethod c m (λ answer. and_then (k answer) next)
and_then (AsksDeclared c k) next = AsksDeclared c (λ answer. and_then (k answer) next)
