-- The same judgement by cases on the tree, as the book words it.
use Rattle.std.specs.Prelude.{◌≡◌, ◌≢◌, ◌≤◌, true, List, [], ◌∷◌, Some, ◌⊎◌}
use Rattle.mj_tree.specs.Trees.{Name, Expression, Expressions, Binary, Index, Length, Call, Literal, Boolean, Named, This, NewArray, NewObject, Not, Parenthesized, none, more, Statement, Statements, Block, If, While, Print, Assign, Store, done, next, Method, Main}
use Rattle.mj_tree.specs.declared.tree.Operator.{Operator}
use Rattle.mj_tree.specs.declared.tree.Operator.TheVariants.{And, Less, Plus, Minus, Times}
use Rattle.mj_tree.specs.declared.tree.Ty.{Ty}
use Rattle.mj_tree.specs.declared.tree.Ty.TheVariants as ty
use Rattle.mj_tree.specs.declared.tree.Variable.{Variable}
use Rattle.mj_phrases.specs.Inquiries.{World, Sig}
use Rattle.mj_phrases.specs.Table.{Scope, most_value, method_scope, main_scope}

-- the first type is accepted by the second: they are equal, or the second class stands in the chain
-- of the first
abbrev pub Accepted : World → Ty → Ty → Type 0
Accepted w t u =
    (t ≡ u) ⊎ ((c d : Name) × (t ≡ ty.Class c) × (u ≡ ty.Class d) × (w.descends c d ≡ true))

-- the first formal or local of the name has this type
abbrev pub IsLocal : List Variable → Name → Ty → Type 0
IsLocal [] x t = ⊥
IsLocal (v ∷ vs) x t = ((v.name ≡ x) × (v.ty ≡ t)) ⊎ ((v.name ≢ x) × IsLocal vs x t)

abbrev pub IsNoLocal : List Variable → Name → Type 0
IsNoLocal [] x = Unit {0}
IsNoLocal (v ∷ vs) x = (v.name ≢ x) × IsNoLocal vs x

-- the name is a formal or a local of this type, or else a field of it that the class has; nothing
-- in main
abbrev pub IsVariable : World → Scope → Name → Ty → Type 0
IsVariable w s x t =
    IsLocal s.variables x t
    ⊎ (IsNoLocal s.variables x × ((c : Name) × (s.class ≡ Some c) × (w.field c x ≡ Some t)))

abbrev pub operand_type : Operator → Ty
operand_type And = ty.Boolean
operand_type Less = ty.Int
operand_type Plus = ty.Int
operand_type Minus = ty.Int
operand_type Times = ty.Int

abbrev pub result_type : Operator → Ty
result_type And = ty.Boolean
result_type Less = ty.Boolean
result_type Plus = ty.Int
result_type Minus = ty.Int
result_type Times = ty.Int

abbrev mutual
  pub HasTypeByCases : World → Scope → Expression → Ty → Type 0
  HasTypeByCases w s (Literal mark value) t = (value ≤ most_value) × (t ≡ ty.Int)
  HasTypeByCases w s (Boolean mark value) t = t ≡ ty.Boolean
  HasTypeByCases w s (Named mark x) t = IsVariable w s x t
  HasTypeByCases w s (This mark) t = (c : Name) × (s.class ≡ Some c) × (t ≡ ty.Class c)
  HasTypeByCases w s (Parenthesized mark e) t = HasTypeByCases w s e t
  HasTypeByCases w s (Not mark e) t = HasTypeByCases w s e ty.Boolean × (t ≡ ty.Boolean)
  HasTypeByCases w s (Binary o mark l r) t =
      HasTypeByCases w s l (operand_type o) × HasTypeByCases w s r (operand_type o)
      × (t ≡ result_type o)
  HasTypeByCases w s (Index mark a i) t =
      HasTypeByCases w s a ty.IntArray × HasTypeByCases w s i ty.Int × (t ≡ ty.Int)
  HasTypeByCases w s (Length mark a) t = HasTypeByCases w s a ty.IntArray × (t ≡ ty.Int)
  HasTypeByCases w s (Call mark e m es) t =
      (c : Name) × (sig : Sig) × HasTypeByCases w s e (ty.Class c) × (w.method c m ≡ Some sig)
      × ArgumentsAccepted w s es sig.formals × (t ≡ sig.returns)
  HasTypeByCases w s (NewArray mark e) t = HasTypeByCases w s e ty.Int × (t ≡ ty.IntArray)
  HasTypeByCases w s (NewObject mark c) t = (w.is_declared c ≡ true) × (t ≡ ty.Class c)

  -- as many arguments as formals, each accepted
  pub ArgumentsAccepted : World → Scope → Expressions → List Ty → Type 0
  ArgumentsAccepted w s none [] = Unit {0}
  ArgumentsAccepted w s none (u ∷ us) = ⊥
  ArgumentsAccepted w s (more e es) [] = ⊥
  ArgumentsAccepted w s (more e es) (u ∷ us) =
      ((t : Ty) × HasTypeByCases w s e t × Accepted w t u) × ArgumentsAccepted w s es us

abbrev mutual
  pub IsWellThroughoutByCases : World → Scope → Statement → Type 0
  IsWellThroughoutByCases w s (Block mark ss) = AreWellThroughoutByCases w s ss
  IsWellThroughoutByCases w s (If mark e a b) =
      HasTypeByCases w s e ty.Boolean × IsWellThroughoutByCases w s a
      × IsWellThroughoutByCases w s b
  IsWellThroughoutByCases w s (While mark e a) =
      HasTypeByCases w s e ty.Boolean × IsWellThroughoutByCases w s a
  IsWellThroughoutByCases w s (Print mark e) = HasTypeByCases w s e ty.Int
  IsWellThroughoutByCases w s (Assign mark x x_mark e) =
      (t u : Ty) × IsVariable w s x u × HasTypeByCases w s e t × Accepted w t u
  IsWellThroughoutByCases w s (Store mark x x_mark i e) =
      IsVariable w s x ty.IntArray × HasTypeByCases w s i ty.Int × HasTypeByCases w s e ty.Int

  pub AreWellThroughoutByCases : World → Scope → Statements → Type 0
  AreWellThroughoutByCases w s done = Unit {0}
  AreWellThroughoutByCases w s (next a ss) =
      IsWellThroughoutByCases w s a × AreWellThroughoutByCases w s ss

-- the statements of a method are well, and what is returned is accepted by its return type
abbrev pub MethodIsWell : World → Name → Method → Type 0
MethodIsWell w class m =
    AreWellThroughoutByCases w (method_scope class m) m.body
    × ((t : Ty) × HasTypeByCases w (method_scope class m) m.returned t × Accepted w t m.returns)

abbrev pub MainIsWell : World → Main → Type 0
MainIsWell w m = IsWellThroughoutByCases w main_scope m.statement
