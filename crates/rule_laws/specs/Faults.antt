-- The diagnostics of phrases, and those of bodies, by what the phrases demand.
use Rattle.std.specs.Prelude.{◌≡◌, false, List, [], ◌∷◌, ◌++◌, map, ◌⊎◌, Contains}
use Rattle.mj_tree.specs.Trees.{Name, Expression, Expressions, none, more, Statement, Statements, Block, If, While, Print, Assign, Store, done, next, Method, Main}
use Rattle.mj_tree.specs.declared.tree.Ty.{Ty}
use Rattle.mj_tree.specs.declared.tree.Ty.TheVariants as ty
use Rattle.mj_tree.specs.declared.tree.Variable.{Variable}
use Rattle.mj_answer.specs.declared.code.Code.{Code}
use Rattle.mj_answer.specs.declared.code.Code.TheVariants.{E206, E207}
use Rattle.mj_phrases.specs.declared.verdict.Mistake.{Mistake}
use Rattle.mj_phrases.specs.Inquiries.{World}
use Rattle.mj_phrases.specs.Table.{Scope, method_scope, main_scope}
use Rattle.mj_phrases.specs.Cases.{HasTypeByCases}
use Rattle.mj_phrases.specs.Variables.{variables_of, name_token}
use Rattle.mj_typing.specs.Bodies.{return_type_mark}
use Rattle.rule_laws.specs.Demands.{BodyPhrase, OfExpression, OfStatement, OfReturn, mark_of, parts_of, Demands, demands}

-- ---- a phrase

-- the first demand that fails has this code
abbrev pub FirstFails : Demands → Code → Type 0
FirstFails [] code = ⊥
FirstFails (d ∷ ds) code = (¬ d.0 × (d.1 ≡ code)) ⊎ (d.0 × FirstFails ds code)

abbrev pub AllHold : Demands → Type 0
AllHold [] = Unit {0}
AllHold (d ∷ ds) = d.0 × AllHold ds

-- each of the expressions has the type in its place
abbrev pub HaveTypes : World → Scope → Expressions → List Ty → Type 0
HaveTypes w s none [] = Unit {0}
HaveTypes w s (more e es) (t ∷ ts) = HasTypeByCases w s e t × HaveTypes w s es ts
HaveTypes w s es ts = ⊥

-- all immediate expressions have types, and the first demand that fails gives the code
pub record IsAtFault (w : World) (s : Scope) (p : BodyPhrase) (x : Mistake) : Type 0 where
  pub mark : x.mark ≡ mark_of p
  pub types : List Ty
  pub have_types : HaveTypes w s (parts_of p) types
  pub code : FirstFails (demands w s p types) x.code

-- all immediate expressions have types, and all demands hold
pub record IsWell (w : World) (s : Scope) (p : BodyPhrase) : Type 0 where
  pub types : List Ty
  pub have_types : HaveTypes w s (parts_of p) types
  pub holds : AllHold (demands w s p types)

-- ---- a body

-- the expression is one of these
abbrev pub IsAmong : Expression → Expressions → Type 0
IsAmong e none = ⊥
IsAmong e (more f fs) = (e ≡ f) ⊎ IsAmong e fs

-- the phrase is at fault, or an expression in it
pub data FaultWithin (w : World) (s : Scope) : BodyPhrase → Mistake → Type 0 where
  Own : (p : BodyPhrase) (x : Mistake) → IsAtFault w s p x → FaultWithin w s p x
  Inner : (p : BodyPhrase) (e : Expression) (x : Mistake) → IsAmong e (parts_of p)
      → FaultWithin w s (OfExpression e) x → FaultWithin w s p x

-- a statement and those in it, in the order of the text
abbrev mutual
  pub statements_of : Statement → List Statement
  statements_of (Block mark ss) = Block mark ss ∷ all_statements ss
  statements_of (If mark e a b) = If mark e a b ∷ (statements_of a ++ statements_of b)
  statements_of (While mark e a) = While mark e a ∷ statements_of a
  statements_of (Print mark e) = Print mark e ∷ []
  statements_of (Assign mark x x_mark e) = Assign mark x x_mark e ∷ []
  statements_of (Store mark x x_mark i e) = Store mark x x_mark i e ∷ []

  pub all_statements : Statements → List Statement
  all_statements done = []
  all_statements (next a ss) = statements_of a ++ all_statements ss

-- the phrases of a method that stand in no expression, and those of main
abbrev pub phrases_in : Method → List BodyPhrase
phrases_in m =
    map OfStatement (all_statements m.body) ++ OfReturn m.return_mark m.returns m.returned ∷ []

abbrev pub phrases_in_main : Main → List BodyPhrase
phrases_in_main m = map OfStatement (statements_of m.statement)

-- each mistake in a method of the class
pub data FaultInMethod (w : World) (class : Name) (m : Method) : Mistake → Type 0 where
  -- the return type is an undeclared class
  InReturnType : (c : Name) → m.returns ≡ ty.Class c → w.is_declared c ≡ false
      → FaultInMethod w class m (record { mark = return_type_mark; code = E206 })
  -- the type of a formal or local is an undeclared class
  InVariableType : (v : Variable) (c : Name) → Contains (variables_of m) v → v.ty ≡ ty.Class c
      → w.is_declared c ≡ false
      → FaultInMethod w class m (record { mark = v.mark; code = E206 })
  -- a formal or local of the name stands before it
  InVariableName : (before : List Variable) (u v : Variable) (after : List Variable)
      → variables_of m ≡ before ++ v ∷ after → Contains before u → u.name ≡ v.name
      → FaultInMethod w class m (record { mark = name_token v; code = E207 })
  -- a phrase is at fault
  InPhrase : (p : BodyPhrase) (x : Mistake) → Contains (phrases_in m) p
      → FaultWithin w (method_scope class m) p x → FaultInMethod w class m x

-- each mistake in main
abbrev pub FaultInMain : World → Main → Mistake → Type 0
FaultInMain w m x =
    (p : BodyPhrase) × Contains (phrases_in_main m) p × FaultWithin w main_scope p x

-- the statement is well, and so is each statement in it
abbrev pub IsWellThroughout : World → Scope → Statement → Type 0
IsWellThroughout w s a =
    (b : Statement) → Contains (statements_of a) b → IsWell w s (OfStatement b)
