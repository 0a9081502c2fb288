-- The mistakes in a method, and in main.
use Rattle.std.specs.Prelude.{◌≡◌, ℕ, ◌<◌, ◌^◌, false, List, [], ◌∷◌, ◌++◌, Contains, if◌then◌else◌}
use Rattle.mj_tree.specs.Trees.{Name, Expression, Statement, Statements, Block, If, While, Print, Assign, Store, done, Method, Main}
use Rattle.mj_tree.specs.Trees as trees
use Rattle.mj_tree.specs.declared.tree.Ty.{Ty}
use Rattle.mj_tree.specs.declared.tree.Ty.TheVariants as ty
use Rattle.mj_tree.specs.declared.tree.Variable.{Variable}
use Rattle.mj_answer.specs.declared.code.Code.TheVariants.{E206, E207}
use Rattle.mj_phrases.specs.declared.verdict.Mistake.{Mistake}
use Rattle.mj_phrases.specs.Inquiries.{World, Concludes, AsksDeclared}
use Rattle.mj_phrases.specs.Steps.{Check}
use Rattle.mj_phrases.specs.Phrases.{FaultInSome, add_each, mistakes_step}
use Rattle.mj_phrases.specs.Variables.{variables_of, name_token, add_repeated_each}
use Rattle.mj_phrases.specs.Table.{Scope, method_scope, main_scope, own_phrase, return_phrase, method_phrases, main_phrases}

-- the token of the return type, behind `public`
abbrev pub return_type_mark : ℕ
return_type_mark = 1

-- ---- the judgement

-- each mistake in a method of the class
pub data MethodFault (w : World) (class : Name) (m : Method) : Mistake → Type 0 where
  UndeclaredReturn : (c : Name) → m.returns ≡ ty.Class c → w.is_declared c ≡ false
      → MethodFault w class m (record { mark = return_type_mark; code = E206 })
  UndeclaredVariable : (v : Variable) (c : Name) → Contains (variables_of m) v → v.ty ≡ ty.Class c
      → w.is_declared c ≡ false → MethodFault w class m (record { mark = v.mark; code = E206 })
  RepeatedVariable : (before : List Variable) (u v : Variable) (after : List Variable)
      → variables_of m ≡ before ++ v ∷ after → Contains before u → u.name ≡ v.name
      → MethodFault w class m (record { mark = name_token v; code = E207 })
  IllPhrase : (x : Mistake) → FaultInSome w (method_phrases class m) x → MethodFault w class m x

-- each mistake in main
abbrev pub MainFault : World → Main → Mistake → Type 0
MainFault w m x = FaultInSome w (main_phrases m) x

-- ---- the same as functions

-- the numbers of the names' tokens have 64 bits
abbrev pub NamesFit : Method → Type 0
NamesFit m = (v : Variable) → Contains (variables_of m) v → name_token v < 2 ^ 64

-- behind these mistakes, that a type at the mark is an undeclared class
abbrev pub add_undeclared : World → List Mistake → ℕ → Ty → List Mistake
add_undeclared w mistakes mark (ty.Class c) =
    if w.is_declared c then mistakes else mistakes ++ record { mark = mark; code = E206 } ∷ []
add_undeclared w mistakes mark ty.Int = mistakes
add_undeclared w mistakes mark ty.Boolean = mistakes
add_undeclared w mistakes mark ty.IntArray = mistakes

abbrev pub add_undeclared_each : World → List Mistake → List Variable → List Mistake
add_undeclared_each w mistakes [] = mistakes
add_undeclared_each w mistakes (v ∷ vs) =
    add_undeclared_each w (add_undeclared w mistakes v.mark v.ty) vs

abbrev pub method_faults : World → Name → Method → List Mistake
method_faults w class m =
    let repeated = add_repeated_each [] [] (variables_of m) in
    let undeclared =
    add_undeclared_each w (add_undeclared_each w
    (add_undeclared w repeated return_type_mark m.returns) m.formals) m.locals in
    add_each w undeclared (method_phrases class m)

abbrev pub main_faults : World → Main → List Mistake
main_faults w m = add_each w [] (main_phrases m)

-- ---- the same as checks that ask

-- a class type is asked for
abbrev pub type_step : ℕ → Ty → List Mistake → (List Mistake → Check) → Check
type_step mark (ty.Class c) mistakes next =
    AsksDeclared c (λ declared. next
    (if declared then mistakes else mistakes ++ record { mark = mark; code = E206 } ∷ []))
type_step mark ty.Int mistakes next = next mistakes
type_step mark ty.Boolean mistakes next = next mistakes
type_step mark ty.IntArray mistakes next = next mistakes

unfoldable pub types_step : List Variable → List Mistake → (List Mistake → Check) → Check
types_step [] mistakes next = next mistakes
types_step (v ∷ vs) mistakes next = type_step v.mark v.ty mistakes (λ more. types_step vs more next)

-- the phrases of a statement in their order
unfoldable mutual
  pub statement_step : Scope → Statement → List Mistake → (List Mistake → Check) → Check
  statement_step s (Block mark body) mistakes next =
      mistakes_step (own_phrase s (Block mark body)) mistakes
      (λ more. statements_step s body more next)
  statement_step s (If mark e a b) mistakes next =
      mistakes_step (own_phrase s (If mark e a b)) mistakes
      (λ more. statement_step s a more (λ others. statement_step s b others next))
  statement_step s (While mark e a) mistakes next =
      mistakes_step (own_phrase s (While mark e a)) mistakes (λ more. statement_step s a more next)
  statement_step s (Print mark e) mistakes next =
      mistakes_step (own_phrase s (Print mark e)) mistakes next
  statement_step s (Assign mark x x_mark e) mistakes next =
      mistakes_step (own_phrase s (Assign mark x x_mark e)) mistakes next
  statement_step s (Store mark x x_mark i e) mistakes next =
      mistakes_step (own_phrase s (Store mark x x_mark i e)) mistakes next

  pub statements_step : Scope → Statements → List Mistake → (List Mistake → Check) → Check
  statements_step s done mistakes next = next mistakes
  statements_step s (trees.next a ss) mistakes next =
      statement_step s a mistakes (λ more. statements_step s ss more next)

-- the types of the return, of the formals and of the locals
unfoldable pub declared_step : Method → List Mistake → (List Mistake → Check) → Check
declared_step m mistakes next =
    type_step return_type_mark m.returns mistakes
    (λ a. types_step m.formals a (λ b. types_step m.locals b next))

-- a method of the class: the declared types, the statements, the return
unfoldable pub method_step : Name → Method → (List Mistake → Check) → Check
method_step class m next =
    declared_step m (add_repeated_each [] [] (variables_of m)) (λ a.
    statements_step (method_scope class m) m.body a (λ b.
    mistakes_step (return_phrase (method_scope class m) m.return_mark m.returns m.returned) b next))

unfoldable pub main_step : Main → (List Mistake → Check) → Check
main_step m next = statement_step main_scope m.statement [] next

-- the whole checks
unfoldable pub method_check : Name → Method → Check
method_check class m = method_step class m (λ mistakes. Concludes mistakes)

unfoldable pub main_check : Main → Check
main_check m = main_step m (λ mistakes. Concludes mistakes)
