-- What is computed of a project is what the rules say of it.
use Rattle.std.specs.Prelude.{◌≡◌, ◌↔◌, ℕ, List, Some, Contains}
use Rattle.mj_tree.specs.Trees.{Name, Expression, Statement, Method}
use Rattle.mj_tree.specs.declared.tree.Ty.{Ty}
use Rattle.mj_tree.specs.declared.place.Place.TheVariants.{Inside}
use Rattle.mj_answer.specs.AnswerValues.{ClassAnswerValue, AnswerValue}
use Rattle.mj_answer.specs.declared.diagnostic.Diagnostic.{Diagnostic}
use Rattle.mj_phrases.specs.declared.verdict.Mistake.{Mistake}
use Rattle.mj_phrases.specs.Phrases.{type_of, Well}
use Rattle.mj_phrases.specs.Table.{Scope, phrase_of, own_phrase, return_phrase}
use Rattle.named_files.specs.Projects.{SourceFile}
use Rattle.profiles.specs.declared.profile.Profile.{Profile}
use Rattle.mj_rules.specs.Rules.{Rules}
use Rattle.rule_laws.specs.Demands.{OfExpression, OfStatement, OfReturn}
use Rattle.rule_laws.specs.Typing.{world_in, IsMethodIn, IsMainIn, IsScopeIn, HasTypeIn, IsWellIn, IsFaultIn}

-- a class has one method of a name at most, or one main and no method; so a name has one scope
pub record ScopeLaws : Type 0 where
  pub method : (files : List SourceFile) (c : Name) (a b : Method)
      → IsMethodIn files c a → IsMethodIn files c b → a.name ≡ b.name → a ≡ b
  pub main : (files : List SourceFile) (c : Name) (a b : Statement)
      → IsMainIn files c a → IsMainIn files c b → a ≡ b
  pub apart : (files : List SourceFile) (c : Name) (a : Method) (b : Statement)
      → IsMethodIn files c a → IsMainIn files c b → ⊥
  pub scope : (files : List SourceFile) (c m : Name) (s r : Scope)
      → IsScopeIn files c m s → IsScopeIn files c m r → s ≡ r

-- the type that a check computes is the one that an expression has, an expression that has one is
-- well, and so is a statement or a return in which the check finds nothing
pub record TypeLaws : Type 0 where
  pub computed : (files : List SourceFile) (c m : Name) (s : Scope) → IsScopeIn files c m s
      → (e : Expression) (t : Ty)
      → (type_of (world_in files) (phrase_of s e) ≡ Some t) ↔ HasTypeIn files c m e t
  pub unique : (files : List SourceFile) (c m : Name) (e : Expression) (t u : Ty)
      → HasTypeIn files c m e t → HasTypeIn files c m e u → t ≡ u
  pub expression : (files : List SourceFile) (c m : Name) (e : Expression)
      → ((t : Ty) × HasTypeIn files c m e t) ↔ IsWellIn files c m (OfExpression e)
  pub statement : (files : List SourceFile) (c m : Name) (s : Scope) → IsScopeIn files c m s
      → (a : Statement)
      → Well (world_in files) (own_phrase s a) ↔ IsWellIn files c m (OfStatement a)
  pub return_value : (files : List SourceFile) (c m : Name) (s : Scope) → IsScopeIn files c m s
      → (mark : ℕ) (wanted : Ty) (e : Expression)
      → Well (world_in files) (return_phrase s mark wanted e)
      ↔ IsWellIn files c m (OfReturn mark wanted e)

-- the diagnostic at a token of a method
abbrev pub fault_inside : Name → Mistake → Diagnostic
fault_inside m x = record { place = Inside m x.mark; code = x.code }

-- the answer of the rules has just the diagnostics of each method, and those of main
abbrev pub MethodFaultLaw : Type 0
MethodFaultLaw =
    (profile : Profile) (files : List SourceFile) (answer : AnswerValue)
    → Rules profile files answer
    → (class : ClassAnswerValue) → Contains answer.classes class → (m : Name) (x : Mistake)
    → Contains class.faults (fault_inside m x) ↔ IsFaultIn files class.name m x
