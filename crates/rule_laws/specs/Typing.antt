-- What has a type in a project, what is well in it, and what is at fault.
use Rattle.std.specs.Prelude.{◌≡◌, ℕ, List, Some}
use Rattle.mj_tree.specs.Trees.{Name, Expression, Statement, Method}
use Rattle.mj_tree.specs.declared.tree.Ty.{Ty}
use Rattle.mj_members.specs.Declarations.{ClassDecl}
use Rattle.mj_classes.specs.Declarations.{decl}
use Rattle.mj_phrases.specs.declared.verdict.Mistake.{Mistake}
use Rattle.mj_phrases.specs.Inquiries.{World}
use Rattle.mj_phrases.specs.Table.{Scope, method_scope, main_scope}
use Rattle.mj_phrases.specs.Cases.{HasTypeByCases}
use Rattle.named_files.specs.Projects.{SourceFile}
use Rattle.mj_rules.specs.Sentences.{classes_in}
use Rattle.mj_rules.specs.Worlds.{world_of}
use Rattle.mj_rules.specs.ClassFaults.{IsFirstMethod, main_word}
use Rattle.rule_laws.specs.Demands.{BodyPhrase}
use Rattle.rule_laws.specs.Faults.{IsWell, FaultInMethod, FaultInMain}

-- what the declarations of a project say
abbrev pub world_in : List SourceFile → World
world_in files = world_of (classes_in files)

-- this method is the first of its name in the first class of the name
pub record IsMethodIn (files : List SourceFile) (class : Name) (m : Method) : Type 0 where
  pub declaration : ClassDecl
  pub first_class : decl (classes_in files) class ≡ Some declaration
  pub number : ℕ
  pub first_method : IsFirstMethod declaration number m

-- this statement is the main of the first class of the name
pub record IsMainIn (files : List SourceFile) (class : Name) (statement : Statement) : Type 0 where
  pub declaration : ClassDecl
  pub first_class : decl (classes_in files) class ≡ Some declaration
  pub main : declaration.main ≡ Some statement

-- the phrases of the method of the class stand in this scope, or those of its main
pub data IsScopeIn (files : List SourceFile) (c m : Name) : Scope → Type 0 where
  OfMethod : (method : Method) → IsMethodIn files c method → method.name ≡ m
      → IsScopeIn files c m (method_scope c method)
  OfMain : (statement : Statement) → IsMainIn files c statement → main_word ≡ m
      → IsScopeIn files c m main_scope

-- the expression has this type in the method of the class
abbrev pub HasTypeIn : List SourceFile → Name → Name → Expression → Ty → Type 0
HasTypeIn files c m e t =
    (s : Scope) × IsScopeIn files c m s × HasTypeByCases (world_in files) s e t

-- the phrase is well in the method of the class
abbrev pub IsWellIn : List SourceFile → Name → Name → BodyPhrase → Type 0
IsWellIn files c m p = (s : Scope) × IsScopeIn files c m s × IsWell (world_in files) s p

-- the method of the class has this diagnostic, or its main has it
pub data IsFaultIn (files : List SourceFile) (c m : Name) (x : Mistake) : Type 0 where
  FaultOfMethod : (method : Method) → IsMethodIn files c method → method.name ≡ m
      → FaultInMethod (world_in files) c method x → IsFaultIn files c m x
  FaultOfMain : (statement : Statement) → IsMainIn files c statement → main_word ≡ m
      → FaultInMain (world_in files) (record { name = c; statement = statement }) x
      → IsFaultIn files c m x
