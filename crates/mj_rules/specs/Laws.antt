-- Laws of the definitions.
use Rattle.std.specs.Prelude.{◌≡◌, ◌↔◌, ℕ, List, Some, Contains}
use Rattle.mj_tree.specs.Trees.{Name, Method, Main, File}
use Rattle.mj_tree.specs.declared.place.Place.{Place}
use Rattle.mj_answer.specs.declared.code.Code.{Code}
use Rattle.mj_answer.specs.AnswerValues.{AnswerValue}
use Rattle.mj_members.specs.Declarations.{ClassDecl}
use Rattle.mj_classes.specs.Declarations.{decl}
use Rattle.mj_phrases.specs.declared.verdict.Mistake.{Mistake}
use Rattle.mj_phrases.specs.Inquiries.{World}
use Rattle.mj_typing.specs.Bodies.{MethodFault, MainFault, NamesFit, method_faults, main_faults}
use Rattle.named_files.specs.Projects.{SourceFile}
use Rattle.profiles.specs.declared.profile.Profile.{Profile}
use Rattle.mj_rules.specs.Sentences.{IsSentence, file_of, classes_in}
use Rattle.mj_rules.specs.ProjectFaults.{FaultOfProject}
use Rattle.mj_rules.specs.Worlds.{world_of, Says}
use Rattle.mj_rules.specs.ClassFaults.{FaultOfClass}
use Rattle.mj_rules.specs.Rules.{Rules}
use Rattle.mj_rules.specs.Answering.{rules_of}
use Rattle.mj_rules.specs.FaultLists.{fault, project_faults, class_faults}

-- the tree that is computed is the one that the bytes are a sentence of
abbrev pub SentenceLaw : Type 0
SentenceLaw = (bytes : List ℕ) (tree : File) → IsSentence bytes tree ↔ (file_of bytes ≡ Some tree)

-- the lists have just the diagnostics of the rows
abbrev pub ProjectFaultLaw : Type 0
ProjectFaultLaw =
    (files : List SourceFile) (place : Place) (code : Code)
    → Contains (project_faults files) (fault place code) ↔ FaultOfProject files place code

abbrev pub ClassFaultLaw : Type 0
ClassFaultLaw =
    (profile : Profile) (files : List SourceFile) (k : ClassDecl)
    → decl (classes_in files) k.name ≡ Some k → (place : Place) (code : Code)
    → Contains (class_faults profile (classes_in files) k) (fault place code)
    ↔ FaultOfClass profile (classes_in files) k place code

-- the answers that the check of a body gets agree with the chains, the accepted types and the
-- members
abbrev pub WorldLaw : Type 0
WorldLaw = (cs : List ClassDecl) → Says cs (world_of cs)

-- the computed answer is the only one that the rules give
abbrev pub AnswerLaw : Type 0
AnswerLaw =
    (profile : Profile) (files : List SourceFile) (answer : AnswerValue)
    → Rules profile files answer ↔ (answer ≡ rules_of profile files)

pub record BodyFaultLaws : Type 0 where
  pub method : (w : World) (class : Name) (m : Method) → NamesFit m → (x : Mistake)
      → MethodFault w class m x ↔ Contains (method_faults w class m) x
  pub main : (w : World) (m : Main) (x : Mistake) → MainFault w m x ↔ Contains (main_faults w m) x
