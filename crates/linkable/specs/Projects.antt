-- The project of the files that bytes are.
use Rattle.std.specs.Prelude.{◌≡◌, ◌⊎◌, ℕ, List}
use Rattle.std.specs.List.{AllByRecursion}
use Rattle.named_files.specs.Projects.{IsProject, Refuses, SourceFile}
use Rattle.named_files.specs.declared.project.ProjectFault.{ProjectFault}
use Rattle.packed_files.specs.FlawWords.{flaw_line}
use Rattle.packed_files.specs.Packing.{IsPackable, packed}
use Rattle.packed_files.specs.Unpacking.{IsFlawed}
use Rattle.packed_files.specs.declared.flaws.Flaw.{Flaw}
use Rattle.commands.specs.Refusals.{refusal_words}

-- The bytes are these files, packed, each with a name that is a text, and they are a project.
pub record IsProjectIn (bytes : List ℕ) (files : List SourceFile) : Type 0 where
  pub packed_are : packed files ≡ bytes
  pub packable : AllByRecursion IsPackable files
  pub project : IsProject files

-- The line is on the first of the files that has a flaw.
pub record AreNoFiles (bytes line : List ℕ) : Type 0 where
  pub number : ℕ
  pub flaw : Flaw
  pub flawed : IsFlawed bytes number flaw
  pub line_is : line ≡ flaw_line number flaw

-- The line says why the files are no project.
pub record AreNoProject (files : List SourceFile) (line : List ℕ) : Type 0 where
  pub fault : ProjectFault
  pub refuses : Refuses files fault
  pub line_is : line ≡ refusal_words fault

-- The bytes are such files that are no project, and the line says why.
pub record PackNoProject (bytes line : List ℕ) : Type 0 where
  pub files : List SourceFile
  pub packed_are : packed files ≡ bytes
  pub packable : AllByRecursion IsPackable files
  pub none : AreNoProject files line

-- the line says why the bytes are no project
abbrev pub IsNoProjectIn : List ℕ → List ℕ → Type 0
IsNoProjectIn bytes line = AreNoFiles bytes line ⊎ PackNoProject bytes line
