-- The diagnostics of a project itself, one case a row.
use Rattle.std.specs.Prelude.{◌≡◌, ℕ, ◌<◌, List, Some, IsSome, Contains, slice_get}
use Rattle.mj_tree.specs.Trees.{File}
use Rattle.mj_tree.specs.declared.place.Place.{Place}
use Rattle.mj_tree.specs.declared.place.Place.TheVariants as places
use Rattle.mj_answer.specs.declared.code.Code.{Code}
use Rattle.mj_answer.specs.declared.code.Code.TheVariants.{E101, E102, E103, E104}
use Rattle.mj_members.specs.Declarations.{ClassDecl}
use Rattle.named_files.specs.Projects.{SourceFile}
use Rattle.mj_rules.specs.Sentences.{IsSentence, classes_in}

-- the file with this number is a sentence that has a main class
pub record HasMain (files : List SourceFile) (i : ℕ) (f : SourceFile) : Type 0 where
  pub file : slice_get files i ≡ Some f
  pub tree : File
  pub sentence : IsSentence f.bytes tree
  pub main : IsSome tree.main

pub data FaultOfProject (files : List SourceFile) : Place → Code → Type 0 where
  -- the file is no sentence
  NoSentence : (f : SourceFile) → Contains files f → ((tree : File) → IsSentence f.bytes tree → ⊥)
      → FaultOfProject files (places.File f.name) E101
  -- no file has a main class
  NoMain : ((i : ℕ) (f : SourceFile) → HasMain files i f → ⊥)
      → FaultOfProject files places.Project E102
  -- a main class, and an earlier file has one
  SecondMain : (i j : ℕ) (f g : SourceFile) → i < j → HasMain files i f → HasMain files j g
      → FaultOfProject files (places.File g.name) E103
  -- an earlier class has the name
  RepeatedClass : (i j : ℕ) (c d : ClassDecl) (f : SourceFile) → i < j
      → slice_get (classes_in files) i ≡ Some c → slice_get (classes_in files) j ≡ Some d
      → c.name ≡ d.name → slice_get files d.file ≡ Some f
      → FaultOfProject files (places.ClassOf f.name d.number) E104
