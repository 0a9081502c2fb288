-- The files of a session beside those of a project.
use Rattle.std.specs.Prelude.{◌≡◌, ℕ, List, [], ◌∷◌, Some}
use Rattle.item_ids.specs.declared.key.Key.TheVariants.{Source}
use Rattle.result_bytes.specs.declared.value.Value.{Value}
use Rattle.result_bytes.specs.declared.value.Value.TheVariants as values
use Rattle.named_files.specs.Projects.{SourceFile}
use Rattle.recorder.specs.Projects.{Project}
use Rattle.graph_rules.specs.Pasts.{Past}
use Rattle.audit_graph.specs.Sources.{HasFiles}
use Rattle.audit_replay.specs.Audits.{HasValue}

-- this is the name of the file, and the session holds its bytes
pub record HoldsFile (now : Past) (name : List ℕ) (file : SourceFile) : Type 0 where
  pub called : name ≡ file.name
  pub held : HasValue now (Source name) (values.Source (Some file.bytes))

-- these are the names of the files, in their order, and the session holds the bytes of each
abbrev pub HoldsFiles : Past → List (List ℕ) → List SourceFile → Type 0
HoldsFiles now [] [] = Unit {0}
HoldsFiles now (name ∷ names) (file ∷ files) =
    HoldsFile now name file × HoldsFiles now names files
HoldsFiles now _ _ = ⊥

-- these are the name and the bytes of the file
pub record IsFileAlike (name : List ℕ) (text : Value) (file : SourceFile) : Type 0 where
  pub called : name ≡ file.name
  pub told : text ≡ values.Source (Some file.bytes)

-- these are the names and the bytes of the files, in their order
abbrev pub AreFilesAlike : List (List ℕ) → List Value → List SourceFile → Type 0
AreFilesAlike [] [] [] = Unit {0}
AreFilesAlike (name ∷ names) (text ∷ texts) (file ∷ files) =
    IsFileAlike name text file × AreFilesAlike names texts files
AreFilesAlike _ _ _ = ⊥

-- by the names that the session holds and these values of their sources, its files are those of the
-- project, in their order
pub record HasFilesAlike (now : Past) (texts : List Value) (p : Project) : Type 0 where
  pub names : List (List ℕ)
  pub held : HasFiles now names
  pub alike : AreFilesAlike names texts p
