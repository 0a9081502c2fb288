-- Projects: named files in their order.
use Rattle.std.specs.Prelude.{◌≡◌, ℕ, ◌<◌, ◌≤◌, Bool, ◌&&◌, nat_lt, nat_le, List, [], map, length, take, slice_get, Some, All, Contains, string_bytes, String, Vec}
use Rattle.std.specs.declared.alloc.Global.{Global}
use Rattle.named_files.specs.declared.project.ProjectFault.{ProjectFault}
use Rattle.named_files.specs.declared.project.ProjectFault.TheVariants.{NoFiles, TooManyFiles, BadFileName, RepeatedFile, OutOfMemory}

-- a file: its name and its bytes
pub record SourceFile : Type 0 where
  pub name : List ℕ
  pub bytes : List ℕ

abbrev pub source_view : String Global × Vec ℕ Global → SourceFile
source_view file = record { name = string_bytes file.0; bytes = file.1.items }

abbrev pub sources_view : List (String Global × Vec ℕ Global) → List SourceFile
sources_view files = map source_view files

abbrev pub names_of : List SourceFile → List (List ℕ)
names_of files = map (λ f. f.name) files

-- ---- projects

-- the files that a project may have, and the bytes that a file's name may have
abbrev pub most_files : ℕ
most_files = 4096

abbrev pub most_name_bytes : ℕ
most_name_bytes = 255

abbrev pub IsFileName : List ℕ → Type 0
IsFileName name = (0 < length name) × (length name ≤ most_name_bytes)

abbrev pub is_file_name : List ℕ → Bool
is_file_name name = nat_lt 0 (length name) && nat_le (length name) most_name_bytes

abbrev pub HasProjectSize : List SourceFile → Type 0
HasProjectSize files = (0 < length files) × (length files ≤ most_files)

-- the name at this place stands before it
abbrev pub IsRepeated : List (List ℕ) → ℕ → List ℕ → Type 0
IsRepeated names k name = Contains (take k names) name

-- An ordered list of files: not too many, with good names, none of which stands before itself.
pub record IsProject (files : List SourceFile) : Type 0 where
  pub size : HasProjectSize files
  pub names : All IsFileName (names_of files)
  pub distinct : (k : ℕ) (name : List ℕ) → slice_get (names_of files) k ≡ Some name
      → IsRepeated (names_of files) k name → ⊥

-- ---- refusals

-- the first place at which this holds of the name
pub record IsFirst (Holds : ℕ → List ℕ → Type 0) (names : List (List ℕ)) (i : ℕ) : Type 0 where
  pub name : List ℕ
  pub here : slice_get names i ≡ Some name
  pub holds : Holds i name
  pub none_before : (k : ℕ) (earlier : List ℕ) → k < i → slice_get names k ≡ Some earlier
      → Holds k earlier → ⊥

-- Why files are no project: the first of these reasons, in this order.
abbrev pub Refuses : List SourceFile → ProjectFault → Type 0
Refuses files NoFiles = files ≡ []
Refuses files TooManyFiles = most_files < length files
Refuses files (BadFileName i) =
    HasProjectSize files × IsFirst (λ k name. IsFileName name → ⊥) (names_of files) i
Refuses files (RepeatedFile i) =
    HasProjectSize files × All IsFileName (names_of files)
    × IsFirst (IsRepeated (names_of files)) (names_of files) i
Refuses files OutOfMemory = ⊥
