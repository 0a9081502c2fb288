-- Projects some of whose files have other bytes.
use Rattle.std.specs.Prelude.{◌≡◌, ℕ, Bool, true, false, List, map, Option, Some, None, is_some, bytes_eq, if◌then◌else◌}
use Rattle.std.specs.Arc.{arc_value}
use Rattle.std.specs.Map.{lookup}
use Rattle.std.specs.declared.alloc.Global.{Global}
use Rattle.std.specs.declared.sync.Arc.{Arc}
use Rattle.item_ids.specs.declared.key.Key.{Key}
use Rattle.item_ids.specs.Inputs.{by_input}
use Rattle.result_bytes.specs.declared.value.Value.{Value}
use Rattle.result_bytes.specs.declared.value.Value.TheVariants.{Source}
use Rattle.named_files.specs.Projects.{SourceFile}
use Rattle.recorder.specs.Projects.{Project, bytes_at}
use Rattle.project_inputs.specs.Inputs.{Sealed, bytes_in, IsSource}

-- the file, with these bytes if it has the name
abbrev pub file_with : List ℕ → List ℕ → SourceFile → SourceFile
file_with name bytes f =
    if bytes_eq f.name name then record { name = f.name; bytes = bytes } else f

-- the file of the name, if there is one, has these bytes
abbrev pub with_bytes : Project → List ℕ → List ℕ → Project
with_bytes p name bytes = map (file_with name bytes) p

-- the file, with the bytes of the source if there is one
abbrev pub file_by : SourceFile → Option (Arc Value Global) → SourceFile
file_by f None = f
file_by f (Some a) = record { name = f.name; bytes = bytes_in (arc_value a) }

-- the files, those that have a source of their own with its bytes
abbrev pub edited : Project → List Sealed → Project
edited p sources = map (λ f. file_by f (lookup (bytes_eq f.name) sources)) p

-- the source of its own that the key has
abbrev pub source_of : List Sealed → Key → Option (Arc Value Global)
source_of sources key = by_input None (λ name. lookup (bytes_eq name) sources) None key

-- the result is that of a source, and the project has a file of the name
abbrev pub IsSourceIn : Project → Sealed → Type 0
IsSourceIn p s = IsSource s × (is_some (bytes_at p s.0) ≡ true)

-- whether the key is the source of a file that is there
abbrev pub is_file : Project → Key → Bool
is_file p key = by_input false (λ name. is_some (bytes_at p name)) false key

-- whether the value is the source of a file that is there
abbrev pub holds_source : Value → Bool
holds_source (Source (Some bytes)) = true
holds_source _ = false
