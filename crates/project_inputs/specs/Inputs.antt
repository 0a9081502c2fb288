-- Sealed inputs.
use Rattle.std.specs.Prelude.{◌≡◌, ℕ, Bool, false, List, [], Option, Some, None, map, string_bytes, String, Vec}
use Rattle.std.specs.Str.{bytes_eq}
use Rattle.std.specs.List.{AllByRecursion}
use Rattle.std.specs.Arc.{arc_value}
use Rattle.std.specs.declared.alloc.Global.{Global}
use Rattle.std.specs.declared.sync.Arc.{Arc}
use Rattle.result_bytes.specs.declared.value.Value.{Value}
use Rattle.result_bytes.specs.declared.value.Value.TheVariants.{Source}
use Rattle.named_files.specs.Projects.{SourceFile, IsFileName}
use Rattle.item_ids.specs.declared.key.Key.{Key}
use Rattle.sessions.specs.Sessions.{Entry, SessionValue, entry_at}
use Rattle.recorder.specs.Projects.{Project}

-- the bytes in the value of a file's source
abbrev pub bytes_in : Value → List ℕ
bytes_in (Source (Some bytes)) = bytes
bytes_in _ = []

-- a file's name with a sealed result
abbrev pub Sealed : Type 0
Sealed = List ℕ × Arc Value Global

-- the file that these give
abbrev pub file_of : Sealed → SourceFile
file_of s = record { name = s.0; bytes = bytes_in (arc_value s.1) }

-- the result is that of a source
abbrev pub IsSource : Sealed → Type 0
IsSource s = arc_value s.1 ≡ Source (Some (bytes_in (arc_value s.1)))

-- each file has a good name
abbrev pub AreNamed : List (String Global × Vec ℕ Global) → Type 0
AreNamed files = AllByRecursion (λ f. IsFileName (string_bytes f.0)) files

-- these are the results of the files' sources, in their order
abbrev pub AreSourcesOf : Project → List (Arc Value Global) → Type 0
AreSourcesOf p sealed = map (λ a. arc_value a) sealed ≡ map (λ f. Source (Some f.bytes)) p

-- whether the value is a source with these bytes
abbrev pub is_source_with : List ℕ → Value → Bool
is_source_with bytes (Source (Some had)) = bytes_eq had bytes
is_source_with bytes _ = false

abbrev pub is_entry_with : List ℕ → Option Entry → Bool
is_entry_with bytes None = false
is_entry_with bytes (Some entry) = is_source_with bytes entry.value

-- whether a session has the key as a source with these bytes
abbrev pub has_source : SessionValue → Key → List ℕ → Bool
has_source s key bytes = is_entry_with bytes (entry_at s key)
