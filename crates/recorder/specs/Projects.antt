-- What a query may read of a project that no query computes: its files.
use Rattle.std.specs.Prelude.{ℕ, List, find, Option, option_map, bytes_eq}
use Rattle.named_files.specs.Projects.{SourceFile}

abbrev pub Project : Type 0
Project = List SourceFile

-- the bytes of the file of this name, if there is one
abbrev pub bytes_at : Project → List ℕ → Option (List ℕ)
bytes_at p name = option_map (λ f. f.bytes) (find (λ f. bytes_eq f.name name) p)
