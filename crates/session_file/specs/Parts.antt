-- Parts of a record's bytes.
use Rattle.std.specs.Prelude.{ℕ, List, ◌∷◌, ◌++◌, length}
use Rattle.byte_readers.specs.Spelling.{eight}
use Rattle.sessions.specs.Marks.{mark_number}
use Rattle.sessions.specs.Sessions.{RecordValue}
use Rattle.sessions.specs.Spelling.{key_bytes}

-- what stands before the edges: the key, the mark, and the number of the edges
unfoldable pub front_bytes : RecordValue → List ℕ
front_bytes r = key_bytes r.key ++ (mark_number r.mark ∷ eight (length r.edges))
