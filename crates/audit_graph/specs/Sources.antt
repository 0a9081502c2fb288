-- The files that a session holds.
use Rattle.std.specs.Prelude.{◌≡◌, ℕ, Bool, true, List, map, Some, Contains}
use Rattle.item_ids.specs.declared.key.Key.{Key}
use Rattle.item_ids.specs.declared.key.Key.TheVariants.{Files, Source}
use Rattle.item_ids.specs.declared.kind.Kind.TheVariants as kinds
use Rattle.item_ids.specs.Keys.{kind_of}
use Rattle.result_bytes.specs.declared.value.Value.TheVariants as values
use Rattle.recorder.specs.Projects.{Project}
use Rattle.sessions.specs.Sessions.{Entry}
use Rattle.graph_rules.specs.Pasts.{Past}
use Rattle.graph_rules.specs.Next.{AreSources}

-- the session holds these names of files
pub record HasFiles (now : Past) (names : List (List ℕ)) : Type 0 where
  pub entry : Entry
  pub has : now Files ≡ Some entry
  pub value : entry.value ≡ values.Files names

-- the keys of the files' sources
abbrev pub source_keys : List (List ℕ) → List Key
source_keys names = map Source names

-- the session holds bytes for the key
pub record HasBytes (now : Past) (q : Key) : Type 0 where
  pub entry : Entry
  pub bytes : List ℕ
  pub has : now q ≡ Some entry
  pub value : entry.value ≡ values.Source (Some bytes)

-- if it is a source, it is one of these
abbrev pub IsNoStray : List Key → Entry → Type 0
IsNoStray sources r = kind_of r.key ≡ kinds.Source → Contains sources r.key

-- if it is a source, it passes the test
abbrev pub IsAdmitted : (Key → Bool) → Entry → Type 0
IsAdmitted test r = kind_of r.key ≡ kinds.Source → test r.key ≡ true

-- the session holds the files of a project, and no others
abbrev pub HasSources : Past → Type 0
HasSources now = (p : Project) × AreSources now p
