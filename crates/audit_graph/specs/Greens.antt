-- Green keys over the previous session.
use Rattle.std.specs.Prelude.{◌≡◌, ◌≢◌, ℕ, true, List, map, Some, None}
use Rattle.std.specs.List.{AllByRecursion}
use Rattle.item_ids.specs.declared.key.Key.{Key}
use Rattle.item_ids.specs.Keys.{kind_of}
use Rattle.fingerprint.specs.Prints.{print_of}
use Rattle.sessions.specs.declared.mark.Mark.TheVariants.{Green}
use Rattle.sessions.specs.Sessions.{Entry, RecordValue, key_at}
use Rattle.graph_rules.specs.Pasts.{Past, print_in}
use Rattle.graph_rules.specs.Settings.{Setting, has_kind, kept}
use Rattle.graph_rules.specs.Next.{StandsIn}
use Rattle.audit_graph.specs.Firsts.{IsFirstWithout}
use Rattle.audit_graph.specs.declared.greens.Lack.{Lack}
use Rattle.audit_graph.specs.declared.greens.Lack.TheVariants.{WithoutPast, AcrossProfiles, OtherEdges, OverRed, OtherPrint}

-- if the key is green, it stands in the previous session
abbrev pub StandsIfGreen : Setting → Past → Entry → Type 0
StandsIfGreen over now r = r.mark ≡ Green → StandsIn over now r

-- the green keys of the session stand in the previous session
abbrev pub GreensStand : Setting → Past → Type 0
GreensStand over now = (q : Key) (r : Entry) → now q ≡ Some r → StandsIfGreen over now r

-- the keys of the records at these indices
abbrev pub keys_at : List RecordValue → List ℕ → List Key
keys_at records edges = map (key_at records) edges

-- the key has one fingerprint in both sessions
abbrev pub HasSamePrint : Past → Past → Key → Type 0
HasSamePrint past now e = print_in past e ≡ print_in now e

-- the previous session has the key
abbrev pub IsInPast : Setting → Key → Type 0
IsInPast over q = (had : Entry) × (over.held q ≡ Some had)

-- the key may be taken over from the previous session, with the same edges
pub record HasSameEdges (over : Setting) (r : Entry) : Type 0 where
  pub had : Entry
  pub past_has : kept over r.key ≡ Some had
  pub edges : had.reads ≡ r.reads

-- why a key doesn't stand in the previous session, the first of these reasons
abbrev pub IsLack : Setting → Past → Entry → Lack → Type 0
IsLack over now r WithoutPast = over.held r.key ≡ None
IsLack over now r AcrossProfiles =
    IsInPast over r.key × (has_kind over.crossing (kind_of r.key) ≡ true)
IsLack over now r OtherEdges = (had : Entry) × (kept over r.key ≡ Some had) × (had.reads ≢ r.reads)
IsLack over now r (OverRed i) =
    HasSameEdges over r × IsFirstWithout (HasSamePrint over.held now) r.reads i
IsLack over now r OtherPrint =
    HasSameEdges over r × AllByRecursion (HasSamePrint over.held now) r.reads
    × (print_in over.held r.key ≢ Some (print_of r.value))
