-- The sessions that the project alone decides.
use Rattle.std.specs.Prelude.{◌≡◌, ℕ, ◌<◌, List, Option, Some, None, Contains}
use Rattle.item_ids.specs.declared.key.Key.{Key}
use Rattle.item_ids.specs.declared.key.Key.TheVariants.{Files, Source}
use Rattle.item_ids.specs.Inputs.{rank}
use Rattle.result_bytes.specs.declared.value.Value.TheVariants as values
use Rattle.fingerprint.specs.Prints.{print_of}
use Rattle.named_files.specs.Projects.{names_of, IsProject}
use Rattle.recorder.specs.Projects.{Project, bytes_at}
use Rattle.recorder.specs.Backed.{Meaning, ReadLists, ReadLaws, Queries}
use Rattle.sessions.specs.declared.mark.Mark.{Mark}
use Rattle.sessions.specs.declared.mark.Mark.TheVariants.{Input, Green, Executed}
use Rattle.sessions.specs.Sessions.{Entry, SessionValue, entry_at}
use Rattle.graph_rules.specs.Pasts.{Past, IsGraph, print_in}
use Rattle.graph_rules.specs.Settings.{Setting, kept, setting_of}
use Rattle.graph_rules.specs.Graphs.{IsRoot, AreAscendingByKey}

-- The project whose files a session holds: their names, the bytes of each, and of no other file.
pub record AreSources (past : Past) (p : Project) : Type 0 where
  pub project : IsProject p
  pub files : (r : Entry) × (past Files ≡ Some r) × (r.value ≡ values.Files (names_of p))
  pub each : (file : List ℕ) → Contains (names_of p) file
      → (r : Entry) × (past (Source file) ≡ Some r) × (r.value ≡ values.Source (bytes_at p file))
  pub others : (file : List ℕ) (r : Entry) → past (Source file) ≡ Some r
      → Contains (names_of p) file

-- each key has the value and the reads that the project gives it
abbrev pub AreMeant : Meaning → ReadLists → Past → Project → Type 0
AreMeant mean reads past p =
    (q : Key) (r : Entry) → past q ≡ Some r → (r.value ≡ mean p q) × (r.reads ≡ reads p q)

-- A session is that of a project: it holds its files, and its keys have the project's values and
-- reads.
pub record IsOfProject (mean : Meaning) (reads : ReadLists) (past : Past)
    (p : Project) : Type 0 where
  pub sources : AreSources past p
  pub meant : AreMeant mean reads past p

-- the previous session, if there is one, has the values and reads that the project gives it by its own
-- profile
abbrev pub ArePastMeant : Queries → Option SessionValue → Project → Type 0
ArePastMeant queries None p = Unit {0}
ArePastMeant queries (Some s) p =
    AreMeant (queries.mean s.terms.profile) (queries.reads s.terms.profile) (entry_at s) p

-- The previous session is known: it has the values and reads of a project by some meaning and reads, and
-- those of what is taken over from it keep to the laws of reads from these to the session's own.
pub record IsKnownPast (mean : Meaning) (reads : ReadLists) (over : Setting) : Type 0 where
  pub project : Project
  pub past_mean : Meaning
  pub past_reads : ReadLists
  pub is_project : IsProject project
  pub graph : IsGraph over.held
  pub meant : AreMeant past_mean past_reads over.held project
  pub across : (q : Key) (r : Entry) → kept over q ≡ Some r → ReadLaws past_mean past_reads mean reads q

-- A green key is taken over from the previous session, with the same edges and fingerprint, and each
-- edge has the same fingerprint in both sessions.
pub record StandsIn (over : Setting) (now : Past) (r : Entry) : Type 0 where
  pub had : Entry
  pub past_has : kept over r.key ≡ Some had
  pub edges : had.reads ≡ r.reads
  pub print : print_of had.value ≡ print_of r.value
  pub same : (e : Key) → Contains r.reads e → print_in over.held e ≡ print_in now e

-- The session is right over the previous one: it is that of its sources, and its green keys stand
-- in the previous session.
pub record IsRight (mean : Meaning) (reads : ReadLists) (over : Setting) (now : Past) : Type 0 where
  pub project : Project
  pub of_project : IsOfProject mean reads now project
  pub greens : (q : Key) (r : Entry) → now q ≡ Some r → r.mark ≡ Green → StandsIn over now r

-- the session is right over the previous one, by its own profile
abbrev pub IsRightAfter : Queries → Option SessionValue → SessionValue → Type 0
IsRightAfter queries past s =
    IsRight (queries.mean s.terms.profile) (queries.reads s.terms.profile)
    (setting_of queries.by_profile s.terms.profile past) (entry_at s)

-- ---- the next session

-- a root, or a key that the project's reads lead to from one
pub data IsReadIn (reads : ReadLists) (p : Project) : Key → Type 0 where
  root : (q : Key) → IsRoot p q → IsReadIn reads p q
  read : (q e : Key) → IsReadIn reads p q → Contains (reads p q) e → IsReadIn reads p e

-- The key may be taken over from the previous session, and each of its edges there is in the next
-- session with the same fingerprint.
pub record IsUnchanged (mean : Meaning) (reads : ReadLists) (over : Setting) (p : Project)
    (q : Key) : Type 0 where
  pub had : Entry
  pub past_has : kept over q ≡ Some had
  pub same : (e : Key) → Contains had.reads e
      → IsReadIn reads p e × (print_in over.held e ≡ Some (print_of (mean p e)))

-- An input has the mark Input; another key is green if it is unchanged, else executed.
abbrev pub HasMark : Meaning → ReadLists → Setting → Project → Key → Mark → Type 0
HasMark mean reads over p q Input = rank q ≡ 0
HasMark mean reads over p q Green = (0 < rank q) × IsUnchanged mean reads over p q
HasMark mean reads over p q Executed = (0 < rank q) × (IsUnchanged mean reads over p q → ⊥)

pub record IsNextEntry (mean : Meaning) (reads : ReadLists) (over : Setting) (p : Project)
    (r : Entry) : Type 0 where
  pub reached : IsReadIn reads p r.key
  pub value : r.value ≡ mean p r.key
  pub edges : r.reads ≡ reads p r.key
  pub mark : HasMark mean reads over p r.key r.mark

-- the entries of the next session, which know no event
pub record AreNext (mean : Meaning) (reads : ReadLists) (over : Setting) (p : Project)
    (entries : List Entry) : Type 0 where
  pub ascending : AreAscendingByKey entries
  pub each : (r : Entry) → Contains entries r → IsNextEntry mean reads over p r
  pub all : (q : Key) → IsReadIn reads p q → (r : Entry) × Contains entries r × (r.key ≡ q)
