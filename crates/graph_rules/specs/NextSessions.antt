-- The session that a previous session and a project decide, whatever the events are.
use Rattle.std.specs.Prelude.{◌≡◌, ℕ, List, Option, IfSome, Contains}
use Rattle.item_ids.specs.declared.key.Key.TheVariants.{Source}
use Rattle.named_files.specs.Projects.{names_of}
use Rattle.recorder.specs.Projects.{Project}
use Rattle.recorder.specs.Backed.{Meaning, ReadLists, Queries}
use Rattle.sessions.specs.declared.terms.Terms.{Terms}
use Rattle.sessions.specs.Sessions.{SessionValue, IsSession, entries, entry_at, past_entry, next_number}
use Rattle.sessions.specs.Spelling.{next_link}
use Rattle.graph_rules.specs.Pasts.{Past}
use Rattle.graph_rules.specs.Settings.{setting_of}
use Rattle.graph_rules.specs.Apart.{AreApartFrom}
use Rattle.graph_rules.specs.Next.{IsOfProject, IsReadIn, AreNext}

-- a session of some project: it holds its files, and its keys have the project's values and reads
abbrev pub IsOfSomeProject : Meaning → ReadLists → Past → Type 0
IsOfSomeProject mean reads now = (p : Project) × IsOfProject mean reads now p

-- The previous session, if there is one, is a session of some project by its own profile, and no two
-- different results, one of it and one of this session, share a fingerprint.
pub record StandsApart (queries : Queries) (past : Option SessionValue) (s : SessionValue) : Type 0 where
  pub past_is : IfSome past
      (λ t. IsOfSomeProject (queries.mean t.terms.profile) (queries.reads t.terms.profile) (entry_at t))
  pub apart : AreApartFrom (past_entry past) (entry_at s)

-- The next session of these terms of a project over the previous one: number and link follow that one,
-- and it has just the inputs and the keys that Answer leads to, by the project's values and reads.
pub record IsNextSession (queries : Queries) (terms : Terms) (past : Option SessionValue)
    (p : Project) (s : SessionValue) : Type 0 where
  pub session : IsSession s
  pub terms_are : s.terms ≡ terms
  pub number : s.number ≡ next_number past
  pub link : s.link ≡ next_link past
  pub told : AreNext (queries.mean terms.profile) (queries.reads terms.profile)
      (setting_of queries.by_profile terms.profile past) p (entries s)

-- what Answer leads to in the project are sources of its own files only
abbrev pub ReadsOwnFiles : ReadLists → Project → Type 0
ReadsOwnFiles reads p =
    (file : List ℕ) → IsReadIn reads p (Source file) → Contains (names_of p) file
