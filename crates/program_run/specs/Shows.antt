-- What is shown and said of the last session of a chain.
use Rattle.std.specs.Prelude.{◌≡◌, ◌∷◌, ◌++◌, ℕ, true, false, Bool, List, [], Option, Some, None, Err, length, option_map, position, String, string_bytes, vec_len}
use Rattle.std.specs.Str.{bytes_eq}
use Rattle.std.specs.declared.alloc.Global.{Global}
use Rattle.sessions.specs.Sessions.{IsSession, IsTakenFrom, SessionValue, key_at}
use Rattle.sessions.specs.Spelling.{file_of}
use Rattle.graph_rules.specs.Settings.{crossing_kinds}
use Rattle.query_rules.specs.Queries.{is_by_profile}
use Rattle.item_ids.specs.declared.kind.Kind.{Kind}
use Rattle.session_text.specs.SessionText.{key_words, text_of_session}
use Rattle.session_text.specs.CauseTexts.{IsCausesText, IsWhyText}
use Rattle.session_text.specs.SessionGraph.{IsDotText}
use Rattle.session_file.specs.Reading.{file_after}
use Rattle.session_file.specs.declared.fault.FileFault.{FileFault}
use Rattle.session_file.specs.declared.fault.FileFault.TheVariants as file
use Rattle.audit_replay.specs.Audits.{HaveFiles, last_of}
use Rattle.session_cache.specs.Opened.{AreRead}
use Rattle.command_line.specs.declared.asked.ShowWords.{ShowWords}
use Rattle.command_line.specs.declared.asked.WhyWords.{WhyWords}
use Rattle.program_run.specs.declared.failure.Failure.{Failure}
use Rattle.program_run.specs.declared.failure.Failure.TheVariants as failure
use Rattle.program_run.specs.declared.subcommands.last.LastPair.{LastPair}
use Rattle.program_run.specs.declared.report.Report.{Report}
use Rattle.program_run.specs.declared.report.Status.TheVariants as status

-- It is the last of the sessions of these files, each of which is taken from the one before.
pub record IsLastOf (files : List (List ℕ)) (last : Option SessionValue) : Type 0 where
  pub sessions : List SessionValue
  pub have : HaveFiles sessions files
  pub is_last : last_of None sessions ≡ last

-- It is the last of the sessions of these files, and this the one before it, if there is one.
pub record AreLastOf (files : List (List ℕ)) (past : Option SessionValue) (s : SessionValue)
    : Type 0 where
  pub front : List (List ℕ)
  pub behind : files ≡ front ++ file_of s ∷ []
  pub before : IsLastOf front past
  pub session : IsSession s
  pub taken : IsTakenFrom past s

-- the last two of the sessions of these files, if there are any
abbrev pub IsLastPair : List (List ℕ) → Option LastPair → Type 0
IsLastPair files None = files ≡ []
IsLastPair files (Some pair) = AreLastOf files pair.past pair.session

-- So many files were read of whose sessions it is the last, and this the one before it, if there is
-- one.
pub record AreLastOfMany {File : Type 0} (held : File → Option (List ℕ)) (many : ℕ)
    (past : Option SessionValue) (s : SessionValue) : Type 0 where
  pub files : List (List ℕ)
  pub are_many : length files ≡ many
  pub read : AreRead held files
  pub last : AreLastOf files past s

abbrev pub last_session : Option LastPair → Option SessionValue
last_session = option_map (λ pair. pair.session)

-- The session of the file that these bytes are comes behind the last one, from which it is taken.
pub record IsNextPair (last : Option LastPair) (bytes : List ℕ) (pair : LastPair) : Type 0 where
  pub past : pair.past ≡ last_session last
  pub session : IsSession pair.session
  pub taken : IsTakenFrom pair.past pair.session
  pub file : bytes ≡ file_of pair.session

-- the index of the record whose key has these words
abbrev pub index_named : List ℕ → SessionValue → Option ℕ
index_named words s = position (λ r. bytes_eq (key_words r.key) words) s.records

-- the words of a key that was named, if one was
abbrev pub of_words : Option (String Global) → Option (List ℕ)
of_words = option_map string_bytes

-- no record of the session has a key with these words, or memory ran out
abbrev pub LacksRecord : List ℕ → SessionValue → Failure → Type 0
LacksRecord words s (failure.NoRecord key) =
    (string_bytes key ≡ words) × (index_named words s ≡ None)
LacksRecord words s failure.OutOfMemory = Unit {0}
LacksRecord words s _ = ⊥

-- ---- shown

-- the index of the record within which the graph lies, if one was named
abbrev pub IsNamedRoot : Option (List ℕ) → SessionValue → Option ℕ → Type 0
IsNamedRoot None s root = root ≡ None
IsNamedRoot (Some words) s root = (i : ℕ) × (index_named words s ≡ Some i) × (root ≡ Some i)

-- The graph of the session beside the one before, within the record that was named, if one was.
pub record IsGraphOf (of : Option (List ℕ)) (past : Option SessionValue) (s : SessionValue)
    (text : List ℕ) : Type 0 where
  pub root : Option ℕ
  pub named : IsNamedRoot of s root
  pub graph : IsDotText past s root text

-- the graph if it is wanted, else the list of the records
abbrev pub IsShown : Bool → Option (List ℕ) → Option SessionValue → SessionValue → List ℕ → Type 0
IsShown true of past s text = IsGraphOf of past s text
IsShown false of past s text = text ≡ text_of_session s

-- What is shown of the last of the sessions stands on standard output alone.
pub record ShowsLast {File : Type 0} (held : File → Option (List ℕ)) (asked : ShowWords)
    (report : Report) : Type 0 where
  pub past : Option SessionValue
  pub session : SessionValue
  pub last : AreLastOfMany held (vec_len asked.files) past session
  pub text : IsShown asked.dot (of_words asked.of) past session (string_bytes report.answer)
  pub notes : string_bytes report.notes ≡ []
  pub status : report.status ≡ status.Clean

-- ---- said

-- the kinds of which nothing is taken over from the session before, since they go by the profile and
-- it has another one
abbrev pub crossing_of : Option SessionValue → SessionValue → List Kind
crossing_of past s = crossing_kinds is_by_profile s.terms.profile past

-- why each query was executed, or the causes of the record that was named
abbrev pub SaysCauses : Option (List ℕ) → Option SessionValue → SessionValue → List ℕ → Type 0
SaysCauses None past s text = IsWhyText past s (crossing_of past s) text
SaysCauses (Some words) past s text = (i : ℕ) × (index_named words s ≡ Some i)
    × IsCausesText past s (crossing_of past s) (key_at s.records i) text

-- What is said of the last of the sessions stands on standard output alone.
pub record SaysWhy {File : Type 0} (held : File → Option (List ℕ)) (asked : WhyWords)
    (report : Report) : Type 0 where
  pub past : Option SessionValue
  pub session : SessionValue
  pub last : AreLastOfMany held (vec_len asked.files) past session
  pub text : SaysCauses (of_words asked.of) past session (string_bytes report.answer)
  pub notes : string_bytes report.notes ≡ []
  pub status : report.status ≡ status.Clean

-- ---- neither

-- the bytes are the file of no session over the previous one, for this reason, or memory ran out
abbrev pub RefusesFile : Option SessionValue → List ℕ → FileFault → Type 0
RefusesFile past bytes file.OutOfMemory = Unit {0}
RefusesFile past bytes fault = file_after past bytes ≡ Err fault

-- One of these files is refused over the last session of those in front.
pub record RefusesOneOf (files : List (List ℕ)) (fault : FileFault) : Type 0 where
  pub front : List (List ℕ)
  pub file : List ℕ
  pub rest : List (List ℕ)
  pub parts : files ≡ front ++ file ∷ rest
  pub past : Option SessionValue
  pub last : IsLastOf front past
  pub refused : RefusesFile past file fault

-- So many files were read, one of which is refused like this.
pub record RefusesOneOfMany {File : Type 0} (held : File → Option (List ℕ)) (many : ℕ)
    (fault : FileFault) : Type 0 where
  pub files : List (List ℕ)
  pub are_many : length files ≡ many
  pub read : AreRead held files
  pub refuses : RefusesOneOf files fault

-- The last of so many sessions has no record of the key that was named.
pub record LacksNamed {File : Type 0} (held : File → Option (List ℕ)) (many : ℕ)
    (of : Option (List ℕ)) (words : List ℕ) : Type 0 where
  pub past : Option SessionValue
  pub session : SessionValue
  pub last : AreLastOfMany held many past session
  pub named : of ≡ Some words
  pub lacks : index_named words session ≡ None

-- why the record that was named isn't found in the session, or memory ran out
abbrev pub LacksNamedIn : Option (List ℕ) → SessionValue → Failure → Type 0
LacksNamedIn of s (failure.NoRecord key) =
    (of ≡ Some (string_bytes key)) × (index_named (string_bytes key) s ≡ None)
LacksNamedIn of s failure.OutOfMemory = Unit {0}
LacksNamedIn of s _ = ⊥
