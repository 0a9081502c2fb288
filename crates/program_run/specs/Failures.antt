-- Why a run has no answer.
use Rattle.std.specs.Prelude.{◌≡◌, ◌⊎◌, ℕ, List, Option, Some, None, Contains, IsTrue, length, map, option_map, String, string_bytes}
use Rattle.std.specs.declared.alloc.Global.{Global}
use Rattle.session_cache.specs.Starts.{IsUnreadableCache, path_of}
use Rattle.session_cache.specs.declared.fault.CacheReadFault.TheVariants as cache
use Rattle.session_cache.specs.declared.place.SessionPlace.{SessionPlace}
use Rattle.commands.specs.Checks.{IsBeginning}
use Rattle.commands.specs.declared.beginning.Beginning.{Beginning}
use Rattle.code_words.specs.Explained.{first_unknown}
use Rattle.command_line.specs.CommandLine.{Asks}
use Rattle.command_line.specs.Plain.{asks_plainly}
use Rattle.command_line.specs.Requests.{IsHelpAsked}
use Rattle.command_line.specs.declared.asked.Subcommand.{Subcommand}
use Rattle.command_line.specs.declared.asked.Words.{Words}
use Rattle.command_line.specs.declared.asked.Words.TheVariants as words
use Rattle.command_line.specs.declared.asked.WordsFault.{WordsFault}
use Rattle.command_line.specs.declared.asked.WordsFault.TheVariants as refusal
use Rattle.sessions.specs.Sessions.{SessionValue}
use Rattle.program_run.specs.Audits.{AuditFails}
use Rattle.program_run.specs.Shows.{LacksNamed, RefusesOneOf, RefusesOneOfMany, RefusesFile, of_words}
use Rattle.program_run.specs.Unread.{AreUnread, NamesFail}
use Rattle.program_run.specs.declared.failure.Failure.{Failure}
use Rattle.program_run.specs.declared.failure.Failure.TheVariants as failure

-- ---- subcommands

-- what isn't written: the file of a session, or the folder of the cache, past whose last chain there is
-- no place for it
abbrev pub unwritten_path : List ℕ → Option SessionPlace → List ℕ
unwritten_path dir (Some place) = path_of dir place
unwritten_path dir None = dir

-- The session that begins in the cache of this folder, with these notes, isn't kept, since this can't
-- be written.
pub record IsUnkept {File : Type 0} (held : File → Option (List ℕ)) (dir : List ℕ)
    (notes path : String Global) : Type 0 where
  pub beginning : Beginning
  pub begins : IsBeginning held dir beginning
  pub told : beginning.notes ≡ notes
  pub unwritten : string_bytes path ≡ unwritten_path dir beginning.place

-- why `check` fails over the cache of this folder, on files of these names: one of them or the cache
-- can't be read, they are no project, the session isn't kept, or memory ran out
abbrev pub CheckFails : {File : Type 0} → (File → Option (List ℕ)) → List ℕ → List (List ℕ)
    → Failure → Type 0
CheckFails held dir names (failure.CannotRead path) =
    Contains names (string_bytes path) ⊎ IsUnreadableCache dir (cache.CannotRead path)
CheckFails held dir names (failure.CannotWrite notes path) = IsUnkept held dir notes path
CheckFails held dir names why = NamesFail held names why

-- why the bytes of a file aren't shown over the previous session: they are the file of no session, or
-- memory ran out
abbrev pub IsUnshown : Option SessionValue → List ℕ → Failure → Type 0
IsUnshown past bytes (failure.SessionFile fault) = RefusesFile past bytes fault
IsUnshown past bytes failure.OutOfMemory = Unit {0}
IsUnshown past bytes _ = ⊥

-- why these files aren't shown
abbrev pub AreUnshown : List (List ℕ) → Failure → Type 0
AreUnshown files (failure.SessionFile fault) = RefusesOneOf files fault
AreUnshown files failure.OutOfMemory = Unit {0}
AreUnshown files _ = ⊥

-- why there is no last session of files of these names: one can't be read; else one isn't that of a
-- session over the one before; or memory ran out
abbrev pub LastFails : {File : Type 0} → (File → Option (List ℕ)) → List (List ℕ) → Failure
    → Type 0
LastFails held names (failure.SessionFile fault) = RefusesOneOfMany held (length names) fault
LastFails held names why = AreUnread names why

-- why `show` and `why` fail on files of these names: there is no last session, or it has no record of
-- the key that was named
abbrev pub ShowFails : {File : Type 0} → (File → Option (List ℕ)) → List (List ℕ)
    → Option (String Global) → Failure → Type 0
ShowFails held names of (failure.NoRecord key) =
    LacksNamed held (length names) (of_words of) (string_bytes key)
ShowFails held names of why = LastFails held names why

-- why codes aren't explained: one is unknown, or memory ran out
abbrev pub ExplainFails : List (String Global) → Failure → Type 0
ExplainFails asked (failure.UnknownCode code) =
    option_map string_bytes (first_unknown asked) ≡ Some (string_bytes code)
ExplainFails asked failure.OutOfMemory = Unit {0}
ExplainFails asked _ = ⊥

-- ---- runs

-- Why what the arguments ask for fails. Only an audit says something on standard error before.
abbrev pub FailsAt : {File : Type 0} → (File → Option (List ℕ)) → Words → Option (List ℕ)
    → Option (List ℕ) → Failure → Type 0
FailsAt held (words.Scratch asked) before after why =
    NamesFail held (map string_bytes asked.files.items) why
FailsAt held (words.Check asked) before after why =
    CheckFails held (string_bytes asked.cache) (map string_bytes asked.files.items) why
FailsAt held (words.Audit asked) before after why = AuditFails held asked before after why
FailsAt held (words.Show asked) before after why =
    ShowFails held (map string_bytes asked.files.items) asked.of why
FailsAt held (words.Why asked) before after why =
    ShowFails held (map string_bytes asked.files.items) asked.of why
FailsAt held (words.Explain asked) before after why =
    ExplainFails asked.items why

-- What these arguments ask for fails for this reason.
pub record FailsAsked {File : Type 0} (held : File → Option (List ℕ)) (given : List (List ℕ))
    (before after : Option (List ℕ)) (why : Failure) : Type 0 where
  pub asked : Words
  pub asks : Asks given asked
  pub fails : FailsAt held asked before after why

-- memory ran out, or the arguments aren't plain ones
abbrev pub RefusesWords : List (List ℕ) → WordsFault → Type 0
RefusesWords given fault =
    (subcommand : Subcommand) → IsTrue (asks_plainly subcommand given) → fault ≡ refusal.OutOfMemory

-- why a run with these arguments fails: they are refused, ask for help, or what they ask for fails
abbrev pub MayFail : {File : Type 0} → (File → Option (List ℕ)) → List (List ℕ)
    → Option (List ℕ) → Option (List ℕ) → Failure → Type 0
MayFail held given before after (failure.Words fault) =
    RefusesWords given fault × IsHelpAsked given fault × (before ≡ after)
MayFail held given before after why = FailsAsked held given before after why
