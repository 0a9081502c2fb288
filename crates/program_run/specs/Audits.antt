-- What an audit of the files that the arguments name ends with, and what it says of each of them.
use Rattle.std.specs.Prelude.{◌≡◌, ◌≢◌, ◌⊎◌, ℕ, Bool, true, false, List, [], ◌∷◌, ◌++◌, Option, Some, None, codes, decimal, length, map, slice_get, String, string_bytes}
use Rattle.std.specs.Io.KnownBytes.{Appends}
use Rattle.std.specs.List.{AllByRecursion}
use Rattle.std.specs.declared.alloc.Global.{Global}
use Rattle.named_files.specs.Projects.{SourceFile, names_of}
use Rattle.result_bytes.specs.declared.value.Value.{Value}
use Rattle.sessions.specs.Sessions.{IsSession, SessionValue}
use Rattle.sessions.specs.Spelling.{file_of}
use Rattle.audit_graph.specs.declared.fault.AuditFault.{AuditFault}
use Rattle.audit_graph.specs.declared.fault.AuditFault.TheVariants as chain
use Rattle.session_file.specs.declared.fault.FileFault.TheVariants as file
use Rattle.profiles.specs.declared.profile.Profile.{Profile}
use Rattle.commands.specs.Lines.{counts_of}
use Rattle.mini_java.specs.Headline.{ChainRefuses}
use Rattle.mini_java.specs.Taken.{HasTaken}
use Rattle.mini_java.specs.declared.auditor.ChainAuditor.{ChainAuditor}
use Rattle.session_cache.specs.Opened.{AreRead, IsAllOf, IsRead}
use Rattle.command_line.specs.declared.asked.AuditWords.{AuditWords}
use Rattle.commands.specs.Auditing.{AreAcceptedTexts}
use Rattle.commands.specs.Chains.{IsAcceptedOver, RefusesOver}
use Rattle.commands.specs.declared.auditing.AuditTexts.{AuditTexts}
use Rattle.program_run.specs.Endings.{accepted_report}
use Rattle.program_run.specs.Unread.{AreReadSources, NamesFail}
use Rattle.program_run.specs.declared.failure.Failure.{Failure}
use Rattle.program_run.specs.declared.failure.Failure.TheVariants as failure
use Rattle.program_run.specs.declared.report.Report.{Report}

-- ---- what is said of each file

-- c0000/s0003.mjrg: session 3, 12 executed, 40 green
abbrev pub progress_line : List ℕ → SessionValue → List ℕ
progress_line name s =
    name ++ codes ": session " ++ decimal s.number ++ codes ", " ++ counts_of s ++ codes "\n"

-- a line for each file with its session
abbrev pub progress_of : List (List ℕ) → List SessionValue → List ℕ
progress_of (name ∷ names) (s ∷ ss) = progress_line name s ++ progress_of names ss
progress_of _ _ = []

-- the line on the file that was taken last, if it is wanted
abbrev pub told_last : Bool → List ℕ → Option SessionValue → List ℕ
told_last true name (Some s) = progress_line name s
told_last _ name _ = []

-- the lines on the files that were taken, if they are wanted
abbrev pub told_of : Bool → List (List ℕ) → List SessionValue → List ℕ
told_of true names sessions = progress_of names sessions
told_of false names sessions = []

-- ---- accepted

-- The text of an answer is on standard output, and the line on standard error.
pub record IsAcceptedReport (v : Value) (sessions runs : ℕ) (report : Report) : Type 0 where
  pub texts : AuditTexts
  pub tells : AreAcceptedTexts v sessions runs texts
  pub report_is : report ≡ accepted_report texts

-- the project of the sources of these names, if there are any, as they were read
abbrev pub IsProjectOf : {File : Type 0} → (File → Option (List ℕ)) → List (List ℕ)
    → Option (List SourceFile) → Type 0
IsProjectOf held [] project = project ≡ None
IsProjectOf held (name ∷ names) (Some project) =
    (names_of project ≡ name ∷ names) × AreReadSources held project
IsProjectOf held (name ∷ names) None = ⊥

-- the names of an audit: those of its files, and those of its sources
abbrev pub file_names : AuditWords → List (List ℕ)
file_names asked = map string_bytes asked.files.items

abbrev pub source_names : AuditWords → List (List ℕ)
source_names asked = map string_bytes asked.sources.items

-- As many files as there are names were accepted, as they were read, each with the line on its session
-- before the report if that is wanted. The last session is one of just the sources, if there are
-- any, and its answer is written.
pub record AuditsTo {File : Type 0} (held : File → Option (List ℕ)) (asked : AuditWords)
    (told : List ℕ) (report : Report) : Type 0 where
  pub files : List (List ℕ)
  pub many : length files ≡ length (file_names asked)
  pub read : AreRead held files
  pub each : List SessionValue
  pub spelled : map file_of each ≡ files
  pub sessions_are : AllByRecursion IsSession each
  pub told_is : told ≡ told_of asked.progress (file_names asked) each
  pub v : Value
  pub sessions : ℕ
  pub runs : ℕ
  pub profile : Profile
  pub project : Option (List SourceFile)
  pub named : IsProjectOf held (source_names asked) project
  pub accepted : IsAcceptedOver project files profile v sessions runs
  pub written : IsAcceptedReport v sessions runs report

-- ---- refused

-- The auditor took these files, in front of those of other names, as they were read, and said what is
-- wanted of each.
pub record TookFirst {File : Type 0} (held : File → Option (List ℕ)) (names : List (List ℕ))
    (progress : Bool) (before after : Option (List ℕ)) (auditor : ChainAuditor) : Type 0 where
  pub files : List (List ℕ)
  pub read : AreRead held files
  pub taken : HasTaken files auditor
  pub told : Appends before after (told_of progress names taken.sessions)

-- The auditor took all files of these names, and said what is wanted of each.
pub record TookAll {File : Type 0} (held : File → Option (List ℕ)) (names : List (List ℕ))
    (progress : Bool) (before after : Option (List ℕ)) (auditor : ChainAuditor) : Type 0 where
  pub front : TookFirst held names progress before after auditor
  pub many : length front.files ≡ length names

-- behind the files taken this opened file is refused, by the bytes that it held if its type says
-- which, whatever may follow
abbrev pub RefusesAt : {File : Type 0} → (File → Option (List ℕ)) → File → List (List ℕ)
    → AuditFault → Type 0
RefusesAt held opened front fault = (bytes : List ℕ) → held opened ≡ Some bytes
    → (rest : List (List ℕ)) → ChainRefuses (front ++ bytes ∷ rest) fault

-- Behind the files taken an opened file is refused so.
pub record RefusesOpened {File : Type 0} (held : File → Option (List ℕ)) (front : List (List ℕ))
    (fault : AuditFault) : Type 0 where
  pub opened : File
  pub refused : RefusesAt held opened front fault

-- One more file was taken, which is all that this opened file held, and its session stands behind the
-- others.
pub record TakesOpened {File : Type 0} (held : File → Option (List ℕ)) (opened : File)
    (old new : ChainAuditor) : Type 0 where
  pub file : List ℕ
  pub whole : IsAllOf held opened file
  pub session : SessionValue
  pub taken : (front : List (List ℕ)) → HasTaken front old → HasTaken (front ++ file ∷ []) new
  pub behind : (front : List (List ℕ)) (was : HasTaken front old)
      → (taken front was).sessions ≡ was.sessions ++ session ∷ []

-- One more file was taken so.
pub record TakesNext {File : Type 0} (held : File → Option (List ℕ)) (old new : ChainAuditor)
    : Type 0 where
  pub opened : File
  pub takes : TakesOpened held opened old new

-- One more file was taken, as it was read, whose session stands behind the others, and what is wanted
-- of it was said.
pub record TakesMore {File : Type 0} (held : File → Option (List ℕ)) (front : List (List ℕ))
    (sessions : List SessionValue) (name : List ℕ) (progress : Bool) (new : ChainAuditor)
    (before after : Option (List ℕ)) : Type 0 where
  pub file : List ℕ
  pub read : IsRead held file
  pub session : SessionValue
  pub taken : HasTaken (front ++ file ∷ []) new
  pub behind : taken.sessions ≡ sessions ++ session ∷ []
  pub told : Appends before after (told_last progress name (Some session))

-- a file whose reading failed can't be read, and any other fault is the chain's
abbrev pub failure_of : String Global → AuditFault → Failure
failure_of name (chain.File k file.Device) = failure.CannotRead name
failure_of name fault = failure.Chain fault

-- why this opened file, of this name, isn't taken behind these: it can't be read, it is refused, or
-- memory ran out
abbrev pub FailsAtOpened : {File : Type 0} → (File → Option (List ℕ)) → File → List (List ℕ) → List ℕ
    → Failure → Type 0
FailsAtOpened held opened front name (failure.CannotRead path) = string_bytes path ≡ name
FailsAtOpened held opened front name (failure.Chain fault) = RefusesAt held opened front fault
FailsAtOpened held opened front name failure.OutOfMemory = Unit {0}
FailsAtOpened held opened front name _ = ⊥

-- why the file of this name isn't taken behind these
abbrev pub FailsBehind : {File : Type 0} → (File → Option (List ℕ)) → List (List ℕ) → List ℕ
    → Failure → Type 0
FailsBehind held front name (failure.CannotRead path) = string_bytes path ≡ name
FailsBehind held front name (failure.Chain fault) = RefusesOpened held front fault
FailsBehind held front name failure.OutOfMemory = Unit {0}
FailsBehind held front name _ = ⊥

-- why nothing is said of a file that was taken: standard error takes no line, or memory ran out
abbrev pub TellFails : Bool → Failure → Type 0
TellFails progress failure.Untold = progress ≡ true
TellFails progress failure.OutOfMemory = Unit {0}
TellFails progress _ = ⊥

-- why the file of this name isn't taken behind these, or nothing is said of it
abbrev pub TakeFails : {File : Type 0} → (File → Option (List ℕ)) → List (List ℕ) → List ℕ
    → Bool → Option (List ℕ) → Option (List ℕ) → Failure → Type 0
TakeFails held front name progress before after (failure.CannotRead path) =
    FailsBehind held front name (failure.CannotRead path) × (before ≡ after)
TakeFails held front name progress before after (failure.Chain fault) =
    FailsBehind held front name (failure.Chain fault) × (before ≡ after)
TakeFails held front name progress before after why = TellFails progress why

-- The files in front of the first name that fails were taken.
pub record StopsAt {File : Type 0} (held : File → Option (List ℕ)) (names : List (List ℕ))
    (progress : Bool) (before after : Option (List ℕ)) (failure : Failure) : Type 0 where
  pub auditor : ChainAuditor
  pub took : TookFirst held names progress before after auditor
  pub name : List ℕ
  pub here : slice_get names (length took.files) ≡ Some name
  pub fails : FailsBehind held took.files name failure

-- all files were taken, and the chain of them is refused
pub record RefusesAll {File : Type 0} (held : File → Option (List ℕ)) (asked : AuditWords)
    (before after : Option (List ℕ)) (fault : AuditFault) : Type 0 where
  pub auditor : ChainAuditor
  pub took : TookAll held (file_names asked) asked.progress before after auditor
  pub project : Option (List SourceFile)
  pub named : IsProjectOf held (source_names asked) project
  pub refused : RefusesOver project took.front.files fault

-- why not all files of these names are taken
abbrev pub IsStopped : {File : Type 0} → (File → Option (List ℕ)) → List (List ℕ) → Bool
    → Option (List ℕ) → Option (List ℕ) → Failure → Type 0
IsStopped held names progress before after (failure.CannotRead path) =
    StopsAt held names progress before after (failure.CannotRead path)
IsStopped held names progress before after (failure.Chain fault) =
    StopsAt held names progress before after (failure.Chain fault)
IsStopped held names progress before after why = TellFails progress why

-- there are sources, and they can't be read or are no project
abbrev pub SourcesFail : {File : Type 0} → (File → Option (List ℕ)) → List (List ℕ) → Failure
    → Type 0
SourcesFail held names why = (names ≢ []) × NamesFail held names why

-- Why an audit doesn't accept: its sources can't be read or are no project, one of its files stops
-- it, or all were taken and their chain is refused, or standard error takes no line on a file.
abbrev pub AuditFails : {File : Type 0} → (File → Option (List ℕ)) → AuditWords
    → Option (List ℕ) → Option (List ℕ) → Failure → Type 0
AuditFails held asked before after (failure.CannotRead path) =
    SourcesFail held (source_names asked) (failure.CannotRead path)
    ⊎ StopsAt held (file_names asked) asked.progress before after (failure.CannotRead path)
AuditFails held asked before after (failure.Project fault) =
    SourcesFail held (source_names asked) (failure.Project fault)
AuditFails held asked before after (failure.Chain fault) =
    StopsAt held (file_names asked) asked.progress before after (failure.Chain fault)
    ⊎ RefusesAll held asked before after fault
AuditFails held asked before after failure.Untold = asked.progress ≡ true
AuditFails held asked before after failure.OutOfMemory = Unit {0}
AuditFails held asked before after _ = ⊥
