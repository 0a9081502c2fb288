-- What a run writes.
use Rattle.std.specs.Prelude.{◌≡◌, ◌≢◌, ◌⊎◌, ℕ, false, List, [], IsTrue, Option, None, String, map, string_bytes}
use Rattle.std.specs.Io.KnownBytes.{Appends}
use Rattle.std.specs.declared.alloc.Global.{Global}
use Rattle.named_files.specs.Projects.{SourceFile, names_of}
use Rattle.profiles.specs.Profiles.{profile_number}
use Rattle.profiles.specs.declared.profile.Profile.{Profile}
use Rattle.audit_graph.specs.declared.fault.AuditFault.{AuditFault}
use Rattle.audit_graph.specs.declared.fault.AuditFault.TheVariants as chain
use Rattle.code_words.specs.Explained.{explained, first_unknown}
use Rattle.command_line.specs.CommandLine.{Asks}
use Rattle.command_line.specs.Plain.{IsPlain}
use Rattle.command_line.specs.Requests.{asks_for_help}
use Rattle.command_line.specs.declared.asked.AuditWords.{AuditWords}
use Rattle.command_line.specs.declared.asked.ScratchWords.{ScratchWords}
use Rattle.command_line.specs.declared.asked.Subcommand.{Subcommand}
use Rattle.command_line.specs.declared.asked.Words.{Words}
use Rattle.command_line.specs.declared.asked.Words.TheVariants as words
use Rattle.commands.specs.ChainWords.{chain_words}
use Rattle.commands.specs.Refusals.{refused_line}
use Rattle.commands.specs.Scratching.{AreScratchTexts}
use Rattle.commands.specs.declared.texts.AnswerTexts.{AnswerTexts}
use Rattle.program_run.specs.Audits.{AuditFails, AuditsTo, StopsAt}
use Rattle.program_run.specs.Checks.{ChecksAsked}
use Rattle.program_run.specs.Endings.{answer_report, status_of_failure}
use Rattle.program_run.specs.Failures.{MayFail}
use Rattle.program_run.specs.Refusals.{IsFailureText, unreadable_line}
use Rattle.program_run.specs.Shows.{SaysWhy, ShowsLast}
use Rattle.program_run.specs.Unread.{AreReadSources}
use Rattle.program_run.specs.declared.failure.Failure.{Failure}
use Rattle.program_run.specs.declared.failure.Failure.TheVariants as failure
use Rattle.program_run.specs.declared.report.Report.{Report}
use Rattle.program_run.specs.declared.report.Status.{Status}
use Rattle.program_run.specs.declared.report.Status.TheVariants as status

-- The answer that the rules of the profile asked for give files of the names asked for, as they were
-- read: its text, a line for each of its diagnostics with its place, with its sentence and its source
-- line if they are wanted, and the status that it ends with.
pub record ReportsOn {File : Type 0} (held : File → Option (List ℕ)) (asked : ScratchWords)
    (report : Report) : Type 0 where
  pub profile : Profile
  pub numbered : profile_number profile ≡ asked.profile
  pub files : List SourceFile
  pub named : names_of files ≡ map string_bytes asked.files.items
  pub read : AreReadSources held files
  pub texts : AnswerTexts
  pub tells : AreScratchTexts profile asked.messages files texts
  pub report_is : report ≡ answer_report texts

-- The text on each of these codes stands on standard output alone.
pub record Explains (asked : List (String Global)) (report : Report) : Type 0 where
  pub known : first_unknown asked ≡ None
  pub text : string_bytes report.answer ≡ explained asked
  pub notes : string_bytes report.notes ≡ []
  pub status : report.status ≡ status.Clean

-- Both texts of a report stand behind what the two streams held before.
pub record IsWritten (report : Report)
    (out_old out_new err_old err_new : Option (List ℕ)) : Type 0 where
  pub notes : Appends err_old err_new (string_bytes report.notes)
  pub answer : Appends out_old out_new (string_bytes report.answer)

-- the run has an answer, with diagnostics or without
abbrev pub IsAnswerStatus : Status → Type 0
IsAnswerStatus s = (s ≡ status.Clean) ⊎ (s ≡ status.Diagnostics)

abbrev pub EndsWithAnswer : ℕ → Type 0
EndsWithAnswer number = (number ≡ 0) ⊎ (number ≡ 1)

-- the exit status
abbrev pub status_number : Status → ℕ
status_number status.Clean = 0
status_number status.Diagnostics = 1
status_number status.Refused = 2
status_number status.ChainRefused = 3
status_number status.OutOfMemory = 4

-- The report on what the arguments ask for, and what was said on standard error before. Only an
-- audit says something there, on each file as it is taken.
abbrev pub Reports : {File : Type 0} → (File → Option (List ℕ)) → Words → List ℕ → Report → Type 0
Reports held (words.Scratch asked) told report = (told ≡ []) × ReportsOn held asked report
Reports held (words.Check asked) told report = (told ≡ []) × ChecksAsked held asked report
Reports held (words.Audit asked) told report = AuditsTo held asked told report
Reports held (words.Show asked) told report = (told ≡ []) × ShowsLast held asked report
Reports held (words.Why asked) told report = (told ≡ []) × SaysWhy held asked report
Reports held (words.Explain asked) told report =
    (told ≡ []) × Explains asked.items report

-- The report on what these arguments ask for, when standard error has what is said before. What is read
-- is all that opened files held, if their type says what.
pub record ReportsAsked {File : Type 0} (held : File → Option (List ℕ)) (given : List (List ℕ))
    (before after : Option (List ℕ)) (report : Report) : Type 0 where
  pub asked : Words
  pub asks : Asks given asked
  pub told : List ℕ
  pub said : Appends before after told
  pub reports : Reports held asked told report

-- Help or the version, for which the arguments ask: nothing stands on standard error.
pub record TellsHelp (given : List (List ℕ)) (before after : Option (List ℕ))
    (report : Report) : Type 0 where
  pub asked : IsTrue (asks_for_help given)
  pub said : before ≡ after
  pub notes : string_bytes report.notes ≡ []
  pub ends : report.status ≡ status.Clean

-- The report on what the arguments ask for, or help, is written behind what is said before, and the
-- run ends with its status.
pub record Prints {File : Type 0} (held : File → Option (List ℕ)) (given : List (List ℕ))
    (status : ℕ) (out_old out_new err_old err_new : Option (List ℕ)) : Type 0 where
  pub report : Report
  pub between : Option (List ℕ)
  pub reports : ReportsAsked held given err_old between report
      ⊎ TellsHelp given err_old between report
  pub written : IsWritten report out_old out_new between err_new
  pub ends : status ≡ status_number report.status

-- The report on just this is written: the subcommand, on files of these names. Nothing is said before.
pub record PrintsPlain {File : Type 0} (held : File → Option (List ℕ)) (subcommand : Subcommand)
    (names : List (List ℕ)) (status : ℕ) (out_old out_new err_old err_new : Option (List ℕ))
    : Type 0 where
  pub asked : Words
  pub plain : IsPlain subcommand names asked
  pub report : Report
  pub reports : Reports held asked [] report
  pub written : IsWritten report out_old out_new err_old err_new
  pub ends : status ≡ status_number report.status

-- ---- audits without an answer

-- The arguments ask for an audit of files, which refuses their chain with this fault.
pub record RefusesAudit {File : Type 0} (held : File → Option (List ℕ)) (given : List (List ℕ))
    (before after : Option (List ℕ)) (fault : AuditFault) : Type 0 where
  pub asked : AuditWords
  pub asks : Asks given (words.Audit asked)
  pub fails : AuditFails held asked before after (failure.Chain fault)

-- The fault of a refused chain, which isn't want of memory, stands on standard error, behind what is
-- said before, and nothing on standard output.
pub record ReportsRefusal {File : Type 0} (held : File → Option (List ℕ)) (given : List (List ℕ))
    (before after : Option (List ℕ)) (report : Report) : Type 0 where
  pub fault : AuditFault
  pub named : fault ≢ chain.OutOfMemory
  pub refuses : RefusesAudit held given before after fault
  pub line : string_bytes report.notes ≡ refused_line (chain_words fault)
  pub silent : string_bytes report.answer ≡ []
  pub ends : report.status ≡ status.ChainRefused

-- The report on a refused chain is written, and the run ends with its status.
pub record PrintsRefusal {File : Type 0} (held : File → Option (List ℕ)) (given : List (List ℕ))
    (out_old out_new err_old err_new : Option (List ℕ)) : Type 0 where
  pub report : Report
  pub between : Option (List ℕ)
  pub reports : ReportsRefusal held given err_old between report
  pub written : IsWritten report out_old out_new between err_new

-- The plain audit of files of these names stops at one that can't be read, whose name stands on
-- standard error alone.
pub record ReportsUnreadable {File : Type 0} (held : File → Option (List ℕ))
    (names : List (List ℕ)) (before after : Option (List ℕ)) (report : Report) : Type 0 where
  pub path : String Global
  pub stops : StopsAt held names false before after (failure.CannotRead path)
  pub line : string_bytes report.notes ≡ unreadable_line (string_bytes path)
  pub silent : string_bytes report.answer ≡ []

-- ---- refused runs

-- Why the run fails, which isn't want of memory, stands on standard error, and nothing on standard
-- output.
pub record ReportsFailure {File : Type 0} (held : File → Option (List ℕ)) (given : List (List ℕ))
    (before after : Option (List ℕ)) (report : Report) : Type 0 where
  pub why : Failure
  pub named : status_of_failure why ≡ status.Refused
  pub fails : MayFail held given before after why
  pub notes : IsFailureText why (string_bytes report.notes)
  pub silent : string_bytes report.answer ≡ []
