-- What a check over a cache reports.
use Rattle.std.specs.Prelude.{◌≡◌, ◌+◌, ℕ, Bool, List, Option, map, string_bytes}
use Rattle.named_files.specs.Projects.{SourceFile, names_of}
use Rattle.profiles.specs.Profiles.{profile_number}
use Rattle.sessions.specs.Sessions.{SessionValue, session_in}
use Rattle.sessions.specs.Terms.{form_number}
use Rattle.sessions.specs.declared.terms.Terms.{Terms}
use Rattle.session_cache.specs.Opened.{IsReadChain}
use Rattle.command_line.specs.declared.asked.CheckWords.{CheckWords}
use Rattle.commands.specs.Checks.{IsBeginning, IsNextAt}
use Rattle.commands.specs.declared.beginning.Beginning.{Beginning}
use Rattle.commands.specs.Checking.{AreSessionTexts}
use Rattle.commands.specs.declared.texts.AnswerTexts.{AnswerTexts}
use Rattle.program_run.specs.Endings.{answer_report}
use Rattle.program_run.specs.Unread.{AreReadSources}
use Rattle.program_run.specs.declared.report.Report.{Report}

-- The text of the session's answer, and behind the notes a line for each of its diagnostics with
-- its place in the files, and with its sentence and its source line if they are wanted, and a line on
-- the session; and the status of the answer.
pub record TellsSession (files : List SourceFile) (messages : Bool) (notes : List ℕ)
    (session : SessionValue) (report : Report) : Type 0 where
  pub texts : AnswerTexts
  pub tells : AreSessionTexts files messages notes session texts
  pub report_is : report ≡ answer_report texts

-- A report on files of these names by the session of these terms that comes where the cache of this
-- folder lets it begin. The files and the previous session, if there is one, are those that opened
-- files held.
pub record ChecksTo {File : Type 0} (held : File → Option (List ℕ)) (terms : Terms)
    (messages : Bool) (dir : List ℕ) (names : List (List ℕ)) (report : Report) : Type 0 where
  pub files : List SourceFile
  pub named : names_of files ≡ names
  pub read : AreReadSources held files
  pub beginning : Beginning
  pub begins : IsBeginning held dir beginning
  pub past_read : IsReadChain held (session_in beginning.past)
  pub session : SessionValue
  pub next : IsNextAt terms beginning files session
  pub tells : TellsSession files messages (string_bytes beginning.notes) session report

-- A report on what these arguments ask for: the terms are those of the numbers that they have.
pub record ChecksAsked {File : Type 0} (held : File → Option (List ℕ)) (asked : CheckWords)
    (report : Report) : Type 0 where
  pub terms : Terms
  pub profile : profile_number terms.profile ≡ asked.profile
  pub form : form_number terms.form + 1 ≡ asked.form
  pub checks : ChecksTo held terms asked.messages (string_bytes asked.cache)
      (map string_bytes asked.files.items) report
