-- How a run ends.
use Rattle.std.specs.Prelude.{ℕ, Bool, true, false, [], ◌∷◌, Contains}
use Rattle.audit_graph.specs.declared.fault.AuditFault.TheVariants as chain
use Rattle.named_files.specs.declared.project.ProjectFault.TheVariants as project
use Rattle.session_file.specs.declared.fault.FileFault.TheVariants as file
use Rattle.commands.specs.declared.auditing.AuditTexts.{AuditTexts}
use Rattle.commands.specs.declared.texts.AnswerTexts.{AnswerTexts}
use Rattle.program_run.specs.declared.failure.Failure.{Failure}
use Rattle.program_run.specs.declared.failure.Failure.TheVariants as failure
use Rattle.program_run.specs.declared.report.Report.{Report}
use Rattle.program_run.specs.declared.report.Status.{Status}
use Rattle.program_run.specs.declared.report.Status.TheVariants as status
use Rattle.command_line.specs.declared.asked.WordsFault.TheVariants as words

-- an answer without diagnostics is clean
abbrev pub status_of_answer : Bool → Status
status_of_answer true = status.Clean
status_of_answer false = status.Diagnostics

-- the texts of an answer, and its status
abbrev pub answer_report : AnswerTexts → Report
answer_report texts = record {
  notes = texts.notes;
  answer = texts.answer;
  status = status_of_answer texts.clean;
}

-- the texts of an accepted chain, which is clean
abbrev pub accepted_report : AuditTexts → Report
accepted_report texts =
    record { notes = texts.notes; answer = texts.answer; status = status.Clean }

-- help that was asked for is clean, and every other failure but out of memory is refused
abbrev pub status_of_failure : Failure → Status
status_of_failure (failure.Words (words.Help text)) = status.Clean
status_of_failure (failure.Words (words.Refused text)) = status.Refused
status_of_failure (failure.Words words.OutOfMemory) = status.OutOfMemory
status_of_failure (failure.CannotRead name) = status.Refused
status_of_failure (failure.CannotWrite notes path) = status.Refused
status_of_failure failure.Untold = status.Refused
status_of_failure (failure.NoRecord key) = status.Refused
status_of_failure (failure.UnknownCode code) = status.Refused
status_of_failure (failure.Project project.OutOfMemory) = status.OutOfMemory
status_of_failure (failure.Project fault) = status.Refused
status_of_failure (failure.Chain chain.OutOfMemory) = status.OutOfMemory
status_of_failure (failure.Chain fault) = status.ChainRefused
status_of_failure (failure.SessionFile file.OutOfMemory) = status.OutOfMemory
status_of_failure (failure.SessionFile fault) = status.Refused
status_of_failure failure.OutOfMemory = status.OutOfMemory

-- clean, diagnostics, refused, a refused chain, or out of memory
abbrev pub IsStatus : ℕ → Type 0
IsStatus status = Contains (0 ∷ 1 ∷ 2 ∷ 3 ∷ 4 ∷ []) status
