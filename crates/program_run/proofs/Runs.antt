-- What a run writes and ends with.
use Rattle.std.proofs.Common.{◌≡◌, ◌∙◌, ◌⊎◌, inl, inr, ℕ, List, [], ◌∷◌, Option, Some, map, string_bytes, String, Vec, refl, sym, ap, subst, arith, true≢false}
use Rattle.std.specs.declared.alloc.Global.{Global}
use Rattle.named_files.specs.Projects.{names_of, sources_view}
use Rattle.command_line.specs.CommandLine.{Asks}
use Rattle.command_line.specs.declared.asked.Subcommand.{Subcommand}
use Rattle.command_line.proofs.PlainRequests.{plain_asks_none}
use Rattle.command_line.proofs.ProgramWords.{plain_asked}
use Rattle.command_line.specs.Plain.{HasDefaults, files_for}
use Rattle.command_line.specs.declared.asked.Words.{Words}
use Rattle.command_line.specs.declared.asked.Words.TheVariants as words
use Rattle.program_run.specs.Audits.{file_names, told_of}
use Rattle.program_run.specs.Runs.{EndsWithAnswer, IsAnswerStatus, Reports, ReportsAsked, ReportsRefusal, TellsHelp, IsWritten, Prints, PrintsPlain, PrintsRefusal, status_number}
use Rattle.program_run.specs.Endings.{IsStatus}
use Rattle.program_run.specs.declared.report.Report.{Report}
use Rattle.program_run.specs.declared.report.Status.{Status}
use Rattle.program_run.specs.declared.report.Status.TheVariants as status
use Rattle.program_run.proofs.Streams.{appends_behind, appends_none}

pub names_of_sources : (files : List (String Global × Vec ℕ Global)) → names_of (sources_view files) ≡ map (λ file. string_bytes file.0) files
names_of_sources [] = refl
names_of_sources (file ∷ files) = ap (λ names. string_bytes file.0 ∷ names) (names_of_sources files)

pub is_status : (s : Status) → IsStatus (status_number s)
is_status status.Clean = (0, omega arith, refl)
is_status status.Diagnostics = (1, omega arith, refl)
is_status status.Refused = (2, omega arith, refl)
is_status status.ChainRefused = (3, omega arith, refl)
is_status status.OutOfMemory = (4, omega arith, refl)

-- nothing is said before a report but by an audit
pub told_alone : {File : Type 0} (held : File → Option (List ℕ)) (given : List (List ℕ)) (e : Option (List ℕ)) (asked : Words) (report : Report) → Asks given asked → Reports held asked [] report
    → ReportsAsked held given e e report
told_alone held given e asked report asks reports = record { asked = asked; asks = asks; told = []; said = appends_none e e refl; reports = reports }

-- a delivered report that ends clean or with diagnostics says what such a report says
delivered : (Says : Report → Type 0) (report : Report) (s : Status) (out_old out_new err_old err_new : Option (List ℕ))
    → (IsAnswerStatus report.status → Says report)
    → (s ≡ status.Refused) ⊎ ((s ≡ report.status) × IsWritten report out_old out_new err_old err_new)
    → EndsWithAnswer (status_number s)
    → Says report × IsWritten report out_old out_new err_old err_new × (status_number s ≡ status_number report.status)
delivered Says report status.Clean a b c d says (inr written) ends = (says (inl (sym written.0)), written.1, ap status_number written.0)
delivered Says report status.Diagnostics a b c d says (inr written) ends = (says (inr (sym written.0)), written.1, ap status_number written.0)
delivered Says report s a b c d says (inl refused) (inl ends) = absurd cc
delivered Says report s a b c d says (inl refused) (inr ends) = absurd cc
delivered Says report s a b c d says written (inl ends) = absurd cc
delivered Says report s a b c d says written (inr ends) = absurd cc

module _ {File : Type 0} (held : File → Option (List ℕ)) where
  -- the report on what the arguments ask for, or help
  pub prints : (given : List (List ℕ)) (report : Report) (s : Status) (out_old out_new err_old between err_new : Option (List ℕ))
      → (IsAnswerStatus report.status → ReportsAsked held given err_old between report ⊎ TellsHelp given err_old between report)
      → (s ≡ status.Refused) ⊎ ((s ≡ report.status) × IsWritten report out_old out_new between err_new)
      → EndsWithAnswer (status_number s)
      → Prints held given (status_number s) out_old out_new err_old err_new
  prints given report s a b c m d reports ends number =
      let all = delivered (λ r. ReportsAsked held given c m r ⊎ TellsHelp given c m r) report s a b m d reports ends number in
      record { report = report; between = m; reports = all.0; written = all.1; ends = all.2 }

  plain_reports : (subcommand : Subcommand) (given names : List (List ℕ)) → files_for subcommand given ≡ Some names → (before after : Option (List ℕ)) (report : Report)
      → ReportsAsked held given before after report ⊎ TellsHelp given before after report → ReportsAsked held given before after report
  plain_reports subcommand given names plain before after report (inl reports) = reports
  plain_reports subcommand given names plain before after report (inr help) = absurd (true≢false (sym help.asked ∙ plain_asks_none subcommand given names plain))

  -- plain arguments have nothing said before the report
  plain_silent : (asked : Words) → HasDefaults asked → (told : List ℕ) (report : Report) → Reports held asked told report → told ≡ []
  plain_silent (words.Audit w) plain told report reports = reports.told_is ∙ ap (λ progress. told_of progress (file_names w) reports.each) plain.1
  plain_silent asked plain told report reports = reports.0

  -- the report on what plain arguments ask for
  pub prints_plain : (subcommand : Subcommand) (given names : List (List ℕ)) (number : ℕ) (out_old out_new err_old err_new : Option (List ℕ))
      → files_for subcommand given ≡ Some names → Prints held given number out_old out_new err_old err_new
      → PrintsPlain held subcommand names number out_old out_new err_old err_new
  prints_plain subcommand given names number a b c d plain is =
      let reports = plain_reports subcommand given names plain c is.between is.report is.reports in
      let asked = plain_asked subcommand given names plain reports.asked reports.asks in
      let silent = plain_silent reports.asked asked.defaults reports.told is.report reports.reports in
      record {
        asked = reports.asked;
        plain = asked;
        report = is.report;
        reports = subst (λ (told : List ℕ). Reports held reports.asked told is.report) silent reports.reports;
        written = record {
          notes = appends_behind c is.between d reports.told (string_bytes is.report.notes) silent reports.said is.written.notes;
          answer = is.written.answer;
        };
        ends = is.ends;
      }

-- a run that is out of memory ends neither clean nor with diagnostics
pub silent : (s : Status) (Said : Type 0) → (s ≡ status.Refused) ⊎ ((s ≡ status.OutOfMemory) × Said) → EndsWithAnswer (status_number s) → ⊥
silent s Said (inl refused) (inl ends) = absurd cc
silent s Said (inl refused) (inr ends) = absurd cc
silent s Said (inr said) (inl ends) = let out : s ≡ status.OutOfMemory = said.0 in absurd cc
silent s Said (inr said) (inr ends) = let out : s ≡ status.OutOfMemory = said.0 in absurd cc

-- the report on a chain that is refused
pub prints_refusal : {File : Type 0} (held : File → Option (List ℕ)) (given : List (List ℕ)) (report : Report) (s : Status)
    (out_old out_new err_old between err_new : Option (List ℕ))
    → (report.status ≡ status.ChainRefused → ReportsRefusal held given err_old between report)
    → (s ≡ status.Refused) ⊎ ((s ≡ report.status) × IsWritten report out_old out_new between err_new)
    → status_number s ≡ 3
    → PrintsRefusal held given out_old out_new err_old err_new
prints_refusal held given report status.ChainRefused a b c m d reports (inl refused) number = absurd cc
prints_refusal held given report status.ChainRefused a b c m d reports (inr written) number =
    record { report = report; between = m; reports = reports (sym written.0); written = written.1 }
prints_refusal held given report s a b c m d reports written number = absurd cc

-- out of memory is no refused chain
pub no_refusal : (s : Status) (Said : Type 0) → (s ≡ status.Refused) ⊎ ((s ≡ status.OutOfMemory) × Said) → status_number s ≡ 3 → ⊥
no_refusal s Said (inl refused) number = absurd cc
no_refusal s Said (inr said) number = let out : s ≡ status.OutOfMemory = said.0 in absurd cc
