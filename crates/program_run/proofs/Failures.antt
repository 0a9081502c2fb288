-- Which failures end a run in which way, and what is written of them.
use Rattle.std.proofs.Common.{◌≡◌, ◌≢◌, inl, inr, ◌∙◌, ℕ, Bool, true, false, List, [], Option, Some, None, Result, Ok, Err, String, length, string_bytes, refl, sym, ap, subst}
use Rattle.std.specs.declared.alloc.Global.{Global}
use Rattle.std.specs.Prelude.{◌⊎◌, IfOk, IfErr, IsErrAnd, IsTrue, Contains}
use Rattle.audit_graph.specs.declared.fault.AuditFault.{AuditFault}
use Rattle.audit_graph.specs.declared.fault.AuditFault.TheVariants as chain
use Rattle.named_files.specs.declared.project.ProjectFault.TheVariants as project
use Rattle.session_file.specs.declared.fault.FileFault.TheVariants as file
use Rattle.session_cache.specs.Starts.{IsUnreadableCache, path_of}
use Rattle.session_cache.specs.declared.fault.CacheReadFault.{CacheReadFault}
use Rattle.session_cache.specs.declared.fault.CacheReadFault.TheVariants as cache
use Rattle.session_cache.specs.declared.place.SessionPlace.{SessionPlace}
use Rattle.commands.specs.Checks.{IsBeginning}
use Rattle.commands.specs.declared.beginning.Beginning.{Beginning}
use Rattle.command_line.specs.declared.asked.WordsFault.{WordsFault}
use Rattle.command_line.specs.declared.asked.WordsFault.TheVariants as words
use Rattle.command_line.specs.CommandLine.{Asks}
use Rattle.command_line.specs.Requests.{asks_for_help}
use Rattle.command_line.specs.declared.asked.Words.{Words}
use Rattle.command_line.specs.declared.asked.Words.TheVariants as asked
use Rattle.command_line.specs.declared.asked.AuditWords.{AuditWords}
use Rattle.session_cache.specs.Opened.{AreRead}
use Rattle.sessions.specs.Sessions.{SessionValue}
use Rattle.program_run.specs.Audits.{AuditFails, IsStopped, SourcesFail, StopsAt, file_names, source_names}
use Rattle.commands.specs.declared.auditing.AuditTexts.{AuditTexts}
use Rattle.commands.specs.declared.texts.AnswerTexts.{AnswerTexts}
use Rattle.program_run.specs.Endings.{accepted_report, answer_report, status_of_answer, status_of_failure}
use Rattle.program_run.specs.Failures.{AreUnshown, CheckFails, FailsAt, LastFails, MayFail, ShowFails, unwritten_path}
use Rattle.program_run.specs.Shows.{AreLastOfMany, LacksNamedIn, LacksRecord, index_named, of_words}
use Rattle.program_run.specs.Unread.{AreUnread, IsUnreadFile, NamesFail, cache_failure}
use Rattle.program_run.specs.Refusals.{IsFailureText}
use Rattle.program_run.specs.Runs.{IsAnswerStatus, RefusesAudit, ReportsAsked, ReportsFailure, ReportsRefusal, ReportsUnreadable, TellsHelp}
use Rattle.program_run.specs.declared.failure.Failure.{Failure}
use Rattle.program_run.specs.declared.failure.Failure.TheVariants as failure
use Rattle.program_run.specs.declared.report.Report.{Report}
use Rattle.program_run.specs.declared.report.Status.{Status}
use Rattle.program_run.specs.declared.report.Status.TheVariants as status

has_answer : (clean : Bool) (s : Status) → s ≡ status_of_answer clean → IsAnswerStatus s
has_answer true s e = inl e
has_answer false s e = inr e

-- reports on answers and accepted chains have an answer
pub answer_ends : (texts : AnswerTexts) (report : Report) → report ≡ answer_report texts → IsAnswerStatus report.status
answer_ends texts report is = has_answer texts.clean report.status (ap (λ (r : Report). r.status) is)

pub accepted_ends : (texts : AuditTexts) (report : Report) → report ≡ accepted_report texts → IsAnswerStatus report.status
accepted_ends texts report is = inl (ap (λ (r : Report). r.status) is)

-- ---- ends

-- only arguments that ask for help end clean
clean_words : (why : Failure) → status_of_failure why ≡ status.Clean → (fault : WordsFault) × (why ≡ failure.Words fault)
clean_words (failure.Words fault) e = (fault, refl)
clean_words (failure.Project project.OutOfMemory) e = absurd cc
clean_words (failure.Chain chain.OutOfMemory) e = absurd cc
clean_words (failure.SessionFile file.OutOfMemory) e = absurd cc
clean_words why e = absurd cc

-- only the refusal of a chain ends as one
refused_chain : (why : Failure) → status_of_failure why ≡ status.ChainRefused → (fault : AuditFault) × (why ≡ failure.Chain fault)
refused_chain (failure.Chain fault) e = (fault, refl)
refused_chain (failure.Words words.OutOfMemory) e = absurd cc
refused_chain (failure.Project project.OutOfMemory) e = absurd cc
refused_chain (failure.SessionFile file.OutOfMemory) e = absurd cc
refused_chain why e = absurd cc

-- a refused chain doesn't end as other refusals do
other_refusal : (fault : AuditFault) → status_of_failure (failure.Chain fault) ≢ status.Refused
other_refusal chain.OutOfMemory = λ e. absurd cc
other_refusal fault = λ e. absurd cc

-- and isn't want of memory
no_memory : (fault : AuditFault) → status_of_failure (failure.Chain fault) ≡ status.ChainRefused → fault ≢ chain.OutOfMemory
no_memory fault ends = λ out.
    let memory : status.OutOfMemory ≡ status.ChainRefused = ap (λ (f : AuditFault). status_of_failure (failure.Chain f)) (sym out) ∙ ends in
    absurd cc

no_diagnostics : (why : Failure) → status_of_failure why ≢ status.Diagnostics
no_diagnostics (failure.Words words.OutOfMemory) = λ e. absurd cc
no_diagnostics (failure.Project project.OutOfMemory) = λ e. absurd cc
no_diagnostics (failure.Chain chain.OutOfMemory) = λ e. absurd cc
no_diagnostics (failure.SessionFile file.OutOfMemory) = λ e. absurd cc
no_diagnostics why = λ e. absurd cc

-- a failure that isn't clean has no answer
pub no_answer : (why : Failure) (s : Status) → s ≡ status_of_failure why → status_of_failure why ≢ status.Clean → IsAnswerStatus s → ⊥
no_answer why s ends never (inl clean) = never (sym ends ∙ clean)
no_answer why s ends never (inr found) = no_diagnostics why (sym ends ∙ found)

-- ---- failures of one part that are those of the whole

-- what holds of a failure holds of a result that is this failure
pub told_as : {A E : Type 0} (r : Result A E) (why : E) (P : E → Type 0) → IsErrAnd r (λ e. e ≡ why) → P why → IfErr r P
told_as (Ok x) why P is p = tt
told_as (Err e) why P is p = subst P (sym is) p

-- a file that can't be read is one of these
pub one_unread : (names : List (List ℕ)) (name : List ℕ) (why : Failure) → Contains names name → IsUnreadFile name why → AreUnread names why
one_unread names name (failure.CannotRead path) has f = subst (λ (n : List ℕ). Contains names n) (sym f) has
one_unread names name failure.OutOfMemory has f = tt
one_unread names name why has f = absurd f

module _ {File : Type 0} (held : File → Option (List ℕ)) where
  pub unread_names : (names : List (List ℕ)) (why : Failure) → AreUnread names why → NamesFail held names why
  unread_names names (failure.Project fault) f = absurd f
  unread_names names why f = f

  pub names_check : (dir : List ℕ) (names : List (List ℕ)) (why : Failure) → NamesFail held names why → CheckFails held dir names why
  names_check dir names (failure.CannotRead path) f = inl f
  names_check dir names (failure.CannotWrite notes path) f = absurd f
  names_check dir names why f = f

  pub cache_check : (dir : List ℕ) (names : List (List ℕ)) (fault : CacheReadFault) → IsUnreadableCache dir fault → CheckFails held dir names (cache_failure fault)
  cache_check dir names (cache.CannotRead path) f = inr f
  cache_check dir names cache.OutOfMemory f = tt

  -- a session that has no place isn't kept, nor is one whose file isn't written
  pub no_place : (dir : List ℕ) (names : List (List ℕ)) (beginning : Beginning) (path : String Global) → IsBeginning held dir beginning → beginning.place ≡ None → string_bytes path ≡ dir
      → CheckFails held dir names (failure.CannotWrite beginning.notes path)
  no_place dir names beginning path begins none is = record { beginning = beginning; begins = begins; told = refl; unwritten = is ∙ ap (unwritten_path dir) (sym none) }

  pub not_written : (dir : List ℕ) (names : List (List ℕ)) (beginning : Beginning) (place : SessionPlace) (path : String Global) → IsBeginning held dir beginning → beginning.place ≡ Some place
      → string_bytes path ≡ path_of dir place → CheckFails held dir names (failure.CannotWrite beginning.notes path)
  not_written dir names beginning place path begins here is = record { beginning = beginning; begins = begins; told = refl; unwritten = is ∙ ap (unwritten_path dir) (sym here) }

  -- why files can't be read, or the last isn't shown, is why there is no last session
  pub unread_last : (names : List (List ℕ)) (why : Failure) → AreUnread names why → LastFails held names why
  unread_last names (failure.SessionFile fault) f = absurd f
  unread_last names why f = f

  pub unshown_last : (names files : List (List ℕ)) (why : Failure) → length files ≡ length names → AreRead held files → AreUnshown files why → LastFails held names why
  unshown_last names files (failure.SessionFile fault) many read f = record { files = files; are_many = many; read = read; refuses = f }
  unshown_last names files failure.OutOfMemory many read f = tt
  unshown_last names files why many read f = absurd f

  -- and without one nothing is shown
  pub last_show : (names : List (List ℕ)) (of : Option (String Global)) (why : Failure) → LastFails held names why → ShowFails held names of why
  last_show names of (failure.NoRecord key) f = absurd f
  last_show names of why f = f

  pub lacks_show : (names : List (List ℕ)) (of : Option (String Global)) (many : ℕ) (past : Option SessionValue) (s : SessionValue) (why : Failure)
      → many ≡ length names → AreLastOfMany held many past s → LacksNamedIn (of_words of) s why → ShowFails held names of why
  lacks_show names of many past s (failure.NoRecord key) same last f = record {
    past = past;
    session = s;
    last = subst (λ n. AreLastOfMany held n past s) same last;
    named = f.0;
    lacks = f.1;
  }
  lacks_show names of many past s failure.OutOfMemory same last f = tt
  lacks_show names of many past s why same last f = absurd f

-- the record that was named isn't found
pub lacks_named : (words : List ℕ) (s : SessionValue) (why : Failure) → LacksRecord words s why → LacksNamedIn (Some words) s why
lacks_named words s (failure.NoRecord key) f = (ap Some (sym f.0), ap (λ w. index_named w s) f.0 ∙ f.1)
lacks_named words s failure.OutOfMemory f = tt
lacks_named words s why f = absurd f

module _ {File : Type 0} (held : File → Option (List ℕ)) (before after : Option (List ℕ)) where
  -- what stops an audit is why it fails
  pub stopped : (asked : AuditWords) (why : Failure) → IsStopped held (file_names asked) asked.progress before after why → AuditFails held asked before after why
  stopped asked (failure.CannotRead path) s = inr s
  stopped asked failure.Untold s = s
  stopped asked (failure.Chain fault) s = inl s
  stopped asked failure.OutOfMemory s = tt
  stopped asked why s = absurd s

  pub no_sources : (asked : AuditWords) (why : Failure) → SourcesFail held (source_names asked) why → AuditFails held asked before after why
  no_sources asked (failure.CannotRead path) s = inl s
  no_sources asked (failure.Project fault) s = s
  no_sources asked failure.OutOfMemory s = tt
  no_sources asked why s = absurd s.1

  -- a plain audit that is refused as no chain stops at a file
  pub refused_stops : (asked : AuditWords) (names : List (List ℕ)) (why : Failure) → file_names asked ≡ names → source_names asked ≡ [] → asked.progress ≡ false
      → AuditFails held asked before after why → status_of_failure why ≡ status.Refused → StopsAt held names false before after why
  refused_stops asked names (failure.CannotRead path) same none plain f e = elim f [
    | inl s ↦ absurd (s.0 none)
    | inr s ↦ subst (λ (b : Bool). StopsAt held names b before after (failure.CannotRead path)) plain
        (subst (λ (ns : List (List ℕ)). StopsAt held ns asked.progress before after (failure.CannotRead path)) same s)
  ]
  refused_stops asked names failure.Untold same none plain f e = let h : true ≡ false = sym f ∙ plain in absurd cc
  refused_stops asked names (failure.Project fault) same none plain f e = absurd (f.0 none)
  refused_stops asked names (failure.Chain fault) same none plain f e = absurd (other_refusal fault e)
  refused_stops asked names failure.OutOfMemory same none plain f e = absurd cc
  refused_stops asked names why same none plain f e = absurd f

  no_words : (words : Words) (fault : WordsFault) → FailsAt held words before after (failure.Words fault) → ⊥
  no_words (asked.Scratch given) fault f = f
  no_words words fault f = f

  -- what is asked for doesn't end clean if it fails
  pub fails_not_clean : (words : Words) (why : Failure) → FailsAt held words before after why → status_of_failure why ≢ status.Clean
  fails_not_clean words why f = λ e.
      let is = clean_words why e in
      no_words words is.0 (subst (λ (w : Failure). FailsAt held words before after w) is.1 f)

  pub may_fail : (given : List (List ℕ)) (words : Words) → Asks given words → (why : Failure) → FailsAt held words before after why → MayFail held given before after why
  may_fail given words asks (failure.Words fault) f = absurd (no_words words fault f)
  may_fail given words asks why f = record { asked = words; asks = asks; fails = f }

  -- only an audit refuses a chain
  audit_asked : (given : List (List ℕ)) (words : Words) → Asks given words → (fault : AuditFault) → FailsAt held words before after (failure.Chain fault)
      → RefusesAudit held given before after fault
  audit_asked given (asked.Audit audit) asks fault f = record { asked = audit; asks = asks; fails = f }
  audit_asked given words asks fault f = absurd f

  -- ---- what is written

  chain_report : (given : List (List ℕ)) (fault : AuditFault) (report : Report) → report.status ≡ status_of_failure (failure.Chain fault)
      → (report.status ≢ status.Clean → string_bytes report.answer ≡ []) → MayFail held given before after (failure.Chain fault) → IsFailureText (failure.Chain fault) (string_bytes report.notes)
      → report.status ≡ status.ChainRefused → ReportsRefusal held given before after report
  chain_report given fault report ends silent may text e = record {
    fault = fault;
    named = no_memory fault (sym ends ∙ e);
    refuses = audit_asked given may.asked may.asks fault may.fails;
    line = text;
    silent = silent (λ clean. let r : status.Clean ≡ status.ChainRefused = sym clean ∙ e in absurd cc);
    ends = e;
  }

  pub reports_refusal : (given : List (List ℕ)) (why : Failure) (report : Report) → report.status ≡ status_of_failure why
      → (report.status ≢ status.Clean → string_bytes report.answer ≡ []) → MayFail held given before after why → IsFailureText why (string_bytes report.notes)
      → report.status ≡ status.ChainRefused → ReportsRefusal held given before after report
  reports_refusal given why report ends silent may text e =
      let is = refused_chain why (sym ends ∙ e) in
      chain_report given is.0 report (ends ∙ ap status_of_failure is.1) silent (subst (λ (w : Failure). MayFail held given before after w) is.1 may)
      (subst (λ (w : Failure). IsFailureText w (string_bytes report.notes)) is.1 text) e

  -- why a refused run fails stands on standard error
  pub reports_failure : (given : List (List ℕ)) (why : Failure) (report : Report) → report.status ≡ status_of_failure why
      → (report.status ≢ status.Clean → string_bytes report.answer ≡ []) → MayFail held given before after why → IsFailureText why (string_bytes report.notes)
      → report.status ≡ status.Refused → ReportsFailure held given before after report
  reports_failure given why report ends silent may text e = record {
    why = why;
    named = sym ends ∙ e;
    fails = may;
    notes = text;
    silent = silent (λ clean. let r : status.Clean ≡ status.Refused = sym clean ∙ e in absurd cc);
  }

  -- ---- help

  help_asked : (given : List (List ℕ)) (fault : WordsFault) → status_of_failure (failure.Words fault) ≡ status.Clean → MayFail held given before after (failure.Words fault)
      → IsTrue (asks_for_help given) × (before ≡ after)
  help_asked given (words.Help text) e may = (may.1, may.2)
  help_asked given (words.Refused text) e may = absurd cc
  help_asked given words.OutOfMemory e may = absurd cc

  tells_help : (given : List (List ℕ)) (why : Failure) (report : Report) → report.status ≡ status_of_failure why → MayFail held given before after why
      → string_bytes report.notes ≡ [] → report.status ≡ status.Clean → TellsHelp given before after report
  tells_help given why report ends may notes clean =
      let is = clean_words why (sym ends ∙ clean) in
      let told = help_asked given is.0 (sym (ends ∙ ap status_of_failure is.1) ∙ clean) (subst (λ (w : Failure). MayFail held given before after w) is.1 may) in
      record { asked = told.0; said = told.1; notes = notes; ends = clean }

  -- what ends with an answer though it fails is help
  pub help_report : {E : Type 0} (given : List (List ℕ)) (why : Failure) (r : Result Report E) → IfOk r (λ report. report.status ≡ status_of_failure why)
      → IfOk r (λ report. IsAnswerStatus report.status → (string_bytes report.notes ≡ []) × (report.status ≡ status.Clean)) → MayFail held given before after why
      → IfOk r (λ report. IsAnswerStatus report.status → ReportsAsked held given before after report ⊎ TellsHelp given before after report)
  help_report given why (Ok report) ends help may = λ answers. inr (tells_help given why report ends may (help answers).0 (help answers).1)
  help_report given why (Err e) ends help may = tt

  reports_unreadable : (names : List (List ℕ)) (why : Failure) (report : Report) → report.status ≡ status_of_failure why
      → (report.status ≢ status.Clean → string_bytes report.answer ≡ [])
      → (status_of_failure why ≡ status.Refused → StopsAt held names false before after why)
      → IsFailureText why (string_bytes report.notes) → report.status ≡ status.Refused → ReportsUnreadable held names before after report
  reports_unreadable names (failure.CannotRead path) report ends silent stops text e = record {
    path = path;
    stops = stops refl;
    line = text;
    silent = silent (λ clean. let r : status.Clean ≡ status.Refused = sym clean ∙ e in absurd cc);
  }
  reports_unreadable names (failure.Chain fault) report ends silent stops text e = absurd (other_refusal fault (sym ends ∙ e))
  reports_unreadable names failure.OutOfMemory report ends silent stops text e = let r : status.OutOfMemory ≡ status.Refused = sym ends ∙ e in absurd cc
  reports_unreadable names why report ends silent stops text e = absurd (stops (sym ends ∙ e)).fails

  pub unreadable_report : {E : Type 0} (names : List (List ℕ)) (why : Failure) (r : Result Report E) → IfOk r (λ report. report.status ≡ status_of_failure why)
      → IfOk r (λ report. report.status ≢ status.Clean → string_bytes report.answer ≡ []) → IfOk r (λ report. IsFailureText why (string_bytes report.notes))
      → (status_of_failure why ≡ status.Refused → StopsAt held names false before after why)
      → IfOk r (λ report. report.status ≡ status.Refused → ReportsUnreadable held names before after report)
  unreadable_report names why (Ok report) ends silent text stops = reports_unreadable names why report ends silent stops text
  unreadable_report names why (Err e) ends silent text stops = tt
