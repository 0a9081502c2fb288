use Rattle.std.proofs.Common.{◌∙◌, ap, map, string_bytes, subst, sym}
use Rattle.std.proofs.lemmas.Result.{IfOk-weaker}
use Rattle.named_files.specs.Projects.{names_of, sources_view}
use Rattle.program_run.specs.Failures.{CheckFails}
use Rattle.program_run.specs.declared.failure.Failure.TheVariants as failure
use Rattle.program_run.proofs.Failures.{told_as}
use Rattle.program_run.proofs.Runs.{names_of_sources}
use Rattle.program_run.proofs.Sources.{read_sources}
use Rattle.program_run.specs.Unread.{AreReadSources}
use Rattle.program_run.proofs.subcommands.checking.check.Goals as goal

pub returns-clause-reports : goal.returns-clause-reports
returns-clause-reports g c =
    let named = ap names_of c.in_ok-project.ensures.accepted ∙ names_of_sources _ ∙ c.in_ok-read_files.ensures.named in
    IfOk-weaker c.check_project.result _ _
    (λ report checks. record {
      terms = record { profile = c.profile_of.result; form = c.form_of.result };
      profile = c.profile_of.ensures;
      form = c.form_of.ensures;
      checks = rw named at (rw c.as_str.ensures.value at checks);
    }) c.check_project.ensures.reports

pub returns-clause-failed : goal.returns-clause-failed
returns-clause-failed g c =
    let named = ap names_of c.in_ok-project.ensures.accepted ∙ names_of_sources _ ∙ c.in_ok-read_files.ensures.named in
    rw named at (rw c.as_str.ensures.value at c.check_project.ensures.failed)

pub returns-in_err-project-clause-failed : goal.returns-in_err-project-clause-failed
returns-in_err-project-clause-failed g c = told_as c.from_residual-in_err-project.result (failure.Project c.in_err-project.field-0.0)
    (CheckFails g.R.File.Read.remaining (string_bytes c.args.asked.cache) (map string_bytes c.args.asked.files.items)) c.from_residual-in_err-project.ensures.1
    (record {
      files = sources_view c.in_ok-read_files.field-0.items;
      named = names_of_sources _ ∙ c.in_ok-read_files.ensures.named;
      read = read_sources g.R.File.Read.remaining _ c.in_ok-read_files.ensures.read;
      refused = c.in_err-project.ensures.refused;
    })

pub check_project-requires-clause-read : goal.check_project-requires-clause-read
check_project-requires-clause-read g c = λ lives outlive.
    subst (AreReadSources g.R.File.Read.remaining) (sym c.in_ok-project.ensures.accepted) (read_sources g.R.File.Read.remaining _ c.in_ok-read_files.ensures.read)
