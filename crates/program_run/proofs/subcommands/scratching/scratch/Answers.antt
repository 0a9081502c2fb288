use Rattle.std.proofs.Common.{◌∙◌, ap, map, string_bytes, subst, sym}
use Rattle.named_files.specs.Projects.{names_of, sources_view}
use Rattle.program_run.specs.Unread.{AreReadSources, NamesFail}
use Rattle.program_run.specs.declared.failure.Failure.TheVariants as failure
use Rattle.program_run.proofs.Failures.{told_as}
use Rattle.program_run.proofs.Runs.{names_of_sources}
use Rattle.program_run.proofs.Sources.{read_sources}
use Rattle.program_run.proofs.subcommands.scratching.scratch.Goals as goal

pub returns-clause-reports : goal.returns-clause-reports
returns-clause-reports g c = record {
  profile = c.profile_of.result;
  numbered = c.profile_of.ensures;
  files = c.in_ok-project.project;
  named = ap names_of c.in_ok-project.ensures.accepted ∙ names_of_sources _ ∙ c.in_ok-read_files.ensures.named;
  read = subst (AreReadSources g.R.File.Read.remaining) (sym c.in_ok-project.ensures.accepted) (read_sources g.R.File.Read.remaining _ c.in_ok-read_files.ensures.read);
  texts = c.in_ok-texts.texts;
  tells = c.in_ok-texts.ensures;
  report_is = c.on_answer.ensures;
}

pub returns-in_err-project-clause-failed : goal.returns-in_err-project-clause-failed
returns-in_err-project-clause-failed g c = told_as c.from_residual-in_err-project.result (failure.Project c.in_err-project.field-0.0)
    (NamesFail g.R.File.Read.remaining (map string_bytes c.args.asked.files.items)) c.from_residual-in_err-project.ensures.1
    (record {
      files = sources_view c.in_ok-read_files.field-0.items;
      named = names_of_sources _ ∙ c.in_ok-read_files.ensures.named;
      read = read_sources g.R.File.Read.remaining _ c.in_ok-read_files.ensures.read;
      refused = c.in_err-project.ensures.refused;
    })
