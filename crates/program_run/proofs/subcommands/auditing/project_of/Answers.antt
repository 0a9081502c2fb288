use Rattle.std.proofs.Common.{◌∙◌, ap, map, string_bytes, subst, sym}
use Rattle.named_files.specs.Projects.{names_of, sources_view}
use Rattle.program_run.specs.Audits.{SourcesFail}
use Rattle.program_run.specs.declared.failure.Failure.TheVariants as failure
use Rattle.program_run.proofs.Failures.{told_as}
use Rattle.program_run.proofs.Runs.{names_of_sources}
use Rattle.program_run.proofs.Sources.{project_named, read_sources, some_items, some_names}
use Rattle.program_run.specs.Unread.{AreReadSources}
use Rattle.program_run.proofs.subcommands.auditing.project_of.Goals as goal

pub returns-in_err-new-clause-failed : goal.returns-in_err-new-clause-failed
returns-in_err-new-clause-failed g c = told_as c.from_residual-in_err-new.result (failure.Project c.in_err-new.field-0.0)
    (SourcesFail g.R.File.Read.remaining (map string_bytes c.args.names.items)) c.from_residual-in_err-new.ensures.1 (
      some_names string_bytes c.args.names.items (some_items _ c.args.names.items (sym c.is_empty.ensures ∙ c.if-is_empty.false) c.args.names.ok.0),
      record {
        files = sources_view c.in_ok-read_files.field-0.items;
        named = names_of_sources _ ∙ c.in_ok-read_files.ensures.named;
        read = read_sources g.R.File.Read.remaining _ c.in_ok-read_files.ensures.read;
        refused = c.in_err-new.ensures.refused;
      },
    )

pub returns-clause-named : goal.returns-clause-named
returns-clause-named g c =
    project_named g.R.File.Read.remaining (map string_bytes c.args.names.items) c.in_ok-new.field-0 (some_names string_bytes c.args.names.items (some_items _ c.args.names.items (sym c.is_empty.ensures ∙ c.if-is_empty.false) c.args.names.ok.0))
    (ap names_of c.in_ok-new.ensures.accepted ∙ names_of_sources _ ∙ c.in_ok-read_files.ensures.named)
    (subst (AreReadSources g.R.File.Read.remaining) (sym c.in_ok-new.ensures.accepted) (read_sources g.R.File.Read.remaining _ c.in_ok-read_files.ensures.read))
