use Rattle.std.proofs.Common.{refl}
use Rattle.named_files.specs.Projects.{names_of}
use Rattle.program_run.specs.Failures.{CheckFails}
use Rattle.program_run.specs.Unread.{cache_failure}
use Rattle.program_run.proofs.Failures.{cache_check, no_place, not_written, told_as}
use Rattle.program_run.proofs.subcommands.checking.check_project.Goals as goal

pub returns-clause-reports : goal.returns-clause-reports
returns-clause-reports g c = record {
  files = c.args.project.now;
  named = refl;
  read = c.requires.read;
  beginning = c.in_ok-past.field-0;
  begins = c.in_ok-past.ensures.begins;
  past_read = c.in_ok-past.ensures.read;
  session = c.in_ok-session.session;
  next = c.in_ok-session.ensures.made;
  tells = record {
    texts = c.in_ok-texts.texts;
    tells = rw c.as_str.ensures.value at c.in_ok-texts.ensures;
    report_is = c.on_answer.ensures;
  };
}

pub returns-in_err-past-clause-failed : goal.returns-in_err-past-clause-failed
returns-in_err-past-clause-failed g c = told_as c.from_residual.result (cache_failure c.in_err-past.field-0.0)
    (CheckFails g.R.File.Read.remaining c.args.cache.now (names_of c.args.project.now)) c.from_residual.ensures.1
    (cache_check g.R.File.Read.remaining c.args.cache.now (names_of c.args.project.now) c.in_err-past.field-0.0 c.in_err-past.ensures.unread)

pub returns-in_default-clause-failed : goal.returns-in_default-clause-failed
returns-in_default-clause-failed g c =
    no_place g.R.File.Read.remaining c.args.cache.now (names_of c.args.project.now) c.in_ok-past.field-0 c.in_ok-from_str.field-0 c.in_ok-past.ensures.begins
    (let place = c.in_ok-past.place-is in let none = c.in_default.is in cc) c.in_ok-from_str.ensures.ok

pub returns-in-Err-CannotWrite-clause-failed : goal.returns-in-Err-CannotWrite-clause-failed
returns-in-Err-CannotWrite-clause-failed g c =
    not_written g.R.File.Read.remaining c.args.cache.now (names_of c.args.project.now) c.in_ok-past.field-0 c.in-Some.place c.in-Err-CannotWrite.path c.in_ok-past.ensures.begins
    (let place = c.in_ok-past.place-is in let some = c.in-Some.is in cc) (rw c.in-Err-CannotWrite.field-0-is at c.in-Err-CannotWrite.ensures)
