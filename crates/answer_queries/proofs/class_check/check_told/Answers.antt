use Rattle.std.proofs.Common.{Option, IfOk, IfErr, sym, ap, subst}
use Rattle.std.specs.Option.{option_copied}
use Rattle.result_bytes.specs.Payloads.{HeaderValue}
use Rattle.recorder.specs.Programs.{Goes, GivesUp}
use Rattle.answer_queries.specs.CheckClass.{check_class_by}
use Rattle.answer_queries.proofs.class_check.check_told.Goals as goal

pub returns-in-Some-clause-ok : goal.returns-in-Some-clause-ok
returns-in-Some-clause-ok g c =
    subst (λ (o : Option HeaderValue). IfOk c.check_header.result (λ v. Goes (check_class_by c.args.profile c.args.class.now o) c.args.recorder.now v c.check_header.new.recorder)) (sym (ap option_copied c.in-Some.is)) c.check_header.ensures.ok

pub returns-in-Some-clause-err : goal.returns-in-Some-clause-err
returns-in-Some-clause-err g c =
    subst (λ (o : Option HeaderValue). IfErr c.check_header.result (λ e. GivesUp (check_class_by c.args.profile c.args.class.now o) c.args.recorder.now e c.check_header.new.recorder)) (sym (ap option_copied c.in-Some.is)) c.check_header.ensures.err
