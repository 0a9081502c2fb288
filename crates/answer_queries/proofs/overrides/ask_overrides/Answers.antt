use Rattle.std.proofs.Common.{Option, IfOk, IfErr, sym, ap, subst}
use Rattle.std.specs.Option.{option_copied}
use Rattle.mj_tree.specs.Trees.{Name}
use Rattle.recorder.specs.Programs.{Goes, GivesUp}
use Rattle.answer_queries.specs.CheckClass.{override_step}
use Rattle.answer_queries.proofs.overrides.ask_overrides.Goals as goal

pub returns-in-Some-clause-ok : goal.returns-in-Some-clause-ok
returns-in-Some-clause-ok g c =
    subst (λ (o : Option Name). IfOk c.compare_classes.result (λ flags. Goes (override_step c.args.profile c.args.class.now c.args.methods.now o) c.args.recorder.now flags.items c.compare_classes.new.recorder)) (sym (ap option_copied c.in-Some.is)) c.compare_classes.ensures.ok

pub returns-in-Some-clause-err : goal.returns-in-Some-clause-err
returns-in-Some-clause-err g c =
    subst (λ (o : Option Name). IfErr c.compare_classes.result (λ e. GivesUp (override_step c.args.profile c.args.class.now c.args.methods.now o) c.args.recorder.now e c.compare_classes.new.recorder)) (sym (ap option_copied c.in-Some.is)) c.compare_classes.ensures.err
