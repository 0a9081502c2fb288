use Rattle.std.proofs.Common.{refl, sym, subst}
use Rattle.recorder.specs.Programs.{Performs}
use Rattle.recorder.proofs.Rules.{run_performed}
use Rattle.query_rules.specs.Meaning.{mean}
use Rattle.query_rules.specs.Reads.{reads}
use Rattle.body_query.specs.Body.{body_steps, body_prog}
use Rattle.body_query.proofs.Ties.{body_tied}
use Rattle.body_query.proofs.query.check_body.Goals as goal

pub returns-clause-performs : goal.returns-clause-performs
returns-clause-performs g c = subst (λ q. Performs (body_prog q) c.args.recorder.now c.check_body_steps.result c.check_body_steps.new.recorder) (sym c.in-CheckBody.is) (record {
  unread = c.requires.unread;
  unrefused = c.requires.unrefused;
  step = body_steps c.in-CheckBody.class c.in-CheckBody.method;
  whole = refl;
  ok = c.check_body_steps.ensures.ok;
  err = c.check_body_steps.ensures.err;
})

pub returns-clause-run : goal.returns-clause-run
returns-clause-run g c = λ profile. run_performed (mean profile) (reads profile) c.args.key.now (body_prog c.args.key.now) (body_tied c.args.key.now c.requires.kind profile) c.args.recorder.now c.check_body_steps.new.recorder c.check_body_steps.result (returns-clause-performs g c)
