use Rattle.std.proofs.Common.{sym, subst, take}
use Rattle.answer_bytes.specs.Storable.{AreClassFaults}
use Rattle.body_query.proofs.Sets.{in_class}
use Rattle.body_query.proofs.faults.faults_of_mistakes.Goals as goal

pub returns-clause-places : goal.returns-clause-places
returns-clause-places c = subst AreClassFaults (sym c.loop-mistake.invariant) (in_class c.args.method.now (take c.loop-mistake.mistake-index c.args.mistakes.now))
