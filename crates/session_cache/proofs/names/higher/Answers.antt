use Rattle.session_cache.proofs.NameRules.{raised}
use Rattle.session_cache.proofs.names.higher.Goals as goal

pub returns-in-Some : goal.returns-in-Some
returns-in-Some c = λ front h. raised c.args.what c.args.highest c.args.name.now c.in-Some.number c.greater.result c.in-Some.ensures c.greater.ensures.number c.greater.ensures.highest c.greater.ensures.either front h
