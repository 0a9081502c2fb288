use Rattle.mj_classes.proofs.Acceptance.{accepted_by_itself, accepted_along, accepted_in_a_cycle}
use Rattle.mj_classes.proofs.laws.acceptance_laws.Goals as goal

pub returns : goal.returns
returns c = record {
  reflexive = λ cs t. accepted_by_itself cs t;
  transitive = λ cs t u v. accepted_along cs t u v;
  antisymmetric = λ cs t u. accepted_in_a_cycle cs t u;
}
