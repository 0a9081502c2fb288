use Rattle.mj_classes.proofs.Climb.{chain_of_is, is_chain_of, has_chain, has_none}
use Rattle.mj_classes.proofs.laws.chain_laws.Goals as goal

pub returns : goal.returns
returns c = record {
  given = λ cs c chain end. (λ h. chain_of_is cs c chain end h, λ h. is_chain_of cs c chain end h);
  declared = λ cs c k e. has_chain cs c k e;
  undeclared = λ cs c e. has_none cs c e;
}
