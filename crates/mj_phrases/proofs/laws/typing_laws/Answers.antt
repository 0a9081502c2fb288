use Rattle.mj_phrases.proofs.Agree.{typed, has, one_type, each_exact}
use Rattle.mj_phrases.proofs.laws.typing_laws.Goals as goal

pub returns : goal.returns
returns c = record {
  types = λ w p t. (λ h. typed w p t h, λ h. has w p t h);
  unique = one_type;
  faults = each_exact;
}
