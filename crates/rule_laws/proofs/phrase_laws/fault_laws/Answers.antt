use Rattle.rule_laws.proofs.Phrases.{at_fault, fault_at}
use Rattle.rule_laws.proofs.Bodies.{method_law, main_law}
use Rattle.rule_laws.proofs.phrase_laws.fault_laws.Goals as goal

pub returns : goal.returns
returns c = record {
  phrase = λ w s p x. (λ h. at_fault w s p x h, λ h. fault_at w s p x h);
  method = method_law;
  main = main_law;
}
