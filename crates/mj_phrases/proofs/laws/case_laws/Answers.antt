use Rattle.mj_phrases.proofs.ByCases.{accepted_from, from_accepted, by_cases, from_cases}
use Rattle.mj_phrases.proofs.Faultless.{method_well, well_method, main_well, well_main}
use Rattle.mj_phrases.proofs.laws.case_laws.Goals as goal

pub returns : goal.returns
returns c = record {
  accepted = λ w t u. (λ h. accepted_from w t u h, λ h. from_accepted w t u h);
  expression = λ w s e t. (λ h. by_cases w s e t h, λ h. from_cases w s e t h);
  method = λ w class m. (λ h. method_well w class m h, λ h. well_method w class m h);
  main = λ w m. (λ h. main_well w m h, λ h. well_main w m h);
}
