use Rattle.mj_phrases.specs.Table.{main_phrases}
use Rattle.mj_phrases.proofs.Agree.{each_exact}
use Rattle.mj_typing.proofs.Checks.{method_concludes, main_concludes}
use Rattle.mj_typing.proofs.Mistakes.{method_listed, method_there}
use Rattle.mj_typing.proofs.laws.body_laws.Goals as goal

pub returns : goal.returns
returns c = record {
  method = λ w class m fit x. (λ h. method_listed w class m fit x h, λ h. method_there w class m fit x h);
  main = λ w m x. each_exact w (main_phrases m) x;
  method_checked = method_concludes;
  main_checked = main_concludes;
}
