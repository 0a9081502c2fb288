-- The laws of bodies, of the crate below.
use Rattle.mj_phrases.specs.Table.{main_phrases}
use Rattle.mj_phrases.proofs.Agree.{each_exact}
use Rattle.mj_typing.proofs.Mistakes.{method_listed, method_there}
use Rattle.mj_rules.specs.Laws.{BodyFaultLaws}

pub body_laws : BodyFaultLaws
body_laws = record {
  method = λ w class m fit x. (λ h. method_there w class m fit x h, λ h. method_listed w class m fit x h);
  main = λ w m x. ((each_exact w (main_phrases m) x).1, (each_exact w (main_phrases m) x).0);
}
