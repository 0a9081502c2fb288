use Rattle.mj_lexer.proofs.Longest.{front_stands}
use Rattle.mj_lexer.proofs.Only.{one_front}
use Rattle.mj_lexer.proofs.laws.front_laws.Goals as goal

pub returns : goal.returns
returns c = record {
  stands = front_stands c.args.text.now;
  only = λ front is. one_front c.args.text.now front _ is (front_stands c.args.text.now);
}
