use Rattle.mj_lexer.proofs.Lexings.{Lexes-tokens_of, Breaks-lex_fault_of, tokens_or_fault}
use Rattle.mj_lexer.proofs.laws.lexing_laws.Goals as goal

pub returns : goal.returns
returns c = record {
  tokens = Lexes-tokens_of c.args.text.now;
  fault = Breaks-lex_fault_of c.args.text.now;
  one = tokens_or_fault _;
}
