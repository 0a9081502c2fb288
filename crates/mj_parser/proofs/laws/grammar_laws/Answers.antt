use Rattle.mj_parser.proofs.FileFound.{file_found}
use Rattle.mj_parser.proofs.FileAgain.{file_again}
use Rattle.mj_expressions.proofs.Stands.{stands_law}
use Rattle.mj_parser.proofs.laws.grammar_laws.Goals as goal

pub returns : goal.returns
returns c = record { grammar = λ ts f. (file_again ts f, file_found ts f); stands = stands_law }
