use Rattle.mj_parser.proofs.Whole.{found_of, only_of}
use Rattle.mj_parser.proofs.parser.parse.Goals as goal

pub returns-clause-found : goal.returns-clause-found
returns-clause-found c = found_of c.args.tokens.now c.file.result c.file.ensures

pub returns-clause-only : goal.returns-clause-only
returns-clause-only c = only_of c.args.tokens.now c.file.result c.file.ensures
