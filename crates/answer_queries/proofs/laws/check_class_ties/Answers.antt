use Rattle.answer_queries.proofs.CheckClassTie as tie
use Rattle.answer_queries.proofs.laws.check_class_ties.Goals as goal

pub returns : goal.returns
returns c = tie.check_class_ties
