use Rattle.answer_queries.proofs.AnswerTie as tie
use Rattle.answer_queries.proofs.laws.answer_ties.Goals as goal

pub returns : goal.returns
returns c = tie.answer_ties
