use Rattle.answer_queries.proofs.ClassBounds as bounds
use Rattle.answer_queries.proofs.laws.class_bounds.Goals as goal

pub returns : goal.returns
returns c = bounds.class_bounds
