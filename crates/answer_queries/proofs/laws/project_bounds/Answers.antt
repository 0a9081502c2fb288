use Rattle.answer_queries.proofs.ProjectBounds as bounds
use Rattle.answer_queries.proofs.laws.project_bounds.Goals as goal

pub returns : goal.returns
returns c = bounds.project_bounds
