use Rattle.answer_queries.proofs.Kept.{classes_ascend}
use Rattle.answer_queries.proofs.answer.ask_classes.Goals as goal

pub whole_answer-requires-clause-ascending : goal.whole_answer-requires-clause-ascending
whole_answer-requires-clause-ascending g c = classes_ascend c.in_ok-classes.classes.items c.index.result.now c.in_ok-classes.ensures.named c.index.ensures.ascending
