use Rattle.mj_rules.proofs.SentenceLaws.{tree_read}
use Rattle.mj_rules.proofs.LowerLaws.{grammar}
use Rattle.diagnostic_lines.proofs.sources.read_source.Goals as goal

pub returns-clause-tree : goal.returns-clause-tree
returns-clause-tree c = rw (← c.deref.ensures.value) (tree_read grammar c.deref.result.now c.in_ok-found.found c.in_ok-found.ensures)
