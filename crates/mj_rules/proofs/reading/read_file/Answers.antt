use Rattle.mj_rules.proofs.SentenceLaws.{tree_read}
use Rattle.mj_rules.proofs.LowerLaws.{grammar}
use Rattle.mj_rules.proofs.reading.read_file.Goals as goal

pub returns : goal.returns
returns c = tree_read grammar c.args.bytes.now c.in_ok-file.file c.in_ok-file.ensures
