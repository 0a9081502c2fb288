use Rattle.mj_lexer.proofs.Names.{word_is_ascii}
use Rattle.mj_lexer.proofs.front.read_front.Goals as goal

pub word_kind-requires-clause-ascii : goal.word_kind-requires-clause-ascii
word_kind-requires-clause-ascii c = rw c.name_len-n.ensures.value (word_is_ascii c.args.text.now)
