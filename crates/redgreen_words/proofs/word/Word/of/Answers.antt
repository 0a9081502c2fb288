use Rattle.std.proofs.Common.{◌≢◌, arith}
use Rattle.redgreen_words.specs.declared.word.Word.{Word}
use Rattle.redgreen_words.specs.Words.{spell}
use Rattle.redgreen_words.proofs.Spelled.{each_word}
use Rattle.redgreen_words.proofs.word.Word.of.Goals as goal

pub returns : goal.returns
returns c = each_word (λ (word : Word). c.args.bytes.now ≢ spell word)
    (c.loop-word.invariant 0 (omega arith))
    (c.loop-word.invariant 1 (omega arith))
    (c.loop-word.invariant 2 (omega arith))
    (c.loop-word.invariant 3 (omega arith))
    (c.loop-word.invariant 4 (omega arith))
    (c.loop-word.invariant 5 (omega arith))
    (c.loop-word.invariant 6 (omega arith))
    (c.loop-word.invariant 7 (omega arith))
    (c.loop-word.invariant 8 (omega arith))
    (c.loop-word.invariant 9 (omega arith))
    (c.loop-word.invariant 10 (omega arith))
    (c.loop-word.invariant 11 (omega arith))
