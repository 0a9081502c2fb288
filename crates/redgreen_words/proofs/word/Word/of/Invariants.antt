use Rattle.std.proofs.Common.{◌≢◌, ℕ, ◌<◌, get_or}
use Rattle.redgreen_words.specs.Words.{spell}
use Rattle.redgreen_words.specs.declared.word.Word.TheVariants.{Stop}
use Rattle.redgreen_words.proofs.word.Word.of.Given as goal

abbrev pub invariant-loop-word : goal.invariant-loop-word
invariant-loop-word l = (k : ℕ) → k < l.word-index → l.bytes ≢ spell (get_or l.word-items k Stop)
