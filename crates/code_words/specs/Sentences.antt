-- A sentence for each code of a diagnostic.
use Rattle.std.specs.Prelude.{ℕ, List}
use Rattle.mj_answer.specs.declared.code.Code.{Code}
use Rattle.mj_answer.specs.declared.code.Code.TheVariants as words
use Rattle.code_words.specs.declared.diagnostics.TheConstants.{E101, E102, E103, E104, E201, E202, E203, E204, E205, E206, E207, E301, E302, E303, E304, E305, E306, E307, E308, E309, E310, E311, E312, E313, E314, E315, E316, E317, E318, E319}

-- the sentence of a diagnostic's code
abbrev pub sentence_of : Code → List ℕ
sentence_of words.E101 = E101.now
sentence_of words.E102 = E102.now
sentence_of words.E103 = E103.now
sentence_of words.E104 = E104.now
sentence_of words.E201 = E201.now
sentence_of words.E202 = E202.now
sentence_of words.E203 = E203.now
sentence_of words.E204 = E204.now
sentence_of words.E205 = E205.now
sentence_of words.E206 = E206.now
sentence_of words.E207 = E207.now
sentence_of words.E301 = E301.now
sentence_of words.E302 = E302.now
sentence_of words.E303 = E303.now
sentence_of words.E304 = E304.now
sentence_of words.E305 = E305.now
sentence_of words.E306 = E306.now
sentence_of words.E307 = E307.now
sentence_of words.E308 = E308.now
sentence_of words.E309 = E309.now
sentence_of words.E310 = E310.now
sentence_of words.E311 = E311.now
sentence_of words.E312 = E312.now
sentence_of words.E313 = E313.now
sentence_of words.E314 = E314.now
sentence_of words.E315 = E315.now
sentence_of words.E316 = E316.now
sentence_of words.E317 = E317.now
sentence_of words.E318 = E318.now
sentence_of words.E319 = E319.now
