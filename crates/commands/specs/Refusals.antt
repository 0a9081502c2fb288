-- Why files are no project, in words.
use Rattle.std.specs.Prelude.{ℕ, List, ◌++◌, codes, decimal}
use Rattle.mj_rules.specs.AnswerWords.{ProjectFault, RepeatedFile, NoFiles, TooManyFiles, BadFileName, OutOfMemory}

-- out of memory has no text
abbrev pub refusal_words : ProjectFault → List ℕ
refusal_words (RepeatedFile file) =
    codes "refused: 3.1 RepeatedFile(" ++ decimal file ++ codes ")\n"
refusal_words NoFiles = codes "refused: 3.2 NoFiles\n"
refusal_words TooManyFiles = codes "refused: 3.3 TooManyFiles\n"
refusal_words (BadFileName file) = codes "refused: 3.4 BadFileName(" ++ decimal file ++ codes ")\n"
refusal_words OutOfMemory = codes ""

-- refused: 14.2 File(1, 11.9 Trailing)
abbrev pub refused_line : List ℕ → List ℕ
refused_line words = codes "refused: " ++ words ++ codes "\n"
