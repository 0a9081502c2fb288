-- What is said of files that can't be unpacked.
use Rattle.std.specs.Prelude.{ℕ, List, ◌++◌, codes, decimal}
use Rattle.packed_files.specs.declared.flaws.Flaw.{Flaw}
use Rattle.packed_files.specs.declared.flaws.Flaw.TheVariants as flaws

abbrev pub flaw_words : Flaw → List ℕ
flaw_words flaws.NameLength = codes "the length of its name is cut off"
flaw_words flaws.Name = codes "its name is cut off"
flaw_words flaws.NotText = codes "its name isn't UTF-8"
flaw_words flaws.Length = codes "its length is cut off"
flaw_words flaws.Bytes = codes "its bytes are cut off"

-- refused: file 2: its name is cut off
abbrev pub flaw_line : ℕ → Flaw → List ℕ
flaw_line number flaw =
    codes "refused: file " ++ decimal number ++ codes ": " ++ flaw_words flaw ++ codes "\n"
