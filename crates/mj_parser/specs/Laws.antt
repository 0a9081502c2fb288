-- Laws of the grammar.
use Rattle.std.specs.Prelude.{◌≡◌, ◌↔◌, List, length, Some}
use Rattle.mj_lexer.specs.declared.token.Token.{Token}
use Rattle.mj_tree.specs.Trees.{File}
use Rattle.mj_parser.specs.Declarations.{Derives}
use Rattle.mj_parser.specs.FileReading.{tree_of}
use Rattle.mj_parser.specs.MarkBounds.{FileMarksBelow}

-- Tokens are those of a file exactly if reading finds the file, so they are those of one file at
-- most.
abbrev pub GrammarLaws : Type 0
GrammarLaws = (ts : List Token) (f : File) → Derives ts f ↔ (tree_of ts ≡ Some f)

-- Every mark of a file's tree is less than the number of its tokens.
abbrev pub MarkLaws : Type 0
MarkLaws = (ts : List Token) (f : File) → Derives ts f → FileMarksBelow (length ts) f
