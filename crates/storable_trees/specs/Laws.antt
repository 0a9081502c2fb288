-- The tree of a text can be stored.
use Rattle.std.specs.Prelude.{ℕ, List}
use Rattle.mj_lexer.specs.declared.token.Token.{Token}
use Rattle.mj_lexer.specs.Lexes.{Lexes}
use Rattle.mj_tree.specs.Trees.{File}
use Rattle.mj_parser.specs.Declarations.{Derives}
use Rattle.tree_spelling.specs.Storable.{FileFits}

abbrev pub StorableLaw : Type 0
StorableLaw =
    (text : List ℕ) (tokens : List Token) (tree : File) → Lexes text tokens → Derives tokens tree
    → FileFits tree
