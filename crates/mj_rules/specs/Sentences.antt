-- The files that are sentences, and the classes that they declare.
use Rattle.std.specs.Prelude.{ℕ, List, map, Option, option_and_then}
use Rattle.mj_lexer.specs.declared.token.Token.{Token}
use Rattle.mj_lexer.specs.Lexes.{Lexes}
use Rattle.mj_lexer.specs.Lexing.{tokens_of}
use Rattle.mj_tree.specs.Trees.{File}
use Rattle.mj_parser.specs.Declarations.{Derives}
use Rattle.mj_parser.specs.FileReading.{tree_of}
use Rattle.mj_members.specs.Declarations.{ClassDecl}
use Rattle.mj_classes.specs.Declarations.{declarations}
use Rattle.named_files.specs.Projects.{SourceFile}

-- The bytes are cut into tokens, and the grammar derives these.
pub record IsSentence (bytes : List ℕ) (tree : File) : Type 0 where
  pub tokens : List Token
  pub lexed : Lexes bytes tokens
  pub derived : Derives tokens tree

-- the tree of the bytes, if they are a sentence
unfoldable pub file_of : List ℕ → Option File
file_of bytes = option_and_then tree_of (tokens_of bytes)

abbrev pub trees_of : List SourceFile → List (Option File)
trees_of files = map (λ f. file_of f.bytes) files

-- all classes of a project, in file order and within a file in order
abbrev pub classes_in : List SourceFile → List ClassDecl
classes_in files = declarations (trees_of files)
