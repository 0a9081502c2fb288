-- What reading a file's bytes finds.
use Rattle.std.specs.Prelude.{◌≡◌, ◌⊎◌, ℕ, List, [], length, Option, Some, None, option_map, Ok, Err, slice_get, unwrap_or}
use Rattle.mj_lexer.specs.declared.token.Token.{Token}
use Rattle.mj_lexer.specs.declared.lexer.LexFault.{LexFault}
use Rattle.mj_lexer.specs.declared.lexer.LexFault.TheVariants.{BadByte, OpenComment, NameTooLong, FileTooLong, OutOfMemory}
use Rattle.mj_lexer.specs.Lexing.{lexing_of, tokens_of}
use Rattle.mj_tree.specs.Trees.{File}
use Rattle.mj_tree.specs.Views.{file_view}
use Rattle.mj_tree.specs.declared.tree.FileTree.{FileTree}
use Rattle.mj_parser.specs.Declarations.{Derives}
use Rattle.file_index.specs.declared.reading.ReadFile.{ReadFile}

-- where a text can't be cut into tokens
abbrev pub lexing_stop : LexFault → Option ℕ
lexing_stop (BadByte at) = Some at
lexing_stop (OpenComment at) = Some at
lexing_stop (NameTooLong at) = Some at
lexing_stop FileTooLong = None
lexing_stop OutOfMemory = None

-- where the token with this number begins, or the text ends
abbrev pub token_start : List Token → ℕ → ℕ → ℕ
token_start ts end number = unwrap_or (option_map (λ t. t.start) (slice_get ts number)) end

-- A syntax error is at a token or at the end of the text, or has no place.
abbrev pub IsTokenStop : List Token → ℕ → Option ℕ → Type 0
IsTokenStop ts end stop =
    (stop ≡ None) ⊎ ((number : ℕ) × (stop ≡ Some (token_start ts end number)))

-- The tree is the one that the grammar derives from the tokens, if there is one.
pub record IsTreeOf (ts : List Token) (tree : Option FileTree) : Type 0 where
  pub found : (t : File) → option_map file_view tree ≡ Some t → Derives ts t
  pub only : (t : File) → Derives ts t → option_map file_view tree ≡ Some t

-- where the error of a text that is no sentence is
pub record IsStop (text : List ℕ) (stop : Option ℕ) : Type 0 where
  pub cut : (ts : List Token) → lexing_of text ≡ Ok ts → IsTokenStop ts (length text) stop
  pub uncut : (fault : LexFault) → lexing_of text ≡ Err fault → stop ≡ lexing_stop fault

-- the tokens of a text, none if it isn't cut into tokens
abbrev pub tokens_or_none : List ℕ → List Token
tokens_or_none text = unwrap_or (tokens_of text) []

-- The tokens, the tree that they are, and where the error is if they are none.
pub record IsReading (text : List ℕ) (file : ReadFile) : Type 0 where
  pub tokens : file.tokens.items ≡ tokens_or_none text
  pub tree : (ts : List Token) → lexing_of text ≡ Ok ts → IsTreeOf ts file.tree
  pub no_tree : (fault : LexFault) → lexing_of text ≡ Err fault → file.tree ≡ None
  pub stop : IsStop text file.stop
