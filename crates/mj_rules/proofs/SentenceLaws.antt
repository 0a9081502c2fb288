-- The tree that is computed is the one of the sentence.
use Rattle.std.proofs.Common.{◌≡◌, ℕ, List, Option, Some, None, Ok, Err, option_and_then, option_map, refl, sym, ap, ◌∙◌}
use Rattle.std.specs.Result.{result_ok}
use Rattle.std.proofs.lemmas.Option.{none-some}
use Rattle.mj_lexer.specs.declared.token.Token.{Token}
use Rattle.mj_lexer.specs.Lexing.{Lexing, tokens_of, lexing_of}
use Rattle.mj_lexer.proofs.Lexings.{Lexes-tokens_of}
use Rattle.mj_tree.specs.Trees.{File}
use Rattle.mj_tree.specs.Views.{file_view}
use Rattle.mj_tree.specs.declared.tree.FileTree.{FileTree}
use Rattle.mj_parser.specs.FileReading.{tree_of}
use Rattle.mj_parser.specs.Laws.{GrammarLaws}
use Rattle.file_index.specs.declared.reading.ReadFile.{ReadFile}
use Rattle.file_index.specs.Reading.{IsReading, IsTreeOf}
use Rattle.mj_rules.specs.Sentences.{IsSentence, file_of}
use Rattle.mj_rules.specs.Laws.{SentenceLaw}

module _ (grammar : GrammarLaws) where
  to_file : (bytes : List ℕ) (tree : File) → IsSentence bytes tree → file_of bytes ≡ Some tree
  unfolding file_of
  to_file bytes tree is = ap (option_and_then tree_of) ((Lexes-tokens_of bytes is.tokens).0 is.lexed) ∙ (grammar is.tokens tree).0 is.derived

  from_tokens : (bytes : List ℕ) (tree : File) (o : Option (List Token)) → tokens_of bytes ≡ o → option_and_then tree_of o ≡ Some tree → IsSentence bytes tree
  from_tokens bytes tree None t e = absurd (none-some tree e)
  from_tokens bytes tree (Some tokens) t e = record { tokens = tokens; lexed = (Lexes-tokens_of bytes tokens).1 t; derived = (grammar tokens tree).1 e }

  from_file : (bytes : List ℕ) (tree : File) → file_of bytes ≡ Some tree → IsSentence bytes tree
  unfolding file_of
  from_file bytes tree e = from_tokens bytes tree (tokens_of bytes) refl e

  pub sentences_by : SentenceLaw
  sentences_by = λ bytes tree. (to_file bytes tree, from_file bytes tree)

-- ---- what reading finds

file_by_tokens : (bytes : List ℕ) (o : Option (List Token)) → tokens_of bytes ≡ o → file_of bytes ≡ option_and_then tree_of o
unfolding file_of
file_by_tokens bytes o e = ap (option_and_then tree_of) e

same_options : (a b : Option File) → ((tree : File) → a ≡ Some tree → b ≡ Some tree) → ((tree : File) → b ≡ Some tree → a ≡ Some tree) → a ≡ b
same_options None None to from = refl
same_options None (Some tree) to from = from tree refl
same_options (Some tree) b to from = sym (to tree refl)

tree_by : GrammarLaws → (tokens : List Token) (tree : Option FileTree) → IsTreeOf tokens tree → option_map file_view tree ≡ tree_of tokens
tree_by grammar tokens tree is =
    same_options (option_map file_view tree) (tree_of tokens) (λ t e. (grammar tokens t).0 (is.found t e)) (λ t e. is.only t ((grammar tokens t).1 e))

module _ (grammar : GrammarLaws) (bytes : List ℕ) (file : ReadFile) (is : IsReading bytes file) where
  by_lexing : (r : Lexing) → lexing_of bytes ≡ r → option_map file_view file.tree ≡ file_of bytes
  by_lexing (Ok tokens) e = tree_by grammar tokens file.tree (is.tree tokens e) ∙ sym (file_by_tokens bytes (Some tokens) (ap result_ok e))
  by_lexing (Err fault) e = ap (option_map file_view) (is.no_tree fault e) ∙ sym (file_by_tokens bytes None (ap result_ok e))

  pub tree_read : option_map file_view file.tree ≡ file_of bytes
  tree_read = by_lexing (lexing_of bytes) refl
