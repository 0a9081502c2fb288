-- The classes of a project have few fields and methods.
use Rattle.std.proofs.Common.{◌≡◌, ℕ, suc, ◌+◌, ◌≤◌, List, [], ◌∷◌, length, Option, Some, None, option_and_then, refl, arith}
use Rattle.std.specs.List.{AllByRecursion}
use Rattle.std.proofs.lemmas.Option.{none-some}
use Rattle.mj_lexer.specs.declared.token.Token.{Token}
use Rattle.mj_lexer.specs.declared.token.Terminal.TheVariants as terminals
use Rattle.mj_lexer.specs.Lexes.{limit}
use Rattle.mj_lexer.specs.Lexing.{tokens_of}
use Rattle.mj_lexer.proofs.Lexings.{Lexes-tokens_of}
use Rattle.mj_tree.specs.Trees.{Name, Main, Class, File}
use Rattle.mj_parser.specs.Rows.{row_size, InRow}
use Rattle.mj_parser.specs.Declarations.{field_size, method_size, head_size, class_size, main_part_size, IsClass}
use Rattle.mj_parser.specs.FileReading.{tree_of}
use Rattle.mj_parser.proofs.FileFound.{file_found}
use Rattle.mj_expressions.proofs.Stands.{stands_within}
use Rattle.storable_trees.proofs.Counts.{row_count}
use Rattle.storable_trees.proofs.TextTokens.{tokens_few}
use Rattle.mj_members.specs.Declarations.{ClassDecl}
use Rattle.mj_classes.specs.Declarations.{number_classes, main_first, classes_of, declared_from}
use Rattle.mj_classes.proofs.Tables.{all_append}
use Rattle.named_files.specs.Projects.{SourceFile}
use Rattle.mj_rules.specs.Sentences.{file_of, trees_of, classes_in}
use Rattle.mj_rules.proofs.OneAnswer.{decl_stands}
use Rattle.recorder.specs.Projects.{Project}
use Rattle.recorder.proofs.Recorded.{all_at}
use Rattle.query_rules.specs.Items.{class_at}

-- no more than a file has bytes
pub record AreFew (k : ClassDecl) : Type 0 where
  pub fields : length k.fields ≤ limit
  pub methods : length k.methods ≤ limit

module _ (ts : List Token) (few : length ts ≤ limit) where
  one_few : (i : ℕ) (c : Class) → IsClass ts i c → (length c.fields ≤ limit) × (length c.methods ≤ limit)
  one_few i c h =
      let end = stands_within ts (i + head_size c + row_size field_size c.fields + row_size method_size c.methods) terminals.RightBrace h.end_brace in
      let fields = row_count field_size (λ f. omega arith) c.fields in
      let methods = row_count method_size (λ m. omega arith) c.methods in
      (omega arith, omega arith)

  numbered_few : (file number i : ℕ) (cs : List Class) → InRow (IsClass ts) class_size i cs → AllByRecursion AreFew (number_classes file number cs)
  numbered_few file number i [] h = tt
  numbered_few file number i (c ∷ cs) h =
      let one = one_few i c h.0 in
      (record { fields = one.0; methods = one.1 }, numbered_few file (suc number) (i + class_size c) cs h.1)

  main_first_few : (file i : ℕ) (o : Option Main) (cs : List Class) → InRow (IsClass ts) class_size i cs → AllByRecursion AreFew (main_first file o cs)
  main_first_few file i None cs h = numbered_few file 0 i cs h
  main_first_few file i (Some m) cs h = (record { fields = omega arith; methods = omega arith }, numbered_few file 1 i cs h)

by_tokens : (file : ℕ) (bytes : List ℕ) (f : File) (o : Option (List Token)) → tokens_of bytes ≡ o → option_and_then tree_of o ≡ Some f → AllByRecursion AreFew (classes_of file f)
by_tokens file bytes f None t e = absurd (none-some f e)
by_tokens file bytes f (Some tokens) t e =
    let derived = file_found tokens f e in
    main_first_few tokens (tokens_few bytes tokens ((Lexes-tokens_of bytes tokens).1 t)) file (main_part_size f.main) f.main f.classes derived.classes

file_few : (file : ℕ) (bytes : List ℕ) (f : File) → file_of bytes ≡ Some f → AllByRecursion AreFew (classes_of file f)
unfolding file_of
file_few file bytes f e = by_tokens file bytes f (tokens_of bytes) refl e

declared_few : (file : ℕ) (files : List SourceFile) → AllByRecursion AreFew (declared_from file (trees_of files))
declared_few file [] = tt
declared_few file (f ∷ files) = by_tree (file_of f.bytes) refl (declared_few (suc file) files)
  where
    by_tree : (o : Option File) → file_of f.bytes ≡ o → AllByRecursion AreFew (declared_from (suc file) (trees_of files)) → AllByRecursion AreFew (declared_from file (o ∷ trees_of files))
    by_tree None e h = h
    by_tree (Some tree) e h = all_append AreFew (classes_of file tree) (declared_from (suc file) (trees_of files)) (file_few file f.bytes tree e) h

pub class_few : (p : Project) (c : Name) (k : ClassDecl) → class_at p c ≡ Some k → AreFew k
class_few p c k e = all_at AreFew (classes_in p) k (decl_stands (classes_in p) c k e) (declared_few 0 p)
