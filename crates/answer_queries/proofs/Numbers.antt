-- The numbers of a project's classes have four bytes.
use Rattle.std.proofs.Common.{◌≡◌, ℕ, suc, ◌+◌, ◌<◌, ◌≤◌, ◌^◌, List, [], ◌∷◌, length, Option, Some, None, refl, arith}
use Rattle.std.specs.List.{AllByRecursion}
use Rattle.mj_lexer.specs.Lexes.{limit}
use Rattle.mj_tree.specs.Trees.{Main, Class, File}
use Rattle.mj_parser.specs.Declarations.{class_size}
use Rattle.mj_members.specs.Declarations.{ClassDecl}
use Rattle.mj_classes.specs.Declarations.{number_classes, main_first, classes_of, declared_from}
use Rattle.mj_classes.proofs.Tables.{all_append}
use Rattle.named_files.specs.Projects.{SourceFile}
use Rattle.mj_rules.specs.Sentences.{file_of, trees_of, classes_in}
use Rattle.mj_rules.proofs.LowerLaws.{sentence_law}
use Rattle.storable_trees.proofs.TextTokens.{tokens_few}
use Rattle.storable_trees.proofs.Counts.{row_count}
use Rattle.recorder.specs.Projects.{Project}

abbrev pub IsSmall : ClassDecl → Type 0
IsSmall k = k.number < 2 ^ 32

-- a text has no more classes than bytes
few_classes : (bytes : List ℕ) (tree : File) → file_of bytes ≡ Some tree → length tree.classes ≤ limit
few_classes bytes tree e =
    let s = (sentence_law bytes tree).1 e in
    let tokens = tokens_few bytes s.tokens s.lexed in
    let classes = row_count class_size (λ c. omega arith) tree.classes in
    let whole = s.derived.whole in
    omega arith

numbered_small : (file number : ℕ) (cs : List Class) → number + length cs ≤ suc limit → AllByRecursion IsSmall (number_classes file number cs)
numbered_small file number [] few = tt
numbered_small file number (c ∷ cs) few = (omega (arith, few), numbered_small file (suc number) cs (omega (arith, few)))

main_first_small : (file : ℕ) (o : Option Main) (cs : List Class) → length cs ≤ limit → AllByRecursion IsSmall (main_first file o cs)
main_first_small file None cs few = numbered_small file 0 cs (omega (arith, few))
main_first_small file (Some m) cs few = (omega arith, numbered_small file 1 cs (omega (arith, few)))

declared_small : (file : ℕ) (fs : List SourceFile) → AllByRecursion IsSmall (declared_from file (trees_of fs))
declared_small file [] = tt
declared_small file (f ∷ fs) = by_tree (file_of f.bytes) refl (declared_small (suc file) fs)
  where
    by_tree : (o : Option File) → file_of f.bytes ≡ o → AllByRecursion IsSmall (declared_from (suc file) (trees_of fs)) → AllByRecursion IsSmall (declared_from file (o ∷ trees_of fs))
    by_tree None e h = h
    by_tree (Some tree) e h = all_append IsSmall (classes_of file tree) (declared_from (suc file) (trees_of fs)) (main_first_small file tree.main tree.classes (few_classes f.bytes tree e)) h

pub small_numbers : (p : Project) → AllByRecursion IsSmall (classes_in p)
small_numbers p = declared_small 0 p
