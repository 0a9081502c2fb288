-- Each item has a token and a level, so there are no more items than tokens.
use Rattle.std.proofs.Common.{ℕ, ◌<◌, ◌≤◌, List, [], ◌∷◌, length, arith}
use Rattle.mj_tree.specs.declared.tree.Variable.{Variable}
use Rattle.mj_tree.specs.Trees.{Expression, Expressions, Binary, Index, Length, Call, Literal, Boolean, Named, This, NewArray, NewObject, Not, Parenthesized, none, more, Statements, done, next}
use Rattle.mj_expressions.specs.Expressions.{size, sizes, sizes_more}
use Rattle.mj_parser.specs.Statements.{stmts_size}
use Rattle.mj_parser.specs.Rows.{row_size}
use Rattle.mj_parser.specs.Declarations.{formals_size, more_formal_size}
use Rattle.mj_parser.proofs.StatementAgain.{stmt_some}
use Rattle.tree_spelling.specs.Spelling.{count_exps, count_stmts}

some_size : (e : Expression) → 0 < size e
some_size (Binary o m l r) = omega arith
some_size (Index m a x) = omega arith
some_size (Length m a) = omega arith
some_size (Call m e name es) = omega arith
some_size (Literal m v) = omega arith
some_size (Boolean m v) = omega arith
some_size (Named m name) = omega arith
some_size (This m) = omega arith
some_size (NewArray m x) = omega arith
some_size (NewObject m c) = omega arith
some_size (Not m e) = omega arith
some_size (Parenthesized m e) = omega arith

more_arguments : (es : Expressions) → count_exps es ≤ sizes_more es
more_arguments none = omega arith
more_arguments (more e es) = let behind = more_arguments es in omega arith

pub arguments_count : (es : Expressions) → count_exps es ≤ sizes es
arguments_count none = omega arith
arguments_count (more e es) = let behind = more_arguments es in let first = some_size e in omega arith

pub statements_count : (ss : Statements) → count_stmts ss ≤ stmts_size ss
statements_count done = omega arith
statements_count (next s ss) = let behind = statements_count ss in let first = stmt_some s in omega arith

pub row_count : {A : Type 0} (size : A → ℕ) → ((x : A) → 0 < size x) → (xs : List A) → length xs ≤ row_size size xs
row_count size some [] = omega arith
row_count size some (x ∷ xs) = let behind = row_count size some xs in let first = some x in omega arith

pub formals_count : (vs : List Variable) → length vs ≤ formals_size vs
formals_count [] = omega arith
formals_count (v ∷ vs) = let behind = row_count more_formal_size (λ v. omega arith) vs in omega arith
