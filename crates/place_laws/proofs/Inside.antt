-- A method's tokens stand in the file, and each mark in it is the number of one of them.
use Rattle.std.proofs.Common.{ℕ, ◌+◌, ◌≤◌, List, [], ◌∷◌, length, drop, All, arith}
use Rattle.std.proofs.lemmas.List.{length-drop}
use Rattle.std.proofs.lemmas.List.Elements.{All-nil, All-cons}
use Rattle.mj_lexer.specs.declared.token.Token.{Token}
use Rattle.mj_lexer.specs.declared.token.Terminal.TheVariants as terminals
use Rattle.mj_tree.specs.declared.tree.Variable.{Variable}
use Rattle.mj_tree.specs.Trees.{Expression, Expressions, Binary, Index, Length, Call, Literal, Boolean, Named, This, NewArray, NewObject, Not, Parenthesized, none, more, Statement, Statements, Block, If, While, Print, Assign, Store, done, next, Method, Main}
use Rattle.mj_expressions.specs.Expressions.{any_tier, size, sizes, sizes_more, IsExp, AreArguments, AreMore}
use Rattle.mj_parser.specs.Statements.{stmt_size, stmts_size, IsStmt, AreStmts}
use Rattle.mj_parser.specs.Rows.{InRow, row_size}
use Rattle.mj_parser.specs.Declarations.{IsVariableAt, variable_size, IsMoreFormal, more_formal_size, formals_size, AreFormals, IsLocalAt, local_size, method_size, formals_place, locals_place, body_place, return_place, IsMethod, IsMethodAt, IsMain}
use Rattle.mj_parser.specs.MarkBounds.{ExpMarksBelow, ExpsMarksBelow, StmtMarksBelow, StmtsMarksBelow, VariableBelow, MethodMarksBelow}
use Rattle.mj_expressions.proofs.Stands.{stands_within}
use Rattle.place_laws.specs.Parts.{Part}
use Rattle.place_laws.specs.Laws.{MethodTokens}

module _ (ts : List Token) (n : ℕ) where
  mutual
    exp_marks : (d i : ℕ) (e : Expression) → i + size e ≤ n → IsExp ts d i e → ExpMarksBelow n e
    exp_marks d i (Binary o m l r) le h = let at = h.2 in (omega arith, exp_marks _ i l (omega arith) h.1, exp_marks _ (m + 1) r (omega arith) h.4)
    exp_marks d i (Index m a x) le h = let at = h.2 in (omega arith, exp_marks _ i a (omega arith) h.0, exp_marks _ (m + 1) x (omega arith) h.4)
    exp_marks d i (Length m a) le h = let at = h.1 in (omega arith, exp_marks _ i a (omega arith) h.0)
    exp_marks d i (Call m e name es) le h = let at = h.1 in (omega arith, exp_marks _ i e (omega arith) h.0, args_marks (m + 2) es (omega arith) h.5)
    exp_marks d i (Literal m v) le h = let at = h.0 in omega arith
    exp_marks d i (Boolean m v) le h = let at = h.0 in omega arith
    exp_marks d i (Named m name) le h = let at = h.0 in omega arith
    exp_marks d i (This m) le h = let at = h.0 in omega arith
    exp_marks d i (NewArray m x) le h = let at = h.0 in (omega arith, exp_marks _ (i + 3) x (omega arith) h.4)
    exp_marks d i (NewObject m c) le h = let at = h.0 in omega arith
    exp_marks d i (Not m e) le h = let at = h.1 in (omega arith, exp_marks _ (i + 1) e (omega arith) h.3)
    exp_marks d i (Parenthesized m e) le h = let at = h.0 in (omega arith, exp_marks _ (i + 1) e (omega arith) h.2)

    args_marks : (i : ℕ) (es : Expressions) → i + sizes es ≤ n → AreArguments ts i es → ExpsMarksBelow n es
    args_marks i none le h = tt
    args_marks i (more e es) le h = (exp_marks _ i e (omega arith) h.0, more_marks (i + size e) es (omega arith) h.1)

    more_marks : (i : ℕ) (es : Expressions) → i + sizes_more es ≤ n → AreMore ts i es → ExpsMarksBelow n es
    more_marks i none le h = tt
    more_marks i (more e es) le h = (exp_marks _ (i + 1) e (omega arith) h.1, more_marks (i + 1 + size e) es (omega arith) h.2)

  mutual
    stmt_marks : (i : ℕ) (s : Statement) → i + stmt_size s ≤ n → IsStmt ts i s → StmtMarksBelow n s
    stmt_marks i (Block m body) le h = let at = h.0 in (omega arith, stmts_marks (i + 1) body (omega arith) h.2)
    stmt_marks i (If m e s t) le h = let at = h.0 in (omega arith, exp_marks _ (i + 2) e (omega arith) h.3, stmt_marks (i + 2 + size e + 1) s (omega arith) h.5, stmt_marks (i + 2 + size e + 1 + stmt_size s + 1) t (omega arith) h.7)
    stmt_marks i (While m e s) le h = let at = h.0 in (omega arith, exp_marks _ (i + 2) e (omega arith) h.3, stmt_marks (i + 2 + size e + 1) s (omega arith) h.5)
    stmt_marks i (Print m e) le h = let at = h.0 in (omega arith, exp_marks _ (i + 6) e (omega arith) h.2)
    stmt_marks i (Assign m name k e) le h = let at = h.0 in let named = h.1 in (omega arith, omega arith, exp_marks _ (i + 2) e (omega arith) h.4)
    stmt_marks i (Store m name k x e) le h = let at = h.0 in let named = h.1 in (omega arith, omega arith, exp_marks _ (i + 2) x (omega arith) h.4, exp_marks _ (i + 2 + size x + 2) e (omega arith) h.7)

    stmts_marks : (i : ℕ) (ss : Statements) → i + stmts_size ss ≤ n → AreStmts ts i ss → StmtsMarksBelow n ss
    stmts_marks i done le h = tt
    stmts_marks i (next s ss) le h = (stmt_marks i s (omega arith) h.0, stmts_marks (i + stmt_size s) ss (omega arith) h.1)

  variable_marks : (i : ℕ) (v : Variable) → i + variable_size v ≤ n → IsVariableAt ts i v → VariableBelow n v
  variable_marks i v le h = let at = h.0 in omega arith

  locals_marks : (i : ℕ) (vs : List Variable) → i + row_size local_size vs ≤ n → InRow (IsLocalAt ts) local_size i vs → All (VariableBelow n) vs
  locals_marks i [] le h = All-nil (VariableBelow n)
  locals_marks i (v ∷ vs) le h = let first = h.0 in All-cons (VariableBelow n) v vs (variable_marks i v (omega arith) first.0) (locals_marks (i + local_size v) vs (omega arith) h.1)

  more_formals_marks : (i : ℕ) (vs : List Variable) → i + row_size more_formal_size vs ≤ n → InRow (IsMoreFormal ts) more_formal_size i vs → All (VariableBelow n) vs
  more_formals_marks i [] le h = All-nil (VariableBelow n)
  more_formals_marks i (v ∷ vs) le h = let first = h.0 in All-cons (VariableBelow n) v vs (variable_marks (i + 1) v (omega arith) first.1) (more_formals_marks (i + more_formal_size v) vs (omega arith) h.1)

  formals_marks : (i : ℕ) (vs : List Variable) → i + formals_size vs ≤ n → AreFormals ts i vs → All (VariableBelow n) vs
  formals_marks i [] le h = All-nil (VariableBelow n)
  formals_marks i (v ∷ vs) le h = All-cons (VariableBelow n) v vs (variable_marks i v (omega arith) h.0) (more_formals_marks (i + variable_size v) vs (omega arith) h.1)

method_marks : (ts : List Token) (m : Method) → IsMethod ts m → MethodMarksBelow (method_size m) m
method_marks ts m h =
    let at = h.return_mark in
    record {
      formals = formals_marks ts (method_size m) (formals_place m) m.formals (omega arith) h.formals;
      locals = locals_marks ts (method_size m) (locals_place m) m.locals (omega arith) h.locals;
      body = stmts_marks ts (method_size m) (body_place m) m.body (omega arith) h.body;
      returned = exp_marks ts (method_size m) any_tier (return_place m + 1) m.returned (omega arith) h.returned;
      return_mark = omega arith;
    }

pub method_tokens : (ts : List Token) (m : Part Method) → IsMethodAt ts m.at m.item → MethodTokens ts m
method_tokens ts m h =
    let end = stands_within (drop m.at ts) (return_place m.item + 1 + size m.item.returned + 1) terminals.RightBrace h.end_brace in
    let behind = length-drop m.at ts in
    record { within = omega arith; marks = method_marks (drop m.at ts) m.item h }

-- the tokens of `main`, from its `public` on
pub main_within : (ts : List Token) (m : Main) → IsMain ts m → 3 + (11 + stmt_size m.statement) ≤ length ts
main_within ts m h =
    let end = stands_within (drop 3 ts) (11 + stmt_size m.statement) terminals.RightBrace h.end_brace in
    let behind = length-drop 3 ts in
    omega arith

pub main_marks : (ts : List Token) (m : Main) → IsMain ts m → StmtMarksBelow (11 + stmt_size m.statement) m.statement
main_marks ts m h = stmt_marks (drop 3 ts) (11 + stmt_size m.statement) 11 m.statement (omega arith) h.statement
