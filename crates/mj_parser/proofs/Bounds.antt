-- A mark is the place of a token.
use Rattle.std.proofs.Common.{◌≡◌, ℕ, ◌+◌, ◌<◌, ◌≤◌, true, List, [], ◌∷◌, length, drop, Option, Some, None, refl, arith}
use Rattle.std.specs.Prelude.{All, slice_get, codes}
use Rattle.std.proofs.lemmas.List.{length-drop}
use Rattle.std.proofs.lemmas.List.Elements.{All-nil, All-cons}
use Rattle.std.proofs.lemmas.Option.{slice_get_within}
use Rattle.mj_lexer.specs.declared.token.Token.{Token}
use Rattle.mj_lexer.specs.declared.token.Terminal.TheVariants as terminals
use Rattle.mj_tree.specs.declared.tree.Variable.{Variable}
use Rattle.mj_expressions.specs.Tokens.{token_kind, value_of, says, value_at}
use Rattle.mj_tree.specs.Trees.{Expression, Expressions, Binary, Index, Length, Call, Literal, Boolean, Named, This, NewArray, NewObject, Not, Parenthesized, none, more, Statement, Statements, Block, If, While, Print, Assign, Store, done, next, Method, Main, Class, File}
use Rattle.mj_expressions.specs.Expressions.{terminal_of, terminal_of_bool, IsExp, AreArguments, AreMore}
use Rattle.mj_parser.specs.Statements.{IsStmt, AreStmts}
use Rattle.mj_parser.specs.Rows.{InRow}
use Rattle.mj_parser.specs.Declarations.{type_size, IsVariableAt, variable_size, IsMoreFormal, more_formal_size, AreFormals, IsLocalAt, local_size, method_size, formals_place, locals_place, body_place, return_place, IsMethod, IsMethodAt, class_size, IsClass, IsMainPart, Derives}
use Rattle.mj_parser.specs.MarkBounds.{ExpMarksBelow, ExpsMarksBelow, StmtMarksBelow, StmtsMarksBelow, VariableBelow, MethodMarksBelow, ClassMarksBelow, MainMarksBelow, FileMarksBelow}
use Rattle.mj_expressions.proofs.Marks.{name_within, says_name}
use Rattle.mj_parser.proofs.StatementAgain.{print_name}
use Rattle.mj_expressions.proofs.Stands.{stands_within}

within_value : (ts : List Token) (j v : ℕ) (k : Option Token) → slice_get ts j ≡ k → value_of (token_kind k) ≡ Some v → j < length ts
within_value ts j v None e h = absurd cc
within_value ts j v (Some k) e h = slice_get_within ts j k e

pub value_within : (ts : List Token) (j v : ℕ) → value_at ts j ≡ Some v → j < length ts
unfolding value_at
value_within ts j v h = within_value ts j v (slice_get ts j) refl h

says_within : (ts : List Token) (j : ℕ) (word : List ℕ) → says ts j word ≡ true → j < length ts
says_within ts j word h = name_within ts j word (says_name ts j word h)

module _ (ts : List Token) (n : ℕ) (le : length ts ≤ n) where
  mutual
    exp_below : (d i : ℕ) (e : Expression) → IsExp ts d i e → ExpMarksBelow n e
    exp_below d i (Binary o m l r) h = let w = stands_within ts m (terminal_of o) h.3 in (omega arith, exp_below _ i l h.1, exp_below _ (m + 1) r h.4)
    exp_below d i (Index m a x) h = let w = stands_within ts m terminals.LeftBracket h.3 in (omega arith, exp_below 0 i a h.0, exp_below 5 (m + 1) x h.4)
    exp_below d i (Length m a) h = let w = says_within ts m (codes "length") h.3 in (omega arith, exp_below 0 i a h.0)
    exp_below d i (Call m e name gs) h = let w = name_within ts m name h.3 in (omega arith, exp_below 0 i e h.0, args_below (m + 2) gs h.5)
    exp_below d i (Literal m v) h = let w = value_within ts i v h.1 in let at = h.0 in omega arith
    exp_below d i (Boolean m v) h = let w = stands_within ts i (terminal_of_bool v) h.1 in let at = h.0 in omega arith
    exp_below d i (Named m name) h = let w = name_within ts i name h.1 in let at = h.0 in omega arith
    exp_below d i (This m) h = let w = stands_within ts i terminals.This h.1 in let at = h.0 in omega arith
    exp_below d i (NewArray m x) h = let w = stands_within ts i terminals.New h.1 in let at = h.0 in (omega arith, exp_below 5 (i + 3) x h.4)
    exp_below d i (NewObject m c) h = let w = stands_within ts i terminals.New h.1 in let at = h.0 in omega arith
    exp_below d i (Not m e) h = let w = stands_within ts i terminals.Not h.2 in let at = h.1 in (omega arith, exp_below 1 (i + 1) e h.3)
    exp_below d i (Parenthesized m e) h = let w = stands_within ts i terminals.LeftParenthesis h.1 in let at = h.0 in (omega arith, exp_below 5 (i + 1) e h.2)

    args_below : (i : ℕ) (es : Expressions) → AreArguments ts i es → ExpsMarksBelow n es
    args_below i none h = tt
    args_below i (more e es) h = (exp_below 5 i e h.0, more_below _ es h.1)

    more_below : (i : ℕ) (es : Expressions) → AreMore ts i es → ExpsMarksBelow n es
    more_below i none h = tt
    more_below i (more e es) h = (exp_below 5 (i + 1) e h.1, more_below _ es h.2)

  mutual
    stmt_below : (i : ℕ) (s : Statement) → IsStmt ts i s → StmtMarksBelow n s
    stmt_below i (Block m body) h = let w = stands_within ts i terminals.LeftBrace h.1 in let at = h.0 in (omega arith, stmts_below (i + 1) body h.2)
    stmt_below i (If m e s t) h = let w = stands_within ts i terminals.If h.1 in let at = h.0 in (omega arith, exp_below 5 (i + 2) e h.3, stmt_below _ s h.5, stmt_below _ t h.7)
    stmt_below i (While m e s) h = let w = stands_within ts i terminals.While h.1 in let at = h.0 in (omega arith, exp_below 5 (i + 2) e h.3, stmt_below _ s h.5)
    stmt_below i (Print m e) h = let w = name_within ts i (codes "System") (print_name ts i h.1) in let at = h.0 in (omega arith, exp_below 5 (i + 6) e h.2)
    stmt_below i (Assign m name k e) h = let w = stands_within ts (i + 1) terminals.Assign h.3 in let at = h.0 in let at2 = h.1 in (omega arith, omega arith, exp_below 5 (i + 2) e h.4)
    stmt_below i (Store m name k x e) h = let w = stands_within ts _ terminals.Assign h.6 in let at = h.0 in let at2 = h.1 in (omega arith, omega arith, exp_below 5 (i + 2) x h.4, exp_below 5 _ e h.7)

    stmts_below : (i : ℕ) (ss : Statements) → AreStmts ts i ss → StmtsMarksBelow n ss
    stmts_below i done h = tt
    stmts_below i (next s ss) h = (stmt_below i s h.0, stmts_below _ ss h.1)

  variable_below : (i : ℕ) (v : Variable) → IsVariableAt ts i v → VariableBelow n v
  variable_below i v h = let w = name_within ts (i + type_size v.ty) v.name h.2 in let at = h.0 in omega arith

  locals_below : (i : ℕ) (vs : List Variable) → InRow (IsLocalAt ts) local_size i vs → All (VariableBelow n) vs
  locals_below i [] h = All-nil (VariableBelow n)
  locals_below i (v ∷ vs) h = let here = h.0 in All-cons (VariableBelow n) v vs (variable_below i v here.0) (locals_below (i + local_size v) vs h.1)

  more_formals_below : (i : ℕ) (vs : List Variable) → InRow (IsMoreFormal ts) more_formal_size i vs → All (VariableBelow n) vs
  more_formals_below i [] h = All-nil (VariableBelow n)
  more_formals_below i (v ∷ vs) h = let here = h.0 in All-cons (VariableBelow n) v vs (variable_below (i + 1) v here.1) (more_formals_below (i + more_formal_size v) vs h.1)

  formals_below : (i : ℕ) (vs : List Variable) → AreFormals ts i vs → All (VariableBelow n) vs
  formals_below i [] h = All-nil (VariableBelow n)
  formals_below i (v ∷ vs) h = All-cons (VariableBelow n) v vs (variable_below i v h.0) (more_formals_below (i + variable_size v) vs h.1)

  method_below : (m : Method) → IsMethod ts m → MethodMarksBelow n m
  method_below m h =
      let w = stands_within ts (return_place m) terminals.Return h.return_word in
      let at = h.return_mark in
      record {
        formals = formals_below (formals_place m) m.formals h.formals;
        locals = locals_below (locals_place m) m.locals h.locals;
        body = stmts_below (body_place m) m.body h.body;
        returned = exp_below 5 (return_place m + 1) m.returned h.returned;
        return_mark = omega arith;
      }

dropped : (ts : List Token) (i : ℕ) → length (drop i ts) ≤ length ts
dropped ts i = let l = length-drop i ts in omega arith

methods_below : (ts : List Token) (i : ℕ) (ms : List Method) → InRow (IsMethodAt ts) method_size i ms → All (MethodMarksBelow (length ts)) ms
methods_below ts i [] h = All-nil (MethodMarksBelow (length ts))
methods_below ts i (m ∷ ms) h = All-cons (MethodMarksBelow (length ts)) m ms (method_below (drop i ts) (length ts) (dropped ts i) m h.0) (methods_below ts (i + method_size m) ms h.1)

classes_below : (ts : List Token) (i : ℕ) (cs : List Class) → InRow (IsClass ts) class_size i cs → All (ClassMarksBelow (length ts)) cs
classes_below ts i [] h = All-nil (ClassMarksBelow (length ts))
classes_below ts i (c ∷ cs) h = let here = h.0 in All-cons (ClassMarksBelow (length ts)) c cs (methods_below ts _ c.methods here.methods) (classes_below ts (i + class_size c) cs h.1)

main_below : (ts : List Token) (m : Option Main) → IsMainPart ts m → MainMarksBelow (length ts) m
main_below ts None h = tt
main_below ts (Some m) h = stmt_below (drop 3 ts) (length ts) (dropped ts 3) 11 m.statement h.statement

pub marks_below : (ts : List Token) (f : File) → Derives ts f → FileMarksBelow (length ts) f
marks_below ts f d = record { main = main_below ts f.main d.main; classes = classes_below ts _ f.classes d.classes }
