-- The tree of tokens that fit can be stored.
use Rattle.std.proofs.Common.{◌≡◌, ℕ, zero, suc, ◌+◌, ◌≤◌, List, [], ◌∷◌, length, drop, Option, Some, None, refl, subst, arith}
use Rattle.std.specs.Prelude.{All, slice_get, IfSome, codes}
use Rattle.std.specs.List.{AllByRecursion}
use Rattle.std.proofs.lemmas.List.{length-drop}
use Rattle.std.proofs.lemmas.List.Elements.{All-get_or, All-drop}
use Rattle.std.proofs.lemmas.Option.{slice_get_within, get_or_from_slice_get}
use Rattle.mj_lexer.specs.declared.token.TokenKind.{TokenKind}
use Rattle.mj_lexer.specs.declared.token.TokenKind.TheVariants as kinds
use Rattle.mj_lexer.specs.declared.token.Token.{Token}
use Rattle.mj_lexer.specs.declared.token.Terminal.TheVariants as terminals
use Rattle.mj_lexer.specs.Bytes.{greatest_literal}
use Rattle.mj_lexer.specs.Lexes.{limit, Lexes}
use Rattle.mj_tree.specs.declared.tree.Ty.{Ty}
use Rattle.mj_tree.specs.declared.tree.Ty.TheVariants as types
use Rattle.mj_tree.specs.declared.tree.Field.{Field}
use Rattle.mj_tree.specs.declared.tree.Variable.{Variable}
use Rattle.mj_tree.specs.Limits.{most_levels}
use Rattle.mj_tree.specs.Trees.{Name, Expression, Expressions, Binary, Index, Length, Call, Literal, Boolean, Named, This, NewArray, NewObject, Not, Parenthesized, none, more, Statement, Statements, Block, If, While, Print, Assign, Store, done, next, Method, Main, Class, File}
use Rattle.mj_expressions.specs.Tokens.{token_kind, name_of, value_of, name_at, value_at}
use Rattle.mj_expressions.specs.Expressions.{terminal_of, terminal_of_bool, any_tier, height, heights, sizes, IsExp, AreArguments, AreMore}
use Rattle.mj_parser.specs.Statements.{stmt_height, stmts_height, stmts_size, IsStmt, AreStmts}
use Rattle.mj_parser.specs.Rows.{InRow, row_size, row_height}
use Rattle.mj_parser.specs.Declarations.{type_size, IsType, IsVariableAt, variable_size, IsMoreFormal, more_formal_size, formals_size, AreFormals, IsLocalAt, local_size, field_size, IsField, IsSuperclass, head_size, method_size, method_height, formals_place, locals_place, body_place, return_place, IsMethod, IsMethodAt, class_size, class_height, IsClass, IsMainPart, main_part_size, main_part_height, Derives}
use Rattle.mj_expressions.proofs.Marks.{name_within, says_name}
use Rattle.mj_expressions.proofs.Stands.{stands_within}
use Rattle.mj_expressions.proofs.ExpressionAgain.{height_some}
use Rattle.mj_parser.proofs.StatementAgain.{print_name, stmt_height_some}
use Rattle.mj_parser.proofs.Bounds.{value_within}
use Rattle.byte_readers.specs.Names.{IsName}
use Rattle.tree_spelling.specs.Storable.{TyFits, FieldFits, VariableFits, ExpFits, ExpsFit, StmtFits, StmtsFit, TopStmtFits, TopStmtsFit, TopExpFits, MethodFits, MainFits, ClassFits, FileFits}
use Rattle.storable_trees.proofs.TextTokens.{KindFits, TokenFits, tokens_fit, tokens_few}
use Rattle.storable_trees.proofs.Counts.{arguments_count, statements_count, row_count, formals_count}

name_kind : (k : Option Token) (name : Name) → ((t : Token) → k ≡ Some t → TokenFits t) → name_of (token_kind k) ≡ Some name → IsName name
name_kind None name fit e = absurd cc
name_kind (Some t) name fit e = of_kind t.kind (fit t refl) e
  where
    of_kind : (kind : TokenKind) → KindFits kind → name_of (Some kind) ≡ Some name → IsName name
    of_kind (kinds.Identifier other) f e = let same : other ≡ name = cc in subst IsName same f
    of_kind (kinds.Literal value) f e = absurd cc
    of_kind (kinds.Terminal terminal) f e = absurd cc

value_kind : (k : Option Token) (value : ℕ) → ((t : Token) → k ≡ Some t → TokenFits t) → value_of (token_kind k) ≡ Some value → value ≤ greatest_literal
value_kind None value fit e = absurd cc
value_kind (Some t) value fit e = of_kind t.kind (fit t refl) e
  where
    of_kind : (kind : TokenKind) → KindFits kind → value_of (Some kind) ≡ Some value → value ≤ greatest_literal
    of_kind (kinds.Identifier other) f e = absurd cc
    of_kind (kinds.Literal other) f e = let same : other ≡ value = cc in subst (λ (v : ℕ). v ≤ greatest_literal) same f
    of_kind (kinds.Terminal terminal) f e = absurd cc

module _ (ts : List Token) (fit : All TokenFits ts) (few : length ts ≤ limit) where
  token_fits : (j : ℕ) (t : Token) → slice_get ts j ≡ Some t → TokenFits t
  token_fits j t e = subst TokenFits (get_or_from_slice_get ts j t t e) (All-get_or TokenFits ts j t (slice_get_within ts j t e) fit)

  name_fits : (j : ℕ) (name : Name) → name_at ts j ≡ Some name → IsName name
  unfolding name_at
  name_fits j name e = name_kind (slice_get ts j) name (token_fits j) e

  value_fits : (j value : ℕ) → value_at ts j ≡ Some value → value ≤ greatest_literal
  unfolding value_at
  value_fits j value e = value_kind (slice_get ts j) value (token_fits j) e

  mutual
    exp_fits : (room d i : ℕ) (e : Expression) → height e ≤ room → IsExp ts d i e → ExpFits room e
    exp_fits zero d i e low h = absurd (let some = height_some e in omega arith)
    exp_fits (suc room) d i (Binary o m l r) low h = let w = stands_within ts m (terminal_of o) h.3 in (omega arith, (exp_fits room _ i l (omega arith) h.1, exp_fits room _ (m + 1) r (omega arith) h.4))
    exp_fits (suc room) d i (Index m a x) low h = let w = stands_within ts m terminals.LeftBracket h.3 in (omega arith, (exp_fits room _ i a (omega arith) h.0, exp_fits room _ (m + 1) x (omega arith) h.4))
    exp_fits (suc room) d i (Length m a) low h = let w = name_within ts m (codes "length") (says_name ts m (codes "length") h.3) in (omega arith, exp_fits room _ i a (omega arith) h.0)
    exp_fits (suc room) d i (Call m e name es) low h =
        let w = name_within ts m name h.3 in
        let end = stands_within ts (m + 2 + sizes es) terminals.RightParenthesis h.6 in
        let count = arguments_count es in
        (omega arith, (exp_fits room _ i e (omega arith) h.0, (name_fits m name h.3, (omega arith, arguments_fit room (m + 2) es (omega arith) h.5))))
    exp_fits (suc room) d i (Literal m v) low h = let w = value_within ts i v h.1 in let at = h.0 in (omega arith, value_fits i v h.1)
    exp_fits (suc room) d i (Boolean m v) low h = let w = stands_within ts i (terminal_of_bool v) h.1 in let at = h.0 in omega arith
    exp_fits (suc room) d i (Named m name) low h = let w = name_within ts i name h.1 in let at = h.0 in (omega arith, name_fits i name h.1)
    exp_fits (suc room) d i (This m) low h = let w = stands_within ts i terminals.This h.1 in let at = h.0 in omega arith
    exp_fits (suc room) d i (NewArray m x) low h = let w = stands_within ts i terminals.New h.1 in let at = h.0 in (omega arith, exp_fits room _ (i + 3) x (omega arith) h.4)
    exp_fits (suc room) d i (NewObject m c) low h = let w = stands_within ts i terminals.New h.1 in let at = h.0 in (omega arith, name_fits (i + 1) c h.2)
    exp_fits (suc room) d i (Not m e) low h = let w = stands_within ts i terminals.Not h.2 in let at = h.1 in (omega arith, exp_fits room _ (i + 1) e (omega arith) h.3)
    exp_fits (suc room) d i (Parenthesized m e) low h = let w = stands_within ts i terminals.LeftParenthesis h.1 in let at = h.0 in (omega arith, exp_fits room _ (i + 1) e (omega arith) h.2)

    arguments_fit : (room i : ℕ) (es : Expressions) → heights es ≤ room → AreArguments ts i es → ExpsFit room es
    arguments_fit room i none low h = tt
    arguments_fit room i (more e es) low h = (exp_fits room _ i e (omega arith) h.0, more_fit room _ es (omega arith) h.1)

    more_fit : (room i : ℕ) (es : Expressions) → heights es ≤ room → AreMore ts i es → ExpsFit room es
    more_fit room i none low h = tt
    more_fit room i (more e es) low h = (exp_fits room _ (i + 1) e (omega arith) h.1, more_fit room _ es (omega arith) h.2)

  mutual
    stmt_fits : (room i : ℕ) (s : Statement) → stmt_height s ≤ room → IsStmt ts i s → StmtFits room s
    stmt_fits zero i s low h = absurd (let some = stmt_height_some s in omega arith)
    stmt_fits (suc room) i (Block m body) low h =
        let w = stands_within ts i terminals.LeftBrace h.1 in
        let at = h.0 in
        let end = stands_within ts (i + 1 + stmts_size body) terminals.RightBrace h.3 in
        let count = statements_count body in
        (omega arith, (omega arith, stmts_fit room (i + 1) body (omega arith) h.2))
    stmt_fits (suc room) i (If m e s t) low h = let w = stands_within ts i terminals.If h.1 in let at = h.0 in (omega arith, (exp_fits room _ (i + 2) e (omega arith) h.3, (stmt_fits room _ s (omega arith) h.5, stmt_fits room _ t (omega arith) h.7)))
    stmt_fits (suc room) i (While m e s) low h = let w = stands_within ts i terminals.While h.1 in let at = h.0 in (omega arith, (exp_fits room _ (i + 2) e (omega arith) h.3, stmt_fits room _ s (omega arith) h.5))
    stmt_fits (suc room) i (Print m e) low h = let w = name_within ts i (codes "System") (print_name ts i h.1) in let at = h.0 in (omega arith, exp_fits room _ (i + 6) e (omega arith) h.2)
    stmt_fits (suc room) i (Assign m name k e) low h = let w = stands_within ts (i + 1) terminals.Assign h.3 in let at = h.0 in let at2 = h.1 in (omega arith, (name_fits i name h.2, (omega arith, exp_fits room _ (i + 2) e (omega arith) h.4)))
    stmt_fits (suc room) i (Store m name k x e) low h = let w = stands_within ts _ terminals.Assign h.6 in let at = h.0 in let at2 = h.1 in (omega arith, (name_fits i name h.2, (omega arith, (exp_fits room _ (i + 2) x (omega arith) h.4, exp_fits room _ _ e (omega arith) h.7))))

    stmts_fit : (room i : ℕ) (ss : Statements) → stmts_height ss ≤ room → AreStmts ts i ss → StmtsFit room ss
    stmts_fit room i done low h = tt
    stmts_fit room i (next s ss) low h = (stmt_fits room i s (omega arith) h.0, stmts_fit room _ ss (omega arith) h.1)

  type_fits : (i : ℕ) (ty : Ty) → IsType ts i ty → TyFits ty
  type_fits i types.Int h = tt
  type_fits i types.Boolean h = tt
  type_fits i types.IntArray h = tt
  type_fits i (types.Class name) h = name_fits i name h

  variable_fits : (i : ℕ) (v : Variable) → IsVariableAt ts i v → VariableFits v
  variable_fits i v h =
      let w = name_within ts (i + type_size v.ty) v.name h.2 in
      let at = h.0 in
      (name_fits (i + type_size v.ty) v.name h.2, (type_fits i v.ty h.1, omega arith))

  locals_fit : (i : ℕ) (vs : List Variable) → InRow (IsLocalAt ts) local_size i vs → AllByRecursion VariableFits vs
  locals_fit i [] h = tt
  locals_fit i (v ∷ vs) h = let first = h.0 in (variable_fits i v first.0, locals_fit (i + local_size v) vs h.1)

  more_formals_fit : (i : ℕ) (vs : List Variable) → InRow (IsMoreFormal ts) more_formal_size i vs → AllByRecursion VariableFits vs
  more_formals_fit i [] h = tt
  more_formals_fit i (v ∷ vs) h = let first = h.0 in (variable_fits (i + 1) v first.1, more_formals_fit (i + more_formal_size v) vs h.1)

  formals_fit : (i : ℕ) (vs : List Variable) → AreFormals ts i vs → AllByRecursion VariableFits vs
  formals_fit i [] h = tt
  formals_fit i (v ∷ vs) h = (variable_fits i v h.0, more_formals_fit (i + variable_size v) vs h.1)

  method_fits : (m : Method) → method_height m ≤ most_levels → IsMethod ts m → MethodFits m
  unfolding TopStmtsFit TopExpFits
  method_fits m low h =
      let closing = stands_within ts (formals_place m + formals_size m.formals) terminals.RightParenthesis h.closing in
      let formals = formals_count m.formals in
      let return_word = stands_within ts (return_place m) terminals.Return h.return_word in
      let locals = row_count local_size (λ v. omega arith) m.locals in
      let statements = statements_count m.body in
      let at = h.return_mark in
      record {
        name = name_fits (1 + type_size m.returns) m.name h.name;
        returns = type_fits 1 m.returns h.returns;
        few_formals = omega arith;
        formals = formals_fit (formals_place m) m.formals h.formals;
        few_locals = omega arith;
        locals = locals_fit (locals_place m) m.locals h.locals;
        few_statements = omega arith;
        body = stmts_fit most_levels (body_place m) m.body (omega arith) h.body;
        returned = exp_fits most_levels any_tier (return_place m + 1) m.returned (omega arith) h.returned;
        return_mark = omega arith;
      }

  fields_fit : (i : ℕ) (fs : List Field) → InRow (IsField ts) field_size i fs → AllByRecursion FieldFits fs
  fields_fit i [] h = tt
  fields_fit i (f ∷ fs) h =
      let first = h.0 in
      ((name_fits (i + type_size f.ty) f.name first.1, type_fits i f.ty first.0), fields_fit (i + field_size f) fs h.1)

  superclass_fits : (i : ℕ) (superclass : Option Name) → IsSuperclass ts i superclass → IfSome superclass IsName
  superclass_fits i None h = tt
  superclass_fits i (Some name) h = name_fits (i + 1) name h.1

few_behind : (ts : List Token) (i : ℕ) → length ts ≤ limit → length (drop i ts) ≤ limit
few_behind ts i few = let l = length-drop i ts in omega arith

module _ (ts : List Token) (fit : All TokenFits ts) (few : length ts ≤ limit) where
  methods_fit : (i : ℕ) (ms : List Method) → row_height method_height ms ≤ most_levels → InRow (IsMethodAt ts) method_size i ms → AllByRecursion MethodFits ms
  methods_fit i [] low h = tt
  methods_fit i (m ∷ ms) low h = (method_fits (drop i ts) (All-drop TokenFits i ts fit) (few_behind ts i few) m (omega arith) h.0, methods_fit (i + method_size m) ms (omega arith) h.1)

  class_fits : (i : ℕ) (c : Class) → class_height c ≤ most_levels → IsClass ts i c → ClassFits c
  class_fits i c low h =
      let end = stands_within ts (i + head_size c + row_size field_size c.fields + row_size method_size c.methods) terminals.RightBrace h.end_brace in
      let fields = row_count field_size (λ f. omega arith) c.fields in
      let methods = row_count method_size (λ m. omega arith) c.methods in
      record {
        name = name_fits ts fit few (i + 1) c.name h.name;
        superclass = superclass_fits ts fit few (i + 2) c.superclass h.superclass;
        few_fields = omega arith;
        fields = fields_fit ts fit few (i + head_size c) c.fields h.fields;
        few_methods = omega arith;
        methods = methods_fit (i + head_size c + row_size field_size c.fields) c.methods low h.methods;
      }

  classes_fit : (i : ℕ) (cs : List Class) → row_height class_height cs ≤ most_levels → InRow (IsClass ts) class_size i cs → AllByRecursion ClassFits cs
  classes_fit i [] low h = tt
  classes_fit i (c ∷ cs) low h = (class_fits i c (omega arith) h.0, classes_fit (i + class_size c) cs (omega arith) h.1)

  main_fits : (m : Option Main) → main_part_height m ≤ most_levels → IsMainPart ts m → IfSome m MainFits
  unfolding TopStmtFits
  main_fits None low h = tt
  main_fits (Some m) low h = record {
    name = name_fits ts fit few 1 m.name h.name;
    statement = stmt_fits (drop 3 ts) (All-drop TokenFits 3 ts fit) (few_behind ts 3 few) most_levels 11 m.statement low h.statement;
  }

  file_fits : (f : File) → Derives ts f → FileFits f
  file_fits f h =
      let low = h.low in
      let whole = h.whole in
      let classes = row_count class_size (λ c. omega arith) f.classes in
      record {
        main = main_fits f.main (omega arith) h.main;
        few = omega arith;
        classes = classes_fit (main_part_size f.main) f.classes (omega arith) h.classes;
      }

pub storable : (text : List ℕ) (tokens : List Token) (tree : File) → Lexes text tokens → Derives tokens tree → FileFits tree
storable text tokens tree lexes derives = file_fits tokens (tokens_fit text tokens lexes) (tokens_few text tokens lexes) tree derives
