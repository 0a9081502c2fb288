-- What is a declaration or a file by the grammar is read as that.
use Rattle.std.proofs.Common.{◌≡◌, ℕ, zero, suc, ◌+◌, ◌≤◌, Bool, true, false, not, ◌&&◌, List, [], ◌∷◌, length, drop, Option, Some, None, refl, sym, ap, ◌∙◌, subst, arith, zero-add}
use Rattle.std.specs.Prelude.{slice_get, codes}
use Rattle.std.proofs.lemmas.Bool.{lt-ltb, le-ltb, and_parts, false_from_ne_true}
use Rattle.mj_lexer.specs.declared.token.Token.{Token}
use Rattle.mj_lexer.specs.declared.token.TokenKind.{TokenKind}
use Rattle.mj_lexer.specs.declared.token.TokenKind.TheVariants as kinds
use Rattle.mj_lexer.specs.declared.token.Terminal.{Terminal}
use Rattle.mj_lexer.specs.declared.token.Terminal.TheVariants as terminals
use Rattle.mj_tree.specs.declared.tree.Ty.{Ty}
use Rattle.mj_tree.specs.declared.tree.Ty.TheVariants as types
use Rattle.mj_tree.specs.declared.tree.Field.{Field}
use Rattle.mj_tree.specs.declared.tree.Variable.{Variable}
use Rattle.mj_expressions.specs.Tokens.{same_terminal, token_kind, kind_at, is_terminal, name_of, has, name_at}
use Rattle.mj_tree.specs.Trees.{Name, Statement, Statements, Block, If, While, Print, Assign, Store, done, next, Method, Main, Class, File}
use Rattle.mj_expressions.specs.Expressions.{size}
use Rattle.mj_parser.specs.Statements.{stmt_size, stmts_size, stmt_height, IsStmt, AreStmts}
use Rattle.mj_parser.specs.Rows.{row_size, row_height, InRow}
use Rattle.mj_parser.specs.Declarations.{type_size, IsType, IsVariableAt, variable_size, IsMoreFormal, more_formal_size, formals_size, AreFormals, IsLocalAt, local_size, formals_place, locals_place, body_place, return_place, method_size, method_height, IsMethod, main_head, main_parameter, field_size, IsField, IsMethodAt, superclass_size, IsSuperclass, head_size, class_size, IsClass, class_height, IsMain, main_size, IsMainPart, main_part_size, main_part_height, Derives}
use Rattle.mj_expressions.specs.Steps.{behind_comma, at_comma, listed_at}
use Rattle.mj_parser.specs.StatementReading.{stmt_at}
use Rattle.mj_parser.specs.FileReading.{type_at, variable_at, local_at, field_at, begins_type, begins_local, signature_at, not_return, method_of, method_at, method_from, superclass_at, at_public, class_at, begins_main, main_method_at, main_from, main_at, main_part_at, before_end, tree_of}
use Rattle.mj_parser.proofs.Lists.{list_stmts}
use Rattle.mj_expressions.proofs.Marks.{has_other, has_named, has_within}
use Rattle.mj_parser.proofs.Rows.{row_again}
use Rattle.mj_expressions.proofs.ExpressionAgain.{closer_semicolon}
use Rattle.mj_expressions.proofs.ExpressionLaw.{exp_before}
use Rattle.mj_parser.proofs.StatementAgain.{print_name, print_dot, no_statement, stmts_again, stmt_again}
use Rattle.mj_expressions.proofs.Stands.{has_is}

-- ---- tokens

get_drop : (ts : List Token) (i k : ℕ) → slice_get (drop i ts) k ≡ slice_get ts (i + k)
get_drop ts zero k = ap (slice_get ts) (sym (zero-add k))
get_drop [] (suc i) k = refl
get_drop (t ∷ ts) (suc i) k = let e : suc (i + k) ≡ suc i + k = omega arith in get_drop ts i k ∙ ap (slice_get (t ∷ ts)) e

pub has_drop : (ts : List Token) (i k : ℕ) (t : Terminal) → has (drop i ts) k t ≡ has ts (i + k) t
unfolding has
has_drop ts i k t = ap (λ (o : Option Token). is_terminal t (token_kind o)) (get_drop ts i k)

nameless_kind : (t : Terminal) (k : Option TokenKind) → is_terminal t k ≡ true → name_of k ≡ None
nameless_kind t None h = refl
nameless_kind t (Some (kinds.Identifier name)) h = absurd cc
nameless_kind t (Some (kinds.Literal value)) h = refl
nameless_kind t (Some (kinds.Terminal other)) h = refl

-- no name stands where a symbol does
nameless : (ts : List Token) (i : ℕ) (t : Terminal) → has ts i t ≡ true → name_at ts i ≡ None
unfolding has name_at
nameless ts i t h = nameless_kind t (kind_at ts i) h

abbrev flat : {A : Type 0} → A → ℕ
flat x = 0

flat_row : {A : Type 0} (xs : List A) → row_height flat xs ≤ 0
flat_row [] = omega arith
flat_row (x ∷ xs) = let rest = flat_row xs in omega arith

-- ---- types and variables

type_again : (ts : List Token) (i : ℕ) (ty : Ty) (name : Name) → IsType ts i ty → name_at ts (i + type_size ty) ≡ Some name → type_at ts i ≡ Some (ty, i + type_size ty)
unfolding type_at
type_again ts i types.Int name h n = rw (type_at, (has_is _ _ _ h), has_named ts (i + 1) terminals.LeftBracket name n) refl
type_again ts i types.Boolean name h n = rw (type_at, has_other ts i terminals.Boolean terminals.Int (has_is _ _ _ h) refl, (has_is _ _ _ h)) refl
type_again ts i types.IntArray name h n = rw (type_at, (has_is _ _ _ h.0), (has_is _ _ _ h.1), (has_is _ _ _ h.2)) refl
type_again ts i (types.Class class) name h n = rw (type_at, has_named ts i terminals.Int class h, has_named ts i terminals.Boolean class h, h) refl

-- a token that begins no type
no_type : (ts : List Token) (n : Terminal) → same_terminal terminals.Int n ≡ false → same_terminal terminals.Boolean n ≡ false → (i : ℕ) (ty : Ty) → IsType ts i ty → has ts i n ≡ false
no_type ts n a b i types.Int h = has_other ts i terminals.Int n (has_is _ _ _ h) a
no_type ts n a b i types.Boolean h = has_other ts i terminals.Boolean n (has_is _ _ _ h) b
no_type ts n a b i types.IntArray h = has_other ts i terminals.Int n (has_is _ _ _ h.0) a
no_type ts n a b i (types.Class class) h = has_named ts i n class h

variable_again : (ts : List Token) (i j : ℕ) (v : Variable) → IsVariableAt ts i v → j ≡ i + variable_size v → variable_at ts i ≡ Some (v, j)
unfolding variable_at
variable_again ts i j v h at =
    let j-is : j ≡ i + type_size v.ty + 1 = omega arith in
    let make : ℕ → Option (Variable × ℕ) = λ m. Some (record { name = v.name; ty = v.ty; mark = m }, i + type_size v.ty + 1) in
    rw (variable_at, j-is, type_again ts i v.ty v.name h.1 h.2, h.2) (ap make (sym h.0))

local_again : (ts : List Token) (i j : ℕ) (v : Variable) → IsLocalAt ts i v → j ≡ i + local_size v → local_at ts i ≡ Some (v, j)
unfolding local_at
local_again ts i j v h at =
    let j-is : j ≡ i + variable_size v + 1 = omega arith in
    rw (local_at, j-is, variable_again ts i (i + variable_size v) v h.0 refl, has_is _ _ _ h.1) refl

field_again : (ts : List Token) (i j : ℕ) (f : Field) → IsField ts i f → j ≡ i + field_size f → field_at ts i ≡ Some (f, j)
unfolding field_at
field_again ts i j f h at =
    let v : Variable = record { name = f.name; ty = f.ty; mark = i } in
    rw (field_at, local_again ts i j v ((refl, h.0, h.1), h.2) at) refl

type_begins : (ts : List Token) (i : ℕ) (ty : Ty) → IsType ts i ty → begins_type ts i ≡ true
type_begins ts i types.Int h = rw (has_is _ _ _ h) refl
type_begins ts i types.Boolean h = rw (has_other ts i terminals.Boolean terminals.Int (has_is _ _ _ h) refl, (has_is _ _ _ h)) refl
type_begins ts i types.IntArray h = rw (has_is _ _ _ h.0) refl
type_begins ts i (types.Class class) h = rw (has_named ts i terminals.Int class h, has_named ts i terminals.Boolean class h, h) refl

local_begins : (ts : List Token) (i : ℕ) (ty : Ty) (name : Name) → IsType ts i ty → name_at ts (i + type_size ty) ≡ Some name → begins_local ts i ≡ true
local_begins ts i types.Int name h n = rw (has_is _ _ _ h) refl
local_begins ts i types.Boolean name h n = rw (has_other ts i terminals.Boolean terminals.Int (has_is _ _ _ h) refl, (has_is _ _ _ h)) refl
local_begins ts i types.IntArray name h n = rw (has_is _ _ _ h.0) refl
local_begins ts i (types.Class class) name h n = rw (has_named ts i terminals.Int class h, has_named ts i terminals.Boolean class h, h, n) refl

-- where a symbol stands that is no type, none begins
no_type_here : (ts : List Token) (i : ℕ) (t : Terminal) → has ts i t ≡ true → same_terminal t terminals.Int ≡ false → same_terminal t terminals.Boolean ≡ false → begins_type ts i ≡ false
no_type_here ts i t h a b = rw (has_other ts i t terminals.Int h a, has_other ts i t terminals.Boolean h b, nameless ts i t h) refl

no_local_here : (ts : List Token) (i : ℕ) (t : Terminal) → has ts i t ≡ true → same_terminal t terminals.Int ≡ false → same_terminal t terminals.Boolean ≡ false → begins_local ts i ≡ false
no_local_here ts i t h a b = rw (has_other ts i t terminals.Int h a, has_other ts i t terminals.Boolean h b, nameless ts i t h) refl

no_local_named : (ts : List Token) (i : ℕ) (name : Name) (t : Terminal) → name_at ts i ≡ Some name → has ts (i + 1) t ≡ true → begins_local ts i ≡ false
no_local_named ts i name t n h = rw (has_named ts i terminals.Int name n, has_named ts i terminals.Boolean name n, n, nameless ts (i + 1) t h) refl

no_local_at : (ts : List Token) (i : ℕ) (s : Statement) → IsStmt ts i s → begins_local ts i ≡ false
no_local_at ts i (Block m body) h = no_local_here ts i terminals.LeftBrace (has_is _ _ _ h.1) refl refl
no_local_at ts i (If m e s t) h = no_local_here ts i terminals.If (has_is _ _ _ h.1) refl refl
no_local_at ts i (While m e s) h = no_local_here ts i terminals.While (has_is _ _ _ h.1) refl refl
no_local_at ts i (Print m v) h = no_local_named ts i (codes "System") terminals.Dot (print_name ts i h.1) (print_dot ts i h.1)
no_local_at ts i (Assign m name k v) h = no_local_named ts i name terminals.Assign h.2 (has_is _ _ _ h.3)
no_local_at ts i (Store m name k x v) h = no_local_named ts i name terminals.LeftBracket h.2 (has_is _ _ _ h.3)

-- behind the locals stands a statement or `return`
no_local_behind : (ts : List Token) (i : ℕ) (ss : Statements) → AreStmts ts i ss → has ts (i + stmts_size ss) terminals.Return ≡ true → begins_local ts i ≡ false
no_local_behind ts i done h e = let same : i + 0 ≡ i = omega arith in no_local_here ts i terminals.Return (subst (λ (k : ℕ). has ts k terminals.Return ≡ true) same e) refl refl
no_local_behind ts i (next s ss) h e = no_local_at ts i s h.0

formals_again : (ts : List Token) (i j : ℕ) (vs : List Variable) → AreFormals ts i vs → j ≡ i + formals_size vs → has ts j terminals.RightParenthesis ≡ true → listed_at (variable_at ts) ts i ≡ Some (vs, j + 1)
unfolding listed_at
formals_again ts i j [] h at e = let same : i ≡ j = omega arith in rw (listed_at, same, e) refl
formals_again ts i j (v ∷ vs) h at e =
    let w = has_within ts j terminals.RightParenthesis e in
    let v-is = h.0 in
    let r = row_again (IsMoreFormal ts) more_formal_size flat 0 (behind_comma (variable_at ts)) (at_comma ts) (length ts) (λ k x g low. variable_again ts (k + 1) (k + more_formal_size x) x g.1 (omega arith)) (λ k x g. has_is _ _ _ g.0) (λ x. omega arith) vs (suc (length ts)) (i + variable_size v) j h.1 (flat_row vs)
    (omega arith) (has_other ts j terminals.RightParenthesis terminals.Comma e refl) (omega arith) (omega arith) in
    rw (listed_at, no_type ts terminals.RightParenthesis refl refl i v.ty v-is.1, variable_again ts i (i + variable_size v) v h.0 refl, r, e) refl

-- ---- methods

signature_again : (ts : List Token) (m : Method) (k : ℕ) → IsMethod ts m → k ≡ locals_place m → signature_at ts ≡ Some (record { name = m.name; returns = m.returns; formals = m.formals }, k)
unfolding signature_at
signature_again ts m k h at =
    let k-is : k ≡ formals_place m + formals_size m.formals + 1 + 1 = omega arith in
    rw (signature_at, k-is, (has_is _ _ _ h.public_word), type_again ts 1 m.returns m.name h.returns h.name, h.name, (has_is _ _ _ h.opening), formals_again ts (formals_place m) (formals_place m + formals_size m.formals) m.formals h.formals refl (has_is _ _ _ h.closing), (has_is _ _ _ h.brace)) refl

method_again : (ts : List Token) (m : Method) → IsMethod ts m → method_height m ≤ 500 → method_at ts ≡ Some (m, method_size m)
unfolding method_at method_of
method_again ts m h low =
    let w = has_within ts (return_place m) terminals.Return (has_is _ _ _ h.return_word) in
    let ls = row_again (IsLocalAt ts) local_size flat 0 (local_at ts) (begins_local ts) (length ts) (λ k x g lw. local_again ts k (k + local_size x) x g refl) (λ k x g. local_begins ts k x.ty x.name g.0.1 g.0.2) (λ x. omega arith) m.locals (suc (length ts)) (locals_place m) (body_place m) h.locals (flat_row m.locals)
    refl (no_local_behind ts (body_place m) m.body h.body (has_is _ _ _ h.return_word)) (omega arith) (omega arith) in
    let bs = stmts_again ts 500 (stmt_at 500 ts) (λ i j s. stmt_again ts 500 i j s) (not_return ts) (λ i s g. ap not (no_statement ts terminals.Return refl refl refl s i g)) m.body (suc (length ts)) (body_place m) (return_place m) h.body (omega arith) refl (ap not (has_is _ _ _ h.return_word)) (omega arith) (omega arith) in
    let v = exp_before ts 500 terminals.Semicolon closer_semicolon (return_place m + 1) (return_place m + 1 + size m.returned) m.returned h.returned (omega arith) refl (has_is _ _ _ h.semicolon) in
    let make : ℕ → Option (Method × ℕ) = λ k. Some (record { name = m.name; returns = m.returns; formals = m.formals; locals = m.locals; body = m.body; returned = m.returned; return_mark = k }, method_size m) in
    rw (method_at, signature_again ts m (locals_place m) h refl, ls, bs, method_of, v, (has_is _ _ _ h.semicolon), (has_is _ _ _ h.end_brace), list_stmts m.body) (ap make (sym h.return_mark))

method_from_again : (ts : List Token) (i : ℕ) (m : Method) → IsMethodAt ts i m → method_height m ≤ 500 → method_from ts i ≡ Some (m, i + method_size m)
unfolding method_from
method_from_again ts i m h low = rw (method_from, method_again (drop i ts) m h low) refl

pub method_begins : (ts : List Token) (i : ℕ) (m : Method) → IsMethodAt ts i m → has ts i terminals.Public ≡ true
method_begins ts i m h = let same : i + 0 ≡ i = omega arith in subst (λ (k : ℕ). has ts k terminals.Public ≡ true) same (sym (has_drop ts i 0 terminals.Public) ∙ (has_is _ _ _ h.public_word))

-- ---- classes

superclass_again : (ts : List Token) (i j : ℕ) (s : Option Name) → IsSuperclass ts i s → has ts j terminals.LeftBrace ≡ true → j ≡ i + superclass_size s → superclass_at ts i ≡ Some (s, j)
unfolding superclass_at
superclass_again ts i j None h e at =
    let same : i ≡ j = omega arith in
    rw (superclass_at, same, has_other ts j terminals.LeftBrace terminals.Extends e refl) refl
superclass_again ts i j (Some name) h e at = rw (superclass_at, at, (has_is _ _ _ h.0), h.1) refl

-- behind the fields stands a method or the brace
no_field_behind : (ts : List Token) (i : ℕ) (ms : List Method) → InRow (IsMethodAt ts) method_size i ms → has ts (i + row_size method_size ms) terminals.RightBrace ≡ true → begins_type ts i ≡ false
no_field_behind ts i [] h e = let same : i + 0 ≡ i = omega arith in no_type_here ts i terminals.RightBrace (subst (λ (k : ℕ). has ts k terminals.RightBrace ≡ true) same e) refl refl
no_field_behind ts i (m ∷ ms) h e = no_type_here ts i terminals.Public (method_begins ts i m h.0) refl refl

class_again : (ts : List Token) (i j : ℕ) (c : Class) → IsClass ts i c → class_height c ≤ 500 → j ≡ i + class_size c → class_at ts i ≡ Some (c, j)
unfolding class_at
class_again ts i j c h low at =
    let brace = i + (2 + superclass_size c.superclass) in
    let fields-from = i + head_size c in
    let fields-to = i + head_size c + row_size field_size c.fields in
    let methods-to = i + head_size c + row_size field_size c.fields + row_size method_size c.methods in
    let w = has_within ts (i + head_size c + row_size field_size c.fields + row_size method_size c.methods) terminals.RightBrace (has_is _ _ _ h.end_brace) in
    let j-is : j ≡ i + head_size c + row_size field_size c.fields + row_size method_size c.methods + 1 = omega arith in
    let head-is : i + (2 + superclass_size c.superclass) + 1 ≡ i + head_size c = omega arith in
    let ss = superclass_again ts (i + 2) (i + (2 + superclass_size c.superclass)) c.superclass h.superclass (has_is _ _ _ h.brace) (omega arith) in
    let fs = row_again (IsField ts) field_size flat 0 (field_at ts) (begins_type ts) (length ts) (λ k x g lw. field_again ts k (k + field_size x) x g refl) (λ k x g. type_begins ts k x.ty g.0) (λ x. omega arith) c.fields (suc (length ts)) (i + head_size c) (i + head_size c + row_size field_size c.fields) h.fields (flat_row c.fields)
    refl (no_field_behind ts (i + head_size c + row_size field_size c.fields) c.methods h.methods (has_is _ _ _ h.end_brace)) (omega arith) (omega arith) in
    let ms = row_again (IsMethodAt ts) method_size method_height 500 (method_from ts) (at_public ts) (length ts) (method_from_again ts) (method_begins ts) (λ x. omega arith) c.methods (suc (length ts)) (i + head_size c + row_size field_size c.fields) (i + head_size c + row_size field_size c.fields + row_size method_size c.methods) h.methods low
    refl (has_other ts _ terminals.RightBrace terminals.Public (has_is _ _ _ h.end_brace) refl) (omega arith) (omega arith) in
    rw (class_at, j-is, (has_is _ _ _ h.class_word), h.name, ss, (has_is _ _ _ h.brace), head-is, fs, ms, (has_is _ _ _ h.end_brace)) refl

class_begins : (ts : List Token) (i : ℕ) (c : Class) → IsClass ts i c → before_end ts i ≡ true
class_begins ts i c h = lt-ltb i (length ts) (has_within ts i terminals.Class (has_is _ _ _ h.class_word))

-- ---- files

main_method_again : (ts : List Token) (s : Statement) (j : ℕ) → main_head ts ≡ true → main_parameter ts ≡ true → IsStmt ts 11 s → has ts (11 + stmt_size s) terminals.RightBrace ≡ true → has ts (11 + stmt_size s + 1) terminals.RightBrace ≡ true → stmt_height s ≤ 500 → j ≡ 11 + stmt_size s + 2 → main_method_at ts ≡ Some (s, j)
unfolding main_method_at
main_method_again ts s j a b h c d low at = rw (main_method_at, at, a, b, stmt_again ts 500 11 (11 + stmt_size s) s h low refl, c, d) refl

main_again : (ts : List Token) (m : Main) → IsMain ts m → stmt_height m.statement ≤ 500 → main_at ts ≡ Some (m, main_size m)
unfolding main_at main_from
main_again ts m h low = rw (main_at, (has_is _ _ _ h.class_word), h.name, (has_is _ _ _ h.brace), main_from, main_method_again (drop 3 ts) m.statement (11 + stmt_size m.statement + 2) h.head h.parameter h.statement (has_is _ _ _ h.end_brace) (has_is _ _ _ h.end_class) low refl) refl

head_words : (a b c d e : Bool) → (a && b && c && d && e) ≡ true → (a ≡ true) × (b ≡ true)
head_words true true c d e h = (refl, refl)
head_words true false c d e h = absurd cc
head_words false b c d e h = absurd cc

main_begins : (ts : List Token) (m : Main) → IsMain ts m → begins_main ts ≡ true
main_begins ts m h =
    let words = head_words (has (drop 3 ts) 0 terminals.Public) (has (drop 3 ts) 1 terminals.Static) _ _ _ h.head in
    let at_three : has ts 3 terminals.Public ≡ true = sym (has_drop ts 3 0 terminals.Public) ∙ words.0 in
    let at_four : has ts 4 terminals.Static ≡ true = sym (has_drop ts 3 1 terminals.Static) ∙ words.1 in
    rw ((has_is _ _ _ h.brace), at_three, at_four) refl

-- a class that isn't the main class doesn't begin like it
unlike_main : (ts : List Token) (s : Option Name) (fs : List Field) (ms : List Method) → IsSuperclass ts 2 s → InRow (IsField ts) field_size (0 + (2 + superclass_size s + 1)) fs → InRow (IsMethodAt ts) method_size (0 + (2 + superclass_size s + 1) + row_size field_size fs) ms
    → has ts (0 + (2 + superclass_size s + 1) + row_size field_size fs + row_size method_size ms) terminals.RightBrace ≡ true → has ts 2 terminals.LeftBrace ≡ true → has ts 3 terminals.Public ≡ true → has ts 4 terminals.Static ≡ true → ⊥
unlike_main ts (Some name) fs ms hs hf hm e a b c = let n = has_other ts 2 terminals.Extends terminals.LeftBrace (has_is _ _ _ hs.0) refl in absurd cc
unlike_main ts None (f ∷ fs) ms hs hf hm e a b c = let n = no_type ts terminals.Public refl refl 3 f.ty hf.0.0 in absurd cc
unlike_main ts None [] [] hs hf hm e a b c = let n = has_other ts 3 terminals.RightBrace terminals.Public e refl in absurd cc
unlike_main ts None [] (m ∷ ms) hs hf hm e a b c =
    let n = no_type (drop 3 ts) terminals.Static refl refl 1 m.returns hm.0.returns in
    let s = has_drop ts 3 1 terminals.Static in
    absurd cc

no_main : (ts : List Token) (cs : List Class) → InRow (IsClass ts) class_size 0 cs → row_size class_size cs ≡ length ts → begins_main ts ≡ false
no_main ts [] h whole = false_from_ne_true (begins_main ts) (λ e.
    let both = and_parts (has ts 2 terminals.LeftBrace && has ts 3 terminals.Public) (has ts 4 terminals.Static) e in
    let w = has_within ts 4 terminals.Static both.1 in
    absurd (omega arith))
no_main ts (c ∷ cs) h whole = false_from_ne_true (begins_main ts) (λ e.
    let both = and_parts (has ts 2 terminals.LeftBrace && has ts 3 terminals.Public) (has ts 4 terminals.Static) e in
    let first = and_parts (has ts 2 terminals.LeftBrace) (has ts 3 terminals.Public) both.0 in
    let k = h.0 in
    unlike_main ts c.superclass c.fields c.methods k.superclass k.fields k.methods (has_is _ _ _ k.end_brace) first.0 first.1 both.1)

main_part_again : (ts : List Token) (m : Option Main) (cs : List Class) → IsMainPart ts m → InRow (IsClass ts) class_size (main_part_size m) cs → main_part_size m + row_size class_size cs ≡ length ts → main_part_height m ≤ 500 → main_part_at ts ≡ Some (m, main_part_size m)
unfolding main_part_at
main_part_again ts None cs h hc whole low = rw (main_part_at, no_main ts cs hc (omega arith)) refl
main_part_again ts (Some m) cs h hc whole low = rw (main_part_at, main_begins ts m h, main_again ts m h low) refl

pub file_again : (ts : List Token) (f : File) → Derives ts f → tree_of ts ≡ Some f
unfolding tree_of
file_again ts f d =
    let whole = d.whole in
    let low = d.low in
    let cs = row_again (IsClass ts) class_size class_height 500 (class_at ts) (before_end ts) (length ts) (λ k x g lw. class_again ts k (k + class_size x) x g lw refl) (class_begins ts) (λ x. omega arith) f.classes (suc (length ts)) (main_part_size f.main) (length ts) d.classes (omega arith)
    (omega arith) (le-ltb (length ts) (length ts) (omega arith)) (omega arith) (omega arith) in
    rw (tree_of, main_part_again ts f.main f.classes d.main d.classes d.whole (omega arith), cs) refl
