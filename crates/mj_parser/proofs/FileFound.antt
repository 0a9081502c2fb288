-- What is read as a declaration or a file is that by the grammar.
use Rattle.std.proofs.Common.{◌≡◌, ℕ, suc, ◌+◌, ◌≤◌, true, ◌&&◌, List, [], ◌∷◌, length, drop, Option, Some, None, refl, ap, subst, arith, inl, inr}
use Rattle.std.proofs.lemmas.Bool.{ltb-false, and_parts, not-false}
use Rattle.std.proofs.lemmas.List.{length-drop}
use Rattle.mj_lexer.specs.declared.token.Token.{Token}
use Rattle.mj_lexer.specs.declared.token.Terminal.TheVariants as terminals
use Rattle.mj_tree.specs.declared.tree.Ty.{Ty}
use Rattle.mj_tree.specs.declared.tree.Field.{Field}
use Rattle.mj_tree.specs.declared.tree.Variable.{Variable}
use Rattle.mj_expressions.specs.Tokens.{Stands, has, name_at}
use Rattle.mj_tree.specs.Trees.{Name, Statement, Method, Main, Class, File}
use Rattle.mj_tree.specs.Views.{statements_of}
use Rattle.mj_expressions.specs.Expressions.{size, IsExp}
use Rattle.mj_parser.specs.Statements.{stmt_size, stmts_size, stmt_height, IsStmt, AreStmts}
use Rattle.mj_parser.specs.Rows.{row_size, InRow}
use Rattle.mj_parser.specs.Declarations.{type_size, IsType, IsVariableAt, variable_size, IsMoreFormal, more_formal_size, formals_size, AreFormals, IsLocalAt, local_size, method_size, method_height, IsMethod, main_head, main_parameter, field_size, IsField, IsMethodAt, superclass_size, IsSuperclass, class_size, IsClass, class_height, IsMain, main_size, IsMainPart, main_part_size, main_part_height, Derives}
use Rattle.mj_expressions.specs.Steps.{items_from, behind_comma, at_comma, listed_at}
use Rattle.mj_expressions.specs.ExpressionReading.{exp_at}
use Rattle.mj_parser.specs.StatementReading.{stmt_at}
use Rattle.mj_parser.specs.FileReading.{type_at, variable_at, local_at, field_at, begins_type, begins_local, MethodHeading, signature_at, not_return, method_of, method_at, method_from, superclass_at, at_public, class_at, begins_main, main_method_at, main_from, main_at, main_part_at, before_end, tree_of}
use Rattle.mj_expressions.proofs.Binds.{bind_some, when_some, if_some, some_is}
use Rattle.mj_parser.proofs.Rows.{PartSound, row_found}
use Rattle.mj_expressions.proofs.ExpressionFound.{exp_found}
use Rattle.mj_parser.proofs.StatementFound.{stmts_found, stmt_found}
use Rattle.mj_expressions.proofs.Stands.{stands, when_stands, if_stands, both_stand, stands_within}

abbrev flat : {A : Type 0} → A → ℕ
flat x = 0

-- ---- types and variables

abbrev SoundType : List Token → ℕ → Ty × ℕ → Type 0
SoundType ts i x = PartSound (IsType ts) type_size flat 0 i x

type_found : (ts : List Token) (i : ℕ) (x : Ty × ℕ) → type_at ts i ≡ Some x → SoundType ts i x
unfolding type_at
type_found ts i x e =
    elim (if_stands ts i terminals.Int _ _ x e) [
      | inl a ↦ elim (if_stands ts (i + 1) terminals.LeftBracket _ _ x a.1) [
        | inl b ↦
            let c = when_stands ts (i + 2) terminals.RightBracket _ x b.1 in
            subst (SoundType ts i) (some_is _ x c.1) (record { is = (a.0, b.0, c.0); at = refl; low = omega arith })
        | inr b ↦ subst (SoundType ts i) (some_is _ x b.1) (record { is = a.0; at = refl; low = omega arith })
      ]
      | inr a ↦ elim (if_stands ts i terminals.Boolean _ _ x a.1) [
        | inl b ↦ subst (SoundType ts i) (some_is _ x b.1) (record { is = b.0; at = refl; low = omega arith })
        | inr b ↦
            let c = bind_some (name_at ts i) _ x b.1 in
            subst (SoundType ts i) (some_is _ x c.2) (record { is = c.1; at = refl; low = omega arith })
      ]
    ]

abbrev SoundVariable : List Token → ℕ → Variable × ℕ → Type 0
SoundVariable ts i x = PartSound (IsVariableAt ts) variable_size flat 0 i x

variable_found : (ts : List Token) (i : ℕ) (x : Variable × ℕ) → variable_at ts i ≡ Some x → SoundVariable ts i x
unfolding variable_at
variable_found ts i x e =
    let a = bind_some (type_at ts i) _ x e in
    let b = bind_some (name_at ts a.0.1) _ x a.2 in
    let t = type_found ts i a.0 a.1 in
    let at = t.at in
    subst (SoundVariable ts i) (some_is _ x b.2) (record { is = (refl, t.is, subst (λ (k : ℕ). name_at ts k ≡ Some b.0) t.at b.1); at = omega arith; low = omega arith })

abbrev SoundLocal : List Token → ℕ → Variable × ℕ → Type 0
SoundLocal ts i x = PartSound (IsLocalAt ts) local_size flat 0 i x

local_found : (ts : List Token) (i : ℕ) (x : Variable × ℕ) → local_at ts i ≡ Some x → SoundLocal ts i x
unfolding local_at
local_found ts i x e =
    let a = bind_some (variable_at ts i) _ x e in
    let b = when_stands ts a.0.1 terminals.Semicolon _ x a.2 in
    let v = variable_found ts i a.0 a.1 in
    let at = v.at in
    subst (SoundLocal ts i) (some_is _ x b.1) (record { is = (v.is, subst (λ (k : ℕ). Stands ts k terminals.Semicolon) v.at b.0); at = omega arith; low = omega arith })

abbrev SoundField : List Token → ℕ → Field × ℕ → Type 0
SoundField ts i x = PartSound (IsField ts) field_size flat 0 i x

field_found : (ts : List Token) (i : ℕ) (x : Field × ℕ) → field_at ts i ≡ Some x → SoundField ts i x
unfolding field_at
field_found ts i x e =
    let a = bind_some (local_at ts i) _ x e in
    let v = local_found ts i a.0 a.1 in
    let at = v.at in
    let is = v.is in
    subst (SoundField ts i) (some_is _ x a.2) (record { is = (is.0.1, is.0.2, is.1); at = omega arith; low = omega arith })

more_formal_found : (ts : List Token) (i : ℕ) (x : Variable × ℕ) → at_comma ts i ≡ true → behind_comma (variable_at ts) i ≡ Some x → PartSound (IsMoreFormal ts) more_formal_size flat 0 i x
more_formal_found ts i x c e = let v = variable_found ts (i + 1) x e in let at = v.at in record { is = (stands ts i terminals.Comma c, v.is); at = omega arith; low = omega arith }

-- formals up to the parenthesis
record SoundFormals (ts : List Token) (i : ℕ) (x : List Variable × ℕ) : Type 0 where
  are : AreFormals ts i x.0
  at : x.1 ≡ i + formals_size x.0 + 1
  close : Stands ts (i + formals_size x.0) terminals.RightParenthesis

formals_found : (ts : List Token) (i : ℕ) (x : List Variable × ℕ) → listed_at (variable_at ts) ts i ≡ Some x → SoundFormals ts i x
unfolding listed_at
formals_found ts i x e =
    elim (if_stands ts i terminals.RightParenthesis _ _ x e) [
      | inl a ↦
          let same : i ≡ i + 0 = omega arith in
          subst (SoundFormals ts i) (some_is _ x a.1) (record { are = tt; at = omega arith; close = subst (λ (k : ℕ). Stands ts k terminals.RightParenthesis) same a.0 })
      | inr a ↦
          let b = bind_some (variable_at ts i) _ x a.1 in
          let c = bind_some (items_from (suc (length ts)) (behind_comma (variable_at ts)) (at_comma ts) b.0.1) _ x b.2 in
          let f = when_stands ts c.0.1 terminals.RightParenthesis _ x c.2 in
          let v = variable_found ts i b.0 b.1 in
          let r = row_found (IsMoreFormal ts) more_formal_size flat 0 (behind_comma (variable_at ts)) (at_comma ts) (more_formal_found ts) (suc (length ts)) b.0.1 c.0 c.1 in
          let v-at = v.at in
          let r-at = r.at in
          let there : c.0.1 ≡ i + (variable_size b.0.0 + row_size more_formal_size c.0.0) = omega arith in
          subst (SoundFormals ts i) (some_is _ x f.1) (record {
            are = (v.is, subst (λ (k : ℕ). InRow (IsMoreFormal ts) more_formal_size k c.0.0) v.at r.are);
            at = omega arith;
            close = subst (λ (k : ℕ). Stands ts k terminals.RightParenthesis) there f.0;
          })
    ]

-- ---- methods

record SoundSignature (ts : List Token) (x : MethodHeading × ℕ) : Type 0 where
  public_word : Stands ts 0 terminals.Public
  returns : IsType ts 1 x.0.returns
  name : name_at ts (1 + type_size x.0.returns) ≡ Some x.0.name
  opening : Stands ts (1 + type_size x.0.returns + 1) terminals.LeftParenthesis
  formals : AreFormals ts (1 + type_size x.0.returns + 2) x.0.formals
  closing : Stands ts (1 + type_size x.0.returns + 2 + formals_size x.0.formals) terminals.RightParenthesis
  brace : Stands ts (1 + type_size x.0.returns + 2 + formals_size x.0.formals + 1) terminals.LeftBrace
  at : x.1 ≡ 1 + type_size x.0.returns + 2 + formals_size x.0.formals + 2

signature_found : (ts : List Token) (x : MethodHeading × ℕ) → signature_at ts ≡ Some x → SoundSignature ts x
unfolding signature_at
signature_found ts x e =
    let a = when_stands ts 0 terminals.Public _ x e in
    let b = bind_some (type_at ts 1) _ x a.1 in
    let n = bind_some (name_at ts b.0.1) _ x b.2 in
    let p = when_stands ts (b.0.1 + 1) terminals.LeftParenthesis _ x n.2 in
    let fs = bind_some (listed_at (variable_at ts) ts (b.0.1 + 2)) _ x p.1 in
    let q = when_stands ts fs.0.1 terminals.LeftBrace _ x fs.2 in
    let t = type_found ts 1 b.0 b.1 in
    let f = formals_found ts (b.0.1 + 2) fs.0 fs.1 in
    let t-at = t.at in
    let f-at = f.at in
    let there : fs.0.1 ≡ 1 + type_size b.0.0 + 2 + formals_size fs.0.0 + 1 = omega arith in
    subst (SoundSignature ts) (some_is _ x q.1) (record {
      public_word = a.0;
      returns = t.is;
      name = subst (λ (k : ℕ). name_at ts k ≡ Some n.0) t.at n.1;
      opening = subst (λ (k : ℕ). Stands ts (k + 1) terminals.LeftParenthesis) t.at p.0;
      formals = subst (λ (k : ℕ). AreFormals ts (k + 2) fs.0.0) t.at f.are;
      closing = subst (λ (k : ℕ). Stands ts (k + 2 + formals_size fs.0.0) terminals.RightParenthesis) t.at f.close;
      brace = subst (λ (k : ℕ). Stands ts k terminals.LeftBrace) there q.0;
      at = omega arith;
    })

record SoundMethod (ts : List Token) (x : Method × ℕ) : Type 0 where
  is : IsMethod ts x.0
  at : x.1 ≡ method_size x.0
  low : method_height x.0 ≤ 500

method_found : (ts : List Token) (x : Method × ℕ) → method_at ts ≡ Some x → SoundMethod ts x
unfolding method_at method_of
method_found ts x e =
    let a = bind_some (signature_at ts) _ x e in
    let l = bind_some (items_from (suc (length ts)) (local_at ts) (begins_local ts) a.0.1) _ x a.2 in
    let b = bind_some (items_from (suc (length ts)) (stmt_at 500 ts) (not_return ts) l.0.1) _ x l.2 in
    let r = bind_some (exp_at 500 ts 5 (b.0.1 + 1)) _ x b.2 in
    let c = when_some (has ts r.0.1 terminals.Semicolon && has ts (r.0.1 + 1) terminals.RightBrace) _ x r.2 in
    let both = both_stand ts r.0.1 terminals.Semicolon (r.0.1 + 1) terminals.RightBrace c.0 in
    let s = signature_found ts a.0 a.1 in
    let ls = row_found (IsLocalAt ts) local_size flat 0 (local_at ts) (begins_local ts) (λ i y g. local_found ts i y) (suc (length ts)) a.0.1 l.0 l.1 in
    let bs = stmts_found ts 500 (stmt_at 500 ts) (stmt_found ts 500) (not_return ts) (suc (length ts)) l.0.1 b.0 b.1 in
    let v = exp_found ts 500 5 (b.0.1 + 1) r.0 r.1 in
    let s-at = s.at in
    let l-at = ls.at in
    let b-at = bs.at in
    let v-at = v.at in
    let b-low = bs.low in
    let v-low = v.low in
    let body-at : l.0.1 ≡ 1 + type_size a.0.0.returns + 2 + formals_size a.0.0.formals + 2 + row_size local_size l.0.0 = omega arith in
    let return-at : b.0.1 ≡ 1 + type_size a.0.0.returns + 2 + formals_size a.0.0.formals + 2 + row_size local_size l.0.0 + stmts_size (statements_of b.0.0) = omega arith in
    let semicolon-at : r.0.1 ≡ 1 + type_size a.0.0.returns + 2 + formals_size a.0.0.formals + 2 + row_size local_size l.0.0 + stmts_size (statements_of b.0.0) + 1 + size r.0.0 = omega arith in
    subst (SoundMethod ts) (some_is _ x c.1) (record {
      is = record {
        public_word = s.public_word;
        returns = s.returns;
        name = s.name;
        opening = s.opening;
        formals = s.formals;
        closing = s.closing;
        brace = s.brace;
        locals = subst (λ (k : ℕ). InRow (IsLocalAt ts) local_size k l.0.0) s.at ls.are;
        body = subst (λ (k : ℕ). AreStmts ts k (statements_of b.0.0)) body-at bs.are;
        return_word = subst (λ (k : ℕ). Stands ts k terminals.Return) return-at (stands ts b.0.1 terminals.Return (not-false (has ts b.0.1 terminals.Return) bs.ends));
        return_mark = return-at;
        returned = subst (λ (k : ℕ). IsExp ts 5 (k + 1) r.0.0) return-at v.is;
        semicolon = subst (λ (k : ℕ). Stands ts k terminals.Semicolon) semicolon-at both.0;
        end_brace = subst (λ (k : ℕ). Stands ts (k + 1) terminals.RightBrace) semicolon-at both.1;
      };
      at = omega arith;
      low = omega arith;
    })

method_from_found : (ts : List Token) (i : ℕ) (x : Method × ℕ) → method_from ts i ≡ Some x → PartSound (IsMethodAt ts) method_size method_height 500 i x
unfolding method_from
method_from_found ts i x e =
    let a = bind_some (method_at (drop i ts)) _ x e in
    let m = method_found (drop i ts) a.0 a.1 in
    let at = m.at in
    subst (PartSound (IsMethodAt ts) method_size method_height 500 i) (some_is _ x a.2) (record { is = m.is; at = ap (λ (k : ℕ). i + k) m.at; low = m.low })

-- ---- classes

superclass_found : (ts : List Token) (i : ℕ) (x : Option Name × ℕ) → superclass_at ts i ≡ Some x → PartSound (IsSuperclass ts) superclass_size flat 0 i x
unfolding superclass_at
superclass_found ts i x e =
    elim (if_stands ts i terminals.Extends _ _ x e) [
      | inl a ↦
          let b = bind_some (name_at ts (i + 1)) _ x a.1 in
          subst (PartSound (IsSuperclass ts) superclass_size flat 0 i) (some_is _ x b.2) (record { is = (a.0, b.1); at = refl; low = omega arith })
      | inr a ↦ subst (PartSound (IsSuperclass ts) superclass_size flat 0 i) (some_is _ x a.1) (record { is = tt; at = omega arith; low = omega arith })
    ]

abbrev SoundClass : List Token → ℕ → Class × ℕ → Type 0
SoundClass ts i x = PartSound (IsClass ts) class_size class_height 500 i x

class_found : (ts : List Token) (i : ℕ) (x : Class × ℕ) → class_at ts i ≡ Some x → SoundClass ts i x
unfolding class_at
class_found ts i x e =
    let a = when_stands ts i terminals.Class _ x e in
    let n = bind_some (name_at ts (i + 1)) _ x a.1 in
    let s = bind_some (superclass_at ts (i + 2)) _ x n.2 in
    let b = when_stands ts s.0.1 terminals.LeftBrace _ x s.2 in
    let f = bind_some (items_from (suc (length ts)) (field_at ts) (begins_type ts) (s.0.1 + 1)) _ x b.1 in
    let m = bind_some (items_from (suc (length ts)) (method_from ts) (at_public ts) f.0.1) _ x f.2 in
    let c = when_stands ts m.0.1 terminals.RightBrace _ x m.2 in
    let ss = superclass_found ts (i + 2) s.0 s.1 in
    let fs = row_found (IsField ts) field_size flat 0 (field_at ts) (begins_type ts) (λ k y g. field_found ts k y) (suc (length ts)) (s.0.1 + 1) f.0 f.1 in
    let ms = row_found (IsMethodAt ts) method_size method_height 500 (method_from ts) (at_public ts) (λ k y g. method_from_found ts k y) (suc (length ts)) f.0.1 m.0 m.1 in
    let s-at = ss.at in
    let f-at = fs.at in
    let m-at = ms.at in
    let brace-at : s.0.1 ≡ i + (2 + superclass_size s.0.0) = omega arith in
    let fields-at : s.0.1 + 1 ≡ i + (2 + superclass_size s.0.0 + 1) = omega arith in
    let methods-at : f.0.1 ≡ i + (2 + superclass_size s.0.0 + 1) + row_size field_size f.0.0 = omega arith in
    let end-at : m.0.1 ≡ i + (2 + superclass_size s.0.0 + 1) + row_size field_size f.0.0 + row_size method_size m.0.0 = omega arith in
    subst (SoundClass ts i) (some_is _ x c.1) (record {
      is = record {
        class_word = a.0;
        name = n.1;
        superclass = ss.is;
        brace = subst (λ (k : ℕ). Stands ts k terminals.LeftBrace) brace-at b.0;
        fields = subst (λ (k : ℕ). InRow (IsField ts) field_size k f.0.0) fields-at fs.are;
        methods = subst (λ (k : ℕ). InRow (IsMethodAt ts) method_size k m.0.0) methods-at ms.are;
        end_brace = subst (λ (k : ℕ). Stands ts k terminals.RightBrace) end-at c.0;
      };
      at = omega arith;
      low = ms.low;
    })

-- ---- files

record SoundMainMethod (ts : List Token) (x : Statement × ℕ) : Type 0 where
  head : main_head ts ≡ true
  parameter : main_parameter ts ≡ true
  statement : IsStmt ts 11 x.0
  end_brace : Stands ts (11 + stmt_size x.0) terminals.RightBrace
  end_class : Stands ts (11 + stmt_size x.0 + 1) terminals.RightBrace
  at : x.1 ≡ 11 + stmt_size x.0 + 2
  low : stmt_height x.0 ≤ 500

main_method_found : (ts : List Token) (x : Statement × ℕ) → main_method_at ts ≡ Some x → SoundMainMethod ts x
unfolding main_method_at
main_method_found ts x e =
    let a = when_some (main_head ts && main_parameter ts) _ x e in
    let o = and_parts (main_head ts) (main_parameter ts) a.0 in
    let s = bind_some (stmt_at 500 ts 11) _ x a.1 in
    let c = when_some (has ts s.0.1 terminals.RightBrace && has ts (s.0.1 + 1) terminals.RightBrace) _ x s.2 in
    let both = both_stand ts s.0.1 terminals.RightBrace (s.0.1 + 1) terminals.RightBrace c.0 in
    let t = stmt_found ts 500 11 s.0 s.1 in
    let at = t.at in
    subst (SoundMainMethod ts) (some_is _ x c.1) (record {
      head = o.0;
      parameter = o.1;
      statement = t.is;
      end_brace = subst (λ (k : ℕ). Stands ts k terminals.RightBrace) t.at both.0;
      end_class = subst (λ (k : ℕ). Stands ts (k + 1) terminals.RightBrace) t.at both.1;
      at = omega arith;
      low = t.low;
    })

record SoundMain (ts : List Token) (x : Main × ℕ) : Type 0 where
  is : IsMain ts x.0
  at : x.1 ≡ main_size x.0
  low : stmt_height x.0.statement ≤ 500

main_found : (ts : List Token) (x : Main × ℕ) → main_at ts ≡ Some x → SoundMain ts x
unfolding main_at main_from
main_found ts x e =
    let a = when_stands ts 0 terminals.Class _ x e in
    let n = bind_some (name_at ts 1) _ x a.1 in
    let b = when_stands ts 2 terminals.LeftBrace _ x n.2 in
    let f = bind_some (main_from ts) _ x b.1 in
    let s = bind_some (main_method_at (drop 3 ts)) _ f.0 f.1 in
    let t = main_method_found (drop 3 ts) s.0 s.1 in
    let pair = some_is _ f.0 s.2 in
    let M : Statement × ℕ → Type 0 = λ (y : Statement × ℕ). SoundMain ts (record { name = n.0; statement = y.0 }, y.1) in
    subst (SoundMain ts) (some_is _ x f.2) (subst M pair (record {
      is = record { class_word = a.0; name = n.1; brace = b.0; head = t.head; parameter = t.parameter; statement = t.statement; end_brace = t.end_brace; end_class = t.end_class };
      at = ap (λ (k : ℕ). 3 + k) t.at;
      low = t.low;
    }))

record SoundMainPart (ts : List Token) (x : Option Main × ℕ) : Type 0 where
  is : IsMainPart ts x.0
  at : x.1 ≡ main_part_size x.0
  low : main_part_height x.0 ≤ 500

main_part_found : (ts : List Token) (x : Option Main × ℕ) → main_part_at ts ≡ Some x → SoundMainPart ts x
unfolding main_part_at
main_part_found ts x e =
    elim (if_some (begins_main ts) _ _ x e) [
      | inl a ↦
          let b = bind_some (main_at ts) _ x a.1 in
          let m = main_found ts b.0 b.1 in
          subst (SoundMainPart ts) (some_is _ x b.2) (record { is = m.is; at = m.at; low = m.low })
      | inr a ↦ subst (SoundMainPart ts) (some_is _ x a.1) (record { is = tt; at = refl; low = omega arith })
    ]

-- a class ends within the tokens
class_within : (ts : List Token) (i : ℕ) (c : Class) → IsClass ts i c → i + class_size c ≤ length ts
class_within ts i c h = let w = stands_within ts _ terminals.RightBrace h.end_brace in omega arith

classes_within : (ts : List Token) (i : ℕ) (cs : List Class) → i ≤ length ts → InRow (IsClass ts) class_size i cs → i + row_size class_size cs ≤ length ts
classes_within ts i [] w h = omega arith
classes_within ts i (c ∷ cs) w h =
    let rest = classes_within ts (i + class_size c) cs (class_within ts i c h.0) h.1 in
    omega arith

main_within : (ts : List Token) (m : Option Main) → IsMainPart ts m → main_part_size m ≤ length ts
main_within ts None h = omega arith
main_within ts (Some m) h =
    let w = stands_within (drop 3 ts) (11 + stmt_size m.statement + 1) terminals.RightBrace h.end_class in
    let l = length-drop 3 ts in
    omega arith

pub file_found : (ts : List Token) (f : File) → tree_of ts ≡ Some f → Derives ts f
unfolding tree_of
file_found ts f e =
    let a = bind_some (main_part_at ts) _ f e in
    let c = bind_some (items_from (suc (length ts)) (class_at ts) (before_end ts) a.0.1) _ f a.2 in
    let m = main_part_found ts a.0 a.1 in
    let cs = row_found (IsClass ts) class_size class_height 500 (class_at ts) (before_end ts) (λ k y g. class_found ts k y) (suc (length ts)) a.0.1 c.0 c.1 in
    let m-at = m.at in
    let c-at = cs.at in
    let m-low = m.low in
    let c-low = cs.low in
    let past = ltb-false c.0.1 (length ts) cs.ends in
    let are : InRow (IsClass ts) class_size (main_part_size a.0.0) c.0.0 = subst (λ (k : ℕ). InRow (IsClass ts) class_size k c.0.0) m.at cs.are in
    let within = classes_within ts (main_part_size a.0.0) c.0.0 (main_within ts a.0.0 m.is) are in
    subst (Derives ts) (some_is _ f c.2) (record { main = m.is; classes = are; whole = omega arith; low = omega arith })
