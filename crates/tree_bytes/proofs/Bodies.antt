-- Bodies as the bytes that spell them.
use Rattle.std.proofs.Common.{◌≡◌, ℕ, zero, suc, ◌-◌, ◌≤◌, List, [], ◌∷◌, ◌++◌, length, take, drop, get_or, Some, Result, Ok, Err, refl, sym, ap, subst, ◌∙◌, append_assoc, arith}
use Rattle.std.proofs.lemmas.List.{append-nil, length-append, take-append-le, take_all}
use Rattle.byte_readers.specs.declared.breach.Breach.{Breach}
use Rattle.byte_readers.specs.Lawful.{IsBytes, Takes}
use Rattle.byte_readers.specs.Laws.{any_admits, lawful_list, lawful_name, lawful_pair, made_again}
use Rattle.byte_readers.specs.Reading.{any, name_at}
use Rattle.byte_readers.specs.Spelling.{eight, four, list, name}
use Rattle.mj_tree.specs.declared.tree.Ty.{Ty}
use Rattle.mj_tree.specs.declared.tree.Variable.{Variable}
use Rattle.mj_tree.specs.Trees.{Statement, Method}
use Rattle.tree_bytes.specs.Bodies.{BodyValue, OfMain, OfMethod, BodyFits, body, body_at, body_spelled, statement_of, method_of, types_of}
use Rattle.tree_bytes.specs.BodyLaws.{lawful_body}
use Rattle.tree_spelling.specs.FileLaws.{lawful_tagged, lawful_top_stmt}
use Rattle.tree_spelling.specs.Reading.{top_stmt_at, tagged_method_at, types_at}
use Rattle.tree_skipping.specs.Skipping.{behind}
use Rattle.tree_spelling.specs.Spelling.{ty, variable, exp, stmt, stmts, count_stmts, method}
use Rattle.tree_spelling.specs.TypeLaws.{lawful_ty, lawful_variable}
use Rattle.tree_spelling.specs.Storable.{MethodFits, TopStmtFits}

-- what is given once is the same each time
ok_same : {A : Type 0} {a b : A} (r : Result A Breach) → r ≡ Ok a → r ≡ Ok b → a ≡ b
ok_same r e d = cc

pub first_is : {A B : Type 0} {a b : A} {x y : B} (r : Result (A × B) Breach) → r ≡ Ok (a, x) → r ≡ Ok (b, y) → a ≡ b
first_is r e d = ap (λ p. p.0) (ok_same r e d)

pub refused_once : {A : Type 0} {a : A} {breach : Breach} (r : Result A Breach) → r ≡ Ok a → r ≡ Err breach → ⊥
refused_once r e d = absurd cc

-- a tag, and what is written behind it
pub behind_tag : (tag : ℕ) (text first pushed all : List ℕ) → first ≡ [] → pushed ≡ first ++ tag ∷ [] → all ≡ pushed ++ text → all ≡ tag ∷ text
behind_tag tag text first pushed all e f g = g ∙ ap (λ (l : List ℕ). l ++ text) (f ∙ ap (λ (l : List ℕ). l ++ tag ∷ []) e)

-- a body is read back from its bytes
pub read_back : (bytes : List ℕ) (v : BodyValue) → bytes ≡ body v → BodyFits v → body_at bytes ≡ Ok (v, [])
read_back bytes v is fits = ap body_at (is ∙ sym (append-nil (body v))) ∙ lawful_body.again v [] fits

pub spelled : (bytes : List ℕ) (v : BodyValue) → bytes ≡ body v → BodyFits v → body_spelled bytes ≡ v
unfolding body_spelled
spelled bytes v is fits = rw (read_back bytes v is fits) refl

-- what the type keeps
pub kept : (bytes : List ℕ) (v : BodyValue) → bytes ≡ body v → BodyFits v → BodyFits (body_spelled bytes) × (bytes ≡ body (body_spelled bytes))
kept bytes v is fits =
    let same = spelled bytes v is fits in
    (subst BodyFits (sym same) fits, is ∙ ap body (sym same))

-- the part in front of what is left behind a body is its spelling
cut : (text left : List ℕ) → take (length (text ++ left) - length left) (text ++ left) ≡ text
cut text left =
    let n : length (text ++ left) - length left ≡ length text = omega (arith, length-append text left) in
    ap (λ (k : ℕ). take k (text ++ left)) n ∙ (take-append-le (length text) text left (omega arith) ∙ take_all (length text) text (omega arith))

pub some_behind : {A : Type 0} (read : Result (A × List ℕ) Breach) (left : List ℕ) → behind read ≡ Ok left → (a : A) × (read ≡ Ok (a, left))
some_behind (Ok x) left e = (x.0, ap (λ (l : List ℕ). Ok (x.0, l)) (ok_same (Ok x.1) refl e))
some_behind (Err breach) left e = absurd cc

-- the bytes that a copy is made of
record Front (text bytes left : List ℕ) : Type 0 where
  pub fewer : length left ≤ length bytes
  pub text_is : take (length bytes - length left) bytes ≡ text

front : (text bytes left : List ℕ) → Takes bytes text left → Front text bytes left
front text bytes left t = record {
  fewer = omega (arith, ap length t.parts, length-append text left);
  text_is = rw t.parts (cut text left);
}

-- ---- a body

module _ (bytes left : List ℕ) (all : IsBytes bytes) (is : behind (body_at bytes) ≡ Ok left) where
  read : (v : BodyValue) × (body_at bytes ≡ Ok (v, left))
  read = some_behind (body_at bytes) left is

  taken : Takes bytes (body read.0) left × BodyFits read.0
  taken = lawful_body.takes bytes read.0 left all read.1

  pub body_fewer : length left ≤ length bytes
  body_fewer = (front (body read.0) bytes left taken.0).fewer

  module _ (copy : List ℕ) (made : copy ≡ take (length bytes - length left) bytes) where
    is_text : copy ≡ body read.0
    is_text = made ∙ (front (body read.0) bytes left taken.0).text_is

    pub body_kept : BodyFits (body_spelled copy) × (copy ≡ body (body_spelled copy))
    body_kept = kept copy read.0 is_text taken.1

    pub body_read : body_at bytes ≡ Ok (body_spelled copy, left)
    body_read = read.1 ∙ ap (λ (v : BodyValue). Ok (v, left)) (sym (spelled copy read.0 is_text taken.1))

-- ---- a method

tagged_body : (bytes : List ℕ) (m : Method) (left : List ℕ) → tagged_method_at bytes ≡ Ok (m, left) → body_at bytes ≡ Ok (OfMethod m, left)
unfolding tagged_method_at body_at
tagged_body [] m left e = absurd cc
tagged_body (zero ∷ bytes) m left e = absurd cc
tagged_body (suc zero ∷ bytes) m left e = rw e refl
tagged_body (suc (suc b) ∷ bytes) m left e = absurd cc

pub record IsMethod (bytes left : List ℕ) (b : BodyValue) : Type 0 where
  pub method : b ≡ OfMethod (method_of b)
  pub read : tagged_method_at bytes ≡ Ok (method_of b, left)
  pub fits : MethodFits (method_of b)

module _ (bytes left : List ℕ) (all : IsBytes bytes) (is : behind (tagged_method_at bytes) ≡ Ok left) where
  read_method : (m : Method) × (tagged_method_at bytes ≡ Ok (m, left))
  read_method = some_behind (tagged_method_at bytes) left is

  as_body : behind (body_at bytes) ≡ Ok left
  as_body = ap behind (tagged_body bytes read_method.0 left read_method.1)

  pub method_fewer : length left ≤ length bytes
  method_fewer = body_fewer bytes left all as_body

  module _ (copy : List ℕ) (made : copy ≡ take (length bytes - length left) bytes) where
    pub method_kept : BodyFits (body_spelled copy) × (copy ≡ body (body_spelled copy))
    method_kept = body_kept bytes left all as_body copy made

    is_method : body_spelled copy ≡ OfMethod read_method.0
    is_method = first_is (body_at bytes) (body_read bytes left all as_body copy made) (tagged_body bytes read_method.0 left read_method.1)

    pub method_is : IsMethod bytes left (body_spelled copy)
    method_is = subst (IsMethod bytes left) (sym is_method) (record {
      method = refl;
      read = read_method.1;
      fits = (lawful_tagged.takes bytes read_method.0 left all read_method.1).1;
    })

behind_first : (b : ℕ) (text : List ℕ) → take (length (b ∷ text) - 1) (drop 1 (b ∷ text)) ≡ text
behind_first b text =
    let n : length (b ∷ text) - 1 ≡ length text = omega arith in
    ap (λ (k : ℕ). take k text) n ∙ take_all (length text) text (omega arith)

-- the name stands behind the tag
pub name_read : (b : BodyValue) (bytes : List ℕ) → b ≡ OfMethod (method_of b) → BodyFits b → bytes ≡ body b → (left : List ℕ) × (name_at (take (length bytes - 1) (drop 1 bytes)) ≡ Ok ((method_of b).name, left))
unfolding method
name_read (OfMain s) bytes is fits e = absurd cc
name_read (OfMethod m) bytes is fits e = (
  _,
  ap (λ (l : List ℕ). name_at (take (length l - 1) (drop 1 l))) e
      ∙ (ap name_at (behind_first 1 (method m))
      ∙ lawful_name.again m.name _ fits.name),
)

-- ---- the types that a body declares

formals_text : Method → List ℕ
formals_text m = name m.name ++ (ty m.returns ++ list variable m.formals)

cut_types : (m : Method) → method m ≡ formals_text m ++ (list variable m.locals ++ ((eight (count_stmts m.body) ++ stmts m.body) ++ (exp m.returned ++ four m.return_mark)))
unfolding method formals_text
cut_types m =
    sym (append_assoc (name m.name) (ty m.returns ++ list variable m.formals) _
    ∙ ap (λ (l : List ℕ). name m.name ++ l) (append_assoc (ty m.returns) (list variable m.formals) _))

-- they stand behind the tag and the name
pub types_read : (b : BodyValue) (bytes : List ℕ) → BodyFits b → bytes ≡ body b → (get_or bytes 0 0 ≡ 0 → ⊥)
    → (types : Ty × List Variable) × (Some types ≡ types_of b) × (left : List ℕ) × (types_at (take (length bytes - 1) (drop 1 bytes)) ≡ Ok (types, left))
unfolding formals_text
types_read (OfMain s) bytes fits e tagged = absurd (tagged (ap (λ (l : List ℕ). get_or l 0 0) e))
types_read (OfMethod m) bytes fits e tagged = (
  (m.returns, m.formals),
  refl,
  _,
  ap (λ (l : List ℕ). types_at (take (length l - 1) (drop 1 l))) e
      ∙ (ap types_at (behind_first 1 (method m) ∙ cut_types m)
      ∙ made_again (lawful_pair lawful_name (lawful_pair lawful_ty (lawful_list lawful_variable any))) (λ x. x.1) (m.name, (m.returns, m.formals)) _
      (fits.name, (fits.returns, record { few = fits.few_formals; fit = fits.formals; admitted = any_admits [] m.formals }))),
)

-- ---- a statement of `main`

pub record IsMain (bytes left : List ℕ) (b : BodyValue) : Type 0 where
  pub main : b ≡ OfMain (statement_of b)
  pub read : top_stmt_at bytes ≡ Ok (statement_of b, left)
  pub fits : TopStmtFits (statement_of b)

module _ (bytes left : List ℕ) (all : IsBytes bytes) (is : behind (top_stmt_at bytes) ≡ Ok left) where
  read_stmt : (s : Statement) × (top_stmt_at bytes ≡ Ok (s, left))
  read_stmt = some_behind (top_stmt_at bytes) left is

  stmt_taken : Takes bytes (stmt read_stmt.0) left × TopStmtFits read_stmt.0
  stmt_taken = lawful_top_stmt.takes bytes read_stmt.0 left all read_stmt.1

  pub main_fewer : length left ≤ length bytes
  main_fewer = (front (stmt read_stmt.0) bytes left stmt_taken.0).fewer

  module _ (copy : List ℕ) (made : copy ≡ 0 ∷ take (length bytes - length left) bytes) where
    main_text : copy ≡ body (OfMain read_stmt.0)
    main_text = made ∙ ap (λ (l : List ℕ). 0 ∷ l) (front (stmt read_stmt.0) bytes left stmt_taken.0).text_is

    pub main_kept : BodyFits (body_spelled copy) × (copy ≡ body (body_spelled copy))
    main_kept = kept copy (OfMain read_stmt.0) main_text stmt_taken.1

    pub main_is : IsMain bytes left (body_spelled copy)
    main_is = subst (IsMain bytes left) (sym (spelled copy (OfMain read_stmt.0) main_text stmt_taken.1)) (record {
      main = refl;
      read = read_stmt.1;
      fits = stmt_taken.1;
    })
