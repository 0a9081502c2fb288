-- Where the words `class` and `public` stand in methods, classes and the main class, and semicolons in classes.
use Rattle.std.proofs.Common.{◌≡◌, ℕ, ◌+◌, true, List, [], ◌∷◌, ◌++◌, map, drop, Option, Some, None, refl, sym, ◌∙◌, subst, append-nil, arith}
use Rattle.mj_lexer.specs.declared.token.Token.{Token}
use Rattle.mj_lexer.specs.declared.token.Terminal.{Terminal}
use Rattle.mj_lexer.specs.declared.token.Terminal.TheVariants as terminals
use Rattle.mj_tree.specs.declared.tree.Field.{Field}
use Rattle.mj_tree.specs.Trees.{Name, Method, Class}
use Rattle.mj_expressions.specs.Tokens.{has}
use Rattle.mj_expressions.specs.Expressions.{any_tier, size}
use Rattle.mj_parser.specs.Rows.{row_size}
use Rattle.mj_parser.specs.Declarations.{type_size, formals_size, formals_place, locals_place, body_place, return_place, method_size, IsMethod, field_size, IsField, IsMethodAt, superclass_size, IsSuperclass, head_size, class_size, IsClass}
use Rattle.mj_parser.proofs.FileAgain.{has_drop, method_begins}
use Rattle.mj_expressions.proofs.Marks.{has_other}
use Rattle.mj_expressions.proofs.Stands.{has_is}
use Rattle.place_laws.specs.Parts.{field_parts, method_parts}
use Rattle.place_laws.proofs.Runs.{Along, along_none, along_one, along_map, along_drop, upto, join, row_along, run, run_join, Lacks, lacks_run, front_run, row_run}
use Rattle.place_laws.proofs.Quiet.{IsPlain, Quiet, sign, word, expression_quiet, statements_quiet, plain_sign, plain_word, plain_quiet, type_plain, locals_quiet, formals_quiet}

-- ---- methods, whose tokens are numbered from `public`

formals_part : (ts : List Token) (m : Method) → IsMethod ts m → Quiet ts 1 (locals_place m)
formals_part ts m h =
    let closing = join (sign ts (formals_place m + formals_size m.formals) terminals.RightParenthesis h.closing refl refl) (sign ts (formals_place m + formals_size m.formals + 1) terminals.LeftBrace h.brace refl refl) (omega arith) in
    let inner = join (formals_quiet ts (formals_place m) m.formals h.formals) closing (omega arith) in
    let opening = join (word ts (1 + type_size m.returns) m.name h.name) (join (sign ts (1 + type_size m.returns + 1) terminals.LeftParenthesis h.opening refl refl) inner (omega arith)) (omega arith) in
    upto (join (plain_quiet ts (type_plain ts 1 m.returns h.returns)) opening (omega arith)) (omega arith)

return_part : (ts : List Token) (m : Method) → IsMethod ts m → Quiet ts (return_place m) (method_size m)
return_part ts m h =
    let end = join (sign ts (return_place m + 1 + size m.returned) terminals.Semicolon h.semicolon refl refl) (sign ts (return_place m + 1 + size m.returned + 1) terminals.RightBrace h.end_brace refl refl) (omega arith) in
    upto (join (sign ts (return_place m) terminals.Return h.return_word refl refl) (join (expression_quiet ts any_tier (return_place m + 1) m.returned h.returned) end (omega arith)) (omega arith)) (omega arith)

inner_part : (ts : List Token) (m : Method) → IsMethod ts m → Quiet ts 1 (method_size m)
inner_part ts m h =
    let behind = join (statements_quiet ts (body_place m) m.body h.body) (return_part ts m h) (omega arith) in
    join (formals_part ts m h) (join (locals_quiet ts (locals_place m) m.locals h.locals) behind (omega arith)) (omega arith)

pub quiet_drop : (ts : List Token) (i a b : ℕ) → Quiet (drop i ts) a b → Quiet ts (i + a) (i + b)
quiet_drop ts i a b q = along_drop i a b (λ j p. (sym (has_drop ts i j terminals.Class) ∙ p.0, sym (has_drop ts i j terminals.Public) ∙ p.1)) q

pub front_drop : (ts : List Token) (i : ℕ) (t : Terminal) → has (drop i ts) 0 t ≡ true → has ts i t ≡ true
front_drop ts i t h = let same : i + 0 ≡ i = omega arith in subst (λ (k : ℕ). has ts k t ≡ true) same (sym (has_drop ts i 0 t) ∙ h)

-- the semicolon of a field that begins at a place
abbrev pub field_end : ℕ → Field → ℕ
field_end i f = i + (type_size f.ty + 1)

module _ (ts : List Token) where
  method_quiet : (i : ℕ) (m : Method) → IsMethodAt ts i m → Quiet ts (i + 1) (i + method_size m)
  method_quiet i m h = quiet_drop ts i 1 (method_size m) (inner_part (drop i ts) m h)

  method_run : (i : ℕ) (m : Method) → IsMethodAt ts i m → run ts terminals.Public i (method_size m) ≡ i ∷ []
  method_run i m h = front_run ts terminals.Public i (method_size m) (method_begins ts i m h) (omega arith) (along_map (λ at q. q.1) (method_quiet i m h))

  method_lacks : (i : ℕ) (m : Method) → IsMethodAt ts i m → Lacks ts terminals.Class i (i + method_size m)
  method_lacks i m h =
      let first = along_one i (has_other ts i terminals.Public terminals.Class (method_begins ts i m h) refl) in
      join first (along_map (λ at q. q.0) (method_quiet i m h)) (omega arith)

  -- ---- fields

  field_quiet : (i : ℕ) (f : Field) → IsField ts i f → Quiet ts i (i + field_size f)
  field_quiet i f h =
      let named = join (word ts (i + type_size f.ty) f.name h.1) (sign ts (i + (type_size f.ty + 1)) terminals.Semicolon h.2 refl refl) (omega arith) in
      upto (join (plain_quiet ts (type_plain ts i f.ty h.0)) named (omega arith)) (omega arith)

  field_run : (i : ℕ) (f : Field) → IsField ts i f → run ts terminals.Semicolon i (field_size f) ≡ field_end i f ∷ []
  field_run i f h =
      let named : Along (IsPlain ts) i (field_end i f) = upto (join (type_plain ts i f.ty h.0) (plain_word ts (i + type_size f.ty) f.name h.1) (omega arith)) (omega arith) in
      let none = lacks_run ts terminals.Semicolon i (type_size f.ty + 1) (along_map (λ at p. p.3) named) in
      let end = front_run ts terminals.Semicolon (field_end i f) 1 (has_is ts (field_end i f) terminals.Semicolon h.2) (omega arith) (along_none (field_end i f + 1) (field_end i f + 1) (omega arith)) in
      run_join ts terminals.Semicolon i (type_size f.ty + 1) (field_end i f) 1 (field_size f) [] (field_end i f ∷ []) refl (omega arith) none end

  -- ---- classes

  superclass_plain : (i : ℕ) (s : Option Name) → IsSuperclass ts i s → Along (IsPlain ts) i (i + superclass_size s)
  superclass_plain i None h = along_none i (i + 0) (omega arith)
  superclass_plain i (Some name) h = upto (join (plain_sign ts i terminals.Extends h.0 refl refl refl refl) (plain_word ts (i + 1) name h.1) (omega arith)) (omega arith)

  head_plain : (i : ℕ) (c : Class) → IsClass ts i c → Along (IsPlain ts) (i + 1) (i + head_size c)
  head_plain i c h =
      let brace = plain_sign ts (i + (2 + superclass_size c.superclass)) terminals.LeftBrace h.brace refl refl refl refl in
      upto (join (plain_word ts (i + 1) c.name h.name) (join (superclass_plain (i + 2) c.superclass h.superclass) brace (omega arith)) (omega arith)) (omega arith)

  pub class_word : (i : ℕ) (c : Class) → IsClass ts i c → has ts i terminals.Class ≡ true
  class_word i c h = has_is ts i terminals.Class h.class_word

  fields_quiet : (i : ℕ) (c : Class) → IsClass ts i c → Quiet ts (i + head_size c) (i + head_size c + row_size field_size c.fields)
  fields_quiet i c h = row_along (IsField ts) field_size field_quiet (i + head_size c) c.fields h.fields

  end_quiet : (i : ℕ) (c : Class) → IsClass ts i c → Quiet ts (i + head_size c + row_size field_size c.fields + row_size method_size c.methods) (i + head_size c + row_size field_size c.fields + row_size method_size c.methods + 1)
  end_quiet i c h = sign ts (i + head_size c + row_size field_size c.fields + row_size method_size c.methods) terminals.RightBrace h.end_brace refl refl

  pub class_lacks : (i : ℕ) (c : Class) → IsClass ts i c → Lacks ts terminals.Class (i + 1) (i + class_size c)
  class_lacks i c h =
      let methods = row_along (IsMethodAt ts) method_size method_lacks (i + head_size c + row_size field_size c.fields) c.methods h.methods in
      let behind = join methods (along_map (λ at q. q.0) (end_quiet i c h)) (omega arith) in
      let inner = join (along_map (λ at q. q.0) (fields_quiet i c h)) behind (omega arith) in
      upto (join (along_map (λ at p. p.0) (head_plain i c h)) inner (omega arith)) (omega arith)

  pub class_run : (i : ℕ) (c : Class) → IsClass ts i c → run ts terminals.Class i (class_size c) ≡ i ∷ []
  class_run i c h = front_run ts terminals.Class i (class_size c) (class_word i c h) (omega arith) (class_lacks i c h)

  -- the words `public` of a class begin its methods
  pub class_publics : (i : ℕ) (c : Class) → IsClass ts i c → run ts terminals.Public i (class_size c) ≡ map (λ m. m.at) (method_parts (record { at = i; item = c }))
  class_publics i c h =
      let behind = i + head_size c + row_size field_size c.fields in
      let methods = row_size method_size c.methods in
      let first : Lacks ts terminals.Public i (i + 1) = along_one i (has_other ts i terminals.Class terminals.Public (class_word i c h) refl) in
      let front : Lacks ts terminals.Public i (i + (head_size c + row_size field_size c.fields)) = upto (join first (join (along_map (λ at p. p.1) (head_plain i c h)) (along_map (λ at q. q.1) (fields_quiet i c h)) (omega arith)) (omega arith)) (omega arith) in
      let none = lacks_run ts terminals.Public i (head_size c + row_size field_size c.fields) front in
      let each = row_run ts terminals.Public (IsMethodAt ts) method_size (λ at m. at) method_run behind c.methods h.methods in
      let end = lacks_run ts terminals.Public (behind + methods) 1 (along_map (λ at q. q.1) (end_quiet i c h)) in
      let inner = run_join ts terminals.Public behind methods (behind + methods) 1 (methods + 1) _ [] refl refl each end in
      run_join ts terminals.Public i (head_size c + row_size field_size c.fields) behind (methods + 1) (class_size c) [] _ (omega arith) (omega arith) none (inner ∙ append-nil _)

  -- the first semicolons of a class end its fields
  pub class_semicolons : (i : ℕ) (c : Class) → IsClass ts i c → run ts terminals.Semicolon i (class_size c) ≡ map (λ f. field_end f.at f.item) (field_parts (record { at = i; item = c })) ++ run ts terminals.Semicolon (i + head_size c + row_size field_size c.fields) (row_size method_size c.methods + 1)
  class_semicolons i c h =
      let fields = row_size field_size c.fields in
      let others = row_size method_size c.methods + 1 in
      let first : Lacks ts terminals.Semicolon i (i + 1) = along_one i (has_other ts i terminals.Class terminals.Semicolon (class_word i c h) refl) in
      let none = lacks_run ts terminals.Semicolon i (head_size c) (join first (along_map (λ at p. p.3) (head_plain i c h)) (omega arith)) in
      let each = row_run ts terminals.Semicolon (IsField ts) field_size field_end field_run (i + head_size c) c.fields h.fields in
      let inner = run_join ts terminals.Semicolon (i + head_size c) fields (i + head_size c + fields) others (fields + others) _ (run ts terminals.Semicolon (i + head_size c + fields) others) refl refl each refl in
      run_join ts terminals.Semicolon i (head_size c) (i + head_size c) (fields + others) (class_size c) [] _ refl (omega arith) none inner
