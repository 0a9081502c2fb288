-- The marks of mistakes are below a number that is no less than one above the marks of the tree.
use Rattle.std.proofs.Common.{ℕ, ◌+◌, ◌<◌, ◌≤◌, Bool, true, false, List, [], ◌∷◌, ◌++◌, All, Contains, arith, if◌then◌else◌}
use Rattle.std.specs.List.{AllByRecursion}
use Rattle.std.proofs.lemmas.List.Elements.{All-contains}
use Rattle.mj_tree.specs.Trees.{Name, Expression, Expressions, Binary, Index, Length, Call, Literal, Boolean, Named, This, NewArray, NewObject, Not, Parenthesized, none, more, Statement, Statements, Block, If, While, Print, Assign, Store, done, next, Method, Main}
use Rattle.mj_tree.specs.declared.tree.Ty.{Ty}
use Rattle.mj_tree.specs.declared.tree.Ty.TheVariants as ty
use Rattle.mj_tree.specs.declared.tree.Variable.{Variable}
use Rattle.mj_parser.specs.Declarations.{type_size}
use Rattle.mj_parser.specs.MarkBounds.{ExpMarksBelow, ExpsMarksBelow, StmtMarksBelow, StmtsMarksBelow, VariableBelow, MethodMarksBelow}
use Rattle.mj_phrases.specs.declared.verdict.Verdict.{Verdict}
use Rattle.mj_phrases.specs.declared.verdict.Verdict.TheVariants.{Is, Fine, Wrong, Silent}
use Rattle.mj_phrases.specs.declared.verdict.Mistake.{Mistake}
use Rattle.mj_phrases.specs.Inquiries.{World}
use Rattle.mj_phrases.specs.Phrases.{Phrase, Phrases, phrase, nothing, part, add_own, add_faults, add_all, add_each, verdict_by, types_of}
use Rattle.mj_phrases.specs.Table.{Scope, phrase_of, phrases_of, statement_phrases, statements_phrases, return_phrase, method_scope, main_scope, method_phrases, main_phrases}
use Rattle.mj_phrases.specs.Variables.{variables_of, name_mark, has_name, add_repeated, add_repeated_each}
use Rattle.mj_typing.specs.Bodies.{return_type_mark, add_undeclared, add_undeclared_each, method_faults, main_faults}
use Rattle.mj_answer.specs.declared.code.Code.TheVariants.{E206, E207}
use Rattle.ordered_names.proofs.Alike.{Contains-first, Contains-later}
use Rattle.item_ids.proofs.Lists.{all_push}

module _ (k n : ℕ) (fits : k ≤ n) where
  abbrev pub Small : List Mistake → Type 0
  Small mistakes = AllByRecursion (λ x. x.mark < n) mistakes

  more_small : (ms : List Mistake) (x : Mistake) → Small ms → x.mark < n → Small (ms ++ x ∷ [])
  more_small ms x h l = all_push (λ x. x.mark < n) ms x h l

  own_small : (ms : List Mistake) (mark : ℕ) (v : Verdict) → mark < n → Small ms → Small (add_own ms mark v)
  own_small ms mark (Is t) l h = h
  own_small ms mark Fine l h = h
  own_small ms mark (Wrong code) l h = more_small ms (record { mark = mark; code = code }) h l
  own_small ms mark Silent l h = h

  abbrev mutual
    PhraseBelow : Phrase → Type 0
    PhraseBelow (phrase mark row parts) = (mark < n) × PartsBelow parts

    PartsBelow : Phrases → Type 0
    PartsBelow nothing = Unit {0}
    PartsBelow (part p ps) = PhraseBelow p × PartsBelow ps

  abbrev EachBelow : List Phrase → Type 0
  EachBelow ps = AllByRecursion PhraseBelow ps

  module _ (w : World) where
    mutual
      phrase_small : (ms : List Mistake) (p : Phrase) → PhraseBelow p → Small ms → Small (add_faults w ms p)
      phrase_small ms (phrase mark row parts) b h = own_small (add_all w ms parts) mark (verdict_by w row (types_of w parts)) b.0 (parts_small ms parts b.1 h)

      parts_small : (ms : List Mistake) (ps : Phrases) → PartsBelow ps → Small ms → Small (add_all w ms ps)
      parts_small ms nothing b h = h
      parts_small ms (part p ps) b h = parts_small (add_faults w ms p) ps b.1 (phrase_small ms p b.0 h)

    each_small : (ms : List Mistake) (ps : List Phrase) → EachBelow ps → Small ms → Small (add_each w ms ps)
    each_small ms [] b h = h
    each_small ms (p ∷ ps) b h = each_small (add_faults w ms p) ps b.1 (phrase_small ms p b.0 h)

    undeclared_small : (ms : List Mistake) (mark : ℕ) (t : Ty) → mark < n → Small ms → Small (add_undeclared w ms mark t)
    undeclared_small ms mark ty.Int l h = h
    undeclared_small ms mark ty.Boolean l h = h
    undeclared_small ms mark ty.IntArray l h = h
    undeclared_small ms mark (ty.Class c) l h = by_test (w.is_declared c)
      where
        by_test : (b : Bool) → Small (if b then ms else ms ++ record { mark = mark; code = E206 } ∷ [])
        by_test true = h
        by_test false = more_small ms (record { mark = mark; code = E206 }) h l

    undeclared_each_small : (ms : List Mistake) (vs : List Variable) → AllByRecursion (VariableBelow k) vs → Small ms → Small (add_undeclared_each w ms vs)
    undeclared_each_small ms [] b h = h
    undeclared_each_small ms (v ∷ vs) b h = undeclared_each_small (add_undeclared w ms v.mark v.ty) vs b.1 (undeclared_small ms v.mark v.ty (omega (arith, b.0, fits)) h)

  name_small : (x : Name) (t : Ty) (mark : ℕ) → mark + type_size t < k → name_mark (record { name = x; ty = t; mark = mark }) < n
  name_small x ty.Int mark h = omega (arith, h, fits)
  name_small x ty.Boolean mark h = omega (arith, h, fits)
  name_small x ty.IntArray mark h = omega (arith, h, fits)
  name_small x (ty.Class c) mark h = omega (arith, h, fits)

  repeated_small : (ms : List Mistake) (before vs : List Variable) → AllByRecursion (VariableBelow k) vs → Small ms → Small (add_repeated_each ms before vs)
  repeated_small ms before [] b h = h
  repeated_small ms before (v ∷ vs) b h = repeated_small (add_repeated ms before v) (before ++ v ∷ []) vs b.1 (by_test (has_name before v.name))
    where
      by_test : (t : Bool) → Small (if t then ms ++ record { mark = name_mark v; code = E207 } ∷ [] else ms)
      by_test true = more_small ms (record { mark = name_mark v; code = E207 }) h (name_small v.name v.ty v.mark b.0)
      by_test false = h

  raised : {mark : ℕ} → mark < k → mark < n
  raised h = omega (arith, h, fits)

  mutual
    exp_below : (s : Scope) (e : Expression) → ExpMarksBelow k e → PhraseBelow (phrase_of s e)
    exp_below s (Literal mark value) h = (raised h, tt)
    exp_below s (Boolean mark value) h = (raised h, tt)
    exp_below s (Named mark x) h = (raised h, tt)
    exp_below s (This mark) h = (raised h, tt)
    exp_below s (Parenthesized mark e) h = (raised h.0, (exp_below s e h.1, tt))
    exp_below s (Not mark e) h = (raised h.0, (exp_below s e h.1, tt))
    exp_below s (Binary o mark l r) h = (raised h.0, (exp_below s l h.1, (exp_below s r h.2, tt)))
    exp_below s (Index mark a i) h = (raised h.0, (exp_below s a h.1, (exp_below s i h.2, tt)))
    exp_below s (Length mark a) h = (raised h.0, (exp_below s a h.1, tt))
    exp_below s (Call mark e m es) h = (raised h.0, (exp_below s e h.1, exps_below s es h.2))
    exp_below s (NewArray mark e) h = (raised h.0, (exp_below s e h.1, tt))
    exp_below s (NewObject mark c) h = (raised h, tt)

    exps_below : (s : Scope) (es : Expressions) → ExpsMarksBelow k es → PartsBelow (phrases_of s es)
    exps_below s none h = tt
    exps_below s (more e es) h = (exp_below s e h.0, exps_below s es h.1)

  both_below : (ps qs : List Phrase) → EachBelow ps → EachBelow qs → EachBelow (ps ++ qs)
  both_below [] qs a b = b
  both_below (p ∷ ps) qs a b = (a.0, both_below ps qs a.1 b)

  mutual
    statement_below : (s : Scope) (a : Statement) → StmtMarksBelow k a → EachBelow (statement_phrases s a)
    statement_below s (Block mark body) h = ((raised h.0, tt), statements_below s body h.1)
    statement_below s (If mark e a b) h = ((raised h.0, (exp_below s e h.1, tt)), both_below (statement_phrases s a) (statement_phrases s b) (statement_below s a h.2) (statement_below s b h.3))
    statement_below s (While mark e a) h = ((raised h.0, (exp_below s e h.1, tt)), statement_below s a h.2)
    statement_below s (Print mark e) h = ((raised h.0, (exp_below s e h.1, tt)), tt)
    statement_below s (Assign mark x x_mark e) h = ((raised h.0, ((raised h.1, tt), (exp_below s e h.2, tt))), tt)
    statement_below s (Store mark x x_mark i e) h = ((raised h.0, ((raised h.1, tt), (exp_below s i h.2, (exp_below s e h.3, tt)))), tt)

    statements_below : (s : Scope) (ss : Statements) → StmtsMarksBelow k ss → EachBelow (statements_phrases s ss)
    statements_below s done h = tt
    statements_below s (next a ss) h = both_below (statement_phrases s a) (statements_phrases s ss) (statement_below s a h.0) (statements_below s ss h.1)

  variables : (vs : List Variable) → All (VariableBelow k) vs → AllByRecursion (VariableBelow k) vs
  variables vs h = from vs (λ v c. All-contains (VariableBelow k) vs v h c)
    where
      from : (xs : List Variable) → ((v : Variable) → Contains xs v → VariableBelow k v) → AllByRecursion (VariableBelow k) xs
      from [] f = tt
      from (x ∷ xs) f = (f x (Contains-first x xs), from xs (λ y c. f y (Contains-later x xs y c)))

  joined : (us vs : List Variable) → AllByRecursion (VariableBelow k) us → AllByRecursion (VariableBelow k) vs → AllByRecursion (VariableBelow k) (us ++ vs)
  joined [] vs a b = b
  joined (u ∷ us) vs a b = (a.0, joined us vs a.1 b)

  pub method_small : (w : World) (c : Name) (m : Method) → 1 < n → MethodMarksBelow k m → Small (method_faults w c m)
  method_small w c m one h =
      let s : Scope = method_scope c m in
      let formals = variables m.formals h.formals in
      let locals = variables m.locals h.locals in
      let repeated = add_repeated_each [] [] (variables_of m) in
      let a = add_undeclared w repeated return_type_mark m.returns in
      let b = add_undeclared_each w a m.formals in
      let d = add_undeclared_each w b m.locals in
      each_small w d (method_phrases c m)
      (both_below (statements_phrases s m.body) (return_phrase s m.return_mark m.returns m.returned ∷ []) (statements_below s m.body h.body) ((raised h.return_mark, (exp_below s m.returned h.returned, tt)), tt))
      (undeclared_each_small w b m.locals locals (undeclared_each_small w a m.formals formals (undeclared_small w repeated return_type_mark m.returns one (repeated_small [] [] (variables_of m) (joined m.formals m.locals formals locals) tt))))

  pub main_small : (w : World) (m : Main) → StmtMarksBelow k m.statement → Small (main_faults w m)
  main_small w m h = each_small w [] (main_phrases m) (statement_below main_scope m.statement h) tt
