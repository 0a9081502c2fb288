-- No row of the table is silent.
use Rattle.std.specs.Prelude.{nat_eq}
use Rattle.std.proofs.Common.{◌≡◌, ℕ, suc, nat_le, ◌&&◌, Bool, true, false, List, [], ◌∷◌, ◌++◌, length, Option, Some, None, sym, subst, arith}
use Rattle.mj_tree.specs.Trees.{Name, Expression, Expressions, Binary, Index, Length, Call, Literal, Boolean, Named, This, NewArray, NewObject, Not, Parenthesized, none, more, Statement, Statements, Block, If, While, Print, Assign, Store, done, next, Method, Main}
use Rattle.mj_tree.specs.declared.tree.Operator.{Operator}
use Rattle.mj_tree.specs.declared.tree.Operator.TheVariants.{And, Less, Plus, Minus, Times}
use Rattle.mj_tree.specs.declared.tree.Ty.{Ty}
use Rattle.mj_tree.specs.declared.tree.Ty.TheVariants as ty
use Rattle.mj_answer.specs.declared.code.Code.{Code}
use Rattle.mj_answer.specs.declared.code.Code.TheVariants.{E301, E302, E303, E304, E305, E306, E307, E308, E309, E310, E311, E312, E313, E314, E315, E316, E317, E318, E319}
use Rattle.mj_phrases.specs.Types.{is_int, is_boolean, is_int_array, class_in}
use Rattle.mj_phrases.specs.declared.verdict.Verdict.{Verdict}
use Rattle.mj_phrases.specs.declared.verdict.Verdict.TheVariants.{Wrong}
use Rattle.mj_phrases.specs.Inquiries.{World, Sig, Inquiry, AsksField, AsksMethod, conclusion}
use Rattle.mj_phrases.specs.Phrases.{demand, demand_asked, demand_some, is, fine, Phrase}
use Rattle.mj_phrases.specs.Table.{Scope, main_scope, method_scope, local_of, is_accepted, are_accepted, literal, variable, local_or_field, parentheses, this, negation, binary, index, array_length, arguments, call, new_array, new_object, condition, print, assign, store, return_value, no_parts, one_part, two_parts, three_parts, some_parts, phrase_of, phrases_of, name_phrase, own_phrase, statement_phrases, statements_phrases, return_phrase, method_phrases, main_phrases}
use Rattle.mj_phrases.specs.Laws.{count, IsOfExpression, IsOfStatement, Decides, DecideAll, DecidesStatement, AllDecide}
use Rattle.mj_phrases.proofs.Checks.{conclusion-and_then}

module _ (w : World) (P : Verdict → Type 0) (wrong : (code : Code) → P (Wrong code)) where
  demand_of : (b : Bool) (code : Code) (then : Inquiry Verdict) → P (conclusion w then) → P (conclusion w (demand b code then))
  demand_of true code then h = h
  demand_of false code then h = wrong code

  demand_asked_of : (m : Inquiry Bool) (code : Code) (then : Inquiry Verdict) → P (conclusion w then) → P (conclusion w (demand_asked m code then))
  demand_asked_of m code then h = subst P (sym (conclusion-and_then w m (λ ok. demand ok code then))) (demand_of (conclusion w m) code then h)

  given_of : {A : Type 0} (o : Option A) (code : Code) (then : A → Inquiry Verdict) → ((a : A) → P (conclusion w (then a))) → P (conclusion w (demand_some o code then))
  given_of None code then h = wrong code
  given_of (Some a) code then h = h a

  no_row : (row : Inquiry Verdict) → P (conclusion w row) → (ts : List Ty) → length ts ≡ 0 → P (conclusion w (no_parts row ts))
  no_row row h [] e = h
  no_row row h (a ∷ ts) e = absurd (omega (arith, e))

  one_row : (row : Ty → Inquiry Verdict) → ((a : Ty) → P (conclusion w (row a))) → (ts : List Ty) → length ts ≡ 1 → P (conclusion w (one_part row ts))
  one_row row h [] e = absurd (omega (arith, e))
  one_row row h (a ∷ []) e = h a
  one_row row h (a ∷ b ∷ ts) e = absurd (omega (arith, e))

  two_row : (row : Ty → Ty → Inquiry Verdict) → ((a b : Ty) → P (conclusion w (row a b))) → (ts : List Ty) → length ts ≡ 2 → P (conclusion w (two_parts row ts))
  two_row row h [] e = absurd (omega (arith, e))
  two_row row h (a ∷ []) e = absurd (omega (arith, e))
  two_row row h (a ∷ b ∷ []) e = h a b
  two_row row h (a ∷ b ∷ c ∷ ts) e = absurd (omega (arith, e))

  three_row : (row : Ty → Ty → Ty → Inquiry Verdict) → ((a b c : Ty) → P (conclusion w (row a b c))) → (ts : List Ty) → length ts ≡ 3 → P (conclusion w (three_parts row ts))
  three_row row h [] e = absurd (omega (arith, e))
  three_row row h (a ∷ []) e = absurd (omega (arith, e))
  three_row row h (a ∷ b ∷ []) e = absurd (omega (arith, e))
  three_row row h (a ∷ b ∷ c ∷ []) e = h a b c
  three_row row h (a ∷ b ∷ c ∷ d ∷ ts) e = absurd (omega (arith, e))

  some_row : (row : Ty → List Ty → Inquiry Verdict) → ((a : Ty) (ts : List Ty) → P (conclusion w (row a ts))) → (n : ℕ) (ts : List Ty) → length ts ≡ suc n → P (conclusion w (some_parts row ts))
  some_row row h n [] e = absurd (omega (arith, e))
  some_row row h n (a ∷ ts) e = h a ts

module _ (w : World) where
  -- the verdict on an expression
  abbrev E : Verdict → Type 0
  E v = IsOfExpression v

  wrong_e : (code : Code) → E (Wrong code)
  wrong_e code = tt

  literal_row : (value : ℕ) → E (conclusion w (literal value))
  unfolding literal
  literal_row value = demand_of w IsOfExpression wrong_e (nat_le value 2147483647) E315 (is ty.Int) tt

  local_row : (o : Option Ty) (class : Option Name) (x : Name) → E (conclusion w (local_or_field o class x))
  local_row (Some t) class x = tt
  local_row None class x = given_of w IsOfExpression wrong_e class E303 (λ c. AsksField c x (λ field. demand_some field E303 is)) (λ c. given_of w IsOfExpression wrong_e (w.field c x) E303 is (λ t. tt))

  named_row : (s : Scope) (x : Name) → E (conclusion w (variable s x))
  unfolding variable
  named_row s x = local_row (local_of s.variables x) s.class x

  this_row : (s : Scope) → E (conclusion w (this s))
  unfolding this
  this_row s = given_of w IsOfExpression wrong_e s.class E306 (λ c. is (ty.Class c)) (λ c. tt)

  negation_row : (a : Ty) → E (conclusion w (negation a))
  unfolding negation
  negation_row a = demand_of w IsOfExpression wrong_e (is_boolean a) E301 (is ty.Boolean) tt

  binary_row : (o : Operator) (a b : Ty) → E (conclusion w (binary o a b))
  unfolding binary
  binary_row And a b = demand_of w IsOfExpression wrong_e (is_boolean a && is_boolean b) E301 (is ty.Boolean) tt
  binary_row Less a b = demand_of w IsOfExpression wrong_e (is_int a && is_int b) E302 (is ty.Boolean) tt
  binary_row Plus a b = demand_of w IsOfExpression wrong_e (is_int a && is_int b) E304 (is ty.Int) tt
  binary_row Minus a b = demand_of w IsOfExpression wrong_e (is_int a && is_int b) E304 (is ty.Int) tt
  binary_row Times a b = demand_of w IsOfExpression wrong_e (is_int a && is_int b) E304 (is ty.Int) tt

  index_row : (a i : Ty) → E (conclusion w (index a i))
  unfolding index
  index_row a i = demand_of w IsOfExpression wrong_e (is_int_array a) E307 (demand (is_int i) E308 (is ty.Int)) (demand_of w IsOfExpression wrong_e (is_int i) E308 (is ty.Int) tt)

  length_row : (a : Ty) → E (conclusion w (array_length a))
  unfolding array_length
  length_row a = demand_of w IsOfExpression wrong_e (is_int_array a) E309 (is ty.Int) tt

  called_row : (s : Sig) (ts : List Ty) → E (conclusion w (arguments s ts))
  unfolding arguments
  called_row s ts = demand_of w IsOfExpression wrong_e (nat_eq (length ts) (length s.formals)) E312 (demand_asked (are_accepted ts s.formals) E313 (is s.returns)) (demand_asked_of w IsOfExpression wrong_e (are_accepted ts s.formals) E313 (is s.returns) tt)

  call_row : (m : Name) (a : Ty) (ts : List Ty) → E (conclusion w (call m a ts))
  unfolding call
  call_row m a ts = given_of w IsOfExpression wrong_e (class_in a) E310 (λ c. AsksMethod c m (λ method. demand_some method E311 (λ s. arguments s ts))) (λ c. given_of w IsOfExpression wrong_e (w.method c m) E311 (λ s. arguments s ts) (λ s. called_row s ts))

  new_array_row : (a : Ty) → E (conclusion w (new_array a))
  unfolding new_array
  new_array_row a = demand_of w IsOfExpression wrong_e (is_int a) E314 (is ty.IntArray) tt

  new_object_row : (c : Name) → E (conclusion w (new_object c))
  unfolding new_object
  new_object_row c = demand_of w IsOfExpression wrong_e (w.is_declared c) E305 (is (ty.Class c)) tt

  mutual
    pub decides : (s : Scope) (e : Expression) → Decides w (phrase_of s e)
    decides s (Literal mark value) = (no_row w IsOfExpression wrong_e (literal value) (literal_row value), tt)
    decides s (Boolean mark value) = (no_row w IsOfExpression wrong_e (is ty.Boolean) tt, tt)
    decides s (Named mark x) = (no_row w IsOfExpression wrong_e (variable s x) (named_row s x), tt)
    decides s (This mark) = (no_row w IsOfExpression wrong_e (this s) (this_row s), tt)
    decides s (Parenthesized mark e) = (one_row w IsOfExpression wrong_e parentheses (λ a. tt), (decides s e, tt))
    decides s (Not mark e) = (one_row w IsOfExpression wrong_e negation negation_row, (decides s e, tt))
    decides s (Binary o mark l r) = (two_row w IsOfExpression wrong_e (binary o) (binary_row o), (decides s l, (decides s r, tt)))
    decides s (Index mark a i) = (two_row w IsOfExpression wrong_e index index_row, (decides s a, (decides s i, tt)))
    decides s (Length mark a) = (one_row w IsOfExpression wrong_e array_length length_row, (decides s a, tt))
    decides s (Call mark e m es) = (some_row w IsOfExpression wrong_e (call m) (call_row m) (count (phrases_of s es)), (decides s e, all_decide s es))
    decides s (NewArray mark e) = (one_row w IsOfExpression wrong_e new_array new_array_row, (decides s e, tt))
    decides s (NewObject mark c) = (no_row w IsOfExpression wrong_e (new_object c) (new_object_row c), tt)

    all_decide : (s : Scope) (es : Expressions) → DecideAll w (phrases_of s es)
    all_decide s none = tt
    all_decide s (more e es) = (decides s e, all_decide s es)

  name_decides : (s : Scope) (mark : ℕ) (x : Name) → Decides w (name_phrase s mark x)
  name_decides s mark x = (no_row w IsOfExpression wrong_e (variable s x) (named_row s x), tt)

  -- ---- statements

  wrong_s : (code : Code) → IsOfStatement (Wrong code)
  wrong_s code = tt

  condition_row : (a : Ty) → IsOfStatement (conclusion w (condition a))
  unfolding condition
  condition_row a = demand_of w IsOfStatement wrong_s (is_boolean a) E316 fine tt

  print_row : (a : Ty) → IsOfStatement (conclusion w (print a))
  unfolding print
  print_row a = demand_of w IsOfStatement wrong_s (is_int a) E317 fine tt

  assign_row : (x a : Ty) → IsOfStatement (conclusion w (assign x a))
  unfolding assign
  assign_row x a = demand_asked_of w IsOfStatement wrong_s (is_accepted a x) E318 fine tt

  store_row : (x i a : Ty) → IsOfStatement (conclusion w (store x i a))
  unfolding store
  store_row x i a = demand_of w IsOfStatement wrong_s (is_int_array x) E307 (demand (is_int i) E308 (demand (is_int a) E318 fine)) (demand_of w IsOfStatement wrong_s (is_int i) E308 (demand (is_int a) E318 fine) (demand_of w IsOfStatement wrong_s (is_int a) E318 fine tt))

  returned_row : (u a : Ty) → IsOfStatement (conclusion w (return_value u a))
  unfolding return_value
  returned_row u a = demand_asked_of w IsOfStatement wrong_s (is_accepted a u) E319 fine tt

  own_decides : (s : Scope) (a : Statement) → DecidesStatement w (own_phrase s a)
  own_decides s (Block mark ss) = (no_row w IsOfStatement wrong_s fine tt, tt)
  own_decides s (If mark e a b) = (one_row w IsOfStatement wrong_s condition condition_row, (decides s e, tt))
  own_decides s (While mark e a) = (one_row w IsOfStatement wrong_s condition condition_row, (decides s e, tt))
  own_decides s (Print mark e) = (one_row w IsOfStatement wrong_s print print_row, (decides s e, tt))
  own_decides s (Assign mark x x_mark e) = (two_row w IsOfStatement wrong_s assign assign_row, (name_decides s x_mark x, (decides s e, tt)))
  own_decides s (Store mark x x_mark i e) = (three_row w IsOfStatement wrong_s store store_row, (name_decides s x_mark x, (decides s i, (decides s e, tt))))

  append_decide : (ps qs : List Phrase) → AllDecide w ps → AllDecide w qs → AllDecide w (ps ++ qs)
  append_decide [] qs h k = k
  append_decide (p ∷ ps) qs h k = (h.0, append_decide ps qs h.1 k)

  mutual
    statement_decides : (s : Scope) (a : Statement) → AllDecide w (statement_phrases s a)
    statement_decides s (Block mark ss) = (own_decides s (Block mark ss), statements_decide s ss)
    statement_decides s (If mark e a b) = (own_decides s (If mark e a b), append_decide (statement_phrases s a) (statement_phrases s b) (statement_decides s a) (statement_decides s b))
    statement_decides s (While mark e a) = (own_decides s (While mark e a), statement_decides s a)
    statement_decides s (Print mark e) = (own_decides s (Print mark e), tt)
    statement_decides s (Assign mark x x_mark e) = (own_decides s (Assign mark x x_mark e), tt)
    statement_decides s (Store mark x x_mark i e) = (own_decides s (Store mark x x_mark i e), tt)

    statements_decide : (s : Scope) (ss : Statements) → AllDecide w (statements_phrases s ss)
    statements_decide s done = tt
    statements_decide s (next a ss) = append_decide (statement_phrases s a) (statements_phrases s ss) (statement_decides s a) (statements_decide s ss)

  pub method_decides : (class : Name) (m : Method) → AllDecide w (method_phrases class m)
  method_decides class m =
      append_decide (statements_phrases (method_scope class m) m.body) (return_phrase (method_scope class m) m.return_mark m.returns m.returned ∷ []) (statements_decide (method_scope class m) m.body)
      ((one_row w IsOfStatement wrong_s (return_value m.returns) (returned_row m.returns), (decides (method_scope class m) m.returned, tt)), tt)

  pub main_decides : (m : Main) → AllDecide w (main_phrases m)
  main_decides m = statement_decides main_scope m.statement
