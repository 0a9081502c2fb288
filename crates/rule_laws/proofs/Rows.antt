-- The row of each phrase agrees with the demands of the phrase.
use Rattle.std.proofs.Common.{◌≡◌, ◌≤◌, ℕ, nat_le, Bool, true, false, cond, ◌&&◌, List, [], ◌∷◌, length, Option, Some, None, refl, sym, ap, ◌∙◌, subst, arith, inl}
use Rattle.std.specs.Prelude.{nat_eq}
use Rattle.std.proofs.lemmas.Bool.{leb-true, le-leb, eq-eqb, eqb-true, and_parts, and_from}
use Rattle.mj_tree.specs.Trees.{Name, Expression, Expressions, Binary, Index, Length, Call, Literal, Boolean, Named, This, NewArray, NewObject, Not, Parenthesized, none, more, Statement, Block, If, While, Print, Assign, Store}
use Rattle.mj_tree.specs.declared.tree.Operator.{Operator}
use Rattle.mj_tree.specs.declared.tree.Operator.TheVariants.{And, Less, Plus, Minus, Times}
use Rattle.mj_tree.specs.declared.tree.Ty.{Ty}
use Rattle.mj_tree.specs.declared.tree.Ty.TheVariants as ty
use Rattle.mj_answer.specs.declared.code.Code.TheVariants.{E301, E302, E303, E304, E305, E306, E307, E308, E309, E310, E311, E312, E313, E314, E315, E316, E317, E318, E319}
use Rattle.mj_phrases.specs.declared.verdict.Verdict.{Verdict}
use Rattle.mj_phrases.specs.declared.verdict.Verdict.TheVariants.{Is, Fine, Wrong, Silent}
use Rattle.mj_phrases.specs.Types.{is_int, is_boolean, is_int_array, class_in}
use Rattle.mj_phrases.specs.Inquiries.{World, Sig, Inquiry, Concludes, AsksMethod, conclusion}
use Rattle.mj_phrases.specs.Phrases.{demand, demand_asked, demand_some, is, fine}
use Rattle.mj_phrases.specs.Table.{Scope, most_value, local_of, is_accepted, are_accepted, literal, local_or_field, variable, parentheses, this, negation, binary, index, array_length, arguments, call, new_array, new_object, condition, print, assign, store, return_value, no_parts, one_part, two_parts, three_parts, some_parts}
use Rattle.mj_phrases.specs.Cases.{Accepted, operand_type}
use Rattle.mj_phrases.specs.Laws.{IsOfExpression, IsOfStatement}
use Rattle.mj_phrases.proofs.ByCases.{boolean_is, int_is, array_is, accepted_from, from_accepted, variable_from, from_variable, class_is}
use Rattle.mj_phrases.proofs.Checks.{conclusion-and_then}
use Rattle.rule_laws.specs.Demands.{BodyPhrase, OfExpression, OfStatement, OfReturn, parts_of, Demands, demands, IsInScope, IsInMethod, IsClassType, HasMethod, AreAccepted, operand_code}
use Rattle.rule_laws.specs.Faults.{HaveTypes}
use Rattle.rule_laws.proofs.Verdicts.{Tells, demand_tells, asked_tells, given_tells}

-- ---- types

is_the_boolean : (t : Ty) → t ≡ ty.Boolean → is_boolean t ≡ true
is_the_boolean t e = ap is_boolean e

is_the_int : (t : Ty) → t ≡ ty.Int → is_int t ≡ true
is_the_int t e = ap is_int e

is_the_array : (t : Ty) → t ≡ ty.IntArray → is_int_array t ≡ true
is_the_array t e = ap is_int_array e

is_class : (t : Ty) (c : Name) → t ≡ ty.Class c → class_in t ≡ Some c
is_class t c e = ap class_in e

-- ---- rows

-- what a check asks of the types of the immediate expressions
abbrev pub row_of : Scope → BodyPhrase → List Ty → Inquiry Verdict
row_of s (OfExpression (Literal mark value)) = no_parts (literal value)
row_of s (OfExpression (Boolean mark value)) = no_parts (is ty.Boolean)
row_of s (OfExpression (Named mark x)) = no_parts (variable s x)
row_of s (OfExpression (This mark)) = no_parts (this s)
row_of s (OfExpression (Parenthesized mark e)) = one_part parentheses
row_of s (OfExpression (Not mark e)) = one_part negation
row_of s (OfExpression (Binary o mark l r)) = two_parts (binary o)
row_of s (OfExpression (Index mark a i)) = two_parts index
row_of s (OfExpression (Length mark a)) = one_part array_length
row_of s (OfExpression (Call mark e m es)) = some_parts (call m)
row_of s (OfExpression (NewArray mark e)) = one_part new_array
row_of s (OfExpression (NewObject mark c)) = no_parts (new_object c)
row_of s (OfStatement (Block mark ss)) = no_parts fine
row_of s (OfStatement (If mark e a b)) = one_part condition
row_of s (OfStatement (While mark e a)) = one_part condition
row_of s (OfStatement (Print mark e)) = one_part print
row_of s (OfStatement (Assign mark x x_mark e)) = two_parts assign
row_of s (OfStatement (Store mark x x_mark i e)) = three_parts store
row_of s (OfReturn mark wanted e) = one_part (return_value wanted)

-- the verdict that a phrase may have if its demands hold
abbrev pub kind_of : BodyPhrase → Verdict → Type 0
kind_of (OfExpression e) = IsOfExpression
kind_of (OfStatement a) = IsOfStatement
kind_of (OfReturn mark wanted e) = IsOfStatement

module _ (w : World) (s : Scope) where
  -- ---- parts

  module _ (K : Verdict → Type 0) (D : List Ty → Demands) where
    none_told : (row : Inquiry Verdict) → Tells K (conclusion w row) (D []) → (ts : List Ty) → HaveTypes w s none ts → Tells K (conclusion w (no_parts row ts)) (D ts)
    none_told row h [] a = h
    none_told row h (t ∷ ts) a = absurd a

    one_told : (row : Ty → Inquiry Verdict) (e : Expression) → ((t : Ty) → Tells K (conclusion w (row t)) (D (t ∷ []))) → (ts : List Ty) → HaveTypes w s (more e none) ts → Tells K (conclusion w (one_part row ts)) (D ts)
    one_told row e h [] a = absurd a
    one_told row e h (t ∷ []) a = h t
    one_told row e h (t ∷ u ∷ ts) a = absurd a.1

    two_told : (row : Ty → Ty → Inquiry Verdict) (e f : Expression) → ((t u : Ty) → Tells K (conclusion w (row t u)) (D (t ∷ u ∷ []))) → (ts : List Ty) → HaveTypes w s (more e (more f none)) ts → Tells K (conclusion w (two_parts row ts)) (D ts)
    two_told row e f h [] a = absurd a
    two_told row e f h (t ∷ []) a = absurd a.1
    two_told row e f h (t ∷ u ∷ []) a = h t u
    two_told row e f h (t ∷ u ∷ v ∷ ts) a = absurd a.1.1

    three_told : (row : Ty → Ty → Ty → Inquiry Verdict) (e f g : Expression) → ((t u v : Ty) → Tells K (conclusion w (row t u v)) (D (t ∷ u ∷ v ∷ []))) → (ts : List Ty) → HaveTypes w s (more e (more f (more g none))) ts → Tells K (conclusion w (three_parts row ts)) (D ts)
    three_told row e f g h [] a = absurd a
    three_told row e f g h (t ∷ []) a = absurd a.1
    three_told row e f g h (t ∷ u ∷ []) a = absurd a.1.1
    three_told row e f g h (t ∷ u ∷ v ∷ []) a = h t u v
    three_told row e f g h (t ∷ u ∷ v ∷ x ∷ ts) a = absurd a.1.1.1

    some_told : (row : Ty → List Ty → Inquiry Verdict) (e : Expression) (es : Expressions) → ((t : Ty) (ts : List Ty) → Tells K (conclusion w (row t ts)) (D (t ∷ ts))) → (ts : List Ty) → HaveTypes w s (more e es) ts → Tells K (conclusion w (some_parts row ts)) (D ts)
    some_told row e es h [] a = absurd a
    some_told row e es h (t ∷ ts) a = h t ts

  -- ---- names

  -- a name has a type or isn't in scope
  abbrev IsNamed : Verdict → Type 0
  IsNamed (Is t) = Unit {0}
  IsNamed Fine = ⊥
  IsNamed (Wrong code) = E303 ≡ code
  IsNamed Silent = ⊥

  name_verdict : (o : Option Ty) (class : Option Name) (x : Name) → IsNamed (conclusion w (local_or_field o class x))
  name_verdict (Some t) class x = tt
  name_verdict None None x = refl
  name_verdict None (Some c) x = by_field (w.field c x)
    where
      by_field : (field : Option Ty) → IsNamed (conclusion w (demand_some field E303 is))
      by_field None = refl
      by_field (Some t) = tt

  name_told : (x : Name) (v : Verdict) → conclusion w (variable s x) ≡ v → IsNamed v → Tells IsOfExpression v ((IsInScope w s x, E303) ∷ [])
  name_told x (Is t) e n = (tt, ((t, variable_from w s x t e), tt))
  name_told x Fine e n = absurd n
  name_told x (Wrong code) e n = inl (λ h. let f : Wrong code ≡ Is h.0 = sym e ∙ from_variable w s x h.0 h.1 in absurd cc, n)
  name_told x Silent e n = absurd n

  is_named : (x : Name) → IsNamed (conclusion w (variable s x))
  unfolding variable
  is_named x = name_verdict (local_of s.variables x) s.class x

  -- ---- calls

  first_accepted : (b : Bool) (rest : Inquiry Bool) → conclusion w (cond b rest (Concludes false)) ≡ true → (b ≡ true) × (conclusion w rest ≡ true)
  first_accepted true rest e = (refl, e)
  first_accepted false rest e = absurd cc

  all_from : (ts us : List Ty) → length ts ≡ length us → conclusion w (are_accepted ts us) ≡ true → AreAccepted w ts us
  unfolding are_accepted
  all_from [] [] n e = tt
  all_from [] (u ∷ us) n e = absurd (omega (arith, n))
  all_from (t ∷ ts) [] n e = absurd (omega (arith, n))
  all_from (t ∷ ts) (u ∷ us) n e =
      let f = first_accepted (conclusion w (is_accepted t u)) (are_accepted ts us) (sym (conclusion-and_then w (is_accepted t u) (λ ok. cond ok (are_accepted ts us) (Concludes false))) ∙ e) in
      (accepted_from w t u f.0, all_from ts us (omega (arith, n)) f.1)

  from_all : (ts us : List Ty) → AreAccepted w ts us → conclusion w (are_accepted ts us) ≡ true
  unfolding are_accepted
  from_all [] [] h = refl
  from_all [] (u ∷ us) h = absurd h
  from_all (t ∷ ts) [] h = absurd h
  from_all (t ∷ ts) (u ∷ us) h =
      conclusion-and_then w (is_accepted t u) (λ ok. cond ok (are_accepted ts us) (Concludes false))
      ∙ ap (λ b. conclusion w (cond b (are_accepted ts us) (Concludes false))) (from_accepted w t u h.0)
      ∙ from_all ts us h.1

  one_method : (t : Ty) (m : Name) (a b : Sig) → HasMethod w t m a → HasMethod w t m b → a ≡ b
  one_method t m a b h k =
      let e : h.0 ≡ k.0 = same_class (sym h.1 ∙ k.1) in
      same_sig (sym h.2 ∙ ap (λ (c : Name). w.method c m) e ∙ k.2)
    where
      same_class : {c d : Name} → ty.Class c ≡ ty.Class d → c ≡ d
      same_class e = cc

      same_sig : {x y : Sig} → Some x ≡ Some y → x ≡ y
      same_sig e = cc

  called_told : (t : Ty) (m : Name) (ts : List Ty) (sig : Sig) → HasMethod w t m sig
      → Tells IsOfExpression (conclusion w (arguments sig ts)) (((u : Sig) × HasMethod w t m u × (length ts ≡ length u.formals), E312) ∷ ((u : Sig) × HasMethod w t m u × AreAccepted w ts u.formals, E313) ∷ [])
  unfolding arguments
  called_told t m ts sig is =
      demand_tells IsOfExpression w (nat_eq (length ts) (length sig.formals)) ((u : Sig) × HasMethod w t m u × (length ts ≡ length u.formals)) E312 (demand_asked (are_accepted ts sig.formals) E313 (Concludes (Is sig.returns))) (((u : Sig) × HasMethod w t m u × AreAccepted w ts u.formals, E313) ∷ [])
      (λ e. (sig, is, eqb-true (length ts) (length sig.formals) e))
      (λ h. eq-eqb (length ts) (length sig.formals) (h.2 ∙ ap (λ (u : Sig). length u.formals) (one_method t m h.0 sig h.1 is)))
      (λ h. asked_tells IsOfExpression w (are_accepted ts sig.formals) ((u : Sig) × HasMethod w t m u × AreAccepted w ts u.formals) E313 (Concludes (Is sig.returns)) []
      (λ e. (sig, is, all_from ts sig.formals (h.2 ∙ ap (λ (u : Sig). length u.formals) (one_method t m h.0 sig h.1 is)) e))
      (λ k. from_all ts sig.formals (subst (λ (u : Sig). AreAccepted w ts u.formals) (one_method t m k.0 sig k.1 is) k.2))
      (λ k. (tt, tt)))

  call_told : (m : Name) (t : Ty) (ts : List Ty)
      → Tells IsOfExpression (conclusion w (call m t ts)) ((IsClassType t, E310) ∷ ((u : Sig) × HasMethod w t m u, E311) ∷ ((u : Sig) × HasMethod w t m u × (length ts ≡ length u.formals), E312) ∷ ((u : Sig) × HasMethod w t m u × AreAccepted w ts u.formals, E313) ∷ [])
  unfolding call
  call_told m t ts =
      given_tells IsOfExpression w (class_in t) (IsClassType t) E310 (λ c. AsksMethod c m (λ method. demand_some method E311 (λ sig. arguments sig ts))) (((u : Sig) × HasMethod w t m u, E311) ∷ ((u : Sig) × HasMethod w t m u × (length ts ≡ length u.formals), E312) ∷ ((u : Sig) × HasMethod w t m u × AreAccepted w ts u.formals, E313) ∷ [])
      (λ c e. (c, class_is t c e))
      (λ e h. let f : None ≡ Some h.0 = sym e ∙ is_class t h.0 h.1 in absurd cc)
      (λ c e. given_tells IsOfExpression w (w.method c m) ((u : Sig) × HasMethod w t m u) E311 (λ sig. arguments sig ts) (((u : Sig) × HasMethod w t m u × (length ts ≡ length u.formals), E312) ∷ ((u : Sig) × HasMethod w t m u × AreAccepted w ts u.formals, E313) ∷ [])
      (λ sig f. (sig, (c, class_is t c e, f)))
      (λ f h. no_method t m c h.0 (class_is t c e) f h.1)
      (λ sig f. called_told t m ts sig (c, class_is t c e, f)))
    where
      no_method : (t : Ty) (m c : Name) (sig : Sig) → t ≡ ty.Class c → w.method c m ≡ None → HasMethod w t m sig → ⊥
      no_method t m c sig e f h =
          let d : h.0 ≡ c = same_class (sym h.1 ∙ e) in
          let n : Some sig ≡ None = sym h.2 ∙ ap (λ (c : Name). w.method c m) d ∙ f in
          absurd cc
        where
          same_class : {c d : Name} → ty.Class c ≡ ty.Class d → c ≡ d
          same_class e = cc

  -- ---- operators

  booleans_told : (t u : Ty) → Tells IsOfExpression (conclusion w (demand (is_boolean t && is_boolean u) E301 (is ty.Boolean))) (((t ≡ ty.Boolean) × (u ≡ ty.Boolean), E301) ∷ [])
  booleans_told t u =
      demand_tells IsOfExpression w (is_boolean t && is_boolean u) ((t ≡ ty.Boolean) × (u ≡ ty.Boolean)) E301 (is ty.Boolean) []
      (λ e. let b = and_parts (is_boolean t) (is_boolean u) e in (boolean_is t b.0, boolean_is u b.1))
      (λ h. and_from (is_boolean t) (is_boolean u) (is_the_boolean t h.0) (is_the_boolean u h.1)) (λ h. (tt, tt))

  ints : (t u : Ty) → (is_int t && is_int u) ≡ true → (t ≡ ty.Int) × (u ≡ ty.Int)
  ints t u e = let b = and_parts (is_int t) (is_int u) e in (int_is t b.0, int_is u b.1)

  are_ints : (t u : Ty) → (t ≡ ty.Int) × (u ≡ ty.Int) → (is_int t && is_int u) ≡ true
  are_ints t u h = and_from (is_int t) (is_int u) (is_the_int t h.0) (is_the_int u h.1)

  binary_told : (o : Operator) (t u : Ty) → Tells IsOfExpression (conclusion w (binary o t u)) (((t ≡ operand_type o) × (u ≡ operand_type o), operand_code o) ∷ [])
  unfolding binary
  binary_told And t u = booleans_told t u
  binary_told Less t u = demand_tells IsOfExpression w (is_int t && is_int u) ((t ≡ ty.Int) × (u ≡ ty.Int)) E302 (is ty.Boolean) [] (ints t u) (are_ints t u) (λ h. (tt, tt))
  binary_told Plus t u = demand_tells IsOfExpression w (is_int t && is_int u) ((t ≡ ty.Int) × (u ≡ ty.Int)) E304 (is ty.Int) [] (ints t u) (are_ints t u) (λ h. (tt, tt))
  binary_told Minus t u = demand_tells IsOfExpression w (is_int t && is_int u) ((t ≡ ty.Int) × (u ≡ ty.Int)) E304 (is ty.Int) [] (ints t u) (are_ints t u) (λ h. (tt, tt))
  binary_told Times t u = demand_tells IsOfExpression w (is_int t && is_int u) ((t ≡ ty.Int) × (u ≡ ty.Int)) E304 (is ty.Int) [] (ints t u) (are_ints t u) (λ h. (tt, tt))

  -- ---- each phrase

  expression_told : (e : Expression) (ts : List Ty) → HaveTypes w s (parts_of (OfExpression e)) ts → Tells IsOfExpression (conclusion w (row_of s (OfExpression e) ts)) (demands w s (OfExpression e) ts)
  unfolding literal this negation index array_length new_array new_object
  expression_told (Literal mark value) ts a =
      none_told IsOfExpression (demands w s (OfExpression (Literal mark value))) (literal value)
      (demand_tells IsOfExpression w (nat_le value most_value) (value ≤ most_value) E315 (is ty.Int) [] (leb-true value most_value) (le-leb value most_value) (λ h. (tt, tt))) ts a
  expression_told (Boolean mark value) ts a = none_told IsOfExpression (demands w s (OfExpression (Boolean mark value))) (is ty.Boolean) (tt, tt) ts a
  expression_told (Named mark x) ts a =
      none_told IsOfExpression (demands w s (OfExpression (Named mark x))) (variable s x) (name_told x (conclusion w (variable s x)) refl (is_named x)) ts a
  expression_told (This mark) ts a =
      none_told IsOfExpression (demands w s (OfExpression (This mark))) (this s)
      (given_tells IsOfExpression w s.class (IsInMethod s) E306 (λ c. is (ty.Class c)) [] (λ c e. (c, e)) (λ e h. let f : None ≡ Some h.0 = sym e ∙ h.1 in absurd cc) (λ c e. (tt, tt))) ts a
  expression_told (Parenthesized mark e) ts a = one_told IsOfExpression (demands w s (OfExpression (Parenthesized mark e))) parentheses e (λ t. (tt, tt)) ts a
  expression_told (Not mark e) ts a =
      one_told IsOfExpression (demands w s (OfExpression (Not mark e))) negation e
      (λ t. demand_tells IsOfExpression w (is_boolean t) (t ≡ ty.Boolean) E301 (is ty.Boolean) [] (boolean_is t) (is_the_boolean t) (λ h. (tt, tt))) ts a
  expression_told (Binary o mark l r) ts a = two_told IsOfExpression (demands w s (OfExpression (Binary o mark l r))) (binary o) l r (binary_told o) ts a
  expression_told (Index mark l i) ts a =
      two_told IsOfExpression (demands w s (OfExpression (Index mark l i))) index l i
      (λ t u. demand_tells IsOfExpression w (is_int_array t) (t ≡ ty.IntArray) E307 (demand (is_int u) E308 (is ty.Int)) ((u ≡ ty.Int, E308) ∷ []) (array_is t) (is_the_array t)
      (λ h. demand_tells IsOfExpression w (is_int u) (u ≡ ty.Int) E308 (is ty.Int) [] (int_is u) (is_the_int u) (λ k. (tt, tt)))) ts a
  expression_told (Length mark e) ts a =
      one_told IsOfExpression (demands w s (OfExpression (Length mark e))) array_length e
      (λ t. demand_tells IsOfExpression w (is_int_array t) (t ≡ ty.IntArray) E309 (is ty.Int) [] (array_is t) (is_the_array t) (λ h. (tt, tt))) ts a
  expression_told (Call mark e m es) ts a = some_told IsOfExpression (demands w s (OfExpression (Call mark e m es))) (call m) e es (call_told m) ts a
  expression_told (NewArray mark e) ts a =
      one_told IsOfExpression (demands w s (OfExpression (NewArray mark e))) new_array e
      (λ t. demand_tells IsOfExpression w (is_int t) (t ≡ ty.Int) E314 (is ty.IntArray) [] (int_is t) (is_the_int t) (λ h. (tt, tt))) ts a
  expression_told (NewObject mark c) ts a =
      none_told IsOfExpression (demands w s (OfExpression (NewObject mark c))) (new_object c)
      (demand_tells IsOfExpression w (w.is_declared c) (w.is_declared c ≡ true) E305 (is (ty.Class c)) [] (λ e. e) (λ h. h) (λ h. (tt, tt))) ts a

  condition_told : (t : Ty) → Tells IsOfStatement (conclusion w (condition t)) ((t ≡ ty.Boolean, E316) ∷ [])
  unfolding condition
  condition_told t = demand_tells IsOfStatement w (is_boolean t) (t ≡ ty.Boolean) E316 fine [] (boolean_is t) (is_the_boolean t) (λ h. (tt, tt))

  statement_told : (b : Statement) (ts : List Ty) → HaveTypes w s (parts_of (OfStatement b)) ts → Tells IsOfStatement (conclusion w (row_of s (OfStatement b) ts)) (demands w s (OfStatement b) ts)
  unfolding print assign store
  statement_told (Block mark ss) ts a = none_told IsOfStatement (demands w s (OfStatement (Block mark ss))) fine (tt, tt) ts a
  statement_told (If mark e b c) ts a = one_told IsOfStatement (demands w s (OfStatement (If mark e b c))) condition e condition_told ts a
  statement_told (While mark e b) ts a = one_told IsOfStatement (demands w s (OfStatement (While mark e b))) condition e condition_told ts a
  statement_told (Print mark e) ts a =
      one_told IsOfStatement (demands w s (OfStatement (Print mark e))) print e
      (λ t. demand_tells IsOfStatement w (is_int t) (t ≡ ty.Int) E317 fine [] (int_is t) (is_the_int t) (λ h. (tt, tt))) ts a
  statement_told (Assign mark x x_mark e) ts a =
      two_told IsOfStatement (demands w s (OfStatement (Assign mark x x_mark e))) assign (Named x_mark x) e
      (λ u t. asked_tells IsOfStatement w (is_accepted t u) (Accepted w t u) E318 fine [] (accepted_from w t u) (from_accepted w t u) (λ h. (tt, tt))) ts a
  statement_told (Store mark x x_mark i e) ts a =
      three_told IsOfStatement (demands w s (OfStatement (Store mark x x_mark i e))) store (Named x_mark x) i e
      (λ u n t. demand_tells IsOfStatement w (is_int_array u) (u ≡ ty.IntArray) E307 (demand (is_int n) E308 (demand (is_int t) E318 fine)) ((n ≡ ty.Int, E308) ∷ (t ≡ ty.Int, E318) ∷ []) (array_is u) (is_the_array u)
      (λ h. demand_tells IsOfStatement w (is_int n) (n ≡ ty.Int) E308 (demand (is_int t) E318 fine) ((t ≡ ty.Int, E318) ∷ []) (int_is n) (is_the_int n)
      (λ k. demand_tells IsOfStatement w (is_int t) (t ≡ ty.Int) E318 fine [] (int_is t) (is_the_int t) (λ l. (tt, tt))))) ts a

  returned_told : (mark : ℕ) (wanted : Ty) (e : Expression) (ts : List Ty) → HaveTypes w s (more e none) ts → Tells IsOfStatement (conclusion w (one_part (return_value wanted) ts)) (demands w s (OfReturn mark wanted e) ts)
  unfolding return_value
  returned_told mark wanted e ts a =
      one_told IsOfStatement (demands w s (OfReturn mark wanted e)) (return_value wanted) e
      (λ t. asked_tells IsOfStatement w (is_accepted t wanted) (Accepted w t wanted) E319 fine [] (accepted_from w t wanted) (from_accepted w t wanted) (λ h. (tt, tt))) ts a

  pub row_tells : (p : BodyPhrase) (ts : List Ty) → HaveTypes w s (parts_of p) ts → Tells (kind_of p) (conclusion w (row_of s p ts)) (demands w s p ts)
  row_tells (OfExpression e) ts a = expression_told e ts a
  row_tells (OfStatement b) ts a = statement_told b ts a
  row_tells (OfReturn mark wanted e) ts a = returned_told mark wanted e ts a
