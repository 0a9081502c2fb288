-- The table is the judgement by cases.
use Rattle.std.proofs.Common.{◌≡◌, ℕ, suc, nat_le, Bool, true, false, cond, ◌&&◌, List, [], ◌∷◌, length, Option, Some, None, refl, sym, ap, ◌∙◌, subst, arith, inl, inr}
use Rattle.std.proofs.lemmas.Bool.{leb-true, le-leb, eq-eqb, eqb-true, and_parts}
use Rattle.std.specs.Prelude.{nat_eq}
use Rattle.std.proofs.lemmas.Option.{same_Some}
use Rattle.mj_tree.specs.Trees.{Name, Expression, Expressions, Binary, Index, Length, Call, Literal, Boolean, Named, This, NewArray, NewObject, Not, Parenthesized, none, more}
use Rattle.mj_tree.specs.declared.tree.Operator.{Operator}
use Rattle.mj_tree.specs.declared.tree.Operator.TheVariants.{And, Less, Plus, Minus, Times}
use Rattle.mj_tree.specs.declared.tree.Ty.{Ty}
use Rattle.mj_tree.specs.declared.tree.Ty.TheVariants as ty
use Rattle.mj_tree.specs.declared.tree.Variable.{Variable}
use Rattle.mj_answer.specs.declared.code.Code.{Code}
use Rattle.mj_answer.specs.declared.code.Code.TheVariants.{E301, E302, E303, E304, E305, E306, E307, E308, E309, E310, E311, E312, E313, E314, E315}
use Rattle.mj_phrases.specs.declared.verdict.Verdict.{Verdict}
use Rattle.mj_phrases.specs.declared.verdict.Verdict.TheVariants.{Is, Fine, Wrong, Silent}
use Rattle.mj_phrases.specs.Types.{is_same, is_int, is_boolean, is_int_array, class_in}
use Rattle.mj_phrases.specs.Inquiries.{World, Inquiry, Concludes, AsksDescent, AsksField, AsksMethod, conclusion}
use Rattle.mj_phrases.specs.Phrases.{demand, demand_asked, demand_some, is, Phrase, Phrases, nothing, part, HasType, AllTyped}
use Rattle.mj_phrases.specs.Table.{Scope, local_of, is_accepted, are_accepted, literal, variable, local_or_field, this, negation, binary, index, array_length, arguments, call, new_array, new_object, no_parts, one_part, two_parts, three_parts, some_parts, phrase_of, phrases_of}
use Rattle.mj_phrases.specs.Cases.{Accepted, IsLocal, IsNoLocal, IsVariable, operand_type, result_type, HasTypeByCases, ArgumentsAccepted}
use Rattle.mj_phrases.proofs.Checks.{conclusion-and_then}
use Rattle.mj_phrases.proofs.Names.{same_from, from_same}

-- ---- types

is_inj : (t u : Ty) → Is t ≡ Is u → t ≡ u
is_inj t u e = cc

pub int_is : (t : Ty) → is_int t ≡ true → t ≡ ty.Int
int_is ty.Int e = refl
int_is ty.Boolean e = absurd cc
int_is ty.IntArray e = absurd cc
int_is (ty.Class c) e = absurd cc

pub boolean_is : (t : Ty) → is_boolean t ≡ true → t ≡ ty.Boolean
boolean_is ty.Int e = absurd cc
boolean_is ty.Boolean e = refl
boolean_is ty.IntArray e = absurd cc
boolean_is (ty.Class c) e = absurd cc

pub array_is : (t : Ty) → is_int_array t ≡ true → t ≡ ty.IntArray
array_is ty.Int e = absurd cc
array_is ty.Boolean e = absurd cc
array_is ty.IntArray e = refl
array_is (ty.Class c) e = absurd cc

pub class_is : (t : Ty) (c : Name) → class_in t ≡ Some c → t ≡ ty.Class c
class_is ty.Int c e = absurd cc
class_is ty.Boolean c e = absurd cc
class_is ty.IntArray c e = absurd cc
class_is (ty.Class d) c e = ap (λ (x : Name). ty.Class x) (same_Some d c e)

-- ---- demands that hold

-- the verdict isn't a code
abbrev pub Holds : Verdict → Type 0
Holds (Is t) = Unit {0}
Holds Fine = Unit {0}
Holds (Wrong code) = ⊥
Holds Silent = Unit {0}

module _ (w : World) where
  pub demand_holds : (b : Bool) (code : Code) (then : Inquiry Verdict) (v : Verdict) → Holds v → conclusion w (demand b code then) ≡ v → (b ≡ true) × (conclusion w then ≡ v)
  demand_holds true code then v h e = (refl, e)
  demand_holds false code then v h e = absurd (subst Holds (sym e) h)

  demand_true : (b : Bool) (code : Code) (then : Inquiry Verdict) → b ≡ true → conclusion w (demand b code then) ≡ conclusion w then
  demand_true b code then e = ap (λ b. conclusion w (demand b code then)) e

  pub asked_holds : (m : Inquiry Bool) (code : Code) (then : Inquiry Verdict) (v : Verdict) → Holds v → conclusion w (demand_asked m code then) ≡ v → (conclusion w m ≡ true) × (conclusion w then ≡ v)
  asked_holds m code then v h e = demand_holds (conclusion w m) code then v h (sym (conclusion-and_then w m (λ ok. demand ok code then)) ∙ e)

  pub asked_true : (m : Inquiry Bool) (code : Code) (then : Inquiry Verdict) → conclusion w m ≡ true → conclusion w (demand_asked m code then) ≡ conclusion w then
  asked_true m code then e = conclusion-and_then w m (λ ok. demand ok code then) ∙ demand_true (conclusion w m) code then e

  given_holds : {A : Type 0} (o : Option A) (code : Code) (then : A → Inquiry Verdict) (v : Verdict) → Holds v → conclusion w (demand_some o code then) ≡ v → (a : A) × (o ≡ Some a) × (conclusion w (then a) ≡ v)
  given_holds None code then v h e = absurd (subst Holds (sym e) h)
  given_holds (Some a) code then v h e = (a, refl, e)

  given_some : {A : Type 0} (o : Option A) (code : Code) (then : A → Inquiry Verdict) (a : A) → o ≡ Some a → conclusion w (demand_some o code then) ≡ conclusion w (then a)
  given_some o code then a e = ap (λ o. conclusion w (demand_some o code then)) e

  -- ---- what is accepted

  class_conclusion : (c d : Name) (b : Bool) → conclusion w (cond b (Concludes true) (AsksDescent c d (λ descends. Concludes descends))) ≡ cond b true (w.descends c d)
  class_conclusion c d true = refl
  class_conclusion c d false = refl

  class_accepted : (c d : Name) (b : Bool) → is_same c d ≡ b → cond b true (w.descends c d) ≡ true → Accepted w (ty.Class c) (ty.Class d)
  class_accepted c d true e h = inl (ap (λ (x : Name). ty.Class x) (same_from c d e))
  class_accepted c d false e h = inr (c, d, refl, refl, h)

  pub accepted_from : (t u : Ty) → conclusion w (is_accepted t u) ≡ true → Accepted w t u
  unfolding is_accepted
  accepted_from ty.Int u e = inl (sym (int_is u e))
  accepted_from ty.Boolean u e = inl (sym (boolean_is u e))
  accepted_from ty.IntArray u e = inl (sym (array_is u e))
  accepted_from (ty.Class c) ty.Int e = absurd cc
  accepted_from (ty.Class c) ty.Boolean e = absurd cc
  accepted_from (ty.Class c) ty.IntArray e = absurd cc
  accepted_from (ty.Class c) (ty.Class d) e = class_accepted c d (is_same c d) refl (sym (class_conclusion c d (is_same c d)) ∙ e)

  accepted_by_itself : (t : Ty) → conclusion w (is_accepted t t) ≡ true
  unfolding is_accepted
  accepted_by_itself ty.Int = refl
  accepted_by_itself ty.Boolean = refl
  accepted_by_itself ty.IntArray = refl
  accepted_by_itself (ty.Class c) = let e = from_same c c refl in rw e refl

  cond_true : (b : Bool) (x : Bool) → x ≡ true → cond b true x ≡ true
  cond_true true x e = refl
  cond_true false x e = e

  accepted_by_ancestor : (c d : Name) → w.descends c d ≡ true → conclusion w (is_accepted (ty.Class c) (ty.Class d)) ≡ true
  unfolding is_accepted
  accepted_by_ancestor c d e = class_conclusion c d (is_same c d) ∙ cond_true (is_same c d) (w.descends c d) e

  pub from_accepted : (t u : Ty) → Accepted w t u → conclusion w (is_accepted t u) ≡ true
  from_accepted t u (inl e) = subst (λ u. conclusion w (is_accepted t u) ≡ true) e (accepted_by_itself t)
  from_accepted t u (inr h) =
      subst (λ t. conclusion w (is_accepted t u) ≡ true) (sym h.2) (subst (λ u. conclusion w (is_accepted (ty.Class h.0) u) ≡ true) (sym h.3) (accepted_by_ancestor h.0 h.1 h.4))

  -- ---- variables

  local_is : (vs : List Variable) (x : Name) (t : Ty) → local_of vs x ≡ Some t → IsLocal vs x t
  local_is [] x t e = absurd cc
  local_is (v ∷ vs) x t e = by_first (λ e. local_is vs x t e) (is_same v.name x) refl e
    where
      by_first : (local_of vs x ≡ Some t → IsLocal vs x t) → (b : Bool) → is_same v.name x ≡ b → cond b (Some v.ty) (local_of vs x) ≡ Some t → IsLocal (v ∷ vs) x t
      by_first rest true s e = inl (same_from v.name x s, same_Some v.ty t e)
      by_first rest false s e = inr (λ same. let f = from_same v.name x same in absurd cc, rest e)

  other_name : (x y : Name) → (x ≡ y → ⊥) → is_same x y ≡ false
  other_name x y h = by_test (is_same x y) refl
    where
      by_test : (b : Bool) → is_same x y ≡ b → is_same x y ≡ false
      by_test true e = absurd (h (same_from x y e))
      by_test false e = e

  is_local : (vs : List Variable) (x : Name) (t : Ty) → IsLocal vs x t → local_of vs x ≡ Some t
  is_local [] x t h = absurd h
  is_local (v ∷ vs) x t (inl h) = let e = from_same v.name x h.0 in rw e (ap (λ (t : Ty). Some t) h.1)
  is_local (v ∷ vs) x t (inr h) = let e = other_name v.name x h.0 in rw e (is_local vs x t h.1)

  none_is : (vs : List Variable) (x : Name) → local_of vs x ≡ None → IsNoLocal vs x
  none_is [] x e = tt
  none_is (v ∷ vs) x e = by_first (λ e. none_is vs x e) (is_same v.name x) refl e
    where
      by_first : (local_of vs x ≡ None → IsNoLocal vs x) → (b : Bool) → is_same v.name x ≡ b → cond b (Some v.ty) (local_of vs x) ≡ None → IsNoLocal (v ∷ vs) x
      by_first rest true s e = absurd cc
      by_first rest false s e = (λ same. let f = from_same v.name x same in absurd cc, rest e)

  is_none : (vs : List Variable) (x : Name) → IsNoLocal vs x → local_of vs x ≡ None
  is_none [] x h = refl
  is_none (v ∷ vs) x h = let e = other_name v.name x h.0 in rw e (is_none vs x h.1)

  variable_by : (s : Scope) (x : Name) (t : Ty) (o : Option Ty) → local_of s.variables x ≡ o → conclusion w (local_or_field o s.class x) ≡ Is t → IsVariable w s x t
  variable_by s x t (Some u) l e = inl (local_is s.variables x t (l ∙ ap (λ (t : Ty). Some t) (is_inj u t e)))
  variable_by s x t None l e =
      let c = given_holds s.class E303 (λ c. AsksField c x (λ field. demand_some field E303 is)) (Is t) tt e in
      let f = given_holds (w.field c.0 x) E303 is (Is t) tt c.2 in
      inr (none_is s.variables x l, (c.0, c.1, f.1 ∙ ap (λ (t : Ty). Some t) (is_inj f.0 t f.2)))

  pub variable_from : (s : Scope) (x : Name) (t : Ty) → conclusion w (variable s x) ≡ Is t → IsVariable w s x t
  unfolding variable
  variable_from s x t e = variable_by s x t (local_of s.variables x) refl e

  pub from_variable : (s : Scope) (x : Name) (t : Ty) → IsVariable w s x t → conclusion w (variable s x) ≡ Is t
  unfolding variable
  from_variable s x t (inl h) = ap (λ o. conclusion w (local_or_field o s.class x)) (is_local s.variables x t h)
  from_variable s x t (inr h) =
      ap (λ o. conclusion w (local_or_field o s.class x)) (is_none s.variables x h.0)
      ∙ given_some s.class E303 (λ c. AsksField c x (λ field. demand_some field E303 is)) h.1.0 h.1.1
      ∙ given_some (w.field h.1.0 x) E303 is t h.1.2

  -- ---- parts

  -- all parts have types, and the row has the verdict
  abbrev pub Comes : (List Ty → Inquiry Verdict) → Phrases → Verdict → Type 0
  Comes row parts v = (ts : List Ty) × AllTyped w parts ts × (conclusion w (row ts) ≡ v)

  none_by : (row : Inquiry Verdict) (v : Verdict) (ts : List Ty) → AllTyped w nothing ts → conclusion w (no_parts row ts) ≡ v → conclusion w row ≡ v
  none_by row v [] h e = e
  none_by row v (t ∷ ts) h e = absurd h

  pub from_none : (row : Inquiry Verdict) (v : Verdict) → Comes (no_parts row) nothing v → conclusion w row ≡ v
  from_none row v h = none_by row v h.0 h.1 h.2

  one_by : (row : Ty → Inquiry Verdict) (p : Phrase) (v : Verdict) (ts : List Ty) → AllTyped w (part p nothing) ts → conclusion w (one_part row ts) ≡ v → (a : Ty) × HasType w p a × (conclusion w (row a) ≡ v)
  one_by row p v [] h e = absurd h
  one_by row p v (a ∷ []) h e = (a, h.0, e)
  one_by row p v (a ∷ b ∷ ts) h e = absurd h.1

  pub from_one : (row : Ty → Inquiry Verdict) (p : Phrase) (v : Verdict) → Comes (one_part row) (part p nothing) v → (a : Ty) × HasType w p a × (conclusion w (row a) ≡ v)
  from_one row p v h = one_by row p v h.0 h.1 h.2

  two_by : (row : Ty → Ty → Inquiry Verdict) (p q : Phrase) (v : Verdict) (ts : List Ty) → AllTyped w (part p (part q nothing)) ts → conclusion w (two_parts row ts) ≡ v → (a b : Ty) × HasType w p a × HasType w q b × (conclusion w (row a b) ≡ v)
  two_by row p q v [] h e = absurd h
  two_by row p q v (a ∷ []) h e = absurd h.1
  two_by row p q v (a ∷ b ∷ []) h e = (a, b, h.0, h.1.0, e)
  two_by row p q v (a ∷ b ∷ c ∷ ts) h e = absurd h.1.1

  pub from_two : (row : Ty → Ty → Inquiry Verdict) (p q : Phrase) (v : Verdict) → Comes (two_parts row) (part p (part q nothing)) v → (a b : Ty) × HasType w p a × HasType w q b × (conclusion w (row a b) ≡ v)
  from_two row p q v h = two_by row p q v h.0 h.1 h.2

  three_by : (row : Ty → Ty → Ty → Inquiry Verdict) (p q r : Phrase) (v : Verdict) (ts : List Ty) → AllTyped w (part p (part q (part r nothing))) ts → conclusion w (three_parts row ts) ≡ v → (a b c : Ty) × HasType w p a × HasType w q b × HasType w r c × (conclusion w (row a b c) ≡ v)
  three_by row p q r v [] h e = absurd h
  three_by row p q r v (a ∷ []) h e = absurd h.1
  three_by row p q r v (a ∷ b ∷ []) h e = absurd h.1.1
  three_by row p q r v (a ∷ b ∷ c ∷ []) h e = (a, b, c, h.0, h.1.0, h.1.1.0, e)
  three_by row p q r v (a ∷ b ∷ c ∷ d ∷ ts) h e = absurd h.1.1.1

  pub from_three : (row : Ty → Ty → Ty → Inquiry Verdict) (p q r : Phrase) (v : Verdict) → Comes (three_parts row) (part p (part q (part r nothing))) v → (a b c : Ty) × HasType w p a × HasType w q b × HasType w r c × (conclusion w (row a b c) ≡ v)
  from_three row p q r v h = three_by row p q r v h.0 h.1 h.2

  some_by : (row : Ty → List Ty → Inquiry Verdict) (p : Phrase) (ps : Phrases) (v : Verdict) (ts : List Ty) → AllTyped w (part p ps) ts → conclusion w (some_parts row ts) ≡ v → (a : Ty) × (us : List Ty) × HasType w p a × AllTyped w ps us × (conclusion w (row a us) ≡ v)
  some_by row p ps v [] h e = absurd h
  some_by row p ps v (a ∷ ts) h e = (a, ts, h.0, h.1, e)

  from_some : (row : Ty → List Ty → Inquiry Verdict) (p : Phrase) (ps : Phrases) (v : Verdict) → Comes (some_parts row) (part p ps) v → (a : Ty) × (us : List Ty) × HasType w p a × AllTyped w ps us × (conclusion w (row a us) ≡ v)
  from_some row p ps v h = some_by row p ps v h.0 h.1 h.2

  -- ---- expressions

  binary_from : (o : Operator) (a b t : Ty) → conclusion w (binary o a b) ≡ Is t → (a ≡ operand_type o) × (b ≡ operand_type o) × (t ≡ result_type o)
  unfolding binary
  binary_from And a b t e = let d = demand_holds (is_boolean a && is_boolean b) E301 (is ty.Boolean) (Is t) tt e in let f = and_parts (is_boolean a) (is_boolean b) d.0 in (boolean_is a f.0, boolean_is b f.1, sym (is_inj ty.Boolean t d.1))
  binary_from Less a b t e = let d = demand_holds (is_int a && is_int b) E302 (is ty.Boolean) (Is t) tt e in let f = and_parts (is_int a) (is_int b) d.0 in (int_is a f.0, int_is b f.1, sym (is_inj ty.Boolean t d.1))
  binary_from Plus a b t e = let d = demand_holds (is_int a && is_int b) E304 (is ty.Int) (Is t) tt e in let f = and_parts (is_int a) (is_int b) d.0 in (int_is a f.0, int_is b f.1, sym (is_inj ty.Int t d.1))
  binary_from Minus a b t e = let d = demand_holds (is_int a && is_int b) E304 (is ty.Int) (Is t) tt e in let f = and_parts (is_int a) (is_int b) d.0 in (int_is a f.0, int_is b f.1, sym (is_inj ty.Int t d.1))
  binary_from Times a b t e = let d = demand_holds (is_int a && is_int b) E304 (is ty.Int) (Is t) tt e in let f = and_parts (is_int a) (is_int b) d.0 in (int_is a f.0, int_is b f.1, sym (is_inj ty.Int t d.1))

  from_binary : (o : Operator) → conclusion w (binary o (operand_type o) (operand_type o)) ≡ Is (result_type o)
  unfolding binary
  from_binary And = refl
  from_binary Less = refl
  from_binary Plus = refl
  from_binary Minus = refl
  from_binary Times = refl

  first_accepted : (b : Bool) (rest : Inquiry Bool) → conclusion w (cond b rest (Concludes false)) ≡ true → (b ≡ true) × (conclusion w rest ≡ true)
  first_accepted true rest e = (refl, e)
  first_accepted false rest e = absurd cc

  mutual
    unfolding literal variable this negation index array_length arguments call new_array new_object are_accepted

    pub by_cases : (s : Scope) (e : Expression) (t : Ty) → HasType w (phrase_of s e) t → HasTypeByCases w s e t
    by_cases s (Literal mark value) t h = let d = demand_holds (nat_le value 2147483647) E315 (is ty.Int) (Is t) tt (from_none (literal value) (Is t) h) in (leb-true value 2147483647 d.0, sym (is_inj ty.Int t d.1))
    by_cases s (Boolean mark value) t h = sym (is_inj ty.Boolean t (from_none (is ty.Boolean) (Is t) h))
    by_cases s (Named mark x) t h = variable_from s x t (from_none (variable s x) (Is t) h)
    by_cases s (This mark) t h = let c = given_holds s.class E306 (λ c. is (ty.Class c)) (Is t) tt (from_none (this s) (Is t) h) in (c.0, c.1, sym (is_inj (ty.Class c.0) t c.2))
    by_cases s (Parenthesized mark e) t h = let a = from_one (λ a. is a) (phrase_of s e) (Is t) h in subst (HasTypeByCases w s e) (is_inj a.0 t a.2) (by_cases s e a.0 a.1)
    by_cases s (Not mark e) t h =
        let a = from_one negation (phrase_of s e) (Is t) h in
        let d = demand_holds (is_boolean a.0) E301 (is ty.Boolean) (Is t) tt a.2 in
        (subst (HasTypeByCases w s e) (boolean_is a.0 d.0) (by_cases s e a.0 a.1), sym (is_inj ty.Boolean t d.1))
    by_cases s (Binary o mark l r) t h =
        let a = from_two (binary o) (phrase_of s l) (phrase_of s r) (Is t) h in
        let d = binary_from o a.0 a.1 t a.4 in
        (subst (HasTypeByCases w s l) d.0 (by_cases s l a.0 a.2), subst (HasTypeByCases w s r) d.1 (by_cases s r a.1 a.3), d.2)
    by_cases s (Index mark l r) t h =
        let a = from_two index (phrase_of s l) (phrase_of s r) (Is t) h in
        let d = demand_holds (is_int_array a.0) E307 (demand (is_int a.1) E308 (is ty.Int)) (Is t) tt a.4 in
        let f = demand_holds (is_int a.1) E308 (is ty.Int) (Is t) tt d.1 in
        (subst (HasTypeByCases w s l) (array_is a.0 d.0) (by_cases s l a.0 a.2), subst (HasTypeByCases w s r) (int_is a.1 f.0) (by_cases s r a.1 a.3), sym (is_inj ty.Int t f.1))
    by_cases s (Length mark e) t h =
        let a = from_one array_length (phrase_of s e) (Is t) h in
        let d = demand_holds (is_int_array a.0) E309 (is ty.Int) (Is t) tt a.2 in
        (subst (HasTypeByCases w s e) (array_is a.0 d.0) (by_cases s e a.0 a.1), sym (is_inj ty.Int t d.1))
    by_cases s (Call mark e m es) t h =
        let a = from_some (call m) (phrase_of s e) (phrases_of s es) (Is t) h in
        let c = given_holds (class_in a.0) E310 (λ c. AsksMethod c m (λ method. demand_some method E311 (λ s. arguments s a.1))) (Is t) tt a.4 in
        let sig = given_holds (w.method c.0 m) E311 (λ s. arguments s a.1) (Is t) tt c.2 in
        let d = demand_holds (nat_eq (length a.1) (length sig.0.formals)) E312 (demand_asked (are_accepted a.1 sig.0.formals) E313 (is sig.0.returns)) (Is t) tt sig.2 in
        let f = asked_holds (are_accepted a.1 sig.0.formals) E313 (is sig.0.returns) (Is t) tt d.1 in
        (c.0, sig.0, subst (HasTypeByCases w s e) (class_is a.0 c.0 c.1) (by_cases s e a.0 a.2), sig.1, arguments_by_cases s es a.1 sig.0.formals a.3 (eqb-true (length a.1) (length sig.0.formals) d.0) f.0, sym (is_inj sig.0.returns t f.1))
    by_cases s (NewArray mark e) t h =
        let a = from_one new_array (phrase_of s e) (Is t) h in
        let d = demand_holds (is_int a.0) E314 (is ty.IntArray) (Is t) tt a.2 in
        (subst (HasTypeByCases w s e) (int_is a.0 d.0) (by_cases s e a.0 a.1), sym (is_inj ty.IntArray t d.1))
    by_cases s (NewObject mark c) t h = let d = demand_holds (w.is_declared c) E305 (is (ty.Class c)) (Is t) tt (from_none (new_object c) (Is t) h) in (d.0, sym (is_inj (ty.Class c) t d.1))

    arguments_by_cases : (s : Scope) (es : Expressions) (ts us : List Ty) → AllTyped w (phrases_of s es) ts → length ts ≡ length us → conclusion w (are_accepted ts us) ≡ true → ArgumentsAccepted w s es us
    arguments_by_cases s none [] [] h n e = tt
    arguments_by_cases s none [] (u ∷ us) h n e = absurd (omega (arith, n))
    arguments_by_cases s none (t ∷ ts) us h n e = absurd h
    arguments_by_cases s (more x xs) [] us h n e = absurd h
    arguments_by_cases s (more x xs) (t ∷ ts) [] h n e = absurd (omega (arith, n))
    arguments_by_cases s (more x xs) (t ∷ ts) (u ∷ us) h n e =
        let f = first_accepted (conclusion w (is_accepted t u)) (are_accepted ts us) (sym (conclusion-and_then w (is_accepted t u) (λ ok. cond ok (are_accepted ts us) (Concludes false))) ∙ e) in
        ((t, by_cases s x t h.0, accepted_from t u f.0), arguments_by_cases s xs ts us h.1 (omega (arith, n)) f.1)

  mutual
    unfolding literal variable this negation index array_length arguments call new_array new_object are_accepted

    pub from_cases : (s : Scope) (e : Expression) (t : Ty) → HasTypeByCases w s e t → HasType w (phrase_of s e) t
    from_cases s (Literal mark value) t h = ([], tt, demand_true (nat_le value 2147483647) E315 (is ty.Int) (le-leb value 2147483647 h.0) ∙ ap (λ (t : Ty). Is t) (sym h.1))
    from_cases s (Boolean mark value) t h = ([], tt, ap (λ (t : Ty). Is t) (sym h))
    from_cases s (Named mark x) t h = ([], tt, from_variable s x t h)
    from_cases s (This mark) t h = ([], tt, given_some s.class E306 (λ c. is (ty.Class c)) h.0 h.1 ∙ ap (λ (t : Ty). Is t) (sym h.2))
    from_cases s (Parenthesized mark e) t h = (t ∷ [], (from_cases s e t h, tt), refl)
    from_cases s (Not mark e) t h = (ty.Boolean ∷ [], (from_cases s e ty.Boolean h.0, tt), ap (λ (t : Ty). Is t) (sym h.1))
    from_cases s (Binary o mark l r) t h =
        (operand_type o ∷ operand_type o ∷ [], (from_cases s l (operand_type o) h.0, (from_cases s r (operand_type o) h.1, tt)), from_binary o ∙ ap (λ (t : Ty). Is t) (sym h.2))
    from_cases s (Index mark l r) t h = (ty.IntArray ∷ ty.Int ∷ [], (from_cases s l ty.IntArray h.0, (from_cases s r ty.Int h.1, tt)), ap (λ (t : Ty). Is t) (sym h.2))
    from_cases s (Length mark e) t h = (ty.IntArray ∷ [], (from_cases s e ty.IntArray h.0, tt), ap (λ (t : Ty). Is t) (sym h.1))
    from_cases s (Call mark e m es) t h =
        let a = arguments_from_cases s es h.1.formals h.4 in (
          ty.Class h.0 ∷ a.0,
          (from_cases s e (ty.Class h.0) h.2, a.1),
          given_some (w.method h.0 m) E311 (λ s. arguments s a.0) h.1 h.3
              ∙ demand_true (nat_eq (length a.0) (length h.1.formals)) E312 (demand_asked (are_accepted a.0 h.1.formals) E313 (is h.1.returns)) (eq-eqb (length a.0) (length h.1.formals) a.2)
              ∙ asked_true (are_accepted a.0 h.1.formals) E313 (is h.1.returns) a.3
              ∙ ap (λ (t : Ty). Is t) (sym h.5),
        )
    from_cases s (NewArray mark e) t h = (ty.Int ∷ [], (from_cases s e ty.Int h.0, tt), ap (λ (t : Ty). Is t) (sym h.1))
    from_cases s (NewObject mark c) t h = ([], tt, demand_true (w.is_declared c) E305 (is (ty.Class c)) h.0 ∙ ap (λ (t : Ty). Is t) (sym h.1))

    arguments_from_cases : (s : Scope) (es : Expressions) (us : List Ty) → ArgumentsAccepted w s es us → (ts : List Ty) × AllTyped w (phrases_of s es) ts × (length ts ≡ length us) × (conclusion w (are_accepted ts us) ≡ true)
    arguments_from_cases s none [] h = ([], tt, refl, refl)
    arguments_from_cases s none (u ∷ us) h = absurd h
    arguments_from_cases s (more x xs) [] h = absurd h
    arguments_from_cases s (more x xs) (u ∷ us) h =
        let a = arguments_from_cases s xs us h.1 in (
          h.0.0 ∷ a.0,
          (from_cases s x h.0.0 h.0.1, a.1),
          ap (λ (n : ℕ). suc n) a.2,
          conclusion-and_then w (is_accepted h.0.0 u) (λ ok. cond ok (are_accepted a.0 us) (Concludes false))
              ∙ ap (λ b. conclusion w (cond b (are_accepted a.0 us) (Concludes false))) (from_accepted h.0.0 u h.0.2)
              ∙ a.3,
        )
