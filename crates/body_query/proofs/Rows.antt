-- Which keys each phrase asks once its parts have types.
use Rattle.std.proofs.Common.{◌≡◌, Bool, true, false, ◌&&◌, ℕ, length, nat_eq, nat_le, List, [], ◌∷◌, ◌++◌, Option, Some, None, refl, ap, ap₂, ◌∙◌, if◌then◌else◌}
use Rattle.std.proofs.lemmas.List.{append-nil}
use Rattle.item_ids.specs.declared.key.Key.TheVariants as keys
use Rattle.mj_tree.specs.Trees.{Name}
use Rattle.mj_tree.specs.declared.tree.Operator.{Operator}
use Rattle.mj_tree.specs.declared.tree.Operator.TheVariants.{And, Less, Plus, Minus, Times}
use Rattle.mj_tree.specs.declared.tree.Ty.{Ty}
use Rattle.mj_tree.specs.declared.tree.Ty.TheVariants as types
use Rattle.mj_answer.specs.declared.code.Code.{Code}
use Rattle.mj_answer.specs.declared.code.Code.TheVariants.{E301, E302, E303, E304, E305, E306, E307, E308, E309, E311, E312, E313, E314, E315, E316, E317, E318, E319}
use Rattle.mj_phrases.specs.declared.verdict.Verdict.{Verdict}
use Rattle.mj_phrases.specs.Types.{is_same, is_int, is_boolean, is_int_array}
use Rattle.mj_phrases.specs.Inquiries.{World, Sig, Inquiry, Concludes, AsksDescent, conclusion}
use Rattle.mj_phrases.specs.Phrases.{demand, demand_asked, demand_some, is, fine}
use Rattle.mj_phrases.specs.Table.{Scope, local_of, is_accepted, are_accepted, most_value, literal, local_or_field, variable, this, negation, binary, index, array_length, arguments, call, new_array, new_object, condition, print, assign, store, return_value}
use Rattle.query_rules.specs.BodyReads.{field_reads, accept_reads, arguments_reads, called_reads, call_reads}
use Rattle.body_query.proofs.Asked.{asked_in, asked-and_then}

module _ (w : World) where
  demand_none : (b : Bool) (code : Code) (next : Inquiry Verdict) → asked_in w next ≡ [] → asked_in w (demand b code next) ≡ []
  demand_none true code next h = h
  demand_none false code next h = refl

  named_asked_by : (o : Option Ty) (class : Option Name) (x : Name) → asked_in w (local_or_field o class x) ≡ field_reads o class
  named_asked_by (Some t) class x = refl
  named_asked_by None None x = refl
  named_asked_by None (Some c) x = ap (λ ks. keys.Members c ∷ ks) (found (w.field c x))
    where
      found : (o : Option Ty) → asked_in w (demand_some o E303 is) ≡ []
      found None = refl
      found (Some t) = refl

  accept_asked : (t u : Ty) → asked_in w (is_accepted t u) ≡ accept_reads t u
  unfolding is_accepted
  accept_asked types.Int u = refl
  accept_asked types.Boolean u = refl
  accept_asked types.IntArray u = refl
  accept_asked (types.Class c) types.Int = refl
  accept_asked (types.Class c) types.Boolean = refl
  accept_asked (types.Class c) types.IntArray = refl
  accept_asked (types.Class c) (types.Class d) = by_test (is_same c d)
    where
      by_test : (b : Bool) → asked_in w (if b then Concludes true else AsksDescent c d (λ descends. Concludes descends)) ≡ (if b then [] else keys.Supers c ∷ [])
      by_test true = refl
      by_test false = refl

  arguments_asked : (ts us : List Ty) → asked_in w (are_accepted ts us) ≡ arguments_reads w ts us
  unfolding are_accepted
  arguments_asked [] us = refl
  arguments_asked (t ∷ ts) [] = refl
  arguments_asked (t ∷ ts) (u ∷ us) =
      asked-and_then w (is_accepted t u) (λ ok. if ok then are_accepted ts us else Concludes false)
      ∙ ap₂ (λ xs ys. xs ++ ys) (accept_asked t u) (by_test (conclusion w (is_accepted t u)) (arguments_asked ts us))
    where
      by_test : (b : Bool) → asked_in w (are_accepted ts us) ≡ arguments_reads w ts us → asked_in w (if b then are_accepted ts us else Concludes false) ≡ (if b then arguments_reads w ts us else [])
      by_test true h = h
      by_test false h = refl

  asked_alone : (i : Inquiry Bool) (code : Code) (next : Inquiry Verdict) → asked_in w next ≡ [] → asked_in w (demand_asked i code next) ≡ asked_in w i
  asked_alone i code next h =
      asked-and_then w i (λ ok. demand ok code next)
      ∙ ap (λ ks. asked_in w i ++ ks) (demand_none (conclusion w i) code next h)
      ∙ append-nil (asked_in w i)

  called_asked : (ts : List Ty) (s : Sig) → asked_in w (arguments s ts) ≡ (if nat_eq (length ts) (length s.formals) then arguments_reads w ts s.formals else [])
  unfolding arguments
  called_asked ts s = by_count (nat_eq (length ts) (length s.formals))
    where
      by_count : (b : Bool) → asked_in w (demand b E312 (demand_asked (are_accepted ts s.formals) E313 (is s.returns))) ≡ (if b then arguments_reads w ts s.formals else [])
      by_count true = asked_alone (are_accepted ts s.formals) E313 (is s.returns) refl ∙ arguments_asked ts s.formals
      by_count false = refl

  pub call_asked : (m : Name) (t : Ty) (ts : List Ty) → asked_in w (call m t ts) ≡ call_reads w m (Some t) (Some ts)
  unfolding call
  call_asked m types.Int ts = refl
  call_asked m types.Boolean ts = refl
  call_asked m types.IntArray ts = refl
  call_asked m (types.Class d) ts = ap (λ ks. keys.Members d ∷ ks) (found (w.method d m))
    where
      found : (o : Option Sig) → asked_in w (demand_some o E311 (λ s. arguments s ts)) ≡ called_reads w ts o
      found None = refl
      found (Some s) = called_asked ts s

  this_asked_by : (o : Option Name) → asked_in w (demand_some o E306 (λ c. is (types.Class c))) ≡ []
  this_asked_by None = refl
  this_asked_by (Some c) = refl

  pub binary_asked : (o : Operator) (a b : Ty) → asked_in w (binary o a b) ≡ []
  unfolding binary
  binary_asked And a b = demand_none (is_boolean a && is_boolean b) E301 (is types.Boolean) refl
  binary_asked Less a b = demand_none (is_int a && is_int b) E302 (is types.Boolean) refl
  binary_asked Plus a b = demand_none (is_int a && is_int b) E304 (is types.Int) refl
  binary_asked Minus a b = demand_none (is_int a && is_int b) E304 (is types.Int) refl
  binary_asked Times a b = demand_none (is_int a && is_int b) E304 (is types.Int) refl

  pub named_asked : (s : Scope) (x : Name) → asked_in w (variable s x) ≡ field_reads (local_of s.variables x) s.class
  unfolding variable
  named_asked s x = named_asked_by (local_of s.variables x) s.class x

  pub this_asked : (s : Scope) → asked_in w (this s) ≡ []
  unfolding this
  this_asked s = this_asked_by s.class

  pub new_object_asked : (c : Name) → asked_in w (new_object c) ≡ keys.Header c ∷ []
  unfolding new_object
  new_object_asked c = ap (λ ks. keys.Header c ∷ ks) (demand_none (w.is_declared c) E305 (is (types.Class c)) refl)

  pub assign_asked : (x a : Ty) → asked_in w (assign x a) ≡ accept_reads a x
  unfolding assign
  assign_asked x a = asked_alone (is_accepted a x) E318 fine refl ∙ accept_asked a x

  pub returned_asked : (wanted a : Ty) → asked_in w (return_value wanted a) ≡ accept_reads a wanted
  unfolding return_value
  returned_asked wanted a = asked_alone (is_accepted a wanted) E319 fine refl ∙ accept_asked a wanted

  -- the others ask nothing
  pub literal_asked : (value : ℕ) → asked_in w (literal value) ≡ []
  unfolding literal
  literal_asked value = demand_none (nat_le value most_value) E315 (is types.Int) refl

  pub negation_asked : (a : Ty) → asked_in w (negation a) ≡ []
  unfolding negation
  negation_asked a = demand_none (is_boolean a) E301 (is types.Boolean) refl

  pub index_asked : (a i : Ty) → asked_in w (index a i) ≡ []
  unfolding index
  index_asked a i = demand_none (is_int_array a) E307 (demand (is_int i) E308 (is types.Int)) (demand_none (is_int i) E308 (is types.Int) refl)

  pub array_length_asked : (a : Ty) → asked_in w (array_length a) ≡ []
  unfolding array_length
  array_length_asked a = demand_none (is_int_array a) E309 (is types.Int) refl

  pub new_array_asked : (a : Ty) → asked_in w (new_array a) ≡ []
  unfolding new_array
  new_array_asked a = demand_none (is_int a) E314 (is types.IntArray) refl

  pub condition_asked : (a : Ty) → asked_in w (condition a) ≡ []
  unfolding condition
  condition_asked a = demand_none (is_boolean a) E316 fine refl

  pub print_asked : (a : Ty) → asked_in w (print a) ≡ []
  unfolding print
  print_asked a = demand_none (is_int a) E317 fine refl

  pub store_asked : (x i a : Ty) → asked_in w (store x i a) ≡ []
  unfolding store
  store_asked x i a = demand_none (is_int_array x) E307 (demand (is_int i) E308 (demand (is_int a) E318 fine)) (demand_none (is_int i) E308 (demand (is_int a) E318 fine) (demand_none (is_int a) E318 fine refl))
