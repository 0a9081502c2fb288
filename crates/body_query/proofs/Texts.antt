-- The keys of phrases are those of the text.
use Rattle.std.proofs.Common.{◌≡◌, ℕ, List, [], ◌∷◌, ◌++◌, Option, Some, None, refl, ap, ap₂, ◌∙◌, append_assoc}
use Rattle.std.proofs.lemmas.List.{append-nil}
use Rattle.mj_tree.specs.Trees.{Name, Expression, Expressions, Binary, Index, Length, Call, Literal, Boolean, Named, This, NewArray, NewObject, Not, Parenthesized, none, more, Statement, Statements, Block, If, While, Print, Assign, Store, done, next, Method}
use Rattle.mj_tree.specs.declared.tree.Ty.{Ty}
use Rattle.mj_tree.specs.declared.tree.Ty.TheVariants as types
use Rattle.mj_phrases.specs.declared.verdict.Verdict.{Verdict}
use Rattle.mj_phrases.specs.Inquiries.{World, Inquiry}
use Rattle.mj_phrases.specs.Phrases.{Phrase, phrase, nothing, part, type_of, types_of, and_type}
use Rattle.mj_phrases.specs.Table.{Scope, method_scope, parentheses, negation, binary, index, array_length, call, new_array, condition, print, assign, store, return_value, one_part, two_parts, three_parts, some_parts, name_phrase, phrase_of, phrases_of, statement_phrases, statements_phrases, return_phrase}
use Rattle.query_rules.specs.BodyReads.{type_reads, types_reads, name_reads, value_reads, call_reads, exp_reads, exps_reads, statement_reads, statements_reads, return_reads, method_reads}
use Rattle.body_query.proofs.Asked.{asked_in, own_reads, phrase_reads, parts_reads, each_reads, each_reads-append, method_keys}
use Rattle.body_query.proofs.Rows.{named_asked, this_asked, new_object_asked, assign_asked, returned_asked, call_asked, binary_asked, literal_asked, negation_asked, index_asked, array_length_asked, new_array_asked, condition_asked, print_asked, store_asked}

module _ (w : World) where
  -- a row that asks nothing
  abbrev AsksNothing : (List Ty → Inquiry Verdict) → Type 0
  AsksNothing row = (ts : List Ty) → asked_in w (row ts) ≡ []

  one_nothing : (row : Ty → Inquiry Verdict) → ((a : Ty) → asked_in w (row a) ≡ []) → AsksNothing (one_part row)
  one_nothing row h [] = refl
  one_nothing row h (a ∷ []) = h a
  one_nothing row h (a ∷ b ∷ ts) = refl

  two_nothing : (row : Ty → Ty → Inquiry Verdict) → ((a b : Ty) → asked_in w (row a b) ≡ []) → AsksNothing (two_parts row)
  two_nothing row h [] = refl
  two_nothing row h (a ∷ []) = refl
  two_nothing row h (a ∷ b ∷ []) = h a b
  two_nothing row h (a ∷ b ∷ c ∷ ts) = refl

  three_nothing : (row : Ty → Ty → Ty → Inquiry Verdict) → ((a b c : Ty) → asked_in w (row a b c) ≡ []) → AsksNothing (three_parts row)
  three_nothing row h [] = refl
  three_nothing row h (a ∷ []) = refl
  three_nothing row h (a ∷ b ∷ []) = refl
  three_nothing row h (a ∷ b ∷ c ∷ []) = h a b c
  three_nothing row h (a ∷ b ∷ c ∷ d ∷ ts) = refl

  own_nothing : (row : List Ty → Inquiry Verdict) (o : Option (List Ty)) → AsksNothing row → own_reads w row o ≡ []
  own_nothing row None h = refl
  own_nothing row (Some ts) h = h ts

  -- phrases with one, two and three parts whose rows ask nothing
  single : (mark : ℕ) (row : List Ty → Inquiry Verdict) (p : Phrase) → AsksNothing row → phrase_reads w (phrase mark row (part p nothing)) ≡ phrase_reads w p
  single mark row p h =
      ap₂ (λ xs ys. xs ++ ys) (append-nil (phrase_reads w p)) (own_nothing row (types_of w (part p nothing)) h)
      ∙ append-nil (phrase_reads w p)

  double : (mark : ℕ) (row : List Ty → Inquiry Verdict) (p q : Phrase) → AsksNothing row → phrase_reads w (phrase mark row (part p (part q nothing))) ≡ phrase_reads w p ++ phrase_reads w q
  double mark row p q h =
      ap₂ (λ xs ys. (phrase_reads w p ++ xs) ++ ys) (append-nil (phrase_reads w q)) (own_nothing row (types_of w (part p (part q nothing))) h)
      ∙ append-nil (phrase_reads w p ++ phrase_reads w q)

  triple : (mark : ℕ) (row : List Ty → Inquiry Verdict) (p q r : Phrase) → AsksNothing row → phrase_reads w (phrase mark row (part p (part q (part r nothing)))) ≡ phrase_reads w p ++ (phrase_reads w q ++ phrase_reads w r)
  triple mark row p q r h =
      ap₂ (λ xs ys. (phrase_reads w p ++ (phrase_reads w q ++ xs)) ++ ys) (append-nil (phrase_reads w r)) (own_nothing row (types_of w (part p (part q (part r nothing)))) h)
      ∙ append-nil (phrase_reads w p ++ (phrase_reads w q ++ phrase_reads w r))

  -- ---- phrases that ask

  call_own : (m : Name) (t : Option Ty) (ts : Option (List Ty)) → own_reads w (some_parts (call m)) (and_type t ts) ≡ call_reads w m t ts
  call_own m None ts = refl
  call_own m (Some types.Int) None = refl
  call_own m (Some types.Boolean) None = refl
  call_own m (Some types.IntArray) None = refl
  call_own m (Some (types.Class d)) None = refl
  call_own m (Some types.Int) (Some ts) = call_asked w m types.Int ts
  call_own m (Some types.Boolean) (Some ts) = call_asked w m types.Boolean ts
  call_own m (Some types.IntArray) (Some ts) = call_asked w m types.IntArray ts
  call_own m (Some (types.Class d)) (Some ts) = call_asked w m (types.Class d) ts

  assign_own : (x a : Option Ty) → own_reads w (two_parts assign) (and_type x (and_type a (Some []))) ≡ value_reads a x
  assign_own None None = refl
  assign_own None (Some a) = refl
  assign_own (Some x) None = refl
  assign_own (Some x) (Some a) = assign_asked w x a

  return_own : (wanted : Ty) (a : Option Ty) → own_reads w (one_part (return_value wanted)) (and_type a (Some [])) ≡ value_reads a (Some wanted)
  return_own wanted None = refl
  return_own wanted (Some a) = returned_asked w wanted a

  -- ---- expressions

  module _ (s : Scope) where
    name_same : (mark : ℕ) (x : Name) → phrase_reads w (name_phrase s mark x) ≡ name_reads s x
    name_same mark x = named_asked w s x

    mutual
      exp_same : (e : Expression) → phrase_reads w (phrase_of s e) ≡ exp_reads w s e
      exp_same (Literal mark value) = literal_asked w value
      exp_same (Boolean mark value) = refl
      exp_same (Named mark x) = name_same mark x
      exp_same (This mark) = this_asked w s
      exp_same (Parenthesized mark e) = single mark (one_part parentheses) (phrase_of s e) (one_nothing parentheses (λ a. refl)) ∙ exp_same e
      exp_same (Not mark e) = single mark (one_part negation) (phrase_of s e) (one_nothing negation (negation_asked w)) ∙ exp_same e
      exp_same (Binary o mark l r) = double mark (two_parts (binary o)) (phrase_of s l) (phrase_of s r) (two_nothing (binary o) (binary_asked w o)) ∙ ap₂ (λ xs ys. xs ++ ys) (exp_same l) (exp_same r)
      exp_same (Index mark a i) = double mark (two_parts index) (phrase_of s a) (phrase_of s i) (two_nothing index (index_asked w)) ∙ ap₂ (λ xs ys. xs ++ ys) (exp_same a) (exp_same i)
      exp_same (Length mark a) = single mark (one_part array_length) (phrase_of s a) (one_nothing array_length (array_length_asked w)) ∙ exp_same a
      exp_same (Call mark e m es) =
          append_assoc (phrase_reads w (phrase_of s e)) (parts_reads w (phrases_of s es)) (own_reads w (some_parts (call m)) (and_type (type_of w (phrase_of s e)) (types_of w (phrases_of s es))))
          ∙ ap₂ (λ xs ys. xs ++ ys) (exp_same e) (ap₂ (λ xs ys. xs ++ ys) (exps_same es) (call_own m (type_of w (phrase_of s e)) (types_of w (phrases_of s es))))
      exp_same (NewArray mark e) = single mark (one_part new_array) (phrase_of s e) (one_nothing new_array (new_array_asked w)) ∙ exp_same e
      exp_same (NewObject mark c) = new_object_asked w c

      exps_same : (es : Expressions) → parts_reads w (phrases_of s es) ≡ exps_reads w s es
      exps_same none = refl
      exps_same (more e es) = ap₂ (λ xs ys. xs ++ ys) (exp_same e) (exps_same es)

    -- ---- statements

    assign_same : (mark : ℕ) (x : Name) (x_mark : ℕ) (e : Expression) → phrase_reads w (phrase mark (two_parts assign) (part (name_phrase s x_mark x) (part (phrase_of s e) nothing))) ≡ name_reads s x ++ (exp_reads w s e ++ value_reads (type_of w (phrase_of s e)) (type_of w (name_phrase s x_mark x)))
    assign_same mark x x_mark e =
        ap₂ (λ xs ys. (phrase_reads w (name_phrase s x_mark x) ++ xs) ++ ys) (append-nil (phrase_reads w (phrase_of s e))) (assign_own (type_of w (name_phrase s x_mark x)) (type_of w (phrase_of s e)))
        ∙ append_assoc (phrase_reads w (name_phrase s x_mark x)) (phrase_reads w (phrase_of s e)) (value_reads (type_of w (phrase_of s e)) (type_of w (name_phrase s x_mark x)))
        ∙ ap₂ (λ xs ys. xs ++ (ys ++ value_reads (type_of w (phrase_of s e)) (type_of w (name_phrase s x_mark x)))) (name_same x_mark x) (exp_same e)

    store_same : (mark : ℕ) (x : Name) (x_mark : ℕ) (i e : Expression) → phrase_reads w (phrase mark (three_parts store) (part (name_phrase s x_mark x) (part (phrase_of s i) (part (phrase_of s e) nothing)))) ≡ name_reads s x ++ (exp_reads w s i ++ exp_reads w s e)
    store_same mark x x_mark i e =
        triple mark (three_parts store) (name_phrase s x_mark x) (phrase_of s i) (phrase_of s e) (three_nothing store (store_asked w))
        ∙ ap₂ (λ xs ys. xs ++ ys) (name_same x_mark x) (ap₂ (λ xs ys. xs ++ ys) (exp_same i) (exp_same e))

    condition_same : (mark : ℕ) (e : Expression) → phrase_reads w (phrase mark (one_part condition) (part (phrase_of s e) nothing)) ≡ exp_reads w s e
    condition_same mark e = single mark (one_part condition) (phrase_of s e) (one_nothing condition (condition_asked w)) ∙ exp_same e

    mutual
      statement_same : (a : Statement) → each_reads w (statement_phrases s a) ≡ statement_reads w s a
      statement_same (Block mark ss) = statements_same ss
      statement_same (If mark e a b) =
          ap₂ (λ xs ys. xs ++ ys) (condition_same mark e)
          (each_reads-append w (statement_phrases s a) (statement_phrases s b) ∙ ap₂ (λ xs ys. xs ++ ys) (statement_same a) (statement_same b))
      statement_same (While mark e a) = ap₂ (λ xs ys. xs ++ ys) (condition_same mark e) (statement_same a)
      statement_same (Print mark e) = append-nil (phrase_reads w (phrase mark (one_part print) (part (phrase_of s e) nothing))) ∙ single mark (one_part print) (phrase_of s e) (one_nothing print (print_asked w)) ∙ exp_same e
      statement_same (Assign mark x x_mark e) = append-nil (phrase_reads w (phrase mark (two_parts assign) (part (name_phrase s x_mark x) (part (phrase_of s e) nothing)))) ∙ assign_same mark x x_mark e
      statement_same (Store mark x x_mark i e) = append-nil (phrase_reads w (phrase mark (three_parts store) (part (name_phrase s x_mark x) (part (phrase_of s i) (part (phrase_of s e) nothing))))) ∙ store_same mark x x_mark i e

      statements_same : (ss : Statements) → each_reads w (statements_phrases s ss) ≡ statements_reads w s ss
      statements_same done = refl
      statements_same (next a ss) = each_reads-append w (statement_phrases s a) (statements_phrases s ss) ∙ ap₂ (λ xs ys. xs ++ ys) (statement_same a) (statements_same ss)

    return_same : (mark : ℕ) (wanted : Ty) (e : Expression) → phrase_reads w (return_phrase s mark wanted e) ≡ return_reads w s wanted e
    return_same mark wanted e = ap₂ (λ xs ys. xs ++ ys) (append-nil (phrase_reads w (phrase_of s e)) ∙ exp_same e) (return_own wanted (type_of w (phrase_of s e)))

  pub main_same : (s : Scope) (a : Statement) → each_reads w (statement_phrases s a) ≡ statement_reads w s a
  main_same = statement_same

  pub method_same : (c : Name) (m : Method) → method_keys w c m ≡ method_reads w c m
  method_same c m =
      let s : Scope = method_scope c m in
      let last : Phrase = return_phrase s m.return_mark m.returns m.returned in
      ap (λ ks. type_reads m.returns ++ (types_reads m.formals ++ (types_reads m.locals ++ ks)))
      (each_reads-append w (statements_phrases s m.body) (last ∷ [])
      ∙ ap₂ (λ xs ys. xs ++ ys) (statements_same s m.body) (append-nil (phrase_reads w last) ∙ return_same s m.return_mark m.returns m.returned))
