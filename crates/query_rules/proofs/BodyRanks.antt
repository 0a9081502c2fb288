-- The check of a body reads headers, chains and members.
use Rattle.std.proofs.Common.{Bool, true, false, length, nat_eq, List, [], ◌∷◌, Option, Some, None, if◌then◌else◌}
use Rattle.std.specs.List.{AllByRecursion}
use Rattle.item_ids.specs.declared.key.Key.{Key}
use Rattle.item_ids.specs.declared.key.Key.TheVariants as keys
use Rattle.mj_tree.specs.Trees.{Name, Expression, Expressions, Binary, Index, Length, Call, Literal, Boolean, Named, This, NewArray, NewObject, Not, Parenthesized, none, more, Statement, Statements, Block, If, While, Print, Assign, Store, done, next, Method}
use Rattle.mj_tree.specs.declared.tree.Ty.{Ty}
use Rattle.mj_tree.specs.declared.tree.Ty.TheVariants as types
use Rattle.mj_tree.specs.declared.tree.Variable.{Variable}
use Rattle.mj_classes.proofs.Tables.{all_append}
use Rattle.mj_phrases.specs.Types.{is_same}
use Rattle.mj_phrases.specs.Inquiries.{World, Sig, conclusion}
use Rattle.mj_phrases.specs.Phrases.{type_of, types_of}
use Rattle.mj_phrases.specs.Table.{Scope, main_scope, method_scope, local_of, is_accepted, name_phrase, phrase_of, phrases_of}
use Rattle.tree_bytes.specs.Bodies.{BodyValue, OfMain, OfMethod}
use Rattle.query_rules.specs.BodyReads.{type_reads, field_reads, accept_reads, value_reads, arguments_reads, called_reads, call_reads, exp_reads, exps_reads, statement_reads, statements_reads, return_reads, types_reads, method_reads, body_reads}
use Rattle.query_rules.proofs.Firsts.{all_flat}

module _ (P : Key → Type 0) (header : (c : Name) → P (keys.Header c)) (chain : (c : Name) → P (keys.Supers c)) (table : (c : Name) → P (keys.Members c)) where
  abbrev pub All : List Key → Type 0
  All ks = AllByRecursion P ks

  pub type_all : (t : Ty) → All (type_reads t)
  type_all types.Int = tt
  type_all types.Boolean = tt
  type_all types.IntArray = tt
  type_all (types.Class c) = (header c, tt)

  field_all : (o : Option Ty) (class : Option Name) → All (field_reads o class)
  field_all (Some t) class = tt
  field_all None None = tt
  field_all None (Some c) = (table c, tt)

  pub accept_all : (t u : Ty) → All (accept_reads t u)
  accept_all types.Int u = tt
  accept_all types.Boolean u = tt
  accept_all types.IntArray u = tt
  accept_all (types.Class c) types.Int = tt
  accept_all (types.Class c) types.Boolean = tt
  accept_all (types.Class c) types.IntArray = tt
  accept_all (types.Class c) (types.Class d) = by_test (is_same c d)
    where
      by_test : (b : Bool) → All (if b then [] else keys.Supers c ∷ [])
      by_test true = tt
      by_test false = (chain c, tt)

  value_all : (t u : Option Ty) → All (value_reads t u)
  value_all None u = tt
  value_all (Some t) None = tt
  value_all (Some t) (Some u) = accept_all t u

  pub when_all : (b : Bool) (ks : List Key) → All ks → All (if b then ks else [])
  when_all true ks h = h
  when_all false ks h = tt

  module _ (w : World) where
    arguments_all : (ts us : List Ty) → All (arguments_reads w ts us)
    arguments_all [] us = tt
    arguments_all (t ∷ ts) [] = tt
    arguments_all (t ∷ ts) (u ∷ us) = all_append P (accept_reads t u) _ (accept_all t u) (when_all (conclusion w (is_accepted t u)) (arguments_reads w ts us) (arguments_all ts us))

    called_all : (ts : List Ty) (o : Option Sig) → All (called_reads w ts o)
    called_all ts None = tt
    called_all ts (Some s) = when_all (nat_eq (length ts) (length s.formals)) (arguments_reads w ts s.formals) (arguments_all ts s.formals)

    call_all : (m : Name) (t : Option Ty) (ts : Option (List Ty)) → All (call_reads w m t ts)
    call_all m None ts = tt
    call_all m (Some types.Int) ts = tt
    call_all m (Some types.Boolean) ts = tt
    call_all m (Some types.IntArray) ts = tt
    call_all m (Some (types.Class d)) None = tt
    call_all m (Some (types.Class d)) (Some ts) = (table d, called_all ts (w.method d m))

    module _ (s : Scope) where
      mutual
        exp_all : (e : Expression) → All (exp_reads w s e)
        exp_all (Named mark x) = field_all (local_of s.variables x) s.class
        exp_all (Call mark e m es) = all_append P (exp_reads w s e) _ (exp_all e) (all_append P (exps_reads w s es) _ (exps_all es) (call_all m (type_of w (phrase_of s e)) (types_of w (phrases_of s es))))
        exp_all (NewObject mark c) = (header c, tt)
        exp_all (Parenthesized mark e) = exp_all e
        exp_all (Not mark e) = exp_all e
        exp_all (Binary o mark l r) = all_append P (exp_reads w s l) _ (exp_all l) (exp_all r)
        exp_all (Index mark a i) = all_append P (exp_reads w s a) _ (exp_all a) (exp_all i)
        exp_all (Length mark a) = exp_all a
        exp_all (NewArray mark e) = exp_all e
        exp_all (Literal mark value) = tt
        exp_all (Boolean mark value) = tt
        exp_all (This mark) = tt

        exps_all : (es : Expressions) → All (exps_reads w s es)
        exps_all none = tt
        exps_all (more e es) = all_append P (exp_reads w s e) _ (exp_all e) (exps_all es)

      name_all : (x : Name) → All (field_reads (local_of s.variables x) s.class)
      name_all x = field_all (local_of s.variables x) s.class

      mutual
        statement_all : (a : Statement) → All (statement_reads w s a)
        statement_all (Block mark ss) = statements_all ss
        statement_all (If mark e a b) = all_append P (exp_reads w s e) _ (exp_all e) (all_append P (statement_reads w s a) _ (statement_all a) (statement_all b))
        statement_all (While mark e a) = all_append P (exp_reads w s e) _ (exp_all e) (statement_all a)
        statement_all (Print mark e) = exp_all e
        statement_all (Assign mark x x_mark e) = all_append P (field_reads (local_of s.variables x) s.class) _ (name_all x) (all_append P (exp_reads w s e) _ (exp_all e) (value_all (type_of w (phrase_of s e)) (type_of w (name_phrase s x_mark x))))
        statement_all (Store mark x x_mark i e) = all_append P (field_reads (local_of s.variables x) s.class) _ (name_all x) (all_append P (exp_reads w s i) _ (exp_all i) (exp_all e))

        statements_all : (ss : Statements) → All (statements_reads w s ss)
        statements_all done = tt
        statements_all (next a ss) = all_append P (statement_reads w s a) _ (statement_all a) (statements_all ss)

      return_all : (wanted : Ty) (e : Expression) → All (return_reads w s wanted e)
      return_all wanted e = all_append P (exp_reads w s e) _ (exp_all e) (value_all (type_of w (phrase_of s e)) (Some wanted))

    types_all : (vs : List Variable) → All (types_reads vs)
    types_all vs = all_flat P (λ (v : Variable). type_reads v.ty) (λ v. type_all v.ty) vs

    method_all : (c : Name) (m : Method) → All (method_reads w c m)
    method_all c m =
        all_append P (type_reads m.returns) _ (type_all m.returns)
        (all_append P (types_reads m.formals) _ (types_all m.formals)
        (all_append P (types_reads m.locals) _ (types_all m.locals)
        (all_append P (statements_reads w (method_scope c m) m.body) _ (statements_all (method_scope c m) m.body) (return_all (method_scope c m) m.returns m.returned))))

    pub body_all : (c : Name) (b : Option BodyValue) → All (body_reads w c b)
    body_all c None = tt
    body_all c (Some (OfMain statement)) = statement_all main_scope statement
    body_all c (Some (OfMethod m)) = method_all c m
