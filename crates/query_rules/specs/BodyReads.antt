-- Which keys the check of a body reads, in the words of its text. If a phrase has a part without
-- a type, the phrase itself reads nothing.
use Rattle.std.specs.Prelude.{length, nat_eq, List, [], ◌∷◌, ◌++◌, flat_map, Option, Some, None, if◌then◌else◌}
use Rattle.item_ids.specs.declared.key.Key.{Key}
use Rattle.item_ids.specs.declared.key.Key.TheVariants as keys
use Rattle.mj_tree.specs.Trees.{Name, Expression, Expressions, Binary, Index, Length, Call, Literal, Boolean, Named, This, NewArray, NewObject, Not, Parenthesized, none, more, Statement, Statements, Block, If, While, Print, Assign, Store, done, next, Method}
use Rattle.mj_tree.specs.declared.tree.Ty.{Ty}
use Rattle.mj_tree.specs.declared.tree.Ty.TheVariants as types
use Rattle.mj_tree.specs.declared.tree.Variable.{Variable}
use Rattle.mj_phrases.specs.Types.{is_same}
use Rattle.mj_phrases.specs.Inquiries.{World, Sig, conclusion}
use Rattle.mj_phrases.specs.Phrases.{type_of, types_of}
use Rattle.mj_phrases.specs.Table.{Scope, main_scope, method_scope, local_of, is_accepted, name_phrase, phrase_of, phrases_of}
use Rattle.tree_bytes.specs.Bodies.{BodyValue, OfMain, OfMethod}

-- a declared type: the header of a class
abbrev pub type_reads : Ty → List Key
type_reads (types.Class c) = keys.Header c ∷ []
type_reads types.Int = []
type_reads types.Boolean = []
type_reads types.IntArray = []

-- a name: the members of the class, unless it is a formal or a local, or stands in main
abbrev pub field_reads : Option Ty → Option Name → List Key
field_reads (Some t) class = []
field_reads None None = []
field_reads None (Some c) = keys.Members c ∷ []

abbrev pub name_reads : Scope → Name → List Key
name_reads s x = field_reads (local_of s.variables x) s.class

-- a value of one type where another is wanted: the chain of its class, if both are classes and
-- differ
abbrev pub accept_reads : Ty → Ty → List Key
accept_reads (types.Class c) (types.Class d) = if is_same c d then [] else keys.Supers c ∷ []
accept_reads t u = []

-- if both have types
abbrev pub value_reads : Option Ty → Option Ty → List Key
value_reads (Some t) (Some u) = accept_reads t u
value_reads t u = []

-- each argument up to the first that isn't accepted
abbrev pub arguments_reads : World → List Ty → List Ty → List Key
arguments_reads w [] us = []
arguments_reads w (t ∷ ts) [] = []
arguments_reads w (t ∷ ts) (u ∷ us) =
    accept_reads t u ++ (if conclusion w (is_accepted t u) then arguments_reads w ts us else [])

-- if the method is there and the count is right
abbrev pub called_reads : World → List Ty → Option Sig → List Key
called_reads w ts None = []
called_reads w ts (Some s) =
    if nat_eq (length ts) (length s.formals) then arguments_reads w ts s.formals else []

-- a call on a class: its members, then the arguments
abbrev pub call_reads : World → Name → Option Ty → Option (List Ty) → List Key
call_reads w m (Some (types.Class d)) (Some ts) = keys.Members d ∷ called_reads w ts (w.method d m)
call_reads w m t ts = []

-- the parts of an expression in the order of the text, then the expression itself
abbrev mutual
  pub exp_reads : World → Scope → Expression → List Key
  exp_reads w s (Named mark x) = name_reads s x
  exp_reads w s (Call mark e m es) =
      exp_reads w s e ++ (exps_reads w s es
      ++ call_reads w m (type_of w (phrase_of s e)) (types_of w (phrases_of s es)))
  exp_reads w s (NewObject mark c) = keys.Header c ∷ []
  exp_reads w s (Parenthesized mark e) = exp_reads w s e
  exp_reads w s (Not mark e) = exp_reads w s e
  exp_reads w s (Binary o mark l r) = exp_reads w s l ++ exp_reads w s r
  exp_reads w s (Index mark a i) = exp_reads w s a ++ exp_reads w s i
  exp_reads w s (Length mark a) = exp_reads w s a
  exp_reads w s (NewArray mark e) = exp_reads w s e
  exp_reads w s (Literal mark value) = []
  exp_reads w s (Boolean mark value) = []
  exp_reads w s (This mark) = []

  pub exps_reads : World → Scope → Expressions → List Key
  exps_reads w s none = []
  exps_reads w s (more e es) = exp_reads w s e ++ exps_reads w s es

-- the expressions of a statement, then the statement itself, then those in it
abbrev mutual
  pub statement_reads : World → Scope → Statement → List Key
  statement_reads w s (Block mark ss) = statements_reads w s ss
  statement_reads w s (If mark e a b) =
      exp_reads w s e ++ (statement_reads w s a ++ statement_reads w s b)
  statement_reads w s (While mark e a) = exp_reads w s e ++ statement_reads w s a
  statement_reads w s (Print mark e) = exp_reads w s e
  statement_reads w s (Assign mark x x_mark e) =
      name_reads s x ++ (exp_reads w s e
      ++ value_reads (type_of w (phrase_of s e)) (type_of w (name_phrase s x_mark x)))
  statement_reads w s (Store mark x x_mark i e) =
      name_reads s x ++ (exp_reads w s i ++ exp_reads w s e)

  pub statements_reads : World → Scope → Statements → List Key
  statements_reads w s done = []
  statements_reads w s (next a ss) = statement_reads w s a ++ statements_reads w s ss

-- the returned value, for the return type
abbrev pub return_reads : World → Scope → Ty → Expression → List Key
return_reads w s wanted e = exp_reads w s e ++ value_reads (type_of w (phrase_of s e)) (Some wanted)

abbrev pub types_reads : List Variable → List Key
types_reads vs = flat_map (λ v. type_reads v.ty) vs

-- the types of the return, the formals and the locals, then the statements, then the return
abbrev pub method_reads : World → Name → Method → List Key
method_reads w c m =
    type_reads m.returns ++ (types_reads m.formals ++ (types_reads m.locals
    ++ (statements_reads w (method_scope c m) m.body
    ++ return_reads w (method_scope c m) m.returns m.returned)))

-- a body of a class
abbrev pub body_reads : World → Name → Option BodyValue → List Key
body_reads w c None = []
body_reads w c (Some (OfMain statement)) = statement_reads w main_scope statement
body_reads w c (Some (OfMethod m)) = method_reads w c m
