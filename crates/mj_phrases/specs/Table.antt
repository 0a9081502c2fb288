-- The table of phrases: for each its mark, its demands in their order, and its type.
use Rattle.std.specs.Prelude.{ℕ, nat_le, nat_eq, length, Bool, true, false, ◌&&◌, List, [], ◌∷◌, ◌++◌, Option, Some, None, if◌then◌else◌}
use Rattle.mj_tree.specs.Trees.{Name, Expression, Expressions, Binary, Index, Length, Call, Literal, Boolean, Named, This, NewArray, NewObject, Not, Parenthesized, none, more, Statement, Statements, Block, If, While, Print, Assign, Store, done, next, Method, Main}
use Rattle.mj_tree.specs.declared.tree.Operator.{Operator}
use Rattle.mj_tree.specs.declared.tree.Operator.TheVariants.{And, Less, Plus, Minus, Times}
use Rattle.mj_tree.specs.declared.tree.Ty.{Ty}
use Rattle.mj_tree.specs.declared.tree.Ty.TheVariants as ty
use Rattle.mj_tree.specs.declared.tree.Variable.{Variable}
use Rattle.mj_answer.specs.declared.code.Code.TheVariants.{E301, E302, E303, E304, E305, E306, E307, E308, E309, E310, E311, E312, E313, E314, E315, E316, E317, E318, E319}
use Rattle.mj_phrases.specs.declared.verdict.Verdict.{Verdict}
use Rattle.mj_phrases.specs.declared.verdict.Verdict.TheVariants.{Silent}
use Rattle.mj_phrases.specs.Types.{is_same, is_int, is_boolean, is_int_array, class_in}
use Rattle.mj_phrases.specs.Inquiries.{Sig, Inquiry, Concludes, AsksDescent, AsksField, AsksMethod, AsksDeclared, and_then}
use Rattle.mj_phrases.specs.Phrases.{demand, demand_asked, demand_some, is, fine, Phrase, Phrases, phrase, nothing, part}

-- where a phrase stands: in a method of a class, whose formals and locals are these, or in main,
-- which has neither
pub record Scope : Type 0 where
  pub class : Option Name
  pub variables : List Variable

abbrev pub main_scope : Scope
main_scope = record { class = None; variables = [] }

-- the first formal or local of the name; formals stand before locals
abbrev pub local_of : List Variable → Name → Option Ty
local_of [] x = None
local_of (v ∷ vs) x = if is_same v.name x then Some v.ty else local_of vs x

-- ---- what is accepted

-- a type is accepted by an equal one, and a class by one that stands in its chain
unfoldable pub is_accepted : Ty → Ty → Inquiry Bool
is_accepted ty.Int wanted = Concludes (is_int wanted)
is_accepted ty.Boolean wanted = Concludes (is_boolean wanted)
is_accepted ty.IntArray wanted = Concludes (is_int_array wanted)
is_accepted (ty.Class c) ty.Int = Concludes false
is_accepted (ty.Class c) ty.Boolean = Concludes false
is_accepted (ty.Class c) ty.IntArray = Concludes false
is_accepted (ty.Class c) (ty.Class d) =
    if is_same c d then Concludes true else AsksDescent c d (λ descends. Concludes descends)

-- each is accepted by its formal, up to the first that isn't
unfoldable pub are_accepted : List Ty → List Ty → Inquiry Bool
are_accepted [] us = Concludes true
are_accepted (t ∷ ts) [] = Concludes true
are_accepted (t ∷ ts) (u ∷ us) =
    and_then (is_accepted t u) (λ ok. if ok then are_accepted ts us else Concludes false)

-- ---- the verdict on an expression, by the types of its immediate expressions

-- the greatest value of `int`
abbrev pub most_value : ℕ
most_value = 2147483647

unfoldable pub literal : ℕ → Inquiry Verdict
literal value = demand (nat_le value most_value) E315 (is ty.Int)

-- the type of a field, if there is one
abbrev pub field_row : Option Ty → Inquiry Verdict
field_row field = demand_some field E303 is

abbrev pub local_or_field : Option Ty → Option Name → Name → Inquiry Verdict
local_or_field (Some t) class x = is t
local_or_field None class x =
    demand_some class E303 (λ c. AsksField c x (λ field. field_row field))

unfoldable pub variable : Scope → Name → Inquiry Verdict
variable scope x = local_or_field (local_of scope.variables x) scope.class x

unfoldable pub this : Scope → Inquiry Verdict
this scope = demand_some scope.class E306 (λ c. is (ty.Class c))

abbrev pub parentheses : Ty → Inquiry Verdict
parentheses a = is a

unfoldable pub negation : Ty → Inquiry Verdict
negation a = demand (is_boolean a) E301 (is ty.Boolean)

unfoldable pub binary : Operator → Ty → Ty → Inquiry Verdict
binary And a b = demand (is_boolean a && is_boolean b) E301 (is ty.Boolean)
binary Less a b = demand (is_int a && is_int b) E302 (is ty.Boolean)
binary Plus a b = demand (is_int a && is_int b) E304 (is ty.Int)
binary Minus a b = demand (is_int a && is_int b) E304 (is ty.Int)
binary Times a b = demand (is_int a && is_int b) E304 (is ty.Int)

unfoldable pub index : Ty → Ty → Inquiry Verdict
index a i = demand (is_int_array a) E307 (demand (is_int i) E308 (is ty.Int))

unfoldable pub array_length : Ty → Inquiry Verdict
array_length a = demand (is_int_array a) E309 (is ty.Int)

-- as many arguments as formals, each accepted
unfoldable pub arguments : Sig → List Ty → Inquiry Verdict
arguments s ts =
    demand (nat_eq (length ts) (length s.formals)) E312
    (demand_asked (are_accepted ts s.formals) E313 (is s.returns))

unfoldable pub call : Name → Ty → List Ty → Inquiry Verdict
call m a ts =
    demand_some (class_in a) E310 (λ c. AsksMethod c m
    (λ method. demand_some method E311 (λ s. arguments s ts)))

unfoldable pub new_array : Ty → Inquiry Verdict
new_array a = demand (is_int a) E314 (is ty.IntArray)

unfoldable pub new_object : Name → Inquiry Verdict
new_object c = AsksDeclared c (λ declared. demand declared E305 (is (ty.Class c)))

-- ---- the verdict on a statement

unfoldable pub condition : Ty → Inquiry Verdict
condition a = demand (is_boolean a) E316 fine

unfoldable pub print : Ty → Inquiry Verdict
print a = demand (is_int a) E317 fine

unfoldable pub assign : Ty → Ty → Inquiry Verdict
assign x a = demand_asked (is_accepted a x) E318 fine

unfoldable pub store : Ty → Ty → Ty → Inquiry Verdict
store x i a = demand (is_int_array x) E307 (demand (is_int i) E308 (demand (is_int a) E318 fine))

unfoldable pub return_value : Ty → Ty → Inquiry Verdict
return_value wanted a = demand_asked (is_accepted a wanted) E319 fine

-- ---- the table

abbrev pub no_parts : Inquiry Verdict → List Ty → Inquiry Verdict
no_parts row [] = row
no_parts row _ = Concludes Silent

abbrev pub one_part : (Ty → Inquiry Verdict) → List Ty → Inquiry Verdict
one_part row (a ∷ []) = row a
one_part row _ = Concludes Silent

abbrev pub two_parts : (Ty → Ty → Inquiry Verdict) → List Ty → Inquiry Verdict
two_parts row (a ∷ b ∷ []) = row a b
two_parts row _ = Concludes Silent

abbrev pub three_parts : (Ty → Ty → Ty → Inquiry Verdict) → List Ty → Inquiry Verdict
three_parts row (a ∷ b ∷ c ∷ []) = row a b c
three_parts row _ = Concludes Silent

abbrev pub some_parts : (Ty → List Ty → Inquiry Verdict) → List Ty → Inquiry Verdict
some_parts row [] = Concludes Silent
some_parts row (a ∷ ts) = row a ts

abbrev pub name_phrase : Scope → ℕ → Name → Phrase
name_phrase scope mark x = phrase mark (no_parts (variable scope x)) nothing

abbrev mutual
  pub phrase_of : Scope → Expression → Phrase
  phrase_of s (Literal mark value) = phrase mark (no_parts (literal value)) nothing
  phrase_of s (Boolean mark value) = phrase mark (no_parts (is ty.Boolean)) nothing
  phrase_of s (Named mark x) = name_phrase s mark x
  phrase_of s (This mark) = phrase mark (no_parts (this s)) nothing
  phrase_of s (Parenthesized mark e) =
      phrase mark (one_part parentheses) (part (phrase_of s e) nothing)
  phrase_of s (Not mark e) = phrase mark (one_part negation) (part (phrase_of s e) nothing)
  phrase_of s (Binary o mark l r) =
      phrase mark (two_parts (binary o)) (part (phrase_of s l) (part (phrase_of s r) nothing))
  phrase_of s (Index mark a i) =
      phrase mark (two_parts index) (part (phrase_of s a) (part (phrase_of s i) nothing))
  phrase_of s (Length mark a) = phrase mark (one_part array_length) (part (phrase_of s a) nothing)
  phrase_of s (Call mark e m es) =
      phrase mark (some_parts (call m)) (part (phrase_of s e) (phrases_of s es))
  phrase_of s (NewArray mark e) = phrase mark (one_part new_array) (part (phrase_of s e) nothing)
  phrase_of s (NewObject mark c) = phrase mark (no_parts (new_object c)) nothing

  pub phrases_of : Scope → Expressions → Phrases
  phrases_of s none = nothing
  phrases_of s (more e es) = part (phrase_of s e) (phrases_of s es)

-- a statement as a phrase of its own
abbrev pub own_phrase : Scope → Statement → Phrase
own_phrase s (Block mark ss) = phrase mark (no_parts fine) nothing
own_phrase s (If mark e a b) = phrase mark (one_part condition) (part (phrase_of s e) nothing)
own_phrase s (While mark e a) = phrase mark (one_part condition) (part (phrase_of s e) nothing)
own_phrase s (Print mark e) = phrase mark (one_part print) (part (phrase_of s e) nothing)
own_phrase s (Assign mark x x_mark e) =
    phrase mark (two_parts assign) (part (name_phrase s x_mark x) (part (phrase_of s e) nothing))
own_phrase s (Store mark x x_mark i e) =
    phrase mark (three_parts store)
    (part (name_phrase s x_mark x) (part (phrase_of s i) (part (phrase_of s e) nothing)))

-- the return of a method
abbrev pub return_phrase : Scope → ℕ → Ty → Expression → Phrase
return_phrase s mark wanted e =
    phrase mark (one_part (return_value wanted)) (part (phrase_of s e) nothing)

-- the statements inside a statement are phrases of their own, in the order of the text
abbrev mutual
  pub statement_phrases : Scope → Statement → List Phrase
  statement_phrases s (Block mark ss) = own_phrase s (Block mark ss) ∷ statements_phrases s ss
  statement_phrases s (If mark e a b) =
      own_phrase s (If mark e a b) ∷ (statement_phrases s a ++ statement_phrases s b)
  statement_phrases s (While mark e a) = own_phrase s (While mark e a) ∷ statement_phrases s a
  statement_phrases s (Print mark e) = own_phrase s (Print mark e) ∷ []
  statement_phrases s (Assign mark x x_mark e) = own_phrase s (Assign mark x x_mark e) ∷ []
  statement_phrases s (Store mark x x_mark i e) = own_phrase s (Store mark x x_mark i e) ∷ []

  pub statements_phrases : Scope → Statements → List Phrase
  statements_phrases s done = []
  statements_phrases s (next a ss) = statement_phrases s a ++ statements_phrases s ss

abbrev pub method_scope : Name → Method → Scope
method_scope class m = record { class = Some class; variables = m.formals ++ m.locals }

-- the phrases of a method of the class, and those of main
abbrev pub method_phrases : Name → Method → List Phrase
method_phrases class m =
    statements_phrases (method_scope class m) m.body
    ++ return_phrase (method_scope class m) m.return_mark m.returns m.returned ∷ []

abbrev pub main_phrases : Main → List Phrase
main_phrases m = statement_phrases main_scope m.statement
