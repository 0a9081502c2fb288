-- The statement of `main`, or a method.
use Rattle.std.specs.Prelude.{ℕ, zero, suc, List, [], ◌∷◌, Option, Some, None, Result, Ok, Err, refl, ◌≡◌, ◌⊎◌}
use Rattle.std.specs.Coded.{Coded, code_by, coded⊎}
use Rattle.std.proofs.Common.{inl, inr}
use Rattle.mj_tree.specs.declared.tree.Ty.{Ty}
use Rattle.mj_tree.specs.declared.tree.Ty.TheVariants.{Int}
use Rattle.mj_tree.specs.declared.tree.Variable.{Variable}
use Rattle.mj_tree.specs.Trees.{Statement, Block, done, This, Method}
use Rattle.tree_spelling.specs.Spelling.{stmt, method}
use Rattle.tree_spelling.specs.Storable.{TopStmtFits, MethodFits}
use Rattle.byte_readers.specs.declared.breach.Breach.{Breach}
use Rattle.byte_readers.specs.declared.breach.Breach.TheVariants.{Short}
use Rattle.byte_readers.specs.Reading.{Decoder, not_canonical, made_at}
use Rattle.tree_spelling.specs.Reading.{top_stmt_at, method_at}
use Rattle.tree_spelling.specs.Codes.{statement_code, method_code}

pub data BodyValue : Type 0 where
  OfMain : (statement : Statement) → BodyValue
  OfMethod : (tree : Method) → BodyValue

abbrev to_sum : BodyValue → Statement ⊎ Method
to_sum (OfMain s) = inl s
to_sum (OfMethod m) = inr m

abbrev from_sum : Statement ⊎ Method → BodyValue
from_sum (inl s) = OfMain s
from_sum (inr m) = OfMethod m

pub from_sum-to_sum : (b : BodyValue) → from_sum (to_sum b) ≡ b
from_sum-to_sum (OfMain s) = refl
from_sum-to_sum (OfMethod m) = refl

abbrev pub body_code : Coded BodyValue
body_code =
    code_by (Statement ⊎ Method) (coded⊎ statement_code method_code) to_sum from_sum from_sum-to_sum

abbrev pub BodyFits : BodyValue → Type 0
BodyFits (OfMain s) = TopStmtFits s
BodyFits (OfMethod m) = MethodFits m

-- a tag, and the statement or the method
abbrev pub body : BodyValue → List ℕ
body (OfMain s) = 0x00 ∷ stmt s
body (OfMethod m) = 0x01 ∷ method m

unfoldable pub body_at : Decoder BodyValue
body_at [] = Err Short
body_at (zero ∷ rest) = made_at OfMain top_stmt_at rest
body_at (suc zero ∷ rest) = made_at OfMethod method_at rest
body_at (suc (suc b) ∷ rest) = not_canonical (suc (suc b) ∷ rest)

-- what a reader gave, if it gave something
abbrev given : Result (BodyValue × List ℕ) Breach → BodyValue
given (Ok x) = x.0
given (Err breach) = OfMain (Block 0 done)

-- the body that bytes spell, if they spell one
unfoldable pub body_spelled : List ℕ → BodyValue
body_spelled bytes = given (body_at bytes)

-- the statement of a body of `main`, and the method of any other one
abbrev pub statement_of : BodyValue → Statement
statement_of (OfMain s) = s
statement_of (OfMethod m) = Block 0 done

abbrev pub method_of : BodyValue → Method
method_of (OfMethod m) = m
method_of (OfMain s) =
    record {
      name = [];
      returns = Int;
      formals = [];
      locals = [];
      body = done;
      returned = This 0;
      return_mark = 0;
    }

-- the types that a method declares: what it returns, and its formals
abbrev pub types_of : BodyValue → Option (Ty × List Variable)
types_of (OfMain s) = None
types_of (OfMethod m) = Some (m.returns, m.formals)
