-- What contracts see of headers, signatures and chains.
use Rattle.std.specs.Prelude.{ℕ, Bool, List, Option}
use Rattle.mj_tree.specs.declared.tree.Ty.{Ty}
use Rattle.mj_tree.specs.declared.tree.Field.{Field}
use Rattle.result_bytes.specs.declared.parts.ChainEnd.{ChainEnd}

pub record HeaderValue : Type 0 where
  pub is_main : Bool
  pub superclass : Option (List ℕ)
  pub fields : List Field
  pub methods : List (List ℕ)

pub record SignatureValue : Type 0 where
  pub formals : List Ty
  pub returns : Ty

pub record ChainValue : Type 0 where
  pub classes : List (List ℕ)
  pub end : ChainEnd
