-- Laws of chains, of what is accepted, and of members.
use Rattle.std.specs.Prelude.{◌≡◌, ◌≢◌, ◌↔◌, List, Some, None}
use Rattle.mj_tree.specs.Trees.{Name, Method}
use Rattle.mj_tree.specs.declared.tree.Ty.{Ty}
use Rattle.mj_tree.specs.declared.tree.Ty.TheVariants.{Class}
use Rattle.mj_tree.specs.declared.tree.Field.{Field}
use Rattle.mj_members.specs.Declarations.{ClassDecl}
use Rattle.mj_classes.specs.Declarations.{decl}
use Rattle.mj_classes.specs.Chains.{EndOf, Repeated, IsChain, IsAcceptedBy, chain_of}
use Rattle.mj_classes.specs.Members.{FieldOf, MethodOf, field_of, method_of}
use Rattle.mj_classes.specs.Tables.{IsTable, field_table, method_table}

-- A class has a chain exactly if it is declared, and then one chain with one end, which
-- `chain_of` gives.
pub record ChainLaws : Type 0 where
  pub given : (cs : List ClassDecl) (c : Name) (chain : List Name) (end : EndOf)
      → IsChain cs c chain end ↔ (chain_of cs c ≡ Some (chain, end))
  pub declared : (cs : List ClassDecl) (c : Name) (k : ClassDecl) → decl cs c ≡ Some k
      → (chain : List Name) × (end : EndOf) × IsChain cs c chain end
  pub undeclared : (cs : List ClassDecl) (c : Name) → decl cs c ≡ None → chain_of cs c ≡ None

-- Acceptance is an order on the types whose chains end.
pub record AcceptanceLaws : Type 0 where
  pub reflexive : (cs : List ClassDecl) (t : Ty) → IsAcceptedBy cs t t
  pub transitive : (cs : List ClassDecl) (t u v : Ty)
      → IsAcceptedBy cs t u → IsAcceptedBy cs u v → IsAcceptedBy cs t v
  pub antisymmetric : (cs : List ClassDecl) (t u : Name)
      → IsAcceptedBy cs (Class t) (Class u) → IsAcceptedBy cs (Class u) (Class t) → t ≢ u
      → (chain : List Name) × (again : Name) × IsChain cs t chain (Repeated again)

pub record MemberLaws : Type 0 where
  pub field : (cs : List ClassDecl) (c x owner : Name) (field : Field)
      → FieldOf cs c x owner field ↔ (field_of cs c x ≡ Some (owner, field))
  pub method : (cs : List ClassDecl) (c m owner : Name) (method : Method)
      → MethodOf cs c m owner method ↔ (method_of cs c m ≡ Some (owner, method))
  pub fields : (cs : List ClassDecl) (c : Name)
      → IsTable (λ f. f.name) (λ owner f. FieldOf cs c f.name owner f) (field_table cs c)
  pub methods : (cs : List ClassDecl) (c : Name)
      → IsTable (λ m. m.name) (λ owner m. MethodOf cs c m.name owner m) (method_table cs c)
