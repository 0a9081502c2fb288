-- What the declarations of a project say to the check of a body.
use Rattle.std.specs.Prelude.{◌≡◌, ◌↔◌, List, map, Some, option_map, is_some, true, Contains}
use Rattle.mj_tree.specs.Trees.{Name, Method}
use Rattle.mj_tree.specs.declared.tree.Ty.{Ty}
use Rattle.mj_tree.specs.declared.tree.Field.{Field}
use Rattle.mj_members.specs.Declarations.{ClassDecl}
use Rattle.mj_classes.specs.Declarations.{decl}
use Rattle.mj_classes.specs.Chains.{EndOf, IsChain, IsAcceptedBy, chain_of, chain_names, is_in}
use Rattle.mj_classes.specs.Members.{FieldOf, MethodOf, field_of, method_of}
use Rattle.mj_phrases.specs.Inquiries.{World, Sig}
use Rattle.mj_phrases.specs.Cases.{Accepted}

-- the types of a method
abbrev pub sig_of : Method → Sig
sig_of m = record { formals = map (λ v. v.ty) m.formals; returns = m.returns }

abbrev pub world_of : List ClassDecl → World
world_of cs = record {
  descends = λ c d. is_in (chain_names (chain_of cs c)) d;
  field = λ c x. option_map (λ f. f.1.ty) (field_of cs c x);
  method = λ c m. option_map (λ f. sig_of f.1) (method_of cs c m);
  is_declared = λ c. is_some (decl cs c);
}

-- what a world says is what chains, accepted types and members are
pub record Says (cs : List ClassDecl) (w : World) : Type 0 where
  pub descends : (c d : Name)
      → (w.descends c d ≡ true)
      ↔ ((chain : List Name) × (end : EndOf) × IsChain cs c chain end × Contains chain d)
  -- a type is accepted in the check of a body exactly if the chains say so
  pub accepted : (t u : Ty) → Accepted w t u ↔ IsAcceptedBy cs t u
  pub field : (c x : Name) (t : Ty)
      → (w.field c x ≡ Some t)
      ↔ ((owner : Name) × (f : Field) × FieldOf cs c x owner f × (f.ty ≡ t))
  pub method : (c m : Name) (sig : Sig)
      → (w.method c m ≡ Some sig)
      ↔ ((owner : Name) × (f : Method) × MethodOf cs c m owner f × (sig_of f ≡ sig))
  pub is_declared : (c : Name) → (w.is_declared c ≡ true) ↔ ((k : ClassDecl) × (decl cs c ≡ Some k))
