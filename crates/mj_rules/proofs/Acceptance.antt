-- A check accepts what the chains say, if its answers are those of the chains.
use Rattle.std.proofs.Common.{◌≡◌, true, List, Contains, refl, ap, subst, sym, inl, inr, ◌↔◌}
use Rattle.mj_tree.specs.Trees.{Name}
use Rattle.mj_tree.specs.declared.tree.Ty.{Ty}
use Rattle.mj_tree.specs.declared.tree.Ty.TheVariants.{Int, Boolean, IntArray, Class}
use Rattle.mj_members.specs.Declarations.{ClassDecl}
use Rattle.mj_classes.specs.Chains.{EndOf, IsChain, IsAcceptedBy}
use Rattle.mj_classes.proofs.Acceptance.{accepted_by_itself}
use Rattle.mj_phrases.specs.Inquiries.{World}
use Rattle.mj_phrases.specs.Cases.{Accepted}

abbrev TellsChains : List ClassDecl → World → Type 0
TellsChains cs w = (c d : Name) → (w.descends c d ≡ true) ↔ ((chain : List Name) × (end : EndOf) × IsChain cs c chain end × Contains chain d)

module _ (cs : List ClassDecl) (w : World) (tells : TellsChains cs w) where
  by_chain : (c d : Name) → w.descends c d ≡ true → IsAcceptedBy cs (Class c) (Class d)
  by_chain c d h = inr ((tells c d).0 h)

  by_chains : (t u : Ty) → Accepted w t u → IsAcceptedBy cs t u
  by_chains t u (inl e) = subst (λ (u : Ty). IsAcceptedBy cs t u) e (accepted_by_itself cs t)
  by_chains t u (inr h) =
      subst (λ (t : Ty). IsAcceptedBy cs t u) (sym h.2) (subst (λ (u : Ty). IsAcceptedBy cs (Class h.0) u) (sym h.3) (by_chain h.0 h.1 h.4))

  from_chains : (t u : Ty) → IsAcceptedBy cs t u → Accepted w t u
  from_chains Int u e = inl e
  from_chains Boolean u e = inl e
  from_chains IntArray u e = inl e
  from_chains (Class c) Int e = inl e
  from_chains (Class c) Boolean e = inl e
  from_chains (Class c) IntArray e = inl e
  from_chains (Class c) (Class d) (inl e) = inl (ap (λ (n : Name). Class n) e)
  from_chains (Class c) (Class d) (inr h) = inr (c, d, refl, refl, (tells c d).1 h)

  pub acceptance : (t u : Ty) → Accepted w t u ↔ IsAcceptedBy cs t u
  acceptance t u = (by_chains t u, from_chains t u)
