-- Acceptance is an order if chains end.
use Rattle.std.proofs.Common.{◌≡◌, ◌≢◌, List, [], ◌∷◌, refl, sym, ap, ◌∙◌, subst, inl, inr}
use Rattle.std.specs.Prelude.{Contains}
use Rattle.mj_tree.specs.Trees.{Name}
use Rattle.mj_tree.specs.declared.tree.Ty.{Ty}
use Rattle.mj_tree.specs.declared.tree.Ty.TheVariants.{Int, Boolean, IntArray, Class}
use Rattle.mj_members.specs.Declarations.{ClassDecl}
use Rattle.mj_classes.specs.Chains.{EndOf, Top, Undeclared, Repeated, Ends, Links, AreDistinct, IsChain, IsAcceptedBy, chain_names}
use Rattle.mj_classes.proofs.Distinct.{In, contains_in, in_contains}
use Rattle.mj_classes.proofs.Climb.{chain_of_is}
use Rattle.mj_classes.proofs.Closed.{chain_holds}

pub accepted_by_itself : (cs : List ClassDecl) (t : Ty) → IsAcceptedBy cs t t
accepted_by_itself cs Int = refl
accepted_by_itself cs Boolean = refl
accepted_by_itself cs IntArray = refl
accepted_by_itself cs (Class t) = inl refl

pub accepted_along : (cs : List ClassDecl) (t u v : Ty) → IsAcceptedBy cs t u → IsAcceptedBy cs u v → IsAcceptedBy cs t v
accepted_along cs Int u v e f = subst (λ (w : Ty). IsAcceptedBy cs w v) (sym e) f
accepted_along cs Boolean u v e f = subst (λ (w : Ty). IsAcceptedBy cs w v) (sym e) f
accepted_along cs IntArray u v e f = subst (λ (w : Ty). IsAcceptedBy cs w v) (sym e) f
accepted_along cs (Class t) (Class u) (Class v) (inl e) f = subst (λ (n : Name). IsAcceptedBy cs (Class n) (Class v)) (sym e) f
accepted_along cs (Class t) (Class u) (Class v) (inr h) (inl f) = inr (h.0, h.1, h.2, subst (Contains h.0) f h.3)
accepted_along cs (Class t) (Class u) (Class v) (inr h) (inr k) = inr (h.0, h.1, h.2, chain_holds cs t u h.0 k.0 h.1 k.1 h.2 h.3 k.2 v k.3)
accepted_along cs (Class t) (Class u) v e f = absurd cc
accepted_along cs (Class t) u v e f = absurd cc

-- ---- two classes that accept each other stand in a cycle

abbrev ComesBack : EndOf → Type 0
ComesBack Top = ⊥
ComesBack (Undeclared u) = ⊥
ComesBack (Repeated u) = Unit {0}

ends_alike : (cs : List ClassDecl) (chain other : List Name) (last : Name) (end : EndOf) → (ComesBack end → ⊥) → Ends cs chain last end → Ends cs other last end
ends_alike cs chain other last Top on e = e
ends_alike cs chain other last (Undeclared u) on e = e
ends_alike cs chain other last (Repeated u) on e = absurd (on tt)

links_alike : (cs : List ClassDecl) (chain other xs : List Name) (end : EndOf) → (ComesBack end → ⊥) → Links cs chain xs end → Links cs other xs end
links_alike cs chain other [] end on l = absurd l
links_alike cs chain other (c ∷ []) end on l = ends_alike cs chain other c end on l
links_alike cs chain other (c ∷ d ∷ rest) end on l = (l.0, links_alike cs chain other (d ∷ rest) end on l.1)

-- if a chain doesn't come back, the rest of it from a class on is the chain of that class
record RestFrom (cs : List ClassDecl) (xs : List Name) (u : Name) (end : EndOf) : Type 0 where
  names : List Name
  is_chain : IsChain cs u names end
  within : (z : Name) → In z names → In z xs

rest_from : (cs : List ClassDecl) (chain xs : List Name) (end : EndOf) → (ComesBack end → ⊥) → Links cs chain xs end → AreDistinct xs → (u : Name) → In u xs → RestFrom cs xs u end
rest_from cs chain [] end on l d u h = absurd h
rest_from cs chain (c ∷ rest) end on l d u (inl e) = record {
  names = c ∷ rest;
  is_chain = record { rest = rest; first = ap (λ (n : Name). n ∷ rest) e; links = links_alike cs chain (c ∷ rest) (c ∷ rest) end on l; distinct = d };
  within = λ z i. i;
}
rest_from cs chain (c ∷ []) end on l d u (inr h) = absurd h
rest_from cs chain (c ∷ e ∷ rest) end on l d u (inr h) =
    let r = rest_from cs chain (e ∷ rest) end on l.1 d.1 u h in
    record { names = r.names; is_chain = r.is_chain; within = λ z i. inr (r.within z i) }

rest_behind : (cs : List ClassDecl) (chain : List Name) (c : Name) (rest : List Name) (end : EndOf) → (ComesBack end → ⊥) → Links cs chain (c ∷ rest) end → AreDistinct rest → (u : Name) → In u rest → RestFrom cs rest u end
rest_behind cs chain c [] end on l d u h = absurd h
rest_behind cs chain c (e ∷ rest) end on l d u h = rest_from cs chain (e ∷ rest) end on l.1 d u h

one_way : (cs : List ClassDecl) (t u : Name) (chain other : List Name) (end last : EndOf) → (ComesBack end → ⊥) → IsChain cs t chain end → In u chain → IsChain cs u other last → In t other → t ≢ u → ⊥
one_way cs t u chain other end last on is h at k ne =
    let l = rw is.first at is.links in
    let d = rw is.first at is.distinct in
    let i = rw is.first at h in
    elim i [
      | inl e ↦ ne e
      | inr j ↦
          let r = rest_behind cs (t ∷ is.rest) t is.rest end on l d.1 u j in
          let a = chain_of_is cs u r.names end r.is_chain in
          let b = chain_of_is cs u other last at in
          let same : other ≡ r.names = ap chain_names (sym b ∙ a) in
          d.0 (in_contains is.rest t (r.within t (subst (λ (xs : List Name). In t xs) same k)))
    ]

pub accepted_in_a_cycle : (cs : List ClassDecl) (t u : Name) → IsAcceptedBy cs (Class t) (Class u) → IsAcceptedBy cs (Class u) (Class t) → t ≢ u → (chain : List Name) × (again : Name) × IsChain cs t chain (Repeated again)
accepted_in_a_cycle cs t u (inl e) s ne = absurd (ne e)
accepted_in_a_cycle cs t u (inr h) (inl e) ne = absurd (ne (sym e))
accepted_in_a_cycle cs t u (inr h) (inr k) ne = by_end h.1 h.2
  where
    by_end : (end : EndOf) → IsChain cs t h.0 end → (chain : List Name) × (again : Name) × IsChain cs t chain (Repeated again)
    by_end Top is = absurd (one_way cs t u h.0 k.0 Top k.1 (λ b. b) is (contains_in h.0 u h.3) k.2 (contains_in k.0 t k.3) ne)
    by_end (Undeclared v) is = absurd (one_way cs t u h.0 k.0 (Undeclared v) k.1 (λ b. b) is (contains_in h.0 u h.3) k.2 (contains_in k.0 t k.3) ne)
    by_end (Repeated again) is = (h.0, again, is)
