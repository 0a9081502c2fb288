-- The chain of the second class of a chain.
use Rattle.std.proofs.Common.{List, [], ◌∷◌, ◌++◌, Some, refl, sym, subst, ◌⊎◌, inl, inr}
use Rattle.std.specs.Prelude.{Contains}
use Rattle.mj_tree.specs.Trees.{Name}
use Rattle.mj_members.specs.Declarations.{ClassDecl}
use Rattle.mj_classes.specs.Chains.{EndOf, Top, Undeclared, Repeated, Extends, Ends, Links, IsChain}
use Rattle.mj_classes.proofs.Distinct.{In, contains_in, in_contains, distinct_push}

module _ (cs : List ClassDecl) where
  -- links that end alike in another list
  relink : (whole other xs : List Name) (end : EndOf) → ((x : Name) → Ends cs whole x end → Ends cs other x end) → Links cs whole xs end → Links cs other xs end
  relink whole other [] end h l = l
  relink whole other (x ∷ []) end h l = h x l
  relink whole other (x ∷ y ∷ rest) end h l = (l.0, relink whole other (y ∷ rest) end h l.1)

  -- if the last class extends c, they go on with c
  link_back : (whole other : List Name) (x : Name) (rest : List Name) (c s : Name) → Extends cs c (Some s) → Contains other s → Links cs whole (x ∷ rest) (Repeated c) → Links cs other ((x ∷ rest) ++ c ∷ []) (Repeated s)
  link_back whole other x [] c s e h l = (l.0, (e, h))
  link_back whole other x (y ∷ rest) c s e h l = (l.0, link_back whole other y rest c s e h l.1)

  repeated_in : (whole : List Name) (x : Name) (rest : List Name) (u : Name) → Links cs whole (x ∷ rest) (Repeated u) → Contains whole u
  repeated_in whole x [] u l = l.1
  repeated_in whole x (y ∷ rest) u l = repeated_in whole y rest u l.1

  module _ (c s : Name) (rest : List Name) where
    abbrev Behind : Type 0
    Behind = ((end : EndOf) × IsChain cs s (s ∷ rest) end) ⊎ ((end : EndOf) × IsChain cs s ((s ∷ rest) ++ c ∷ []) end)

    plain : (end : EndOf) → ((x : Name) → Ends cs (c ∷ s ∷ rest) x end → Ends cs (s ∷ rest) x end) → IsChain cs c (c ∷ s ∷ rest) end → Behind
    plain end h is = inl (end, record { rest = rest; first = refl; links = relink (c ∷ s ∷ rest) (s ∷ rest) (s ∷ rest) end h is.links.1; distinct = is.distinct.1 })

    looped : IsChain cs c (c ∷ s ∷ rest) (Repeated c) → Behind
    looped is =
        let all : List Name = (s ∷ rest) ++ c ∷ [] in
        let here : Contains all s = in_contains all s (inl refl) in
        inr (
          Repeated s,
          record {
            rest = rest ++ c ∷ [];
            first = refl;
            links = link_back (c ∷ s ∷ rest) all s rest c s is.links.0 here is.links.1;
            distinct = distinct_push (s ∷ rest) c is.distinct.1 is.distinct.0;
          },
        )

    -- the chain of the second class is the rest of the chain, or ends with the first class
    pub behind : (end : EndOf) → IsChain cs c (c ∷ s ∷ rest) end → Behind
    behind Top is = plain Top (λ x e. e) is
    behind (Undeclared u) is = plain (Undeclared u) (λ x e. e) is
    behind (Repeated u) is = by (contains_in (c ∷ s ∷ rest) u (repeated_in (c ∷ s ∷ rest) c (s ∷ rest) u is.links))
      where
        by : In u (c ∷ s ∷ rest) → Behind
        by (inl e) = looped (subst (λ (v : Name). IsChain cs c (c ∷ s ∷ rest) (Repeated v)) (sym e) is)
        by (inr i) = plain (Repeated u) (λ x e. (e.0, in_contains (s ∷ rest) u i)) is
