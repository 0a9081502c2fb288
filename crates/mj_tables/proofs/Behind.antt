-- The chain of a class is the class in front of the chain of its superclass, but for a ring, in which the superclass's chain ends with the class.
use Rattle.std.proofs.Common.{◌≡◌, List, [], ◌∷◌, ◌++◌, drop, map, Option, Some, None, refl, sym, ap, ◌∙◌, subst, ◌⊎◌, inl, inr}
use Rattle.std.specs.Prelude.{Contains}
use Rattle.std.specs.List.{filter_map}
use Rattle.std.proofs.lemmas.List.Elements.{filter_map-append}
use Rattle.std.proofs.lemmas.Option.{none-some, same_Some}
use Rattle.mj_tree.specs.Trees.{Name}
use Rattle.mj_members.specs.Declarations.{ClassDecl}
use Rattle.mj_classes.specs.Declarations.{decl}
use Rattle.mj_classes.specs.Chains.{EndOf, Top, Undeclared, Repeated, Ends, Extends, Links, IsChain, chain_of, chain_names, ancestry}
use Rattle.mj_classes.proofs.Distinct.{contains_in, in_contains, distinct_push}
use Rattle.mj_classes.proofs.Climb.{links_declared, chain_of_is, has_chain, has_none}
use Rattle.mj_classes.proofs.Nearest.{ancestry_by, ancestry_names}

-- ---- links in another chain

ends_in : (cs : List ClassDecl) (whole other : List Name) (c : Name) (end : EndOf) → ((v : Name) → end ≡ Repeated v → Contains other v) → Ends cs whole c end → Ends cs other c end
ends_in cs whole other c Top to e = e
ends_in cs whole other c (Undeclared v) to e = e
ends_in cs whole other c (Repeated v) to e = (e.0, to v refl)

links_in : (cs : List ClassDecl) (whole other xs : List Name) (end : EndOf) → ((v : Name) → end ≡ Repeated v → Contains other v) → Links cs whole xs end → Links cs other xs end
links_in cs whole other [] end to l = absurd l
links_in cs whole other (x ∷ []) end to l = ends_in cs whole other x end to l
links_in cs whole other (x ∷ y ∷ rest) end to l = (l.0, links_in cs whole other (y ∷ rest) end to l.1)

-- what leads back to a class leads on by it
links_round : (cs : List ClassDecl) (whole other xs : List Name) (c u : Name) → Links cs whole xs (Repeated c) → Extends cs c (Some u) → Contains other u → Links cs other (xs ++ c ∷ []) (Repeated u)
links_round cs whole other [] c u l e h = absurd l
links_round cs whole other (x ∷ []) c u l e h = (l.0, (e, h))
links_round cs whole other (x ∷ y ∷ rest) c u l e h = (l.0, links_round cs whole other (y ∷ rest) c u l.1 e h)

repeated_stands : (cs : List ClassDecl) (whole xs : List Name) (v : Name) → Links cs whole xs (Repeated v) → Contains whole v
repeated_stands cs whole [] v l = absurd l
repeated_stands cs whole (x ∷ []) v l = l.1
repeated_stands cs whole (x ∷ y ∷ rest) v l = repeated_stands cs whole (y ∷ rest) v l.1

-- ---- the chain of the superclass

-- the names behind a class in its chain, and the chain of its superclass
record Above (cs : List ClassDecl) (c u : Name) : Type 0 where
  names : List Name
  end : EndOf
  is_chain : IsChain cs c (c ∷ names) end
  chain : (chain_of cs u ≡ Some (names, end)) ⊎ (chain_of cs u ≡ Some (names ++ c ∷ [], Repeated u))

module _ (cs : List ClassDecl) (c u : Name) (k j : ClassDecl) (here : decl cs c ≡ Some k) (super : k.superclass ≡ Some u) (declared : decl cs u ≡ Some j) where
  extends_it : (o : Option Name) → Extends cs c o → o ≡ Some u
  extends_it o x = let same : x.0 ≡ k = same_Some x.0 k (sym x.1 ∙ here) in sym x.2 ∙ (ap (λ (m : ClassDecl). m.superclass) same ∙ super)

  -- it stands alone behind itself
  alone_by : (end : EndOf) → IsChain cs c (c ∷ []) end → Ends cs (c ∷ []) c end → Above cs c u
  alone_by Top is l = absurd (none-some u (extends_it None l))
  alone_by (Undeclared v) is l =
      let same = same_Some v u (extends_it (Some v) l.0) in
      absurd (none-some j (sym l.1 ∙ (ap (decl cs) same ∙ declared)))
  alone_by (Repeated v) is l =
      let same = same_Some v u (extends_it (Some v) l.0) in
      let itself : c ≡ v = elim (contains_in (c ∷ []) v l.1) [ inl e ↦ e | inr n ↦ absurd n ] in
      record {
        names = [];
        end = Repeated v;
        is_chain = is;
        chain = inr (ap (chain_of cs) (sym (itself ∙ same)) ∙ (chain_of_is cs c (c ∷ []) (Repeated v) is ∙ ap (λ (n : Name). Some (c ∷ [], Repeated n)) same));
      }

  -- a class stands behind it
  straight : (d : Name) (more : List Name) (end : EndOf) → IsChain cs c (c ∷ d ∷ more) end → d ≡ u → ((v : Name) → end ≡ Repeated v → Contains (d ∷ more) v) → Above cs c u
  straight d more end is same to =
      let links = links_in cs (c ∷ d ∷ more) (d ∷ more) (d ∷ more) end to is.links.1 in
      let chain = chain_of_is cs d (d ∷ more) end (record { rest = more; first = refl; links = links; distinct = is.distinct.1 }) in
      record { names = d ∷ more; end = end; is_chain = is; chain = inl (ap (chain_of cs) (sym same) ∙ chain) }

  round : (d : Name) (more : List Name) → IsChain cs c (c ∷ d ∷ more) (Repeated c) → d ≡ u → Above cs c u
  round d more is same =
      let first = in_contains (d ∷ (more ++ c ∷ [])) d (inl refl) in
      let links = links_round cs (c ∷ d ∷ more) (d ∷ (more ++ c ∷ [])) (d ∷ more) c d is.links.1 is.links.0 first in
      let chain = chain_of_is cs d (d ∷ (more ++ c ∷ [])) (Repeated d) (record { rest = more ++ c ∷ []; first = refl; links = links; distinct = distinct_push (d ∷ more) c is.distinct.1 is.distinct.0 }) in
      record { names = d ∷ more; end = Repeated c; is_chain = is; chain = inr (ap (chain_of cs) (sym same) ∙ (chain ∙ ap (λ (n : Name). Some (d ∷ (more ++ c ∷ []), Repeated n)) same)) }

  behind_by : (rest : List Name) (end : EndOf) → IsChain cs c (c ∷ rest) end → Above cs c u
  behind_by [] end is = alone_by end is is.links
  behind_by (d ∷ more) Top is = straight d more Top is (same_Some d u (extends_it (Some d) is.links.0)) (λ v e. absurd cc)
  behind_by (d ∷ more) (Undeclared w) is = straight d more (Undeclared w) is (same_Some d u (extends_it (Some d) is.links.0)) (λ v e. absurd cc)
  behind_by (d ∷ more) (Repeated w) is =
      let same = same_Some d u (extends_it (Some d) is.links.0) in
      elim (contains_in (c ∷ d ∷ more) w (repeated_stands cs (c ∷ d ∷ more) (d ∷ more) w is.links.1)) [
        | inl e ↦ round d more (subst (λ (n : Name). IsChain cs c (c ∷ d ∷ more) (Repeated n)) (sym e) is) same
        | inr i ↦ straight d more (Repeated w) is same (λ v e. subst (Contains (d ∷ more)) (let it : w ≡ v = cc in it) (in_contains (d ∷ more) w i))
      ]

  above_chain : Above cs c u
  above_chain =
      let has = has_chain cs c k here in
      behind_by has.2.rest has.1 (subst (λ (xs : List Name). IsChain cs c xs has.1) has.2.first has.2)

-- ---- the classes of the chain

-- the classes behind a class in its chain, and those of the chain of its superclass
pub record StandBehind (cs : List ClassDecl) (k : ClassDecl) (above : List ClassDecl) : Type 0 where
  pub classes : List ClassDecl
  pub along : ancestry cs k.name ≡ k ∷ classes
  pub others : Contains (map (λ (j : ClassDecl). j.name) classes) k.name → ⊥
  pub same : (above ≡ classes) ⊎ (above ≡ classes ++ k ∷ [])

module _ (cs : List ClassDecl) (k : ClassDecl) (here : decl cs k.name ≡ Some k) where
  along_names : (names : List Name) (end : EndOf) → chain_of cs k.name ≡ Some (k.name ∷ names, end) → ancestry cs k.name ≡ k ∷ filter_map (decl cs) names
  along_names names end e = ancestry_by cs k.name (Some (k.name ∷ names, end)) e ∙ rw here refl

  others_of : (names : List Name) (end : EndOf) → IsChain cs k.name (k.name ∷ names) end → Contains (map (λ (j : ClassDecl). j.name) (filter_map (decl cs) names)) k.name → ⊥
  others_of names end is h =
      let e = chain_of_is cs k.name (k.name ∷ names) end is in
      let along = along_names names end e in
      let all : map (λ (j : ClassDecl). j.name) (k ∷ filter_map (decl cs) names) ≡ k.name ∷ names = ap (map (λ (j : ClassDecl). j.name)) (sym along) ∙ (ancestry_names cs k.name ∙ ap chain_names e) in
      let rest : map (λ (j : ClassDecl). j.name) (filter_map (decl cs) names) ≡ names = ap (drop 1) all in
      is.distinct.0 (subst (λ (ns : List Name). Contains ns k.name) rest h)

  behind_declared : (u : Name) (j : ClassDecl) → k.superclass ≡ Some u → decl cs u ≡ Some j → StandBehind cs k (ancestry cs u)
  behind_declared u j super declared =
      let a = above_chain cs k.name u k j here super declared in
      record {
        classes = filter_map (decl cs) a.names;
        along = along_names a.names a.end (chain_of_is cs k.name (k.name ∷ a.names) a.end a.is_chain);
        others = others_of a.names a.end a.is_chain;
        same = elim a.chain [
          | inl e ↦ inl (ancestry_by cs u (Some (a.names, a.end)) e)
          | inr e ↦ inr (ancestry_by cs u (Some (a.names ++ k.name ∷ [], Repeated u)) e ∙ (filter_map-append (decl cs) a.names (k.name ∷ []) ∙ ap (λ (ks : List ClassDecl). filter_map (decl cs) a.names ++ ks) one))
        ];
      }
    where
      one : filter_map (decl cs) (k.name ∷ []) ≡ k ∷ []
      one = rw here refl

  -- nothing stands behind it if no declared class stands above
  pub behind_none : ((u : Name) → k.superclass ≡ Some u → decl cs u ≡ None) → StandBehind cs k []
  behind_none none =
      let has = has_chain cs k.name k here in
      by has.2.rest has.1 (subst (λ (xs : List Name). IsChain cs k.name xs has.1) has.2.first has.2)
    where
      by : (rest : List Name) (end : EndOf) → IsChain cs k.name (k.name ∷ rest) end → StandBehind cs k []
      by [] end is = record { classes = []; along = along_names [] end (chain_of_is cs k.name (k.name ∷ []) end is); others = others_of [] end is; same = inl refl }
      by (d ∷ more) end is =
          let x = is.links.0 in
          let it : x.0 ≡ k = same_Some x.0 k (sym x.1 ∙ here) in
          let next = links_declared cs (k.name ∷ d ∷ more) d more end is.links.1 in
          absurd (none-some next.0 (sym (none d (ap (λ (m : ClassDecl). m.superclass) (sym it) ∙ x.2)) ∙ next.1))

  pub behind : (u : Name) → k.superclass ≡ Some u → StandBehind cs k (ancestry cs u)
  behind u super = by (decl cs u) refl
    where
      by : (o : Option ClassDecl) → decl cs u ≡ o → StandBehind cs k (ancestry cs u)
      by (Some j) e = behind_declared u j super e
      by None e =
          let empty : ancestry cs u ≡ [] = ancestry_by cs u None (has_none cs u e) in
          subst (StandBehind cs k) (sym empty) (behind_none (λ v f. ap (decl cs) (same_Some v u (sym f ∙ super)) ∙ e))
