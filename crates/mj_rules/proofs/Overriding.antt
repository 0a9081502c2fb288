-- The nearest method behind a class in its chain.
use Rattle.std.proofs.Common.{◌≡◌, List, [], ◌∷◌, ◌++◌, drop, Option, Some, None, Contains, refl, sym, ap, subst, ◌∙◌, inl, inr}
use Rattle.std.specs.List.{filter_map, cons_option}
use Rattle.std.proofs.lemmas.Option.{none-some, same_Some}
use Rattle.ordered_names.proofs.Alike.{Contains-cases, Contains-first, Contains-later, nowhere}
use Rattle.mj_tree.specs.Trees.{Name, Method}
use Rattle.mj_members.specs.Declarations.{ClassDecl}
use Rattle.mj_classes.specs.Declarations.{decl}
use Rattle.mj_classes.specs.Chains.{EndOf, Top, Undeclared, Repeated, Ends, Links, IsChain, chain_names, ancestry}
use Rattle.mj_classes.specs.Members.{nearest, or_farther, own_method}
use Rattle.mj_classes.specs.Laws.{ChainLaws}
use Rattle.mj_classes.proofs.Climb.{decl_name}
use Rattle.mj_rules.specs.ClassFaults.{IsOverridden}
use Rattle.mj_rules.specs.FaultLists.{rest_of}

-- each name is declared
pub data AreDeclared (cs : List ClassDecl) : List Name → Type 0 where
  none : AreDeclared cs []
  one : {c : Name} {names : List Name} (k : ClassDecl) → decl cs c ≡ Some k → AreDeclared cs names → AreDeclared cs (c ∷ names)

ends_declared : (cs : List ClassDecl) (chain : List Name) (c : Name) (end : EndOf) → Ends cs chain c end → (k : ClassDecl) × (decl cs c ≡ Some k)
ends_declared cs chain c Top h = (h.0, h.1)
ends_declared cs chain c (Undeclared u) h = (h.0.0, h.0.1)
ends_declared cs chain c (Repeated u) h = (h.0.0, h.0.1)

pub links_declared : (cs : List ClassDecl) (chain names : List Name) (end : EndOf) → Links cs chain names end → AreDeclared cs names
links_declared cs chain [] end h = none
links_declared cs chain (c ∷ []) end h = let k = ends_declared cs chain c end h in one k.0 k.1 none
links_declared cs chain (c ∷ d ∷ rest) end h = one h.0.0 h.0.1 (links_declared cs chain (d ∷ rest) end h.1)

-- the first of these names whose class has the method
pub record IsFirstOwner (cs : List ClassDecl) (m : Name) (names : List Name) (found : Method) : Type 0 where
  pub nearer : List Name
  pub owner : Name
  pub farther : List Name
  pub split : names ≡ nearer ++ (owner ∷ farther)
  pub none_nearer : (d : Name) (k : ClassDecl) → Contains nearer d → decl cs d ≡ Some k → own_method m k ≡ None
  pub here : (k : ClassDecl) × (decl cs owner ≡ Some k) × (own_method m k ≡ Some found)

abbrev classes_of_names : List ClassDecl → List Name → List ClassDecl
classes_of_names cs names = filter_map (decl cs) names

module _ (cs : List ClassDecl) (m : Name) where
  along_cons : (c : Name) (k : ClassDecl) (names : List Name) → decl cs c ≡ Some k
      → nearest (own_method m) (classes_of_names cs (c ∷ names)) ≡ or_farther k.name (own_method m k) (nearest (own_method m) (classes_of_names cs names))
  along_cons c k names e = ap (λ o. nearest (own_method m) (cons_option o (classes_of_names cs names))) e

  pub from_nearest : (names : List Name) (owner : Name) (found : Method) → AreDeclared cs names → nearest (own_method m) (classes_of_names cs names) ≡ Some (owner, found) → IsFirstOwner cs m names found
  from_nearest [] owner found all e = absurd (none-some (owner, found) e)
  from_nearest (c ∷ names) owner found (one k ek all) e = by_own (own_method m k) refl (from_nearest names owner found all) (sym (along_cons c k names ek) ∙ e)
    where
      later : own_method m k ≡ None → IsFirstOwner cs m names found → IsFirstOwner cs m (c ∷ names) found
      later o r = record {
        nearer = c ∷ r.nearer;
        owner = r.owner;
        farther = r.farther;
        split = ap (λ (ns : List Name). c ∷ ns) r.split;
        none_nearer = λ d j h ej. elim (Contains-cases c r.nearer d h) [
          | inl same ↦ ap (own_method m) (same_Some j k (sym ej ∙ (ap (decl cs) (sym same) ∙ ek))) ∙ o
          | inr i ↦ r.none_nearer d j i ej
        ];
        here = r.here;
      }

      by_own : (o : Option Method) → own_method m k ≡ o → (nearest (own_method m) (classes_of_names cs names) ≡ Some (owner, found) → IsFirstOwner cs m names found) → or_farther k.name o (nearest (own_method m) (classes_of_names cs names)) ≡ Some (owner, found) → IsFirstOwner cs m (c ∷ names) found
      by_own None o behind f = later o (behind f)
      by_own (Some x) o behind f = record {
        nearer = [];
        owner = c;
        farther = names;
        split = refl;
        none_nearer = λ d j h ej. absurd (nowhere d h);
        here = (k, ek, o ∙ ap (λ (p : Name × Method). Some p.1) (same_Some (k.name, x) (owner, found) f));
      }

  pub to_nearest : (nearer farther : List Name) (owner : Name) (found : Method) → AreDeclared cs (nearer ++ (owner ∷ farther))
      → ((d : Name) (k : ClassDecl) → Contains nearer d → decl cs d ≡ Some k → own_method m k ≡ None)
      → ((k : ClassDecl) × (decl cs owner ≡ Some k) × (own_method m k ≡ Some found))
      → nearest (own_method m) (classes_of_names cs (nearer ++ (owner ∷ farther))) ≡ Some (owner, found)
  to_nearest [] farther owner found all lacks here =
      along_cons owner here.0 farther here.1 ∙ (ap (λ o. or_farther here.0.name o (nearest (own_method m) (classes_of_names cs farther))) here.2
      ∙ ap (λ (n : Name). Some (n, found)) (decl_name cs owner here.0 here.1))
  to_nearest (c ∷ nearer) farther owner found (one k ek all) lacks here =
      along_cons c k (nearer ++ (owner ∷ farther)) ek ∙ (ap (λ o. or_farther k.name o (nearest (own_method m) (classes_of_names cs (nearer ++ (owner ∷ farther))))) (lacks c k (Contains-first c nearer) ek)
      ∙ to_nearest nearer farther owner found all (λ d j h. lacks d j (Contains-later c nearer d h)) here)

module _ (laws : ChainLaws) (cs : List ClassDecl) (c m : Name) where
  tail_declared : (d : Name) (rest : List Name) → AreDeclared cs (d ∷ rest) → AreDeclared cs rest
  tail_declared d rest (one k e all) = all

  rest_names : (names : List Name) → AreDeclared cs (c ∷ names) → drop 1 (classes_of_names cs (c ∷ names)) ≡ classes_of_names cs names
  rest_names names (one k e all) = ap (λ o. drop 1 (cons_option o (classes_of_names cs names))) e

  -- what is behind the class in its chain
  rest_along : (rest : List Name) (end : EndOf) → IsChain cs c (c ∷ rest) end → rest_of cs c ≡ classes_of_names cs rest
  unfolding ancestry
  rest_along rest end is = ap (λ o. drop 1 (classes_of_names cs (chain_names o))) ((laws.given cs c (c ∷ rest) end).0 is) ∙ rest_names rest (links_declared cs (c ∷ rest) (c ∷ rest) end is.links)

  pub overridden_to : (found : Method) (o : IsOverridden cs c m found) → nearest (own_method m) (rest_of cs c) ≡ Some (o.owner, found)
  overridden_to found o =
      let all = tail_declared c (o.nearer ++ (o.owner ∷ o.farther)) (links_declared cs (c ∷ (o.nearer ++ (o.owner ∷ o.farther))) (c ∷ (o.nearer ++ (o.owner ∷ o.farther))) o.end o.is_chain.links) in
      ap (nearest (own_method m)) (rest_along (o.nearer ++ (o.owner ∷ o.farther)) o.end o.is_chain) ∙ to_nearest cs m o.nearer o.farther o.owner found all o.none_nearer o.here

  in_chain : (rest : List Name) (end : EndOf) (owner : Name) (found : Method) → IsChain cs c (c ∷ rest) end → nearest (own_method m) (rest_of cs c) ≡ Some (owner, found) → IsOverridden cs c m found
  in_chain rest end owner found is e = build (from_nearest cs m rest owner found (tail_declared c rest (links_declared cs (c ∷ rest) (c ∷ rest) end is.links)) (sym (ap (nearest (own_method m)) (rest_along rest end is)) ∙ e))
    where
      build : IsFirstOwner cs m rest found → IsOverridden cs c m found
      build r = record {
        nearer = r.nearer;
        owner = r.owner;
        farther = r.farther;
        end = end;
        is_chain = subst (λ (ns : List Name). IsChain cs c (c ∷ ns) end) r.split is;
        none_nearer = r.none_nearer;
        here = r.here;
      }

  pub overridden_from : (k : ClassDecl) (owner : Name) (found : Method) → decl cs c ≡ Some k → nearest (own_method m) (rest_of cs c) ≡ Some (owner, found) → IsOverridden cs c m found
  overridden_from k owner found e n =
      let chain = laws.declared cs c k e in
      in_chain chain.2.rest chain.1 owner found (subst (λ (ns : List Name). IsChain cs c ns chain.1) chain.2.first chain.2) n
