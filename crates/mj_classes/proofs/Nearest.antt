-- The classes of a chain, and the nearest one in which something is found.
use Rattle.std.proofs.Common.{◌≡◌, List, [], ◌∷◌, ◌++◌, map, Option, Some, None, refl, sym, ap, ◌∙◌, subst, arith, inl, inr}
use Rattle.std.specs.Prelude.{Contains}
use Rattle.std.specs.Option.{option_map_or}
use Rattle.std.specs.List.{filter_map, cons_option}
use Rattle.std.proofs.lemmas.List.Elements.{Contains-append_right}
use Rattle.mj_tree.specs.Trees.{Name}
use Rattle.mj_members.specs.Declarations.{ClassDecl}
use Rattle.mj_classes.specs.Declarations.{decl}
use Rattle.mj_classes.specs.Chains.{EndOf, IsChain, Chain, chain_names, chain_of, ancestry}
use Rattle.mj_classes.specs.Members.{IsNearest, or_farther, nearest}
use Rattle.mj_classes.proofs.Distinct.{In, nowhere, contains_in, in_contains}
use Rattle.mj_classes.proofs.Climb.{decl_name, chain_of_is, is_chain_of, all_declared}

-- ---- the classes of a chain

pub ancestry_by : (cs : List ClassDecl) (c : Name) (o : Option Chain) → chain_of cs c ≡ o → ancestry cs c ≡ filter_map (decl cs) (chain_names o)
unfolding ancestry
ancestry_by cs c o e = ap (λ (p : Option Chain). filter_map (decl cs) (chain_names p)) e

pub ancestry_of_chain : (cs : List ClassDecl) (c : Name) (chain : List Name) (end : EndOf) → IsChain cs c chain end → ancestry cs c ≡ filter_map (decl cs) chain
ancestry_of_chain cs c chain end is = ancestry_by cs c (Some (chain, end)) (chain_of_is cs c chain end is)

abbrev AllDeclared : List ClassDecl → List Name → Type 0
AllDeclared cs xs = (x : Name) → In x xs → (k : ClassDecl) × (decl cs x ≡ Some k)

names_back : (cs : List ClassDecl) (xs : List Name) → AllDeclared cs xs → map (λ (k : ClassDecl). k.name) (filter_map (decl cs) xs) ≡ xs
names_back cs [] all = refl
names_back cs (x ∷ xs) all =
    let k = all x (inl refl) in
    let found = k.1 in
    let name = decl_name cs x k.0 k.1 in
    let rest = names_back cs xs (λ y i. all y (inr i)) in
    rw found (ap (λ (n : Name). n ∷ map (λ (j : ClassDecl). j.name) (filter_map (decl cs) xs)) name ∙ ap (λ (ys : List Name). x ∷ ys) rest)

-- the names of the classes of a chain are those of the chain
pub ancestry_names : (cs : List ClassDecl) (c : Name) → map (λ (k : ClassDecl). k.name) (ancestry cs c) ≡ chain_names (chain_of cs c)
ancestry_names cs c = by (chain_of cs c) refl
  where
    by : (o : Option Chain) → chain_of cs c ≡ o → map (λ (k : ClassDecl). k.name) (ancestry cs c) ≡ chain_names o
    by None e = ap (map (λ (k : ClassDecl). k.name)) (ancestry_by cs c None e)
    by (Some chain) e =
        let is = is_chain_of cs c chain.0 chain.1 e in
        ap (map (λ (k : ClassDecl). k.name)) (ancestry_by cs c (Some chain) e) ∙ names_back cs chain.0 (λ x i. all_declared cs chain.0 chain.0 chain.1 is.links x i)

-- declared classes are found by their names
pub classes_back : (cs ks : List ClassDecl) → ((k : ClassDecl) → Contains ks k → decl cs k.name ≡ Some k) → filter_map (decl cs) (map (λ (k : ClassDecl). k.name) ks) ≡ ks
classes_back cs [] all = refl
classes_back cs (k ∷ ks) all =
    let found = all k (Contains-first k ks) in
    rw found (ap (λ (js : List ClassDecl). k ∷ js) (classes_back cs ks (λ j h. all j (Contains-append_right (k ∷ []) ks j h))))
  where
    Contains-first : (k : ClassDecl) (ks : List ClassDecl) → Contains (k ∷ ks) k
    Contains-first k ks = (0, omega arith, refl)

-- ---- the nearest one

found_at : {A : Type 0} (own : ClassDecl → Option A) (cs : List ClassDecl) (nearer : List Name) (owner : Name) (farther : List Name) (found : A)
    → ((d : Name) (k : ClassDecl) → Contains nearer d → decl cs d ≡ Some k → own k ≡ None) → (k : ClassDecl) → decl cs owner ≡ Some k → own k ≡ Some found
    → nearest own (filter_map (decl cs) (nearer ++ (owner ∷ farther))) ≡ Some (owner, found)
found_at own cs [] owner farther found none k e f =
    let name = decl_name cs owner k e in
    rw (e, f, name) refl
found_at {A} own cs (d ∷ ds) owner farther found none k e f =
    pass (decl cs d) refl ∙ found_at own cs ds owner farther found (λ x j h. none x j (Contains-append_right (d ∷ []) ds x h)) k e f
  where
    others : List ClassDecl
    others = filter_map (decl cs) (ds ++ (owner ∷ farther))

    pass : (o : Option ClassDecl) → decl cs d ≡ o → nearest own (cons_option o others) ≡ nearest own others
    pass None g = refl
    pass (Some j) g = let h = none d j (in_contains (d ∷ ds) d (inl refl)) g in rw h refl

pub nearest_from_is : {A : Type 0} (own : ClassDecl → Option A) (cs : List ClassDecl) (c owner : Name) (found : A) → IsNearest own cs c owner found → nearest own (ancestry cs c) ≡ Some (owner, found)
nearest_from_is own cs c owner found is =
    let classes = ancestry_of_chain cs c _ is.end is.is_chain in
    rw classes (found_at own cs is.nearer owner is.farther found is.none_nearer is.here.0 is.here.1 is.here.2)

record Parts {A : Type 0} (own : ClassDecl → Option A) (cs : List ClassDecl) (chain : List Name) (owner : Name) (found : A) : Type 0 where
  nearer : List Name
  farther : List Name
  is : chain ≡ nearer ++ (owner ∷ farther)
  none_nearer : (d : Name) (k : ClassDecl) → Contains nearer d → decl cs d ≡ Some k → own k ≡ None
  here : (k : ClassDecl) × (decl cs owner ≡ Some k) × (own k ≡ Some found)

farther_parts : {A : Type 0} (own : ClassDecl → Option A) (cs : List ClassDecl) (d : Name) (ds : List Name) (owner : Name) (found : A)
    → ((k : ClassDecl) → decl cs d ≡ Some k → own k ≡ None) → Parts own cs ds owner found → Parts own cs (d ∷ ds) owner found
farther_parts own cs d ds owner found none p = record {
  nearer = d ∷ p.nearer;
  farther = p.farther;
  is = ap (λ (xs : List Name). d ∷ xs) p.is;
  none_nearer = λ x k h e. elim (contains_in (d ∷ p.nearer) x h) [
    | inl same ↦ none k (ap (decl cs) same ∙ e)
    | inr i ↦ p.none_nearer x k (in_contains p.nearer x i) e
  ];
  here = p.here;
}

found_pair : {A : Type 0} (p q : Name × A) → Some p ≡ Some q → (p.0 ≡ q.0) × (p.1 ≡ q.1)
found_pair {A} p q e = (ap (λ (o : Option (Name × A)). option_map_or (λ r. r.0) o p.0) e, ap (λ (o : Option (Name × A)). option_map_or (λ r. r.1) o p.1) e)

parts_by_own : {A : Type 0} (own : ClassDecl → Option A) (cs : List ClassDecl) (d : Name) (ds : List Name) (owner : Name) (found : A)
    → (nearest own (filter_map (decl cs) ds) ≡ Some (owner, found) → Parts own cs ds owner found) → (k : ClassDecl) → decl cs d ≡ Some k
    → (o : Option A) → own k ≡ o → or_farther k.name o (nearest own (filter_map (decl cs) ds)) ≡ Some (owner, found) → Parts own cs (d ∷ ds) owner found
parts_by_own own cs d ds owner found rest k g None n e = farther_parts own cs d ds owner found (λ j h. let same : j ≡ k = cc in ap own same ∙ n) (rest e)
parts_by_own {A} own cs d ds owner found rest k g (Some a) s e =
    let both = found_pair (k.name, a) (owner, found) e in
    let head : d ≡ owner = sym (decl_name cs d k g) ∙ both.0 in
    record {
      nearer = [];
      farther = ds;
      is = ap (λ (n : Name). n ∷ ds) head;
      none_nearer = λ x j h f. absurd (nowhere x h);
      here = (k, ap (decl cs) (sym head) ∙ g, s ∙ ap (λ (b : A). Some b) both.1);
    }

parts_by_decl : {A : Type 0} (own : ClassDecl → Option A) (cs : List ClassDecl) (d : Name) (ds : List Name) (owner : Name) (found : A)
    → (nearest own (filter_map (decl cs) ds) ≡ Some (owner, found) → Parts own cs ds owner found) → (o : Option ClassDecl) → decl cs d ≡ o
    → nearest own (cons_option o (filter_map (decl cs) ds)) ≡ Some (owner, found) → Parts own cs (d ∷ ds) owner found
parts_by_decl own cs d ds owner found rest None g e = farther_parts own cs d ds owner found (λ j h. let no : Some j ≡ None = sym h ∙ g in absurd cc) (rest e)
parts_by_decl own cs d ds owner found rest (Some k) g e = parts_by_own own cs d ds owner found rest k g (own k) refl e

parts_of : {A : Type 0} (own : ClassDecl → Option A) (cs : List ClassDecl) (chain : List Name) (owner : Name) (found : A) → nearest own (filter_map (decl cs) chain) ≡ Some (owner, found) → Parts own cs chain owner found
parts_of own cs [] owner found e = absurd cc
parts_of own cs (d ∷ ds) owner found e = parts_by_decl own cs d ds owner found (λ h. parts_of own cs ds owner found h) (decl cs d) refl e

pub is_from_nearest : {A : Type 0} (own : ClassDecl → Option A) (cs : List ClassDecl) (c owner : Name) (found : A) → nearest own (ancestry cs c) ≡ Some (owner, found) → IsNearest own cs c owner found
is_from_nearest {A} own cs c owner found e = by (chain_of cs c) refl
  where
    by : (o : Option Chain) → chain_of cs c ≡ o → IsNearest own cs c owner found
    by None g = let none : nearest own [] ≡ Some (owner, found) = rw (ancestry_by cs c None g) at e in absurd cc
    by (Some chain) g =
        let along = rw (ancestry_by cs c (Some chain) g) at e in
        let p = parts_of own cs chain.0 owner found along in
        let is = is_chain_of cs c chain.0 chain.1 g in
        record { nearer = p.nearer; farther = p.farther; end = chain.1; is_chain = subst (λ (xs : List Name). IsChain cs c xs chain.1) p.is is; none_nearer = p.none_nearer; here = p.here }
