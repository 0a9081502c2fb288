-- A chain while it grows, and the one chain of a class.
use Rattle.std.proofs.Common.{◌≡◌, ℕ, zero, suc, ◌+◌, ◌<◌, ◌≤◌, Bool, true, false, List, [], ◌∷◌, ◌++◌, length, map, Option, Some, None, refl, sym, ap, ◌∙◌, subst, arith, ◌⊎◌, inl, inr, cond, append_assoc, length-append}
use Rattle.std.specs.Prelude.{Contains, find, option_and_then}
use Rattle.std.specs.Str.{bytes_eq}
use Rattle.std.proofs.lemmas.Slice.Eq.{bytes_eq-Decides}
use Rattle.std.proofs.lemmas.List.Elements.{Contains-push_cases}
use Rattle.mj_tree.specs.Trees.{Name}
use Rattle.mj_members.specs.Declarations.{ClassDecl}
use Rattle.mj_classes.specs.Declarations.{decl}
use Rattle.mj_classes.specs.Chains.{EndOf, Top, Undeclared, Repeated, Ends, Links, AreDistinct, IsChain, Chain, is_in, on_from, on_by, chain_from, chain_of}
use Rattle.mj_classes.proofs.Distinct.{In, nowhere, contains_in, in_contains, pigeons, distinct_push, fresh_behind, is_listed, listed_is, not_listed, not_in}

-- The names so far lead from the class c to the class at hand, which isn't among them.
pub record Climbs (cs : List ClassDecl) (c : Name) (names : List Name) (at : ClassDecl) : Type 0 where
  pub here : decl cs at.name ≡ Some at
  pub fresh : Contains names at.name → ⊥
  pub distinct : AreDistinct names
  pub all_declared : (x : Name) → Contains names x → (k : ClassDecl) × (decl cs x ≡ Some k)
  pub first : (rest : List Name) → (more : List Name) × (names ++ (at.name ∷ rest) ≡ c ∷ more)
  -- whatever links lead on from the class at hand lead on from the first
  pub linked : (whole rest : List Name) (end : EndOf) → Links cs whole (at.name ∷ rest) end → Links cs whole (names ++ (at.name ∷ rest)) end

-- ---- declarations

find_name : (cs : List ClassDecl) (u : Name) (k : ClassDecl) → find (λ k. bytes_eq k.name u) cs ≡ Some k → k.name ≡ u
find_name [] u k e = absurd cc
find_name (j ∷ js) u k e = go (bytes_eq j.name u) refl e (find_name js u k)
  where
    go : (b : Bool) → bytes_eq j.name u ≡ b → cond b (Some j) (find (λ k. bytes_eq k.name u) js) ≡ Some k → (find (λ k. bytes_eq k.name u) js ≡ Some k → k.name ≡ u) → k.name ≡ u
    go true t e others = let same : j ≡ k = cc in ap (λ (d : ClassDecl). d.name) (sym same) ∙ (bytes_eq-Decides j.name u).0 t
    go false t e others = others e

-- the class that is found has the name
pub decl_name : (cs : List ClassDecl) (u : Name) (k : ClassDecl) → decl cs u ≡ Some k → k.name ≡ u
unfolding decl
decl_name cs u k e = find_name cs u k e

abbrev names_of : List ClassDecl → List Name
names_of cs = map (λ (k : ClassDecl). k.name) cs

length-names_of : (cs : List ClassDecl) → length (names_of cs) ≡ length cs
length-names_of [] = refl
length-names_of (c ∷ cs) = ap suc (length-names_of cs)

found_in : (cs : List ClassDecl) (u : Name) (k : ClassDecl) → find (λ k. bytes_eq k.name u) cs ≡ Some k → In u (names_of cs)
found_in [] u k e = absurd cc
found_in (j ∷ js) u k e = go (bytes_eq j.name u) refl e (found_in js u k)
  where
    go : (b : Bool) → bytes_eq j.name u ≡ b → cond b (Some j) (find (λ k. bytes_eq k.name u) js) ≡ Some k → (find (λ k. bytes_eq k.name u) js ≡ Some k → In u (names_of js)) → (j.name ≡ u) ⊎ In u (names_of js)
    go true t e others = inl ((bytes_eq-Decides j.name u).0 t)
    go false t e others = inr (others e)

declared_in : (cs : List ClassDecl) (u : Name) (k : ClassDecl) → decl cs u ≡ Some k → In u (names_of cs)
unfolding decl
declared_in cs u k e = found_in cs u k e

-- distinct declared names are no more than the classes
pub no_more : (cs : List ClassDecl) (xs : List Name) → AreDistinct xs → ((x : Name) → Contains xs x → (k : ClassDecl) × (decl cs x ≡ Some k)) → length xs ≤ length cs
no_more cs xs d h =
    let p = pigeons xs (names_of cs) d (λ x i. let k = h x (in_contains xs x i) in declared_in cs x k.0 k.1) in
    omega (arith, p, length-names_of cs)

-- ---- a chain while it grows

pub start : (cs : List ClassDecl) (at : ClassDecl) → decl cs at.name ≡ Some at → Climbs cs at.name [] at
start cs at e = record {
  here = e;
  fresh = λ h. nowhere _ h;
  distinct = tt;
  all_declared = λ x h. absurd (nowhere x h);
  first = λ rest. (rest, refl);
  linked = λ whole rest end l. l;
}

pub ends : (cs : List ClassDecl) (c : Name) (names : List Name) (at : ClassDecl) (end : EndOf) → Climbs cs c names at → Ends cs (names ++ at.name ∷ []) at.name end → IsChain cs c (names ++ at.name ∷ []) end
ends cs c names at end climbs e =
    let f = climbs.first [] in
    record { rest = f.0; first = f.1; links = climbs.linked (names ++ at.name ∷ []) [] end e; distinct = distinct_push names at.name climbs.distinct climbs.fresh }

pub climbs_on : (cs : List ClassDecl) (c : Name) (names : List Name) (at next : ClassDecl) (u : Name) → Climbs cs c names at → at.superclass ≡ Some u → (Contains (names ++ at.name ∷ []) u → ⊥) → decl cs u ≡ Some next → Climbs cs c (names ++ at.name ∷ []) next
climbs_on cs c names at next u climbs super fresh e =
    let name = decl_name cs u next e in
    record {
      here = ap (decl cs) name ∙ e;
      fresh = λ h. fresh (rw name at h);
      distinct = distinct_push names at.name climbs.distinct climbs.fresh;
      all_declared = λ x h. elim (Contains-push_cases names at.name x h) [ inl a ↦ climbs.all_declared x a | inr s ↦ (at, rw (← s) climbs.here) ];
      first = λ rest. rw append_assoc (climbs.first (next.name ∷ rest));
      linked = λ whole rest end l. rw append_assoc (climbs.linked whole (next.name ∷ rest) end ((at, climbs.here, rw name super), l));
    }

pub bounded : (cs : List ClassDecl) (c : Name) (names : List Name) (at : ClassDecl) → Climbs cs c names at → length names < length cs
bounded cs c names at climbs =
    let all = names ++ at.name ∷ [] in
    let more = no_more cs all (distinct_push names at.name climbs.distinct climbs.fresh)
    (λ x h. elim (Contains-push_cases names at.name x h) [ inl a ↦ climbs.all_declared x a | inr s ↦ (at, rw (← s) climbs.here) ]) in
    omega (arith, more, length-append names (at.name ∷ []))

-- ---- there is a chain

abbrev IsChainOf : List ClassDecl → Name → Chain → Type 0
IsChainOf cs c chain = IsChain cs c chain.0 chain.1

on_is_chain : (cs : List ClassDecl) (c : Name) (names : List Name) (at : ClassDecl) (on : List Name → ClassDecl → Chain) → Climbs cs c names at
    → ((next : ClassDecl) → Climbs cs c (names ++ at.name ∷ []) next → IsChainOf cs c (on (names ++ at.name ∷ []) next))
    → (o : Option Name) → at.superclass ≡ o → IsChainOf cs c (on_by cs on (names ++ at.name ∷ []) o)
on_is_chain cs c names at on climbs more None e = ends cs c names at Top climbs (at, climbs.here, e)
on_is_chain cs c names at on climbs more (Some u) e = by_test (is_in (names ++ at.name ∷ []) u) refl
  where
    by_decl : (o : Option ClassDecl) → decl cs u ≡ o → is_in (names ++ at.name ∷ []) u ≡ false → IsChainOf cs c (on_from on (names ++ at.name ∷ []) u o)
    by_decl None d t = ends cs c names at (Undeclared u) climbs ((at, climbs.here, e), d)
    by_decl (Some next) d t = more next (climbs_on cs c names at next u climbs e (not_listed _ u t) d)

    by_test : (b : Bool) → is_in (names ++ at.name ∷ []) u ≡ b → IsChainOf cs c (cond b (names ++ at.name ∷ [], Repeated u) (on_from on (names ++ at.name ∷ []) u (decl cs u)))
    by_test true t = ends cs c names at (Repeated u) climbs ((at, climbs.here, e), is_listed _ u t)
    by_test false t = by_decl (decl cs u) refl t

from_is_chain : (cs : List ClassDecl) (c : Name) (gas : ℕ) (names : List Name) (at : ClassDecl) → Climbs cs c names at → length cs ≤ gas + length names → IsChainOf cs c (chain_from cs gas names at)
unfolding chain_from
from_is_chain cs c zero names at climbs le = let b = bounded cs c names at climbs in absurd (omega arith)
from_is_chain cs c (suc gas) names at climbs le =
    on_is_chain cs c names at (chain_from cs gas) climbs
    (λ next up. from_is_chain cs c gas (names ++ at.name ∷ []) next up (omega (arith, le, length-append names (at.name ∷ []))))
    at.superclass refl

-- ---- and only one

pub links_declared : (cs : List ClassDecl) (whole : List Name) (x : Name) (rest : List Name) (end : EndOf) → Links cs whole (x ∷ rest) end → (k : ClassDecl) × (decl cs x ≡ Some k)
links_declared cs whole x [] Top l = (l.0, l.1)
links_declared cs whole x [] (Undeclared u) l = (l.0.0, l.0.1)
links_declared cs whole x [] (Repeated u) l = (l.0.0, l.0.1)
links_declared cs whole x (d ∷ rest) end l = (l.0.0, l.0.1)

pub all_declared : (cs : List ClassDecl) (whole : List Name) (xs : List Name) (end : EndOf) → Links cs whole xs end → (x : Name) → In x xs → (k : ClassDecl) × (decl cs x ≡ Some k)
all_declared cs whole [] end l x h = absurd h
all_declared cs whole (c ∷ []) end l x (inl e) = rw (← e) (links_declared cs whole c [] end l)
all_declared cs whole (c ∷ []) end l x (inr h) = absurd h
all_declared cs whole (c ∷ d ∷ rest) end l x (inl e) = rw (← e) (links_declared cs whole c (d ∷ rest) end l)
all_declared cs whole (c ∷ d ∷ rest) end l x (inr h) = all_declared cs whole (d ∷ rest) end l.1 x h

one_chain : (cs : List ClassDecl) (rest : List Name) (whole names : List Name) (at : ClassDecl) (end : EndOf) (gas : ℕ) → decl cs at.name ≡ Some at → whole ≡ names ++ (at.name ∷ rest)
    → AreDistinct whole → ((x : Name) → Contains whole x → (k : ClassDecl) × (decl cs x ≡ Some k)) → Links cs whole (at.name ∷ rest) end → length rest < gas → chain_from cs gas names at ≡ (whole, end)
unfolding chain_from
one_chain cs rest whole names at end zero here is d all l lt = absurd (omega arith)
one_chain cs [] whole names at Top (suc gas) here is d all l lt =
    let k : l.0 ≡ at = cc in
    let s : at.superclass ≡ None = ap (λ (j : ClassDecl). j.superclass) (sym k) ∙ l.2 in
    rw (s, is) refl
one_chain cs [] whole names at (Undeclared u) (suc gas) here is d all l lt =
    let k : l.0.0 ≡ at = cc in
    let s : at.superclass ≡ Some u = ap (λ (j : ClassDecl). j.superclass) (sym k) ∙ l.0.2 in
    let n : is_in (names ++ at.name ∷ []) u ≡ false = not_in _ u (λ h. let j = all u (rw is h) in let e : Some j.0 ≡ None = sym j.1 ∙ l.1 in absurd cc) in
    let none = l.1 in
    rw (s, n, none, is) refl
one_chain cs [] whole names at (Repeated u) (suc gas) here is d all l lt =
    let k : l.0.0 ≡ at = cc in
    let s : at.superclass ≡ Some u = ap (λ (j : ClassDecl). j.superclass) (sym k) ∙ l.0.2 in
    let y : is_in (names ++ at.name ∷ []) u ≡ true = listed_is _ u (rw (← is) l.1) in
    rw (s, y, is) refl
one_chain cs (u ∷ rest) whole names at end (suc gas) here is d all l lt =
    let k : l.0.0 ≡ at = cc in
    let s : at.superclass ≡ Some u = ap (λ (j : ClassDecl). j.superclass) (sym k) ∙ l.0.2 in
    let j = links_declared cs whole u rest end l.1 in
    let name = decl_name cs u j.0 j.1 in
    let split : whole ≡ (names ++ at.name ∷ []) ++ (u ∷ rest) = is ∙ sym (append_assoc names (at.name ∷ []) (u ∷ rest)) in
    let n : is_in (names ++ at.name ∷ []) u ≡ false = not_in _ u (fresh_behind _ u rest (rw split at d)) in
    let found = j.1 in
    let split' : whole ≡ (names ++ at.name ∷ []) ++ (j.0.name ∷ rest) = split ∙ ap (λ (n : Name). (names ++ at.name ∷ []) ++ (n ∷ rest)) (sym name) in
    rw (s, n, found) (one_chain cs rest whole (names ++ at.name ∷ []) j.0 end gas (ap (decl cs) name ∙ j.1) split' d all (subst (λ (n : Name). Links cs whole (n ∷ rest) end) (sym name) l.1) (omega arith))

-- ---- the function gives the chain

pub chain_of_is : (cs : List ClassDecl) (c : Name) (chain : List Name) (end : EndOf) → IsChain cs c chain end → chain_of cs c ≡ Some (chain, end)
unfolding chain_of
chain_of_is cs c chain end is =
    let l = rw is.first at is.links in
    let j = links_declared cs (c ∷ is.rest) c is.rest end l in
    let all : (x : Name) → Contains chain x → (k : ClassDecl) × (decl cs x ≡ Some k) = λ x h. all_declared cs chain chain end is.links x (contains_in chain x h) in
    let few = no_more cs chain is.distinct all in
    let name = decl_name cs c j.0 j.1 in
    let found = j.1 in
    let first : chain ≡ j.0.name ∷ is.rest = is.first ∙ ap (λ (n : Name). n ∷ is.rest) (sym name) in
    rw found (ap (λ (p : Chain). Some p) (one_chain cs is.rest chain [] j.0 end (length cs) (ap (decl cs) name ∙ j.1) first is.distinct all (subst (λ (xs : List Name). Links cs chain xs end) first is.links) (omega (arith, few, ap length is.first))))

pub is_chain_of : (cs : List ClassDecl) (c : Name) (chain : List Name) (end : EndOf) → chain_of cs c ≡ Some (chain, end) → IsChain cs c chain end
unfolding chain_of
is_chain_of cs c chain end e = go (decl cs c) refl e
  where
    go : (o : Option ClassDecl) → decl cs c ≡ o → option_and_then (λ k. Some (chain_from cs (length cs) [] k)) o ≡ Some (chain, end) → IsChain cs c chain end
    go None d e = absurd cc
    go (Some k) d e =
        let name = decl_name cs c k d in
        let p : chain_from cs (length cs) [] k ≡ (chain, end) = cc in
        let is = from_is_chain cs c (length cs) [] k (subst (λ (n : Name). Climbs cs n [] k) name (start cs k (ap (decl cs) name ∙ d))) (omega arith) in
        subst (IsChainOf cs c) p is

pub has_chain : (cs : List ClassDecl) (c : Name) (k : ClassDecl) → decl cs c ≡ Some k → (chain : List Name) × (end : EndOf) × IsChain cs c chain end
unfolding chain_of
has_chain cs c k e =
    let chain = chain_from cs (length cs) [] k in
    let given : chain_of cs c ≡ Some (chain.0, chain.1) = rw e refl in
    (chain.0, chain.1, is_chain_of cs c chain.0 chain.1 given)

pub has_none : (cs : List ClassDecl) (c : Name) → decl cs c ≡ None → chain_of cs c ≡ None
unfolding chain_of
has_none cs c e = rw e refl
