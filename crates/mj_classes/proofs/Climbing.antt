-- Walks up the chain of a class by places.
use Rattle.std.proofs.Common.{◌≡◌, ℕ, zero, suc, ◌+◌, ◌<◌, ◌≤◌, List, [], ◌∷◌, ◌++◌, length, take, filter, Option, Some, None, refl, sym, ap, ◌∙◌, subst, arith, inl, inr}
use Rattle.std.specs.Prelude.{Contains, option_map, option_and_then, slice_get}
use Rattle.std.specs.List.{filter_map}
use Rattle.std.proofs.lemmas.Bool.{cases_lt}
use Rattle.std.proofs.lemmas.List.{take_all, take_more, length-map}
use Rattle.std.proofs.lemmas.List.Elements.{filter-append, filter_map-append}
use Rattle.std.proofs.lemmas.Option.{none-some, same_Some, slice_get_within, slice_get-get_or, get_or_from_slice_get}
use Rattle.mj_tree.specs.Trees.{Name}
use Rattle.mj_members.specs.Declarations.{ClassDecl, has_members}
use Rattle.mj_classes.specs.Declarations.{decl, place, superclass_places}
use Rattle.mj_classes.specs.Chains.{EndOf, Top, Undeclared, Repeated, Ends, Links, Extends, AreDistinct, IsChain, Chain}
use Rattle.mj_classes.specs.Walks.{IsChainOf, straight_end, StandsAt, IsRing, declaring}
use Rattle.mj_classes.proofs.Distinct.{contains_in}
use Rattle.mj_classes.proofs.Climb.{decl_name, chain_of_is, all_declared, no_more}
use Rattle.mj_classes.proofs.Nearest.{ancestry_of_chain}
use Rattle.mj_classes.proofs.Places.{place_class, place_none, step_place}
use Rattle.mj_tree.proofs.Positions.{at_some}

-- ---- places of names

pub same_place : (cs : List ClassDecl) (c d : Name) (at : ℕ) → place cs c ≡ Some at → place cs d ≡ Some at → c ≡ d
same_place cs c d at e f =
    let k = place_class cs c at e in
    let j = place_class cs d at f in
    let same : k.0 ≡ j.0 = same_Some k.0 j.0 (sym k.1 ∙ j.1) in
    sym (decl_name cs c k.0 k.2) ∙ (ap (λ (m : ClassDecl). m.name) same ∙ decl_name cs d j.0 j.2)

-- what stands above a place is what its class extends
up_place : (cs : List ClassDecl) (x : Name) (at : ℕ) (o : Option Name) (p : Option ℕ) → place cs x ≡ Some at → Extends cs x o → slice_get (superclass_places cs) at ≡ Some p → option_and_then (place cs) o ≡ p
up_place cs x at o p e extends f =
    let k = place_class cs x at e in
    let same : extends.0 ≡ k.0 = same_Some extends.0 k.0 (sym extends.1 ∙ k.2) in
    let super : o ≡ k.0.superclass = sym extends.2 ∙ ap (λ (m : ClassDecl). m.superclass) same in
    ap (option_and_then (place cs)) super ∙ step_place cs at k.0 p k.1 f

pub not_both : (cs : List ClassDecl) (u : Name) (k : ClassDecl) → decl cs u ≡ Some k → place cs u ≡ None → ⊥
not_both cs u k e f = none-some k (sym (place_none cs u f) ∙ e)

-- ---- lists of names by numbers

pub contains_at : (xs : List Name) (n : ℕ) (x : Name) → slice_get xs n ≡ Some x → Contains xs x
contains_at xs n x e = (n, slice_get_within xs n x e, get_or_from_slice_get xs n x x e)

number_of : (xs : List Name) (x : Name) → Contains xs x → (n : ℕ) × (slice_get xs n ≡ Some x)
number_of xs x h = (h.0, slice_get-get_or xs h.0 x h.1 ∙ ap (λ (y : Name). Some y) h.2)

distinct_at : (xs : List Name) → AreDistinct xs → (n m : ℕ) (x : Name) → slice_get xs n ≡ Some x → slice_get xs m ≡ Some x → n ≡ m
distinct_at [] d n m x e f = absurd (none-some x e)
distinct_at (c ∷ cs) d zero zero x e f = refl
distinct_at (c ∷ cs) d zero (suc m) x e f = absurd (d.0 (subst (Contains cs) (sym (same_Some c x e)) (contains_at cs m x f)))
distinct_at (c ∷ cs) d (suc n) zero x e f = absurd (d.0 (subst (Contains cs) (sym (same_Some c x f)) (contains_at cs n x e)))
distinct_at (c ∷ cs) d (suc n) (suc m) x e f = ap suc (distinct_at cs d.1 n m x e f)

link_at : (cs : List ClassDecl) (whole xs : List Name) (end : EndOf) → Links cs whole xs end → (n : ℕ) (x y : Name) → slice_get xs n ≡ Some x → slice_get xs (suc n) ≡ Some y → Extends cs x (Some y)
link_at cs whole [] end l n x y e f = absurd (none-some x e)
link_at cs whole (c ∷ []) end l n x y e f = absurd (none-some y f)
link_at cs whole (c ∷ d ∷ rest) end l zero x y e f =
    subst (λ (v : Name). Extends cs v (Some y)) (same_Some c x e) (subst (λ (v : Name). Extends cs c (Some v)) (same_Some d y f) l.0)
link_at cs whole (c ∷ d ∷ rest) end l (suc n) x y e f = link_at cs whole (d ∷ rest) end l.1 n x y e f

last_at : (cs : List ClassDecl) (whole xs : List Name) (end : EndOf) → Links cs whole xs end → (n : ℕ) (x : Name) → slice_get xs n ≡ Some x → suc n ≡ length xs → Ends cs whole x end
last_at cs whole [] end l n x e f = absurd (none-some x e)
last_at cs whole (c ∷ []) end l zero x e f = subst (λ (v : Name). Ends cs whole v end) (same_Some c x e) l
last_at cs whole (c ∷ []) end l (suc n) x e f = absurd (none-some x e)
last_at cs whole (c ∷ d ∷ rest) end l zero x e f = absurd (omega arith)
last_at cs whole (c ∷ d ∷ rest) end l (suc n) x e f = last_at cs whole (d ∷ rest) end l.1 n x e (omega arith)

-- ---- steps up a chain

-- the class at a place
pub class_of : (cs : List ClassDecl) (chain : List Name) (n at : ℕ) → StandsAt cs chain n at → (k : ClassDecl) × (slice_get cs at ≡ Some k)
class_of cs chain n at s = let k = place_class cs s.0 at s.2 in (k.0, k.1)

pub has_class : (cs : List ClassDecl) (chain : List Name) (n at : ℕ) → StandsAt cs chain n at → at < length cs
has_class cs chain n at s = let k = class_of cs chain n at s in slice_get_within cs at k.0 k.1

module _ (cs : List ClassDecl) (c : Name) (chain : List Name) (end : EndOf) (is : IsChain cs c chain end) where
  pub few : length chain ≤ length cs
  few = no_more cs chain is.distinct (λ x h. all_declared cs chain chain end is.links x (contains_in chain x h))

  -- to the next class
  pub step_on : (n at next : ℕ) → StandsAt cs chain n at → slice_get (superclass_places cs) at ≡ Some (Some next) → suc n < length chain → StandsAt cs chain (suc n) next
  step_on n at next s up lt =
      let y = at_some chain (suc n) lt in
      (y.0, y.1, up_place cs s.0 at (Some y.0) (Some next) s.2 (link_at cs chain chain end is.links n s.0 y.0 s.1 y.1) up)

  -- the number of a place
  pub same_number : (n m at : ℕ) → StandsAt cs chain n at → StandsAt cs chain m at → n ≡ m
  same_number n m at s t =
      distinct_at chain is.distinct n m s.0 s.1 (t.1 ∙ ap (λ (y : Name). Some y) (same_place cs t.0 s.0 at t.2 s.2))

  pub within : (n at : ℕ) → StandsAt cs chain n at → n < length chain
  within n at s = slice_get_within chain n s.0 s.1

  -- the first class
  pub at_first : (first : ℕ) → place cs c ≡ Some first → StandsAt cs chain 0 first
  at_first first e = (c, ap (λ (xs : List Name). slice_get xs 0) is.first, e)

  -- nothing stands above
  pub at_top : (n at : ℕ) (k : ClassDecl) → StandsAt cs chain n at → slice_get (superclass_places cs) at ≡ Some None → slice_get cs at ≡ Some k → (suc n ≡ length chain) × (end ≡ straight_end k.superclass)
  at_top n at k s up here = (last, by end refl (last_at cs chain chain end is.links n s.0 s.1 last))
    where
      last : suc n ≡ length chain
      last = elim (cases_lt (suc n) (length chain)) [
        | inl lt ↦
            let y = at_some chain (suc n) lt in
            let extends = link_at cs chain chain end is.links n s.0 y.0 s.1 y.1 in
            let j = all_declared cs chain chain end is.links y.0 (contains_in chain y.0 (contains_at chain (suc n) y.0 y.1)) in
            absurd (not_both cs y.0 j.0 j.1 (up_place cs s.0 at (Some y.0) None s.2 extends up))
        | inr ge ↦ let lt = within n at s in omega arith
      ]

      super : (o : Option Name) → Extends cs s.0 o → k.superclass ≡ o
      super o extends =
          let m = place_class cs s.0 at s.2 in
          let first : k ≡ m.0 = same_Some k m.0 (sym here ∙ m.1) in
          let same : m.0 ≡ extends.0 = same_Some m.0 extends.0 (sym m.2 ∙ extends.1) in
          ap (λ (d : ClassDecl). d.superclass) (first ∙ same) ∙ extends.2

      by : (ending : EndOf) → end ≡ ending → Ends cs chain s.0 ending → ending ≡ straight_end k.superclass
      by Top e h = sym (ap straight_end (super None h))
      by (Undeclared u) e h = sym (ap straight_end (super (Some u) h.0))
      by (Repeated u) e h =
          let j = all_declared cs chain chain end is.links u (contains_in chain u h.1) in
          absurd (not_both cs u j.0 j.1 (up_place cs s.0 at (Some u) None s.2 h.0 up))

  -- what stands above the last class is met again
  pub last_back : (n at next : ℕ) → StandsAt cs chain n at → slice_get (superclass_places cs) at ≡ Some (Some next) → suc n ≡ length chain
      → (entry : ℕ) × IsRing cs c chain entry × StandsAt cs chain entry next
  last_back n at next s up last = by end refl (last_at cs chain chain end is.links n s.0 s.1 last)
    where
      by : (ending : EndOf) → end ≡ ending → Ends cs chain s.0 ending → (entry : ℕ) × IsRing cs c chain entry × StandsAt cs chain entry next
      by Top e h = absurd (none-some next (up_place cs s.0 at None (Some next) s.2 h up))
      by (Undeclared u) e h =
          let j = place_class cs u next (up_place cs s.0 at (Some u) (Some next) s.2 h.0 up) in
          absurd (none-some j.0 (sym h.1 ∙ j.2))
      by (Repeated u) e h =
          let number = number_of chain u h.1 in (
            number.0,
            record { again = u; is_chain = subst (λ (ending : EndOf). IsChain cs c chain ending) e is; entered = number.1 },
            (u, number.1, up_place cs s.0 at (Some u) (Some next) s.2 h.0 up),
          )

-- ---- the classes that were passed

add_one : (n : ℕ) → suc n ≡ n + 1
add_one n = omega arith

pub declaring_more : (cs : List ClassDecl) (chain : List Name) (n at : ℕ) (k : ClassDecl) → StandsAt cs chain n at → slice_get cs at ≡ Some k → declaring cs chain (suc n) ≡ declaring cs chain n ++ filter has_members (k ∷ [])
declaring_more cs chain n at k s here =
    let m = place_class cs s.0 at s.2 in
    let found : decl cs s.0 ≡ Some k = m.2 ∙ (sym m.1 ∙ here) in
    let one : filter_map (decl cs) (s.0 ∷ []) ≡ k ∷ [] = rw found refl in
    let more : take (suc n) chain ≡ take n chain ++ s.0 ∷ [] =
    ap (λ (m : ℕ). take m chain) (add_one n) ∙ take_more chain n s.0 (slice_get_within chain n s.0 s.1) ∙ ap (λ (y : Name). take n chain ++ y ∷ []) (get_or_from_slice_get chain n s.0 s.0 s.1) in
    ap (λ (xs : List Name). filter has_members (filter_map (decl cs) xs)) more
    ∙ (ap (filter has_members) (filter_map-append (decl cs) (take n chain) (s.0 ∷ []) ∙ ap (λ (ks : List ClassDecl). filter_map (decl cs) (take n chain) ++ ks) one)
    ∙ filter-append has_members (filter_map (decl cs) (take n chain)) (k ∷ []))

pub whole_chain : (cs : List ClassDecl) (c : Name) (chain : List Name) (end : EndOf) (classes : List ClassDecl) (n : ℕ) → IsChain cs c chain end → n ≡ length chain → classes ≡ declaring cs chain n → IsChainOf cs c classes end
whole_chain cs c chain end classes n is all e = (
  ap (option_map (λ (p : Chain). p.1)) (chain_of_is cs c chain end is),
  e ∙ (ap (λ (xs : List Name). filter has_members (filter_map (decl cs) xs)) (take_all n chain (omega arith)) ∙ ap (filter has_members) (sym (ancestry_of_chain cs c chain end is))),
)

-- ---- rings

not_straight : (u : Name) (o : Option Name) → Repeated u ≡ straight_end o → ⊥
not_straight u None e = absurd cc
not_straight u (Some v) e = absurd cc

-- a class of a chain that comes back extends a declared one
pub goes_up : (cs : List ClassDecl) (c : Name) (chain : List Name) (entry n at : ℕ) → IsRing cs c chain entry → StandsAt cs chain n at → (next : ℕ) × (slice_get (superclass_places cs) at ≡ Some (Some next))
goes_up cs c chain entry n at ring s =
    let k = place_class cs s.0 at s.2 in
    let length_is = length-map cs (λ (d : ClassDecl). option_and_then (place cs) d.superclass) in
    let lt = slice_get_within cs at k.0 k.1 in
    let o = at_some (superclass_places cs) at (omega arith) in
    by k.0 k.1 o.0 o.1
  where
    by : (k : ClassDecl) → slice_get cs at ≡ Some k → (o : Option ℕ) → slice_get (superclass_places cs) at ≡ Some o → (next : ℕ) × (slice_get (superclass_places cs) at ≡ Some (Some next))
    by k here None up = absurd (not_straight ring.again k.superclass (at_top cs c chain (Repeated ring.again) ring.is_chain n at k s up here).1)
    by k here (Some next) up = (next, up)

-- from the last class into the ring again
pub step_round : (cs : List ClassDecl) (c : Name) (chain : List Name) (entry n at next : ℕ) → IsRing cs c chain entry → StandsAt cs chain n at → slice_get (superclass_places cs) at ≡ Some (Some next)
    → suc n ≡ length chain → StandsAt cs chain entry next
step_round cs c chain entry n at next ring s up last =
    (ring.again, ring.entered, up_place cs s.0 at (Some ring.again) (Some next) s.2 (last_at cs chain chain (Repeated ring.again) ring.is_chain.links n s.0 s.1 last).0 up)
