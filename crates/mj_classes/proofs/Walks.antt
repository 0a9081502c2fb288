-- Walks up the superclasses, which find what stands in a chain.
use Rattle.std.proofs.Common.{◌≡◌, ℕ, zero, suc, ◌+◌, ◌-◌, ◌<◌, ◌≤◌, Bool, true, false, List, [], ◌∷◌, length, Option, Some, None, refl, sym, ap, ◌∙◌, subst, arith, ◌⊎◌, inl, inr, cond}
use Rattle.std.specs.Prelude.{find, option_and_then, is_some, ◌||◌, map, if◌then◌else◌, slice_get}
use Rattle.std.specs.Str.{bytes_eq}
use Rattle.std.specs.List.{filter_map, cons_option}
use Rattle.mj_tree.specs.Trees.{Name}
use Rattle.std.proofs.lemmas.Option.{same_Some}
use Rattle.mj_members.specs.Declarations.{ClassDecl}
use Rattle.mj_classes.specs.Declarations.{decl, place, superclass_places}
use Rattle.mj_classes.specs.Chains.{EndOf, Links, IsChain, is_in, chain_names, chain_of, ancestry}
use Rattle.mj_classes.proofs.Distinct.{In}
use Rattle.mj_classes.proofs.Climb.{decl_name, all_declared, links_declared, no_more, has_chain}
use Rattle.mj_classes.proofs.Distinct.{contains_in}
use Rattle.mj_classes.proofs.Closed.{closed}
use Rattle.mj_classes.proofs.Places.{above, place_class, step_up, step_above, none_above}
use Rattle.mj_classes.proofs.Nearest.{ancestry_of_chain, ancestry_names}

-- the first class that passes the test, of so many from this one up
abbrev pub up : List ClassDecl → (ClassDecl → Bool) → ℕ → ClassDecl → Option ClassDecl
up cs p zero k = None
up cs p (suc n) k = if p k then Some k else option_and_then (up cs p n) (above cs k)

-- ---- such a walk finds what stands in the chain

abbrev along : List ClassDecl → (ClassDecl → Bool) → List Name → Option ClassDecl
along cs p xs = find p (filter_map (decl cs) xs)

cond_on : {A : Type 0} (b : Bool) (x y : A) (f g : Option A) → cond b (Some x) f ≡ Some y → (f ≡ Some y → g ≡ Some y) → cond b (Some x) g ≡ Some y
cond_on true x y f g e on = e
cond_on false x y f g e on = on e

met : (cs : List ClassDecl) (p : ClassDecl → Bool) (whole : List Name) (c : Name) (rest : List Name) (end : EndOf) (k j : ClassDecl) (n : ℕ)
    → Links cs whole (c ∷ rest) end → decl cs c ≡ Some k → length rest < n → along cs p (c ∷ rest) ≡ Some j → up cs p n k ≡ Some j
met cs p whole c rest end k j zero l e lt f = absurd (omega arith)
met cs p whole c [] end k j (suc n) l e lt f = cond_on (p k) k j None (option_and_then (up cs p n) (above cs k)) (rw e at f) (λ g. absurd cc)
met cs p whole c (d ∷ rest) end k j (suc n) l e lt f =
    let next = links_declared cs whole d rest end l.1 in
    let same : l.0.0 ≡ k = cc in
    let super : k.superclass ≡ Some d = ap (λ (m : ClassDecl). m.superclass) (sym same) ∙ l.0.2 in
    let found = next.1 in
    cond_on (p k) k j (along cs p (d ∷ rest)) (option_and_then (up cs p n) (above cs k)) (rw e at f)
    (λ g. rw (super, found) (met cs p whole d rest end next.0 j n l.1 next.1 (omega arith) g))

-- a class of these fails if none is found
fails_first : (p : ClassDecl → Bool) (m : ClassDecl) (f : Option ClassDecl) → cond (p m) (Some m) f ≡ None → (p m ≡ false) × (f ≡ None)
fails_first p m f e = by (p m) refl e
  where
    by : (b : Bool) → p m ≡ b → cond b (Some m) f ≡ None → (p m ≡ false) × (f ≡ None)
    by true t e = absurd cc
    by false t e = (t, e)

fails_by : (cs : List ClassDecl) (p : ClassDecl → Bool) (y : Name) (ys : List Name) (x : Name) (k : ClassDecl) → decl cs x ≡ Some k
    → (In x ys → along cs p ys ≡ None → p k ≡ false) → (o : Option ClassDecl) → decl cs y ≡ o → find p (cons_option o (filter_map (decl cs) ys)) ≡ None → In x (y ∷ ys) → p k ≡ false
fails_by cs p y ys x k e rest None d f (inl same) = let no : Some k ≡ None = sym e ∙ (ap (decl cs) (sym same) ∙ d) in absurd cc
fails_by cs p y ys x k e rest None d f (inr i) = rest i f
fails_by cs p y ys x k e rest (Some m) d f (inl same) =
    let it : m ≡ k = let s : Some m ≡ Some k = sym d ∙ (ap (decl cs) same ∙ e) in cc in
    ap p (sym it) ∙ (fails_first p m (along cs p ys) f).0
fails_by cs p y ys x k e rest (Some m) d f (inr i) = rest i (fails_first p m (along cs p ys) f).1

fails : (cs : List ClassDecl) (p : ClassDecl → Bool) (xs : List Name) → along cs p xs ≡ None → (x : Name) (k : ClassDecl) → In x xs → decl cs x ≡ Some k → p k ≡ false
fails cs p [] f x k h e = absurd h
fails cs p (y ∷ ys) f x k h e = fails_by cs p y ys x k e (λ i g. fails cs p ys g x k i e) (decl cs y) refl f h

-- a walk stays among these classes, and finds none of them
missed_by : (cs : List ClassDecl) (p : ClassDecl → Bool) (n : ℕ) (k : ClassDecl) → ((u : Name) (j : ClassDecl) → k.superclass ≡ Some u → decl cs u ≡ Some j → up cs p n j ≡ None)
    → option_and_then (up cs p n) (above cs k) ≡ None
missed_by cs p n k rest = by k.superclass refl
  where
    by_decl : (u : Name) → k.superclass ≡ Some u → (o : Option ClassDecl) → decl cs u ≡ o → option_and_then (up cs p n) o ≡ None
    by_decl u s None d = refl
    by_decl u s (Some j) d = rest u j s d

    by : (o : Option Name) → k.superclass ≡ o → option_and_then (up cs p n) (option_and_then (decl cs) o) ≡ None
    by None s = refl
    by (Some u) s = by_decl u s (decl cs u) refl

missed : (cs : List ClassDecl) (p : ClassDecl → Bool) (whole : List Name) (end : EndOf) → Links cs whole whole end → along cs p whole ≡ None
    → (n : ℕ) (x : Name) (k : ClassDecl) → In x whole → decl cs x ≡ Some k → up cs p n k ≡ None
missed cs p whole end l f zero x k i e = refl
missed cs p whole end l f (suc n) x k i e =
    let no = fails cs p whole f x k i e in
    rw no (missed_by cs p n k (λ u j s d. missed cs p whole end l f n u j (closed cs whole whole end l (λ z w. w) x u j i (k, e, s) d) d))

-- as many steps as there are classes are enough
pub walk_finds : (cs : List ClassDecl) (p : ClassDecl → Bool) (c : Name) (k : ClassDecl) → decl cs c ≡ Some k → find p (ancestry cs c) ≡ up cs p (length cs) k
walk_finds cs p c k e = ap (find p) (ancestry_of_chain cs c chain end is) ∙ by (along cs p chain) refl
  where
    has : (chain : List Name) × (end : EndOf) × IsChain cs c chain end
    has = has_chain cs c k e

    chain : List Name
    chain = has.0

    end : EndOf
    end = has.1

    is : IsChain cs c chain end
    is = has.2

    all : (x : Name) → In x chain → (j : ClassDecl) × (decl cs x ≡ Some j)
    all x i = all_declared cs chain chain end is.links x i

    few : length chain ≤ length cs
    few = no_more cs chain is.distinct (λ x h. all x (contains_in chain x h))

    at_start : In c chain
    at_start = subst (In c) (sym is.first) (inl refl)

    by : (o : Option ClassDecl) → along cs p chain ≡ o → along cs p chain ≡ up cs p (length cs) k
    by None f = f ∙ sym (missed cs p chain end is.links f (length cs) c k at_start e)
    by (Some j) f =
        let first = is.first in
        let links : Links cs chain (c ∷ is.rest) end = subst (λ (xs : List Name). Links cs chain xs end) first is.links in
        let found : along cs p (c ∷ is.rest) ≡ Some j = subst (λ (xs : List Name). along cs p xs ≡ Some j) first f in
        f ∙ sym (met cs p chain c is.rest end k j (length cs) links e (omega (arith, few, ap length first)) found)

-- ---- a walk that comes back

-- a walk that found something finds the same with more steps
cond_later : {A : Type 0} (b : Bool) (x y : A) (f g : Option A) → (f ≡ Some y → g ≡ Some y) → cond b (Some x) f ≡ Some y → cond b (Some x) g ≡ Some y
cond_later b x y f g on e = cond_on b x y f g e on

then_later : (f g : ClassDecl → Option ClassDecl) (j : ClassDecl) (o : Option ClassDecl) → ((n : ClassDecl) → f n ≡ Some j → g n ≡ Some j) → option_and_then f o ≡ Some j → option_and_then g o ≡ Some j
then_later f g j None on e = absurd cc
then_later f g j (Some n) on e = on n e

farther : (cs : List ClassDecl) (p : ClassDecl → Bool) (m i : ℕ) (k j : ClassDecl) → up cs p m k ≡ Some j → up cs p (m + i) k ≡ Some j
farther cs p zero i k j e = absurd cc
farther cs p (suc m) i k j e =
    let add : suc m + i ≡ suc (m + i) = omega arith in
    ap (λ (n : ℕ). up cs p n k) add
    ∙ cond_later (p k) k j (option_and_then (up cs p m) (above cs k)) (option_and_then (up cs p (m + i)) (above cs k))
    (λ f. then_later (up cs p m) (up cs p (m + i)) j (above cs k) (λ n g. farther cs p m i n j g) f) e

abbrev rounds : ℕ → ℕ → ℕ
rounds s zero = 0
rounds s (suc r) = s + rounds s r

enough : (s r : ℕ) → 0 < s → r ≤ rounds s r
enough s zero h = omega arith
enough s (suc r) h = let rest = enough s r h in omega arith

none_round : (cs : List ClassDecl) (p : ClassDecl → Bool) (s : ℕ) (k : ClassDecl) → ((m : ℕ) → up cs p (s + m) k ≡ up cs p m k) → (r : ℕ) → up cs p (rounds s r) k ≡ None
none_round cs p s k back zero = refl
none_round cs p s k back (suc r) = back (rounds s r) ∙ none_round cs p s k back r

-- if some steps lead from a class back to it, nothing is found
pub round_trip : (cs : List ClassDecl) (p : ClassDecl → Bool) (s : ℕ) (k : ClassDecl) → 0 < s → ((m : ℕ) → up cs p (s + m) k ≡ up cs p m k) → (m : ℕ) → up cs p m k ≡ None
round_trip cs p s k h back m = by (up cs p m k) refl
  where
    by : (o : Option ClassDecl) → up cs p m k ≡ o → o ≡ None
    by None e = refl
    by (Some j) e =
        let long = enough s m h in
        let sum : m + (rounds s m - m) ≡ rounds s m = omega arith in
        let later = farther cs p m (rounds s m - m) k j e in
        let none = none_round cs p s k back m in
        let no : Some j ≡ None = sym later ∙ (ap (λ (n : ℕ). up cs p n k) sum ∙ none) in
        absurd cc

-- A walk from the class c is at the class k, and has passed another before. What the rest of it finds is what is in the
-- chain, and nothing was found since that class was passed.
pub record Walks (cs : List ClassDecl) (p : ClassDecl → Bool) (c : Name) (left : ℕ) (k passed : ClassDecl) : Type 0 where
  pub rest : find p (ancestry cs c) ≡ up cs p left k
  pub since : (s : ℕ) × ((m : ℕ) → up cs p (s + m) passed ≡ up cs p m k)
  pub here : decl cs k.name ≡ Some k
  pub before : decl cs passed.name ≡ Some passed

pub walk_starts : (cs : List ClassDecl) (p : ClassDecl → Bool) (c : Name) (left : ℕ) (k : ClassDecl) → left ≡ length cs → decl cs c ≡ Some k → Walks cs p c left k k
walk_starts cs p c left k all e =
    let name = decl_name cs c k e in
    let here : decl cs k.name ≡ Some k = ap (decl cs) name ∙ e in
    record { rest = walk_finds cs p c k e ∙ ap (λ (n : ℕ). up cs p n k) (sym all); since = (0, λ m. ap (λ (n : ℕ). up cs p n k) (omega arith)); here = here; before = here }

-- the class at hand may from now on be the one passed
pub walk_marks : (cs : List ClassDecl) (p : ClassDecl → Bool) (c : Name) (left : ℕ) (k passed mark : ClassDecl) → Walks cs p c left k passed → (mark ≡ k) ⊎ (mark ≡ passed) → Walks cs p c left k mark
walk_marks cs p c left k passed mark w (inl e) =
    subst (λ (j : ClassDecl). Walks cs p c left k j) (sym e) (record { rest = w.rest; since = (0, λ m. ap (λ (n : ℕ). up cs p n k) (omega arith)); here = w.here; before = w.here })
walk_marks cs p c left k passed mark w (inr e) = subst (λ (j : ClassDecl). Walks cs p c left k j) (sym e) w

above_declared : (cs : List ClassDecl) (k j : ClassDecl) → above cs k ≡ Some j → decl cs j.name ≡ Some j
above_declared cs k j e = by k.superclass e
  where
    by : (o : Option Name) → option_and_then (decl cs) o ≡ Some j → decl cs j.name ≡ Some j
    by None e = absurd cc
    by (Some u) e = ap (decl cs) (decl_name cs u j e) ∙ e

-- one step up from a class that fails
up_step : (cs : List ClassDecl) (p : ClassDecl → Bool) (k j : ClassDecl) (m : ℕ) → p k ≡ false → above cs k ≡ Some j → up cs p (suc m) k ≡ up cs p m j
up_step cs p k j m fails_here e = rw (fails_here, e) refl

pub walk_on : (cs : List ClassDecl) (p : ClassDecl → Bool) (c : Name) (left more : ℕ) (k passed j : ClassDecl)
    → Walks cs p c left k passed → left ≡ suc more → p k ≡ false → above cs k ≡ Some j → Walks cs p c more j passed
walk_on cs p c left more k passed j w one fails_here e = record {
  rest = w.rest ∙ (ap (λ (n : ℕ). up cs p n k) one ∙ up_step cs p k j more fails_here e);
  since = (suc w.since.0, λ m. let move : suc w.since.0 + m ≡ w.since.0 + suc m = omega arith in ap (λ (n : ℕ). up cs p n passed) move ∙ (w.since.1 (suc m) ∙ up_step cs p k j m fails_here e));
  here = above_declared cs k j e;
  before = w.before;
}

-- a step that leads back to the class that was passed
pub walk_back : (cs : List ClassDecl) (p : ClassDecl → Bool) (c : Name) (left more : ℕ) (k passed j : ClassDecl)
    → Walks cs p c left k passed → left ≡ suc more → p k ≡ false → above cs k ≡ Some j → j.name ≡ passed.name → find p (ancestry cs c) ≡ None
unfolding walk_on
walk_back cs p c left more k passed j w one fails_here e back =
    let on = walk_on cs p c left more k passed j w one fails_here e in
    let same : passed ≡ j = let a = on.here in let b = on.before in cc in
    on.rest ∙ round_trip cs p (suc w.since.0) j (omega arith) (subst (λ (q : ClassDecl). (m : ℕ) → up cs p (suc w.since.0 + m) q ≡ up cs p m j) same on.since.1) more

-- ---- by places

pub record WalksAt (cs : List ClassDecl) (p : ClassDecl → Bool) (c : Name) (left at passed : ℕ) : Type 0 where
  pub class : ClassDecl
  pub here : slice_get cs at ≡ Some class
  pub mark : ClassDecl
  pub before : slice_get cs passed ≡ Some mark
  pub walks : Walks cs p c left class mark

pub at_start : (cs : List ClassDecl) (p : ClassDecl → Bool) (c : Name) (left at : ℕ) → left ≡ length cs → place cs c ≡ Some at → WalksAt cs p c left at at
at_start cs p c left at all e =
    let k = place_class cs c at e in
    record { class = k.0; here = k.1; mark = k.0; before = k.1; walks = walk_starts cs p c left k.0 all k.2 }

pub at_marks : (cs : List ClassDecl) (p : ClassDecl → Bool) (c : Name) (left at passed mark : ℕ) → WalksAt cs p c left at passed → (mark ≡ at) ⊎ (mark ≡ passed) → WalksAt cs p c left at mark
at_marks cs p c left at passed mark w (inl e) =
    record { class = w.class; here = w.here; mark = w.class; before = ap (slice_get cs) e ∙ w.here; walks = walk_marks cs p c left w.class w.mark w.class w.walks (inl refl) }
at_marks cs p c left at passed mark w (inr e) =
    record { class = w.class; here = w.here; mark = w.mark; before = ap (slice_get cs) e ∙ w.before; walks = w.walks }

pub at_on : (cs : List ClassDecl) (p : ClassDecl → Bool) (c : Name) (left more at passed next : ℕ) (k : ClassDecl)
    → WalksAt cs p c left at passed → left ≡ suc more → slice_get cs at ≡ Some k → p k ≡ false → slice_get (superclass_places cs) at ≡ Some (Some next) → WalksAt cs p c more next passed
at_on cs p c left more at passed next k w one here fails_here e =
    let same : w.class ≡ k = same_Some w.class k (sym w.here ∙ here) in
    let step = step_up cs at w.class next w.here e in
    record {
      class = step.class;
      here = step.here;
      mark = w.mark;
      before = w.before;
      walks = walk_on cs p c left more w.class w.mark step.class w.walks one (ap p same ∙ fails_here) (step_above cs w.class next step);
    }

pub at_back : (cs : List ClassDecl) (p : ClassDecl → Bool) (c : Name) (left more at passed next : ℕ) (k : ClassDecl)
    → WalksAt cs p c left at passed → left ≡ suc more → slice_get cs at ≡ Some k → p k ≡ false → slice_get (superclass_places cs) at ≡ Some (Some next) → next ≡ passed → find p (ancestry cs c) ≡ None
at_back cs p c left more at passed next k w one here fails_here e back =
    let same : w.class ≡ k = same_Some w.class k (sym w.here ∙ here) in
    let step = step_up cs at w.class next w.here e in
    let it : step.class ≡ w.mark = same_Some step.class w.mark (sym step.here ∙ (ap (slice_get cs) back ∙ w.before)) in
    walk_back cs p c left more w.class w.mark step.class w.walks one (ap p same ∙ fails_here) (step_above cs w.class next step) (ap (λ (j : ClassDecl). j.name) it)

-- the class at hand is found
pub at_found : (cs : List ClassDecl) (p : ClassDecl → Bool) (c : Name) (left more at passed : ℕ) (k : ClassDecl)
    → WalksAt cs p c left at passed → left ≡ suc more → slice_get cs at ≡ Some k → p k ≡ true → find p (ancestry cs c) ≡ Some k
at_found cs p c left more at passed k w one here found =
    let same : w.class ≡ k = same_Some w.class k (sym w.here ∙ here) in
    w.walks.rest ∙ (ap (λ (n : ℕ). up cs p n w.class) one ∙ (ap (up cs p (suc more)) same ∙ first))
  where
    first : up cs p (suc more) k ≡ Some k
    first = rw found refl

-- no class stands above the one at hand
pub at_top : (cs : List ClassDecl) (p : ClassDecl → Bool) (c : Name) (left more at passed : ℕ) (k : ClassDecl)
    → WalksAt cs p c left at passed → left ≡ suc more → slice_get cs at ≡ Some k → p k ≡ false → slice_get (superclass_places cs) at ≡ Some None → find p (ancestry cs c) ≡ None
at_top cs p c left more at passed k w one here fails_here none =
    let same : w.class ≡ k = same_Some w.class k (sym w.here ∙ here) in
    w.walks.rest ∙ (ap (λ (n : ℕ). up cs p n w.class) one ∙ (ap (up cs p (suc more)) same ∙ top))
  where
    top : up cs p (suc more) k ≡ None
    top = let above_it = none_above cs at k here none in rw (fails_here, above_it) refl

pub at_end : (cs : List ClassDecl) (p : ClassDecl → Bool) (c : Name) (left at passed : ℕ) → WalksAt cs p c left at passed → left ≡ 0 → find p (ancestry cs c) ≡ None
at_end cs p c left at passed w none = w.walks.rest ∙ ap (λ (n : ℕ). up cs p n w.class) none

-- ---- what stands in a chain, by the names

is_some-find : (u : Name) (ks : List ClassDecl) → is_some (find (λ k. bytes_eq k.name u) ks) ≡ is_in (map (λ (k : ClassDecl). k.name) ks) u
is_some-find u [] = refl
is_some-find u (k ∷ ks) = by (bytes_eq k.name u) (is_some-find u ks)
  where
    by : (b : Bool) → is_some (find (λ j. bytes_eq j.name u) ks) ≡ is_in (map (λ (j : ClassDecl). j.name) ks) u → is_some (cond b (Some k) (find (λ j. bytes_eq j.name u) ks)) ≡ (b || is_in (map (λ (j : ClassDecl). j.name) ks) u)
    by true e = refl
    by false e = e

pub stands_above : (cs : List ClassDecl) (t u : Name) → is_some (find (λ k. bytes_eq k.name u) (ancestry cs t)) ≡ is_in (chain_names (chain_of cs t)) u
stands_above cs t u = is_some-find u (ancestry cs t) ∙ ap (λ (ns : List Name). is_in ns u) (ancestry_names cs t)
