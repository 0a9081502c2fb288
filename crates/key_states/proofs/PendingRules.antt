-- Which nodes of a list are claimed or running, as the list grows and changes.
use Rattle.std.proofs.Common.{◌≡◌, ◌==◌, ℕ, zero, suc, ◌<◌, true, false, not, List, [], ◌∷◌, ◌++◌, length, filter, get_or, slice_get, Some, refl, sym, ap, ◌∙◌, subst, arith, ◌↔◌, ◌⊎◌, inl, inr, true≢false}
use Rattle.std.specs.Prelude.{if◌then◌else◌, Contains}
use Rattle.std.specs.List.{AllByRecursion}
use Rattle.std.proofs.lemmas.List.Elements.{Contains-append_left, Contains-append_right}
use Rattle.std.proofs.lemmas.Map.Views.{exact_unsigned_eq}
use Rattle.std.proofs.lemmas.Bool.{eq-eqb}
use Rattle.std.proofs.lemmas.Option.{none-some, same_Some}
use Rattle.item_ids.specs.declared.key.Key.{Key}
use Rattle.item_ids.specs.Inputs.{rank}
use Rattle.item_ids.proofs.Lists.{all_from}
use Rattle.indexmap.specs.Layout.{set_value_at}
use Rattle.graph_rules.specs.Steps.{Status, Unknown, Claimed, Running, Done, IsHeldBy}
use Rattle.graph_rules.proofs.NextRules.{all_at}
use Rattle.key_states.specs.Closing.{IsQuiet}
use Rattle.key_states.specs.Nodes.{Node, status_of, status_in, IsFirstNode, AllAbove}
use Rattle.key_states.specs.declared.nodes.Standing.{Standing}
use Rattle.key_states.specs.declared.nodes.Standing.TheVariants as standing
use Rattle.key_states.specs.Reached.{AllQuiet}
use Rattle.key_states.specs.PendingNodes.{IsPendingAt, ArePending, IsAboveAt}

-- what is held isn't quiet
held_pending : (w : ℕ) (s : Status) → IsHeldBy w s → IsQuiet s → ⊥
held_pending w Unknown held quiet = held
held_pending w (Claimed u) held quiet = quiet
held_pending w (Running u) held quiet = quiet
held_pending w (Done v es m) held quiet = held

all_above : (ns : List Node) (w r : ℕ) → ((i : ℕ) → IsPendingAt ns i → IsAboveAt w r ns i) → AllAbove w r ns
all_above [] w r h = tt
all_above (n ∷ ns) w r h = ((λ held. h zero (held_pending w (status_of n.1) held) held), all_above ns w r (λ i. h (suc i)))

above_at : (ns : List Node) (w r i : ℕ) → AllAbove w r ns → IsAboveAt w r ns i
above_at [] w r i all = tt
above_at (n ∷ ns) w r zero all = all.0
above_at (n ∷ ns) w r (suc i) all = above_at ns w r i all.1

-- it is enough to look at the pending places
pub above_by_pending : (ns : List Node) (places : List ℕ) (w r : ℕ) → ArePending ns places → AllByRecursion (IsAboveAt w r ns) places ↔ AllAbove w r ns
above_by_pending ns places w r pending = (
  (λ at. all_above ns w r (λ i is. all_at (IsAboveAt w r ns) places at i (pending.whole i is))),
  (λ all. all_from (IsAboveAt w r ns) places (λ i _. above_at ns w r i all)),
)

above_is : (ns : List Node) (w r i : ℕ) (n : Node) → slice_get ns i ≡ Some n → IsAboveAt w r ns i ↔ (IsHeldBy w (status_of n.1) → r < rank n.0)
above_is [] w r i n is = absurd (none-some n is)
above_is (m ∷ ns) w r zero n is = subst (λ (x : Node). (IsHeldBy w (status_of m.1) → r < rank m.0) ↔ (IsHeldBy w (status_of x.1) → r < rank x.0)) (same_Some m n is) ((λ h. h), (λ h. h))
above_is (m ∷ ns) w r (suc i) n is = above_is ns w r i n is

-- a node that w doesn't hold
pub above_unheld : (ns : List Node) (w r i : ℕ) (n : Node) → slice_get ns i ≡ Some n → (IsHeldBy w (status_of n.1) → ⊥) → IsAboveAt w r ns i
above_unheld ns w r i n is free = (above_is ns w r i n is).1 (λ held. absurd (free held))

-- a node that w holds
pub above_held_at : (ns : List Node) (w r i : ℕ) (n : Node) → slice_get ns i ≡ Some n → IsHeldBy w (status_of n.1) → IsAboveAt w r ns i ↔ (r < rank n.0)
above_held_at ns w r i n is held =
    let h = above_is ns w r i n is in
    ((λ a. h.0 a held), (λ l. h.1 (λ _. l)))

none_pending : (i : ℕ) → IsPendingAt [] i → Contains [] i
none_pending i is = absurd is

pub pending_none : ArePending [] []
pending_none = record { only = tt; whole = none_pending }

-- ---- the places

below : (ns : List Node) (i : ℕ) → IsPendingAt ns i → i < length ns
below [] i is = absurd is
below (n ∷ ns) zero is = omega arith
below (n ∷ ns) (suc i) is = let l = below ns i is in omega (arith, l)

all_below : (ns : List Node) (places : List ℕ) → AllByRecursion (IsPendingAt ns) places → AllByRecursion (λ i. i < length ns) places
all_below ns [] h = tt
all_below ns (i ∷ is) h = (below ns i h.0, all_below ns is h.1)

pub pending_inside : (ns : List Node) (places : List ℕ) → ArePending ns places → AllByRecursion (λ i. i < length ns) places
pending_inside ns places pending = all_below ns places pending.only

-- if there are none, no node is claimed or running
quiet_unless : (s : Standing) → ((IsQuiet (status_of s) → ⊥) → ⊥) → IsQuiet (status_of s)
quiet_unless (standing.Claimed w) h = h (λ quiet. quiet)
quiet_unless (standing.Running w) h = h (λ quiet. quiet)
quiet_unless (standing.Done v es m) h = tt

all_quiet : (ns : List Node) → ((i : ℕ) → IsPendingAt ns i → ⊥) → AllQuiet ns
all_quiet [] h = tt
all_quiet (n ∷ ns) h = (quiet_unless n.1 (h zero), all_quiet ns (λ i. h (suc i)))

not_quiet : (ns : List Node) (i : ℕ) → AllQuiet ns → IsPendingAt ns i → ⊥
not_quiet [] i all is = is
not_quiet (n ∷ ns) zero all is = is all.0
not_quiet (n ∷ ns) (suc i) all is = not_quiet ns i all.1 is

pub quiet_by_places : (ns : List Node) (places : List ℕ) → ArePending ns places → (length places ≡ 0) ↔ AllQuiet ns
quiet_by_places ns [] pending = ((λ _. all_quiet ns (λ i is. let has = pending.whole i is in let b = has.1 in omega (arith, b))), (λ _. refl))
quiet_by_places ns (i ∷ is) pending = ((λ e. absurd (omega (arith, e))), (λ all. absurd (not_quiet ns i all pending.only.0)))

-- ---- one more node

last_or_pending : (ns : List Node) (n : Node) (i : ℕ) → IsPendingAt (ns ++ n ∷ []) i → (i ≡ length ns → ⊥) → IsPendingAt ns i
last_or_pending [] n zero is isnt = absurd (isnt refl)
last_or_pending [] n (suc i) is isnt = is
last_or_pending (m ∷ ns) n zero is isnt = is
last_or_pending (m ∷ ns) n (suc i) is isnt = last_or_pending ns n i is (λ e. isnt (ap suc e))

still_pending : (ns : List Node) (n : Node) (i : ℕ) → IsPendingAt ns i → IsPendingAt (ns ++ n ∷ []) i
still_pending [] n i is = absurd is
still_pending (m ∷ ns) n zero is = is
still_pending (m ∷ ns) n (suc i) is = still_pending ns n i is

last_pending : (ns : List Node) (n : Node) → ¬ IsQuiet (status_of n.1) → IsPendingAt (ns ++ n ∷ []) (length ns)
last_pending [] n is = is
last_pending (m ∷ ns) n is = last_pending ns n is

all_still : (ns : List Node) (n : Node) (places : List ℕ) → ¬ IsQuiet (status_of n.1) → AllByRecursion (IsPendingAt ns) places → AllByRecursion (IsPendingAt (ns ++ n ∷ [])) (places ++ length ns ∷ [])
all_still ns n [] is h = (last_pending ns n is, tt)
all_still ns n (i ∷ places) is h = (still_pending ns n i h.0, all_still ns n places is h.1)

pub pending_more : (ns : List Node) (n : Node) (places : List ℕ) → ¬ IsQuiet (status_of n.1) → ArePending ns places → ArePending (ns ++ n ∷ []) (places ++ length ns ∷ [])
pending_more ns n places stands pending = record {
  only = all_still ns n places stands pending.only;
  whole = λ i is. whole i is;
}
  where
    last : Contains (places ++ length ns ∷ []) (length ns)
    last = let lt : 0 < length (length ns ∷ []) = omega arith in Contains-append_right places (length ns ∷ []) (length ns) (0, lt, refl)

    whole : (i : ℕ) → IsPendingAt (ns ++ n ∷ []) i → Contains (places ++ length ns ∷ []) i
    whole i is = (elim (i == length ns) as (λ b. (i == length ns) ≡ b → Contains (places ++ length ns ∷ []) i) [
      | true ↦ λ e. subst (λ (j : ℕ). Contains (places ++ length ns ∷ []) j) (sym (exact_unsigned_eq i (length ns) e)) last
      | false ↦ λ e. Contains-append_left places (length ns ∷ []) i (pending.whole i (last_or_pending ns n i is (λ same. isnt i (length ns) e same)))
    ]) refl
      where
        isnt : (x y : ℕ) → (x == y) ≡ false → x ≡ y → ⊥
        isnt x y e same = true≢false (sym (eq-eqb x y same) ∙ e)

-- a node that is neither claimed nor running
no_more : (ns : List Node) (n : Node) (i : ℕ) → IsQuiet (status_of n.1) → IsPendingAt (ns ++ n ∷ []) i → IsPendingAt ns i
no_more [] n zero quiet is = is quiet
no_more [] n (suc i) quiet is = is
no_more (m ∷ ns) n zero quiet is = is
no_more (m ∷ ns) n (suc i) quiet is = no_more ns n i quiet is

still_all : (ns : List Node) (n : Node) (places : List ℕ) → AllByRecursion (IsPendingAt ns) places → AllByRecursion (IsPendingAt (ns ++ n ∷ [])) places
still_all ns n [] h = tt
still_all ns n (i ∷ places) h = (still_pending ns n i h.0, still_all ns n places h.1)

pub pending_same : (ns : List Node) (n : Node) (places : List ℕ) → IsQuiet (status_of n.1) → ArePending ns places → ArePending (ns ++ n ∷ []) places
pending_same ns n places quiet pending = record {
  only = still_all ns n places pending.only;
  whole = λ i is. pending.whole i (no_more ns n i quiet is);
}

-- ---- a node that stands otherwise

set_pending : (ns : List Node) (at i : ℕ) (x : Standing) → IsPendingAt (set_value_at ns at x) i → (i ≡ at → ⊥) → IsPendingAt ns i
set_pending [] at i x is isnt = is
set_pending (n ∷ ns) zero zero x is isnt = absurd (isnt refl)
set_pending (n ∷ ns) zero (suc i) x is isnt = is
set_pending (n ∷ ns) (suc at) zero x is isnt = is
set_pending (n ∷ ns) (suc at) (suc i) x is isnt = set_pending ns at i x is (λ e. isnt (ap suc e))

pending_set : (ns : List Node) (at i : ℕ) (x : Standing) → (i ≡ at → ⊥) → IsPendingAt ns i → IsPendingAt (set_value_at ns at x) i
pending_set [] at i x isnt is = is
pending_set (n ∷ ns) zero zero x isnt is = absurd (isnt refl)
pending_set (n ∷ ns) zero (suc i) x isnt is = is
pending_set (n ∷ ns) (suc at) zero x isnt is = is
pending_set (n ∷ ns) (suc at) (suc i) x isnt is = pending_set ns at i x (λ e. isnt (ap suc e)) is

here_set : (ns : List Node) (at : ℕ) (x : Standing) → IsPendingAt ns at → (IsQuiet (status_of x) → ⊥) → IsPendingAt (set_value_at ns at x) at
here_set [] at x is stands = is
here_set (n ∷ ns) zero x is stands = stands
here_set (n ∷ ns) (suc at) x is stands = here_set ns at x is stands

set_here : (ns : List Node) (at : ℕ) (x : Standing) → IsPendingAt (set_value_at ns at x) at → IsQuiet (status_of x) → ⊥
set_here [] at x is quiet = is
set_here (n ∷ ns) zero x is quiet = is quiet
set_here (n ∷ ns) (suc at) x is quiet = set_here ns at x is quiet

-- a place that isn't left out stays
kept_head : (xs : List ℕ) (at x i : ℕ) → (i ≡ at → ⊥) → x ≡ i → Contains (filter (λ j. not (j == at)) (x ∷ xs)) i
kept_head xs at x i isnt is = rw (is, unequal i at isnt) (zero, (let lt : 0 < length (i ∷ filter (λ j. not (j == at)) xs) = omega arith in lt), refl)
  where
    unequal : (x y : ℕ) → (x ≡ y → ⊥) → (x == y) ≡ false
    unequal x y isnt = (elim (x == y) as (λ b. (x == y) ≡ b → b ≡ false) [
      | true ↦ λ e. absurd (isnt (exact_unsigned_eq x y e))
      | false ↦ λ e. refl
    ]) refl

kept_later : (xs : List ℕ) (at x i : ℕ) → Contains (filter (λ j. not (j == at)) xs) i → Contains (filter (λ j. not (j == at)) (x ∷ xs)) i
kept_later xs at x i has = elim (not (x == at)) as (λ b. Contains (if b then x ∷ filter (λ j. not (j == at)) xs else filter (λ j. not (j == at)) xs) i) [
  | true ↦ (suc has.0, (let lt : suc has.0 < length (x ∷ filter (λ j. not (j == at)) xs) = let b = has.1 in omega arith in lt), has.2)
  | false ↦ has
]

kept : (xs : List ℕ) (at i : ℕ) → (i ≡ at → ⊥) → (k : ℕ) → k < length xs → get_or xs k i ≡ i → Contains (filter (λ j. not (j == at)) xs) i
kept [] at i isnt k lt e = absurd (omega (arith, lt))
kept (x ∷ xs) at i isnt zero lt e = kept_head xs at x i isnt e
kept (x ∷ xs) at i isnt (suc k) lt e = kept_later xs at x i (kept xs at i isnt k (omega (arith, lt)) e)

module _ (ns : List Node) (places : List ℕ) (at : ℕ) (x : Standing) (pending : ArePending ns places) where
  apart : (i : ℕ) → (i ≡ at) ⊎ (i ≡ at → ⊥)
  apart i = (elim (i == at) as (λ b. (i == at) ≡ b → (i ≡ at) ⊎ (i ≡ at → ⊥)) [
    | true ↦ λ e. inl (exact_unsigned_eq i at e)
    | false ↦ λ e. inr (λ same. unequal i at e same)
  ]) refl
    where
      unequal : (x y : ℕ) → (x == y) ≡ false → x ≡ y → ⊥
      unequal x y e same = true≢false (sym (eq-eqb x y same) ∙ e)

  elsewhere : (i : ℕ) → (i ≡ at → ⊥) → IsPendingAt ns i → IsPendingAt (set_value_at ns at x) i
  elsewhere i isnt is = pending_set ns at i x isnt is

  -- what is left stands elsewhere
  left : (ps : List ℕ) → AllByRecursion (IsPendingAt ns) ps → AllByRecursion (IsPendingAt (set_value_at ns at x)) (filter (λ j. not (j == at)) ps)
  left [] all = tt
  left (p ∷ ps) all = (elim (p == at) as (λ b. (p == at) ≡ b → AllByRecursion (IsPendingAt (set_value_at ns at x)) (if not b then p ∷ filter (λ j. not (j == at)) ps else filter (λ j. not (j == at)) ps)) [
    | true ↦ λ _. left ps all.1
    | false ↦ λ e. (elsewhere p (λ same. true≢false (sym (eq-eqb p at same) ∙ e)) all.0, left ps all.1)
  ]) refl

  -- a node that was claimed or running and still is
  stay : (IsQuiet (status_of x) → ⊥) → (ps : List ℕ) → AllByRecursion (IsPendingAt ns) ps → AllByRecursion (IsPendingAt (set_value_at ns at x)) ps
  stay stands [] all = tt
  stay stands (p ∷ ps) all = (
    elim (apart p) [
      | inl same ↦ subst (λ (j : ℕ). IsPendingAt (set_value_at ns at x) j) (sym same) (here_set ns at x (subst (λ (j : ℕ). IsPendingAt ns j) same all.0) stands)
      | inr isnt ↦ elsewhere p isnt all.0
    ],
    stay stands ps all.1,
  )

  -- a node that is done now
  pub pending_done : IsQuiet (status_of x) → ArePending (set_value_at ns at x) (filter (λ j. not (j == at)) places)
  pending_done quiet = record {
    only = left places pending.only;
    whole = λ i is. elim (apart i) [
      | inl same ↦ absurd (set_here ns at x (subst (λ (j : ℕ). IsPendingAt (set_value_at ns at x) j) same is) quiet)
      | inr isnt ↦ let has = pending.whole i (set_pending ns at i x is isnt) in kept places at i isnt has.0 has.1 has.2
    ];
  }

  -- a node that was claimed or running
  pub pending_still : IsPendingAt ns at → (IsQuiet (status_of x) → ⊥) → ArePending (set_value_at ns at x) places
  pending_still was stands = record {
    only = stay stands places pending.only;
    whole = λ i is. elim (apart i) [
      | inl same ↦ subst (λ (j : ℕ). Contains places j) (sym same) (pending.whole at was)
      | inr isnt ↦ pending.whole i (set_pending ns at i x is isnt)
    ];
  }

-- the first node of a key that is claimed or running
pub first_pending : (ns : List Node) (q : Key) (i : ℕ) → IsFirstNode ns q i → ¬ IsQuiet (status_in ns q) → IsPendingAt ns i
first_pending [] q i first is = absurd first
first_pending (m ∷ ns) q zero first is = rw first at is
first_pending (m ∷ ns) q (suc i) first is = first_pending ns q i first.1 (rw first.0 at is)
