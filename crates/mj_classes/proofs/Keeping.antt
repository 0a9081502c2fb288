-- What is kept of a chain by a walk from one class that declares members to the next.
use Rattle.std.proofs.Common.{◌≡◌, ℕ, zero, suc, ◌+◌, ◌-◌, ◌<◌, ◌≤◌, true, false, List, [], ◌∷◌, ◌++◌, length, filter, Option, Some, None, refl, sym, ap, ◌∙◌, subst, arith, ◌⊎◌, inl, inr}
use Rattle.std.specs.Prelude.{slice_get, option_map, option_and_then, unwrap_or}
use Rattle.std.specs.Option.{option_eq}
use Rattle.std.proofs.Math.Dec.{eqb}
use Rattle.std.proofs.lemmas.Bool.Decides.{Decides-eqb}
use Rattle.std.proofs.lemmas.Bool.{cases_lt, cases_eq, false≢true}
use Rattle.std.proofs.lemmas.List.{append-nil, map-append}
use Rattle.std.proofs.lemmas.Option.{none-some, same_Some}
use Rattle.mj_tree.specs.Trees.{Name}
use Rattle.mj_members.specs.Declarations.{ClassDecl, has_members}
use Rattle.mj_members.specs.Classes.{class_ref_view, classes_view}
use Rattle.mj_members.specs.declared.class.ClassRef.{ClassRef}
use Rattle.mj_classes.specs.Declarations.{decl, place, superclass_places}
use Rattle.mj_classes.specs.Chains.{EndOf, Repeated, IsChain, Chain, chain_of, ancestry}
use Rattle.mj_classes.specs.Walks.{StandsAt, IsRing, IsChainAt, LeadsUp, Turns, IsTurn, IsEndAt, declares_nth, NoneIn, IsFirstAt, IsFirstFrom, IsNextOf, IsNearestAt, Stretch, declaring}
use Rattle.mj_classes.proofs.Climb.{decl_name, chain_of_is}
use Rattle.mj_classes.proofs.Climbing.{class_of, has_class, few, same_number, within, at_first, at_top, declaring_more, whole_chain}
use Rattle.mj_classes.proofs.Places.{place_class}
use Rattle.mj_classes.proofs.Turning.{one_place, stands, has_turn, turn_within, next_step, next_is, turn_next, same_first_from}

-- ---- the classes that declare members

nth_is : (cs : List ClassDecl) (chain : List Name) (n at : ℕ) (k : ClassDecl) → StandsAt cs chain n at → slice_get cs at ≡ Some k → declares_nth cs chain n ≡ has_members k
nth_is cs chain n at k s here =
    let m = place_class cs s.0 at s.2 in
    let found : decl cs s.0 ≡ Some k = m.2 ∙ (sym m.1 ∙ here) in
    ap (λ (o : Option Name). unwrap_or (option_map has_members (option_and_then (decl cs) o)) false) s.1
    ∙ ap (λ (o : Option ClassDecl). unwrap_or (option_map has_members o) false) found

-- a class that declares none is passed, and another is kept
passes : (cs : List ClassDecl) (chain : List Name) (n at : ℕ) → StandsAt cs chain n at → declares_nth cs chain n ≡ false → declaring cs chain (suc n) ≡ declaring cs chain n
passes cs chain n at s none =
    let k = class_of cs chain n at s in
    let off : has_members k.0 ≡ false = sym (nth_is cs chain n at k.0 s k.1) ∙ none in
    let dropped : filter has_members (k.0 ∷ []) ≡ [] = rw off refl in
    declaring_more cs chain n at k.0 s k.1 ∙ (ap (λ (ks : List ClassDecl). declaring cs chain n ++ ks) dropped ∙ append-nil (declaring cs chain n))

takes : (cs : List ClassDecl) (chain : List Name) (n at : ℕ) (k : ClassDecl) → StandsAt cs chain n at → slice_get cs at ≡ Some k → declares_nth cs chain n ≡ true → declaring cs chain (suc n) ≡ declaring cs chain n ++ k ∷ []
takes cs chain n at k s here declares =
    let on : has_members k ≡ true = sym (nth_is cs chain n at k s here) ∙ declares in
    let kept : filter has_members (k ∷ []) ≡ k ∷ [] = rw on refl in
    declaring_more cs chain n at k s here ∙ ap (λ (ks : List ClassDecl). declaring cs chain n ++ ks) kept

pass_all : (cs : List ClassDecl) (c : Name) (chain : List Name) (end : EndOf) → IsChain cs c chain end → (many n : ℕ) → n + many ≤ length chain → NoneIn cs chain n (n + many) → declaring cs chain n ≡ declaring cs chain (n + many)
pass_all cs c chain end is zero n le none = let same : n ≡ n + 0 = omega arith in ap (declaring cs chain) same
pass_all cs c chain end is (suc many) n le none =
    let s = stands cs chain c end is n (omega arith) in
    let move : suc n + many ≡ n + suc many = omega arith in
    sym (passes cs chain n s.0 s.1 (none n (omega arith) (omega arith)))
    ∙ (pass_all cs c chain end is many (suc n) (omega arith) (λ k low high. none k (omega arith) (omega arith)) ∙ ap (declaring cs chain) move)

pass_to : (cs : List ClassDecl) (c : Name) (chain : List Name) (end : EndOf) → IsChain cs c chain end → (n to : ℕ) → n ≤ to → to ≤ length chain → NoneIn cs chain n to → declaring cs chain n ≡ declaring cs chain to
pass_to cs c chain end is n to le most none =
    let sum : n + (to - n) ≡ to = omega arith in
    pass_all cs c chain end is (to - n) n (omega arith) (subst (NoneIn cs chain n) (sym sum) none) ∙ ap (declaring cs chain) sum

-- ---- a stretch of a walk

module _ (cs : List ClassDecl) (at : ℕ) (stop : Option ℕ) (classes : List ClassDecl) (w : Stretch cs at stop classes) where
  is : IsChain cs w.c w.chain w.turns.end
  is = w.turns.is_chain

  pub stretch_at : at < length cs
  stretch_at = elim w.here [
    | inl s ↦ has_class cs w.chain w.number at s
    | inr s ↦ has_class cs w.chain w.entry at s.1
  ]

  goal_most : w.goal ≤ length w.chain
  goal_most = elim w.ends [
    | inl e ↦ let all = e.0 in omega arith
    | inr e ↦ let lt = within cs w.c w.chain w.turns.end is w.goal e.0 e.1 in omega arith
  ]

  -- behind as many classes as there are it is done
  pub stretch_ends : length cs ≤ w.number → classes ≡ declaring cs w.chain w.goal
  stretch_ends le =
      let most = few cs w.c w.chain w.turns.end is in
      let goal = goal_most in
      let before = w.before in
      let same : w.number ≡ w.goal = omega arith in
      w.kept ∙ ap (declaring cs w.chain) same

  -- if the nearest class is the one to stop at
  pub stretch_stops : (o : Option ℕ) → IsNearestAt cs at o → o ≡ stop → classes ≡ declaring cs w.chain w.goal
  stretch_stops o near same = elim w.here [ inl s ↦ by_next s (next_is cs w.c w.chain w.entry w.turns w.number at o s near) | inr s ↦ behind s.0 ]
    where
      behind : w.number ≡ length w.chain → classes ≡ declaring cs w.chain w.goal
      behind all =
          let goal = goal_most in
          let before = w.before in
          let here : w.number ≡ w.goal = omega arith in
          w.kept ∙ ap (declaring cs w.chain) here

      by_next : StandsAt cs w.chain w.number at → IsNextOf cs w.chain w.entry w.number o → classes ≡ declaring cs w.chain w.goal
      by_next s (inl f) = elim w.ends [
        | inl e ↦ absurd (e.1 f.1.number f.0 f.1.behind f.1.here (sym same ∙ f.2))
        | inr e ↦
            let place_is : e.0 ≡ f.0 = same_Some e.0 f.0 (sym e.3 ∙ (sym same ∙ f.2)) in
            let number : f.1.number ≡ w.goal = same_number cs w.c w.chain w.turns.end is f.1.number w.goal f.0 f.1.here (subst (StandsAt cs w.chain w.goal) place_is e.1) in
            w.kept ∙ (pass_to cs w.c w.chain w.turns.end is w.number f.1.number f.1.behind (let lt = within cs w.c w.chain w.turns.end is f.1.number f.0 f.1.here in omega arith) f.1.none ∙ ap (declaring cs w.chain) number)
      ]
      by_next s (inr none) = elim w.ends [
        | inl e ↦
            let lt = within cs w.c w.chain w.turns.end is w.number at s in
            w.kept ∙ (pass_to cs w.c w.chain w.turns.end is w.number (length w.chain) (omega arith) (omega arith) none.0 ∙ ap (declaring cs w.chain) (sym e.0))
        | inr e ↦ absurd (false≢true (sym (none.0 w.goal w.before (within cs w.c w.chain w.turns.end is w.goal e.0 e.1)) ∙ e.2))
      ]

  -- and else it stands in front of the goal
  pub stretch_next : (o : Option ℕ) → IsNearestAt cs at o → (o ≡ stop → ⊥) → (x : ℕ) × IsFirstAt cs w.chain w.number x × (o ≡ Some x)
  stretch_next o near apart = elim w.here [
    | inl s ↦ by_next (next_is cs w.c w.chain w.entry w.turns w.number at o s near)
    | inr s ↦ absurd (apart (same_first_from cs w.c w.chain w.entry w.turns o stop (turn_next cs w.c w.chain w.entry w.turns at o s.1 near) w.first))
  ]
    where
      by_next : IsNextOf cs w.chain w.entry w.number o → (x : ℕ) × IsFirstAt cs w.chain w.number x × (o ≡ Some x)
      by_next (inl f) = f
      by_next (inr none) = absurd (apart (same_first_from cs w.c w.chain w.entry w.turns o stop none.1 w.first))

  pub stretch_found : (o : Option ℕ) → IsNearestAt cs at o → (o ≡ stop → ⊥) → (x : ℕ) → o ≡ Some x → x < length cs
  stretch_found o near apart x e =
      let f = stretch_next o near apart in
      let same : f.0 ≡ x = same_Some f.0 x (sym f.2 ∙ e) in
      subst (λ (y : ℕ). y < length cs) same (has_class cs w.chain f.1.number f.0 f.1.here)

  pub stretch_some : (o : Option ℕ) → o ≡ None → IsNearestAt cs at o → (o ≡ stop → ⊥) → ⊥
  stretch_some o none near apart = let f = stretch_next o near apart in none-some f.0 (sym none ∙ f.2)

  -- what is left of it behind the nearest class
  pub stretch_on : (o : Option ℕ) → IsNearestAt cs at o → (o ≡ stop → ⊥) → (x : ℕ) → o ≡ Some x → (k : ClassDecl) → slice_get cs x ≡ Some k → (after : List ClassDecl) → after ≡ classes ++ k ∷ []
      → (next : ℕ) → LeadsUp (superclass_places cs) x next → (v : Stretch cs next stop after) × (v.chain ≡ w.chain) × (v.goal ≡ w.goal) × (w.number < v.number)
  stretch_on o near apart x e k here after adds next up = (
    record {
      c = w.c;
      chain = w.chain;
      entry = w.entry;
      turns = w.turns;
      first = w.first;
      number = suc number;
      goal = w.goal;
      before = before_goal;
      here = elim (next_step cs w.c w.chain w.entry w.turns number x next found.here up) [ inl on ↦ inl on.1 | inr last ↦ inr last ];
      kept = adds ∙ (ap (λ (ks : List ClassDecl). ks ++ k ∷ []) (w.kept ∙ pass_to cs w.c w.chain w.turns.end is w.number number found.behind (omega (arith, number_within)) found.none) ∙ sym (takes cs w.chain number x k found.here here found.declares));
      ends = elim w.ends [ inl g ↦ inl (g.0, λ n y low s t. g.1 n y (let behind = found.behind in omega arith) s t) | inr g ↦ inr g ];
    },
    refl,
    refl,
    (let behind = found.behind in omega arith),
  )
    where
      found : IsFirstAt cs w.chain w.number x
      found =
          let f = stretch_next o near apart in
          subst (IsFirstAt cs w.chain w.number) (same_Some f.0 x (sym f.2 ∙ e)) f.1

      number : ℕ
      number = found.number

      number_within : number < length w.chain
      number_within = within cs w.c w.chain w.turns.end is number x found.here

      before_goal : suc number ≤ w.goal
      before_goal = elim w.ends [
        | inl g ↦ let lt = number_within in let all = g.0 in omega arith
        | inr g ↦ elim (cases_lt number w.goal) [
          | inl lt ↦ omega arith
          | inr ge ↦ elim (cases_eq number w.goal) [
            | inl same ↦ absurd (apart (e ∙ (ap (λ (y : ℕ). Some y) (one_place cs w.chain w.goal x g.0 (subst (λ (m : ℕ). StandsAt cs w.chain m x) same found.here) g.1) ∙ sym g.3)))
            | inr other ↦ absurd (false≢true (sym (found.none w.goal w.before (omega arith)) ∙ g.2))
          ]
        ]
      ]

  -- all of the chain
  pub stretch_whole : (c : Name) (kept : List ClassDecl) → w.c ≡ c → w.goal ≡ length w.chain → kept ≡ declaring cs w.chain w.goal → kept ≡ filter has_members (ancestry cs c)
  stretch_whole c kept name all e = (whole_chain cs c w.chain w.turns.end kept w.goal (subst (λ (n : Name). IsChain cs n w.chain w.turns.end) name is) all e).1

-- ---- the stretches of a chain

-- in front of the class to stop at
pub stretch_first : (cs : List ClassDecl) (c : Name) (first turn : ℕ) (stop : Option ℕ) (classes : List ClassDecl) → place cs c ≡ Some first → IsTurn cs first turn → IsNearestAt cs turn stop → classes ≡ []
    → (w : Stretch cs first stop classes) × (w.c ≡ c) × (w.number ≡ 0) × (stop ≡ None → w.goal ≡ length w.chain)
stretch_first cs c first turn stop classes e turns near none = by (turn_next cs c chain entry t to.0 stop to.1 (subst (λ (x : ℕ). IsNearestAt cs x stop) turn_is near))
  where
    k : (k : ClassDecl) × (slice_get cs first ≡ Some k) × (decl cs c ≡ Some k)
    k = place_class cs c first e

    chain : List Name
    chain = (has_turn cs c k.0 k.2).0

    entry : ℕ
    entry = (has_turn cs c k.0 k.2).1

    t : Turns cs c chain entry
    t = (has_turn cs c k.0 k.2).2

    to : (at : ℕ) × StandsAt cs chain entry at
    to = stands cs chain c t.end t.is_chain entry (turn_within cs c chain entry t)

    turn_is : turn ≡ to.0
    turn_is = turns c chain entry to.0 e t to.1

    here : StandsAt cs chain 0 first
    here = at_first cs c chain t.end t.is_chain first e

    by : IsFirstFrom cs chain entry stop → (w : Stretch cs first stop classes) × (w.c ≡ c) × (w.number ≡ 0) × (stop ≡ None → w.goal ≡ length w.chain)
    by (inl f) = (
      record { c = c; chain = chain; entry = entry; turns = t; first = inl f; number = 0; goal = f.1.number; before = omega arith; here = inl here; kept = none; ends = inr (f.0, f.1.here, f.1.declares, f.2) },
      refl,
      refl,
      λ g. absurd (none-some f.0 (sym g ∙ f.2)),
    )
    by (inr f) = (
      record { c = c; chain = chain; entry = entry; turns = t; first = inr f; number = 0; goal = length chain; before = omega arith; here = inl here; kept = none; ends = inl (refl, λ n at low s g. none-some at (sym f.1 ∙ g)) },
      refl,
      refl,
      λ g. refl,
    )

-- behind it
pub stretch_second : (cs : List ClassDecl) (first : ℕ) (stop : Option ℕ) (none kept after : List ClassDecl) (w : Stretch cs first stop none) → w.number ≡ 0 → (at : ℕ) → stop ≡ Some at → kept ≡ declaring cs w.chain w.goal
    → (k : ClassDecl) → slice_get cs at ≡ Some k → after ≡ kept ++ k ∷ [] → (next : ℕ) → LeadsUp (superclass_places cs) at next → (v : Stretch cs next (Some at) after) × (v.c ≡ w.c) × (v.goal ≡ length v.chain)
stretch_second cs first stop none kept after w zero_is at e kept_is k here adds next up = by w.ends
  where
    by : ((w.goal ≡ length w.chain) × ((n x : ℕ) → w.number ≤ n → StandsAt cs w.chain n x → stop ≡ Some x → ⊥)) ⊎ ((x : ℕ) × StandsAt cs w.chain w.goal x × (declares_nth cs w.chain w.goal ≡ true) × (stop ≡ Some x))
        → (v : Stretch cs next (Some at) after) × (v.c ≡ w.c) × (v.goal ≡ length v.chain)
    by (inl g) = elim w.first [
      | inl f ↦ absurd (g.1 f.1.number f.0 (omega arith) f.1.here f.2)
      | inr f ↦ absurd (none-some at (sym f.1 ∙ e))
    ]
    by (inr g) =
        let same : g.0 ≡ at = same_Some g.0 at (sym g.3 ∙ e) in
        let s = subst (StandsAt cs w.chain w.goal) same g.1 in
        let lt = within cs w.c w.chain w.turns.end w.turns.is_chain w.goal at s in (
          record {
            c = w.c;
            chain = w.chain;
            entry = w.entry;
            turns = w.turns;
            first = subst (IsFirstFrom cs w.chain w.entry) e w.first;
            number = suc w.goal;
            goal = length w.chain;
            before = omega arith;
            here = elim (next_step cs w.c w.chain w.entry w.turns w.goal at next s up) [ inl on ↦ inl on.1 | inr last ↦ inr last ];
            kept = adds ∙ (ap (λ (ks : List ClassDecl). ks ++ k ∷ []) kept_is ∙ sym (takes cs w.chain w.goal at k s here g.2));
            ends = inl (
              refl,
              λ n x low z h.
                  let it : x ≡ at = same_Some x at (sym h) in
                  let number = same_number cs w.c w.chain w.turns.end w.turns.is_chain n w.goal at (subst (StandsAt cs w.chain n) it z) s in
                  omega arith,
            );
          },
          refl,
          refl,
        )

pub stop_inside : (cs : List ClassDecl) (from : ℕ) (stop : Option ℕ) (classes : List ClassDecl) (w : Stretch cs from stop classes) (at : ℕ) → stop ≡ Some at → at < length cs
stop_inside cs from stop classes w at e = elim w.first [
  | inl f ↦ subst (λ (x : ℕ). x < length cs) (same_Some f.0 at (sym f.2 ∙ e)) (has_class cs w.chain f.1.number f.0 f.1.here)
  | inr f ↦ absurd (none-some at (sym f.1 ∙ e))
]

pub view_pushed : (refs after : List ClassRef) (k : ClassRef) → after ≡ refs ++ k ∷ [] → classes_view after ≡ classes_view refs ++ class_ref_view k ∷ []
view_pushed refs after k e = ap (λ (ks : List ClassRef). classes_view ks) e ∙ map-append class_ref_view refs (k ∷ [])

-- ---- the end of a chain

pub turn_inside : (cs : List ClassDecl) (c : Name) (first turn : ℕ) → place cs c ≡ Some first → IsTurn cs first turn → turn < length cs
turn_inside cs c first turn e turns =
    let k = place_class cs c first e in
    let t = has_turn cs c k.0 k.2 in
    let to = stands cs t.0 c t.2.end t.2.is_chain t.1 (turn_within cs c t.0 t.1 t.2) in
    subst (λ (x : ℕ). x < length cs) (sym (turns c t.0 t.1 to.0 e t.2 to.1)) (has_class cs t.0 t.1 to.0 to.1)

end_is : (cs : List ClassDecl) (c : Name) (chain : List Name) (entry at : ℕ) (end : EndOf) (t : Turns cs c chain entry) → StandsAt cs chain entry at → IsEndAt cs at end → t.end ≡ end
end_is cs c chain entry at end t s ends = elim ends.2 [
  | inl top ↦ (at_top cs c chain t.end t.is_chain entry at ends.0 s top.0 ends.1).1 ∙ sym top.1
  | inr ring ↦ by_ring ring t.turn
]
  where
    by_ring : ((next : ℕ) × (slice_get (superclass_places cs) at ≡ Some (Some next)) × (end ≡ Repeated ends.0.name))
        → ((x : ℕ) × StandsAt cs chain entry x × (slice_get (superclass_places cs) x ≡ Some None)) ⊎ IsRing cs c chain entry → t.end ≡ end
    by_ring r (inl top) =
        let same : top.0 ≡ at = one_place cs chain entry top.0 at top.1 s in
        absurd (none-some r.0 (same_Some None (Some r.0) (sym top.2 ∙ (ap (slice_get (superclass_places cs)) same ∙ r.1))))
    by_ring r (inr ring) =
        let m = place_class cs s.0 at s.2 in
        let it : m.0 ≡ ends.0 = same_Some m.0 ends.0 (sym m.1 ∙ ends.1) in
        let again : ring.again ≡ s.0 = same_Some ring.again s.0 (sym ring.entered ∙ s.1) in
        let name : ring.again ≡ ends.0.name = again ∙ (sym (decl_name cs s.0 m.0 m.2) ∙ ap (λ (d : ClassDecl). d.name) it) in
        let one = same_Some _ _ (sym (chain_of_is cs c chain t.end t.is_chain) ∙ chain_of_is cs c chain (Repeated ring.again) ring.is_chain) in
        ap (λ p. p.1) one ∙ (ap (λ (n : Name). Repeated n) name ∙ sym r.2)

pub end_at_turn : (cs : List ClassDecl) (first turn : ℕ) (end : EndOf) → IsTurn cs first turn → IsEndAt cs turn end → (c : Name) → place cs c ≡ Some first → option_map (λ (p : Chain). p.1) (chain_of cs c) ≡ Some end
end_at_turn cs first turn end turns ends c e =
    let k = place_class cs c first e in
    let t = has_turn cs c k.0 k.2 in
    let to = stands cs t.0 c t.2.end t.2.is_chain t.1 (turn_within cs c t.0 t.1 t.2) in
    let same = end_is cs c t.0 t.1 to.0 end t.2 to.1 (subst (λ (x : ℕ). IsEndAt cs x end) (turns c t.0 t.1 to.0 e t.2 to.1) ends) in
    ap (option_map (λ (p : Chain). p.1)) (chain_of_is cs c t.0 t.2.end t.2.is_chain) ∙ ap (λ (x : EndOf). Some x) same

-- the chain with its end
pub chain_is : (cs : List ClassDecl) (first turn : ℕ) (classes : List ClassDecl) (end : EndOf) → IsTurn cs first turn → IsEndAt cs turn end → ((c : Name) → place cs c ≡ Some first → classes ≡ filter has_members (ancestry cs c)) → IsChainAt cs first classes end
chain_is cs first turn classes end turns ends kept c e = (end_at_turn cs first turn end turns ends c e, kept c e)

-- ---- comparing places

pub same_places : (o p : Option ℕ) → option_eq eqb o p ≡ true → o ≡ p
same_places None None e = refl
same_places None (Some y) e = absurd cc
same_places (Some x) None e = absurd cc
same_places (Some x) (Some y) e = ap (λ (n : ℕ). Some n) ((Decides-eqb x y).0 e)

pub other_places : (o p : Option ℕ) → option_eq eqb o p ≡ false → o ≡ p → ⊥
other_places o p e same = by o (subst (λ (q : Option ℕ). option_eq eqb o q ≡ false) (sym same) e)
  where
    by : (o : Option ℕ) → option_eq eqb o o ≡ false → ⊥
    by None e = absurd cc
    by (Some x) e = false≢true (sym e ∙ (Decides-eqb x x).1 refl)

-- what a stretch gives, of another one of the same chain
pub same_goal : (cs : List ClassDecl) (chain other : List Name) (goal to : ℕ) (classes : List ClassDecl) → chain ≡ other → goal ≡ to → classes ≡ declaring cs chain goal → classes ≡ declaring cs other to
same_goal cs chain other goal to classes e f kept = kept ∙ (ap (λ (xs : List Name). declaring cs xs goal) e ∙ ap (declaring cs other) f)
