-- Where the walk up a chain turns, and where it meets classes that declare members.
use Rattle.std.proofs.Common.{◌≡◌, ℕ, zero, suc, ◌+◌, ◌-◌, ◌<◌, ◌≤◌, Bool, true, false, List, length, map, get_or, Option, Some, None, refl, sym, ap, ◌∙◌, subst, arith, ◌⊎◌, inl, inr}
use Rattle.std.specs.Prelude.{option_map, option_and_then, unwrap_or, slice_get, if◌then◌else◌}
use Rattle.std.proofs.lemmas.Bool.{cases_lt, cases_eq, cases_Bool, false≢true}
use Rattle.std.proofs.lemmas.List.{length-map, get_or_read}
use Rattle.std.proofs.lemmas.Option.{none-some, same_Some, slice_get_within, slice_get-map, get_or_from_slice_get}
use Rattle.mj_tree.specs.Trees.{Name}
use Rattle.mj_tree.proofs.Positions.{at_some}
use Rattle.mj_members.specs.Declarations.{ClassDecl, has_members}
use Rattle.mj_classes.specs.Declarations.{decl, place, superclass_places}
use Rattle.mj_classes.specs.Chains.{EndOf, IsChain}
use Rattle.mj_classes.specs.Steps.{led, led_far, halted, LeadFar, StayWithin, FlagReturns, ComesBack}
use Rattle.mj_classes.specs.Walks.{StandsAt, LeadsUp, StepsUp, Turns, IsTurn, AreTurns, declares_nth, NoneIn, IsFirstAt, IsFirstFrom, IsNextOf, IsNearestAt, declaring_place, AreNearest}
use Rattle.mj_classes.proofs.Distinct.{contains_in}
use Rattle.mj_classes.proofs.Climb.{all_declared, has_chain}
use Rattle.mj_classes.proofs.Climbing.{class_of, has_class, few, step_on, same_number, within, at_first, at_top, last_back, goes_up, step_round, contains_at, not_both}
use Rattle.mj_classes.proofs.Places.{place_class, step_up}
use Rattle.mj_classes.proofs.FarSteps.{led_far-last, far_within, halted_within}

-- the place of a number
pub one_place : (cs : List ClassDecl) (chain : List Name) (n at to : ℕ) → StandsAt cs chain n at → StandsAt cs chain n to → at ≡ to
one_place cs chain n at to s t =
    let name : s.0 ≡ t.0 = same_Some s.0 t.0 (sym s.1 ∙ t.1) in
    same_Some at to (sym s.2 ∙ (ap (place cs) name ∙ t.2))

-- each class of a chain has a place
pub stands : (cs : List ClassDecl) (chain : List Name) (c : Name) (end : EndOf) → IsChain cs c chain end → (n : ℕ) → n < length chain → (at : ℕ) × StandsAt cs chain n at
stands cs chain c end is n lt = by (place cs x.0) refl
  where
    x : (x : Name) × (slice_get chain n ≡ Some x)
    x = at_some chain n lt

    by : (o : Option ℕ) → place cs x.0 ≡ o → (at : ℕ) × StandsAt cs chain n at
    by None e =
        let k = all_declared cs chain chain end is.links x.0 (contains_in chain x.0 (contains_at chain n x.0 x.1)) in
        absurd (not_both cs x.0 k.0 k.1 e)
    by (Some at) e = (at, (x.0, x.1, e))

-- what stands above a class of a chain
above_of : (cs : List ClassDecl) (at : ℕ) → at < length cs → (o : Option ℕ) × (slice_get (superclass_places cs) at ≡ Some o)
above_of cs at lt =
    let all = length-map cs (λ (d : ClassDecl). option_and_then (place cs) d.superclass) in
    at_some (superclass_places cs) at (omega arith)

-- each walk turns
pub has_turn : (cs : List ClassDecl) (c : Name) (k : ClassDecl) → decl cs c ≡ Some k → (chain : List Name) × (number : ℕ) × Turns cs c chain number
has_turn cs c k e = by last.0 refl
  where
    chain : List Name
    chain = (has_chain cs c k e).0

    end : EndOf
    end = (has_chain cs c k e).1

    is : IsChain cs c chain end
    is = (has_chain cs c k e).2

    number : ℕ
    number = length is.rest

    all : suc number ≡ length chain
    all = sym (ap length is.first)

    here : (at : ℕ) × StandsAt cs chain number at
    here = stands cs chain c end is number (omega (arith, all))

    last : (o : Option ℕ) × (slice_get (superclass_places cs) here.0 ≡ Some o)
    last = above_of cs here.0 (has_class cs chain number here.0 here.1)

    by : (o : Option ℕ) → last.0 ≡ o → (chain : List Name) × (number : ℕ) × Turns cs c chain number
    by None f = (chain, number, record { end = end; is_chain = is; turn = inl (here.0, here.1, last.1 ∙ ap (λ (o : Option ℕ). Some o) f) })
    by (Some next) f =
        let back = last_back cs c chain end is number here.0 next here.1 (last.1 ∙ ap (λ (o : Option ℕ). Some o) f) all in
        (chain, back.0, record { end = end; is_chain = is; turn = inr back.1 })

module _ (cs : List ClassDecl) (c : Name) (chain : List Name) (entry : ℕ) (t : Turns cs c chain entry) where
  pub turn_within : entry < length chain
  turn_within = elim t.turn [
    | inl top ↦ within cs c chain t.end t.is_chain entry top.0 top.1
    | inr ring ↦ slice_get_within chain entry ring.again ring.entered
  ]

  not_none : (at next : ℕ) → slice_get (superclass_places cs) at ≡ Some (Some next) → slice_get (superclass_places cs) at ≡ Some None → ⊥
  not_none at next e f = none-some next (same_Some None (Some next) (sym f ∙ e))

  -- if no class stands above the last, its number is that of the turn
  top_is : (n at : ℕ) → StandsAt cs chain n at → suc n ≡ length chain → (to : ℕ) → StandsAt cs chain entry to → slice_get (superclass_places cs) to ≡ Some None → at ≡ to
  top_is n at s last to turn none =
      let k = class_of cs chain entry to turn in
      let top = at_top cs c chain t.end t.is_chain entry to k.0 turn none k.1 in
      let last_too = top.0 in
      let same : n ≡ entry = omega arith in
      one_place cs chain entry at to (subst (λ (m : ℕ). StandsAt cs chain m at) same s) turn

  -- a step up leads to the next class, or from the last one to the turn
  pub next_step : (n at next : ℕ) → StandsAt cs chain n at → LeadsUp (superclass_places cs) at next
      → ((suc n < length chain) × StandsAt cs chain (suc n) next) ⊎ ((suc n ≡ length chain) × StandsAt cs chain entry next)
  next_step n at next s (inl leads) = elim (cases_lt (suc n) (length chain)) [
    | inl lt ↦ inl (lt, step_on cs c chain t.end t.is_chain n at next s leads lt)
    | inr ge ↦
        let lt = within cs c chain t.end t.is_chain n at s in
        let last : suc n ≡ length chain = omega arith in
        inr (
          last,
          elim t.turn [
            | inl top ↦ absurd (not_none at next leads (ap (slice_get (superclass_places cs)) (top_is n at s last top.0 top.1 top.2) ∙ top.2))
            | inr ring ↦ step_round cs c chain entry n at next ring s leads last
          ],
        )
  ]
  next_step n at next s (inr stays) =
      let k = class_of cs chain n at s in
      let last = (at_top cs c chain t.end t.is_chain n at k.0 s stays.0 k.1).0 in
      inr (
        last,
        elim t.turn [
          | inl top ↦ subst (StandsAt cs chain entry) (sym (top_is n at s last top.0 top.1 top.2) ∙ sym stays.1) top.1
          | inr ring ↦ let up = goes_up cs c chain entry n at ring s in absurd (not_none at up.0 up.1 stays.0)
        ],
      )

  module _ (steps : List ℕ) (up : StepsUp cs steps) where
    step_led : (n at : ℕ) → StandsAt cs chain n at → LeadsUp (superclass_places cs) at (led steps at)
    step_led n at s =
        let lt = has_class cs chain n at s in
        let all = length-map cs (λ (d : ClassDecl). option_and_then (place cs) d.superclass) in
        up.each at (omega arith)

    -- ---- which classes the walk comes back to

    along : (d n at : ℕ) → StandsAt cs chain n at → n + d < length chain → StandsAt cs chain (n + d) (led_far (led steps) d at)
    along zero n at s lt = let same : n ≡ n + 0 = omega arith in subst (λ (m : ℕ). StandsAt cs chain m at) same s
    along (suc d) n at s lt = elim (next_step n at (led steps at) s (step_led n at s)) [
      | inl on ↦
          let move : suc n + d ≡ n + suc d = omega arith in
          subst (λ (m : ℕ). StandsAt cs chain m (led_far (led steps) d (led steps at))) move (along d (suc n) (led steps at) on.1 (omega arith))
      | inr last ↦ let all = last.0 in absurd (omega arith)
    ]

    turn_comes_back : (at : ℕ) → StandsAt cs chain entry at → ComesBack steps at
    turn_comes_back at s =
        let lt = turn_within in
        let d : ℕ = length chain - suc entry in
        let far = along d entry at s (omega arith) in
        let x = led_far (led steps) d at in (
          d,
          led_far-last (led steps) d at ∙ elim (next_step (entry + d) x (led steps x) far (step_led (entry + d) x far)) [
            | inl on ↦ let less = on.0 in absurd (omega arith)
            | inr last ↦ one_place cs chain entry (led steps x) at last.1 s
          ],
        )

    -- no walk leads back to numbers before the turn
    beyond : (low n m at : ℕ) → low ≤ m → low ≤ entry → StandsAt cs chain m at → (k : ℕ) × (low ≤ k) × StandsAt cs chain k (led_far (led steps) n at)
    beyond low zero m at le turn s = (m, le, s)
    beyond low (suc n) m at le turn s = elim (next_step m at (led steps at) s (step_led m at s)) [
      | inl on ↦ beyond low n (suc m) (led steps at) (omega arith) turn on.1
      | inr last ↦ beyond low n entry (led steps at) turn turn last.1
    ]

    not_back : (m at : ℕ) → StandsAt cs chain m at → m < entry → ComesBack steps at → ⊥
    not_back m at s lt back =
        let inside = turn_within in
        elim (next_step m at (led steps at) s (step_led m at s)) [
          | inl on ↦
              let to = beyond (suc m) back.0 (suc m) (led steps at) (omega arith) (omega arith) on.1 in
              let low = to.1 in
              let same = same_number cs c chain t.end t.is_chain to.0 m at (subst (StandsAt cs chain to.0) back.1 to.2) s in
              omega arith
          | inr last ↦ let all = last.0 in omega arith
        ]

    -- ---- walks that halt at flags

    module _ (flags : List Bool) where
      halts : (n at : ℕ) → get_or flags at false ≡ true → led_far (halted flags steps) n at ≡ at
      halts zero at f = refl
      halts (suc n) at f = ap (led_far (halted flags steps) n) stay ∙ halts n at f
        where
          stay : halted flags steps at ≡ at
          stay = rw f refl

      goes : (at : ℕ) → get_or flags at false ≡ false → halted flags steps at ≡ led steps at
      goes at f = rw f refl

      -- to the first one
      pub reach : (d m at to : ℕ) → StandsAt cs chain m at → StandsAt cs chain (m + d) to → get_or flags to false ≡ true → ((k x : ℕ) → m ≤ k → k < m + d → StandsAt cs chain k x → get_or flags x false ≡ false)
          → (n : ℕ) → d ≤ n → led_far (halted flags steps) n at ≡ to
      reach zero m at to s end f none n le =
          let same : m + 0 ≡ m = omega arith in
          let here = one_place cs chain m at to s (subst (λ (k : ℕ). StandsAt cs chain k to) same end) in
          halts n at (ap (λ (x : ℕ). get_or flags x false) here ∙ f) ∙ here
      reach (suc d) m at to s end f none zero le = absurd (omega arith)
      reach (suc d) m at to s end f none (suc n) le =
          let off = none m at (omega arith) (omega arith) s in
          let inside = within cs c chain t.end t.is_chain (m + suc d) to end in
          let move : m + suc d ≡ suc m + d = omega arith in
          ap (led_far (halted flags steps) n) (goes at off) ∙ elim (next_step m at (led steps at) s (step_led m at s)) [
            | inl on ↦ reach d (suc m) (led steps at) to on.1 (subst (λ (k : ℕ). StandsAt cs chain k to) move end) f (λ k x low high. none k x (omega arith) (omega arith)) n (omega arith)
            | inr last ↦ let all = last.0 in absurd (omega arith)
          ]

      -- or, if there is none, to the turn
      pub round : (d m at to : ℕ) → StandsAt cs chain m at → m + suc d ≡ length chain → ((k x : ℕ) → m ≤ k → StandsAt cs chain k x → get_or flags x false ≡ false) → StandsAt cs chain entry to
          → (n : ℕ) → led_far (halted flags steps) (suc d + n) at ≡ led_far (halted flags steps) n to
      round zero m at to s all none turn n =
          let off = none m at (omega arith) s in
          let add : suc 0 + n ≡ suc n = omega arith in
          ap (λ (k : ℕ). led_far (halted flags steps) k at) add ∙ (ap (led_far (halted flags steps) n) (goes at off) ∙ elim (next_step m at (led steps at) s (step_led m at s)) [
            | inl on ↦ let less = on.0 in absurd (omega arith)
            | inr last ↦ ap (led_far (halted flags steps) n) (one_place cs chain entry (led steps at) to last.1 turn)
          ])
      round (suc d) m at to s all none turn n =
          let off = none m at (omega arith) s in
          let add : suc (suc d) + n ≡ suc (suc d + n) = omega arith in
          ap (λ (k : ℕ). led_far (halted flags steps) k at) add ∙ (ap (led_far (halted flags steps) (suc d + n)) (goes at off) ∙ elim (next_step m at (led steps at) s (step_led m at s)) [
            | inl on ↦ round d (suc m) (led steps at) to on.1 (omega arith) (λ k x low. none k x (omega arith)) turn n
            | inr last ↦ let less = last.0 in absurd (omega arith)
          ])

      -- nor behind that
      pub never : (low : ℕ) → low ≤ entry → ((k x : ℕ) → low ≤ k → StandsAt cs chain k x → get_or flags x false ≡ false) → (n m at : ℕ) → low ≤ m → StandsAt cs chain m at
          → get_or flags (led_far (halted flags steps) n at) false ≡ false
      never low turn none zero m at le s = none m at le s
      never low turn none (suc n) m at le s =
          let off = none m at le s in
          ap (λ (x : ℕ). get_or flags (led_far (halted flags steps) n x) false) (goes at off) ∙ elim (next_step m at (led steps at) s (step_led m at s)) [
            | inl on ↦ never low turn none n (suc m) (led steps at) (omega arith) on.1
            | inr last ↦ never low turn none n entry (led steps at) turn last.1
          ]

    -- a walk that halts where steps lead back halts at the turn
    pub turns_at : (flags : List Bool) → FlagReturns steps flags → (first count : ℕ) → place cs c ≡ Some first → length cs ≤ count → StandsAt cs chain entry (led_far (halted flags steps) count first)
    turns_at flags back first count e le =
        let inside = turn_within in
        let most = few cs c chain t.end t.is_chain in
        let turn = stands cs chain c t.end t.is_chain entry inside in
        let from_zero : entry ≡ 0 + entry = omega arith in
        let to = reach flags entry 0 first turn.0 (at_first cs c chain t.end t.is_chain first e) (subst (λ (k : ℕ). StandsAt cs chain k turn.0) from_zero turn.1)
        ((back.each turn.0 (placed entry turn.0 turn.1)).1 (turn_comes_back turn.0 turn.1)) (λ k x low high s. unflagged k x (omega arith) s) count (omega arith) in
        subst (StandsAt cs chain entry) (sym to) turn.1
      where
        placed : (k x : ℕ) → StandsAt cs chain k x → x < length steps
        placed k x s =
            let lt = has_class cs chain k x s in
            let all = length-map cs (λ (d : ClassDecl). option_and_then (place cs) d.superclass) in
            let steps_all = up.all in
            omega arith

        unflagged : (k x : ℕ) → k < entry → StandsAt cs chain k x → get_or flags x false ≡ false
        unflagged k x lt s = elim (cases_Bool (get_or flags x false)) [
          | inl flag ↦ absurd (not_back k x s lt ((back.each x (placed k x s)).0 flag))
          | inr none ↦ none
        ]

-- ---- the classes that declare members

flag_is : (cs : List ClassDecl) (chain : List Name) (n at : ℕ) → StandsAt cs chain n at → get_or (map has_members cs) at false ≡ declares_nth cs chain n
flag_is cs chain n at s =
    let k = place_class cs s.0 at s.2 in
    get_or_from_slice_get (map has_members cs) at (has_members k.0) false (slice_get-map has_members cs at ∙ ap (option_map has_members) k.1)
    ∙ sym (ap (λ (o : Option Name). unwrap_or (option_map has_members (option_and_then (decl cs) o)) false) s.1
    ∙ ap (λ (o : Option ClassDecl). unwrap_or (option_map has_members o) false) k.2)

-- a class of so many, or none
first_number : (cs : List ClassDecl) (chain : List Name) (many n : ℕ) → ((k : ℕ) × (n ≤ k) × (k < n + many) × (declares_nth cs chain k ≡ true) × NoneIn cs chain n k) ⊎ NoneIn cs chain n (n + many)
first_number cs chain zero n = inr (λ k le lt. absurd (omega arith))
first_number cs chain (suc many) n = by (declares_nth cs chain n) refl (first_number cs chain many (suc n))
  where
    Found : ℕ → ℕ → Type 0
    Found m many = ((k : ℕ) × (m ≤ k) × (k < m + many) × (declares_nth cs chain k ≡ true) × NoneIn cs chain m k) ⊎ NoneIn cs chain m (m + many)

    by : (b : Bool) → declares_nth cs chain n ≡ b → Found (suc n) many → Found n (suc many)
    by true e rest = inl (n, omega arith, omega arith, e, λ k le lt. absurd (omega arith))
    by false e (inl r) = let low = r.1 in let high = r.2 in inl (r.0, omega arith, omega arith, r.3, λ k le lt. elim (cases_eq k n) [ inl same ↦ ap (declares_nth cs chain) same ∙ e | inr apart ↦ r.4 k (omega arith) lt ])
    by false e (inr r) = inr (λ k le lt. elim (cases_eq k n) [ inl same ↦ ap (declares_nth cs chain) same ∙ e | inr apart ↦ r k (omega arith) (omega arith) ])

module _ (cs : List ClassDecl) (c : Name) (chain : List Name) (entry : ℕ) (t : Turns cs c chain entry) where
  first_from : (n : ℕ) → n ≤ length chain → ((at : ℕ) × IsFirstAt cs chain n at) ⊎ NoneIn cs chain n (length chain)
  first_from n le =
      let many : ℕ = length chain - n in
      let sum : n + many ≡ length chain = omega arith in
      elim (first_number cs chain many n) [
        | inl r ↦
            let high = r.2 in
            let s = stands cs chain c t.end t.is_chain r.0 (omega arith) in
            inl (s.0, record { number = r.0; behind = r.1; here = s.1; declares = r.3; none = r.4 })
        | inr none ↦ inr (subst (NoneIn cs chain n) sum none)
      ]

  -- there is a next one, or none
  pub has_next : (n : ℕ) → n ≤ length chain → (o : Option ℕ) × IsNextOf cs chain entry n o
  has_next n le = elim (first_from n le) [
    | inl f ↦ (Some f.0, inl (f.0, f.1, refl))
    | inr none ↦
        let inside = turn_within cs c chain entry t in
        elim (first_from entry (omega arith)) [ inl f ↦ (Some f.0, inr (none, inl (f.0, f.1, refl))) | inr all ↦ (None, inr (none, inr (all, refl))) ]
  ]

  pub next_is : (n at : ℕ) (o : Option ℕ) → StandsAt cs chain n at → IsNearestAt cs at o → IsNextOf cs chain entry n o
  next_is n at o s near =
      let lt = within cs c chain t.end t.is_chain n at s in
      let next = has_next n (omega arith) in
      subst (IsNextOf cs chain entry n) (sym (near c chain entry n next.0 t s next.1)) next.1

  next_at_turn : (o : Option ℕ) → IsNextOf cs chain entry entry o → IsFirstFrom cs chain entry o
  next_at_turn o (inl f) = inl f
  next_at_turn o (inr none) = none.1

  pub turn_next : (at : ℕ) (o : Option ℕ) → StandsAt cs chain entry at → IsNearestAt cs at o → IsFirstFrom cs chain entry o
  turn_next at o s near = next_at_turn o (next_is entry at o s near)

  same_first : (n at to : ℕ) → IsFirstAt cs chain n at → IsFirstAt cs chain n to → at ≡ to
  same_first n at to f g = elim (cases_lt f.number g.number) [
    | inl lt ↦ absurd (false≢true (sym (g.none f.number f.behind lt) ∙ f.declares))
    | inr le ↦ elim (cases_lt g.number f.number) [
      | inl lt ↦ absurd (false≢true (sym (f.none g.number g.behind lt) ∙ g.declares))
      | inr ge ↦ let same : f.number ≡ g.number = omega arith in one_place cs chain g.number at to (subst (λ (m : ℕ). StandsAt cs chain m at) same f.here) g.here
    ]
  ]

  not_none_in : (n at : ℕ) → IsFirstAt cs chain n at → NoneIn cs chain n (length chain) → ⊥
  not_none_in n at f none = false≢true (sym (none f.number f.behind (within cs c chain t.end t.is_chain f.number at f.here)) ∙ f.declares)

  pub same_first_from : (o p : Option ℕ) → IsFirstFrom cs chain entry o → IsFirstFrom cs chain entry p → o ≡ p
  same_first_from o p (inl f) (inl g) = f.2 ∙ (ap (λ (x : ℕ). Some x) (same_first entry f.0 g.0 f.1 g.1) ∙ sym g.2)
  same_first_from o p (inl f) (inr g) = absurd (not_none_in entry f.0 f.1 g.0)
  same_first_from o p (inr f) (inl g) = absurd (not_none_in entry g.0 g.1 f.0)
  same_first_from o p (inr f) (inr g) = f.1 ∙ sym g.1

  -- where the walk ends that halts at the classes which declare members
  module _ (steps : List ℕ) (up : StepsUp cs steps) where
    no_flag : (low : ℕ) → NoneIn cs chain low (length chain) → (k x : ℕ) → low ≤ k → StandsAt cs chain k x → get_or (map has_members cs) x false ≡ false
    no_flag low none k x le s = flag_is cs chain k x s ∙ none k le (within cs c chain t.end t.is_chain k x s)

    reach_first : (n at to : ℕ) → StandsAt cs chain n at → (f : IsFirstAt cs chain n to) → (count : ℕ) → f.number ≤ n + count → led_far (halted (map has_members cs) steps) count at ≡ to
    reach_first n at to s f count le =
        let behind = f.behind in
        let inside = within cs c chain t.end t.is_chain f.number to f.here in
        let sum : f.number ≡ n + (f.number - n) = omega arith in
        reach cs c chain entry t steps up (map has_members cs) (f.number - n) n at to s (subst (λ (k : ℕ). StandsAt cs chain k to) sum f.here) (flag_is cs chain f.number to f.here ∙ f.declares)
        (λ k x low high y. flag_is cs chain k x y ∙ f.none k low (omega arith)) count (omega arith)

    declares_at : (n at : ℕ) → IsFirstAt cs chain n at → declaring_place cs at ≡ Some at
    declares_at n at f = let flag = flag_is cs chain f.number at f.here ∙ f.declares in rw flag refl

    flag_none : (at : ℕ) → get_or (map has_members cs) at false ≡ false → declaring_place cs at ≡ None
    flag_none at e = rw e refl

    ends_at : (n at count : ℕ) (o : Option ℕ) → StandsAt cs chain n at → length cs ≤ count → IsNextOf cs chain entry n o → declaring_place cs (led_far (halted (map has_members cs) steps) count at) ≡ o
    ends_at n at count o s le (inl f) =
        let most = few cs c chain t.end t.is_chain in
        let inside = within cs c chain t.end t.is_chain f.1.number f.0 f.1.here in
        ap (declaring_place cs) (reach_first n at f.0 s f.1 count (omega arith)) ∙ (declares_at n f.0 f.1 ∙ sym f.2)
    ends_at n at count o s le (inr (none, inl f)) =
        let most = few cs c chain t.end t.is_chain in
        let inside = within cs c chain t.end t.is_chain n at s in
        let turn = stands cs chain c t.end t.is_chain entry (turn_within cs c chain entry t) in
        let d : ℕ = length chain - suc n in
        let rest : ℕ = count - suc d in
        let sum : count ≡ suc d + rest = omega arith in
        let before : f.1.number < n = elim (cases_lt f.1.number n) [
          | inl lt ↦ lt
          | inr ge ↦ absurd (false≢true (sym (none f.1.number ge (within cs c chain t.end t.is_chain f.1.number f.0 f.1.here)) ∙ f.1.declares))
        ] in
        let behind = f.1.behind in
        let enough : f.1.number ≤ entry + rest = omega arith in
        ap (declaring_place cs)
        (ap (λ (k : ℕ). led_far (halted (map has_members cs) steps) k at) sum
        ∙ (round cs c chain entry t steps up (map has_members cs) d n at turn.0 s (omega arith) (no_flag n none) turn.1 rest
        ∙ reach_first entry turn.0 f.0 turn.1 f.1 rest enough))
        ∙ (declares_at entry f.0 f.1 ∙ sym f.2)
    ends_at n at count o s le (inr (none, inr f)) = elim (cases_lt n entry) [
      | inl lt ↦ flag_none (led_far (halted (map has_members cs) steps) count at) (never cs c chain entry t steps up (map has_members cs) n (omega arith) (no_flag n none) count n at (omega arith) s) ∙ sym f.1
      | inr ge ↦ flag_none (led_far (halted (map has_members cs) steps) count at) (never cs c chain entry t steps up (map has_members cs) entry (omega arith) (no_flag entry f.0) count n at ge s) ∙ sym f.1
    ]

-- ---- the lists

pub steps_stay : (cs : List ClassDecl) (steps : List ℕ) → StepsUp cs steps → StayWithin steps
steps_stay cs steps up at lt =
    let all = length-map cs (λ (d : ClassDecl). option_and_then (place cs) d.superclass) in
    let steps_all = up.all in
    elim (up.each at (omega arith)) [
      | inl leads ↦
          let k = at_some cs at (omega arith) in
          let next = step_up cs at k.0 (led steps at) k.1 leads in
          let inside = slice_get_within cs (led steps at) next.class next.here in
          omega arith
      | inr stays ↦ let same = stays.1 in omega arith
    ]

pub turns_are : (cs : List ClassDecl) (steps : List ℕ) (flags : List Bool) (turns : List ℕ) → StepsUp cs steps → FlagReturns steps flags → LeadFar (halted flags steps) (length steps) turns → AreTurns cs turns
turns_are cs steps flags turns up back f =
    let all = length-map cs (λ (d : ClassDecl). option_and_then (place cs) d.superclass) in
    let steps_all = up.all in
    record {
      all = f.all ∙ (up.all ∙ all);
      each = λ at c chain number to e t s.
          let k = place_class cs c at e in
          let lt = slice_get_within cs at k.0 k.1 in
          let enough = f.enough in
          f.each at (omega arith) ∙ one_place cs chain number _ to (turns_at cs c chain number t steps up flags back at f.count e (omega arith)) s;
    }

pub nearest_are : (cs : List ClassDecl) (steps nearest : List ℕ) → StepsUp cs steps → LeadFar (halted (map has_members cs) steps) (length steps) nearest → AreNearest cs nearest
nearest_are cs steps nearest up f =
    let all = length-map cs (λ (d : ClassDecl). option_and_then (place cs) d.superclass) in
    let steps_all = up.all in
    record {
      all = f.all ∙ (up.all ∙ all);
      inside = λ at lt.
          let below : at < length steps = omega arith in
          let stay = far_within (halted (map has_members cs) steps) (length steps) (halted_within (map has_members cs) steps (steps_stay cs steps up)) f.count at below in
          let same = f.each at below in
          omega arith;
      each = λ at c chain entry n o t s next.
          let lt = has_class cs chain n at s in
          let enough = f.enough in
          ap (declaring_place cs) (f.each at (omega arith)) ∙ ends_at cs c chain entry t steps up n at f.count o s (omega arith) next;
    }

-- ---- reading the lists

pub turn_read : (cs : List ClassDecl) (turns : List ℕ) (at turn : ℕ) → AreTurns cs turns → at < length cs → turn ≡ get_or turns at turn → IsTurn cs at turn
turn_read cs turns at turn are lt is =
    let all = are.all in
    subst (IsTurn cs at) (sym (get_or_read turns at turn (omega arith) is at)) (are.each at)

nearest_read : (cs : List ClassDecl) (places : List ℕ) (at found : ℕ) → AreNearest cs places → at < length cs → found ≡ get_or places at found → found ≡ led places at
nearest_read cs places at found are lt is = let all = are.all in get_or_read places at found (omega arith) is at

pub nearest_inside : (cs : List ClassDecl) (places : List ℕ) (at found : ℕ) → AreNearest cs places → at < length cs → found ≡ get_or places at found → found < length cs
nearest_inside cs places at found are lt is = subst (λ (x : ℕ). x < length cs) (sym (nearest_read cs places at found are lt is)) (are.inside at lt)

-- of a flag that was read
pub nearest_flagged : (cs : List ClassDecl) (places : List ℕ) (flags : List Bool) (at found : ℕ) (flag : Bool) → AreNearest cs places → flags ≡ map has_members cs → at < length cs → found ≡ get_or places at found → flag ≡ get_or flags found flag
    → IsNearestAt cs at (if flag then Some found else None)
nearest_flagged cs places flags at found flag are same lt is read =
    let inside = nearest_inside cs places at found are lt is in
    let all = length-map cs has_members in
    let below : found < length flags = omega (arith, ap length same) in
    let told : flag ≡ get_or (map has_members cs) found false = get_or_read flags found flag below read false ∙ ap (λ (fs : List Bool). get_or fs found false) same in
    subst (IsNearestAt cs at) (ap (declaring_place cs) (sym (nearest_read cs places at found are lt is)) ∙ ap (λ (b : Bool). if b then Some found else None) (sym told)) (are.each at)
