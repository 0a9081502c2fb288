-- How keys stand in lists of nodes.
use Rattle.std.specs.List.{position_or_len}
use Rattle.std.proofs.lemmas.Option.{none-some, same_Some}
use Rattle.item_ids.specs.Keys.{key_cmp}
use Rattle.key_states.specs.declared.nodes.Standing.{Standing}
use Rattle.key_states.specs.declared.nodes.Standing.TheVariants as standing
use Rattle.std.proofs.Common.{◌≡◌, ◌⊎◌, ◌==◌, inl, inr, ℕ, suc, zero, ◌+◌, ◌<◌, Bool, true, false, not, cond, List, [], ◌∷◌, ◌++◌, length, position, refl, sym, ap, ◌∙◌, subst, Option, Some, None, arith, true≢false}
use Rattle.std.specs.Prelude.{if◌then◌else◌, nat_lt, Result, Ok, Err, OnOk}
use Rattle.std.proofs.lemmas.Bool.{ltb-true, eqb-true, eq-eqb}
use Rattle.std.proofs.Math.Decide.{dec_lt}
use Rattle.item_ids.specs.declared.key.Key.{Key}
use Rattle.item_ids.specs.Inputs.{rank}
use Rattle.result_bytes.specs.declared.value.Value.{Value}
use Rattle.recorder.specs.Projects.{Project}
use Rattle.sessions.specs.declared.mark.Mark.{Mark}
use Rattle.sessions.specs.declared.mark.Mark.TheVariants.{Input}
use Rattle.graph_rules.specs.Keys.{same_key, input_of}
use Rattle.graph_rules.proofs.KeyRules.{same_refl, same_is, same_sym}
use Rattle.graph_rules.specs.Steps.{Status, Unknown, Claimed, Running, Done, IsHeldBy, IsNotDone, IsDoneWith, at_opening}
use Rattle.key_states.specs.Nodes.{Node, IsInputIn, AreDoneInputs, AreOpened, status_of, status_in, status_at, unless_input, has_key, KeysStandOnce, IsFirstNode, AllAbove}
use Rattle.key_states.specs.Closing.{IsQuiet}
use Rattle.key_states.specs.Reached.{AllQuiet}
use Rattle.std.specs.Ordering.{eq_by_cmp}
use Rattle.std.specs.Map.{keys_of, lookup}
use Rattle.indexmap.specs.Layout.{set_value_at}

same_test : (a b : Key) → eq_by_cmp key_cmp a b ≡ same_key a b
unfolding same_key
same_test a b = refl

-- the map's test for a key is that of nodes, the other way round
sought_same : (q x : Key) → eq_by_cmp key_cmp q x ≡ same_key x q
sought_same q x = same_test q x ∙ same_sym q x

first_within : (ns : List Node) (q : Key) → position_or_len (eq_by_cmp key_cmp q) (keys_of ns) < length (keys_of ns) → IsFirstNode ns q (position_or_len (eq_by_cmp key_cmp q) (keys_of ns)) × (position_or_len (eq_by_cmp key_cmp q) (keys_of ns) < length ns)
first_within [] q lt = absurd (omega (arith, lt))
first_within (m ∷ ns) q lt =
    (elim (eq_by_cmp key_cmp q m.0) as (λ b. eq_by_cmp key_cmp q m.0 ≡ b → cond (not b) (1 + position_or_len (eq_by_cmp key_cmp q) (keys_of ns)) 0 < suc (length (keys_of ns))
    → IsFirstNode (m ∷ ns) q (cond (not b) (1 + position_or_len (eq_by_cmp key_cmp q) (keys_of ns)) 0) × (cond (not b) (1 + position_or_len (eq_by_cmp key_cmp q) (keys_of ns)) 0 < suc (length ns))) [
      | true ↦ λ is l. (sym (sought_same q m.0) ∙ is, omega arith)
      | false ↦ λ is l.
          let rest = first_within ns q (omega (arith, l)) in
          let one : suc (position_or_len (eq_by_cmp key_cmp q) (keys_of ns)) ≡ 1 + position_or_len (eq_by_cmp key_cmp q) (keys_of ns) = omega arith in
          (subst (λ (i : ℕ). IsFirstNode (m ∷ ns) q i) one (sym (sought_same q m.0) ∙ is, rest.0), omega (arith, rest.1))
    ]) refl lt

-- the place that the map finds is the key's first one
pub first_at : (ns : List Node) (q : Key) (i : ℕ) → position (eq_by_cmp key_cmp q) (keys_of ns) ≡ Some i → IsFirstNode ns q i × (i < length ns)
first_at ns q i is =
    (elim (nat_lt (position_or_len (eq_by_cmp key_cmp q) (keys_of ns)) (length (keys_of ns))) as (λ b. nat_lt (position_or_len (eq_by_cmp key_cmp q) (keys_of ns)) (length (keys_of ns)) ≡ b
    → cond b (Some (position_or_len (eq_by_cmp key_cmp q) (keys_of ns))) None ≡ Some i → IsFirstNode ns q i × (i < length ns)) [
      | true ↦ λ lt e. let f = first_within ns q (ltb-true _ _ lt) in subst (λ j. IsFirstNode ns q j × (j < length ns)) (same_Some _ i e) f
      | false ↦ λ lt e. absurd (none-some i e)
    ]) refl is

-- how a key stands, by the map's look-up
abbrev pub status_by : Option Standing → Status
status_by None = Unknown
status_by (Some s) = status_of s

pub status_found : (ns : List Node) (q : Key) → status_in ns q ≡ status_by (lookup (eq_by_cmp key_cmp q) ns)
status_found [] q = refl
status_found (m ∷ ns) q = rw (sought_same q m.0) (elim (same_key m.0 q) as (λ b. (if b then status_of m.1 else status_in ns q) ≡ status_by (cond b (Some m.1) (lookup (eq_by_cmp key_cmp q) ns))) [
  | true ↦ refl
  | false ↦ status_found ns q
])

put_here : (m q k : Key) (x y z : Status) (n : Key) → n ≡ m → m ≡ q
    → (if same_key n k then x else z) ≡ (if same_key q k then x else (if same_key m k then y else z))
put_here m q k x y z n nm mq = rw (nm, mq) (elim (same_key q k) as (λ b. (if b then x else z) ≡ (if b then x else (if b then y else z))) [ true ↦ refl | false ↦ refl ])

put_later : (m q k : Key) (x y z r : Status) → same_key m q ≡ false → r ≡ (if same_key q k then x else z)
    → (if same_key m k then y else r) ≡ (if same_key q k then x else (if same_key m k then y else z))
put_later m q k x y z r isnt is = (elim (same_key m k) as (λ b. same_key m k ≡ b → (if b then y else r) ≡ (if same_key q k then x else (if b then y else z))) [
  | true ↦ λ here. let e = same_is m k here in
      let apart : same_key q k ≡ false = subst (λ (v : Key). same_key q v ≡ false) e (same_sym q m ∙ isnt) in
      rw apart refl
  | false ↦ λ here. is
]) refl

-- writing how the first node of a key stands
pub status_put : (ns : List Node) (q k : Key) (at : ℕ) (s : Standing) → IsFirstNode ns q at
    → status_in (set_value_at ns at s) k ≡ (if same_key q k then status_of s else status_in ns k)
status_put [] q k at s f = elim f [ ]
status_put (m ∷ ns) q k zero s f =
    let here : m.0 ≡ q = same_is m.0 q f in
    put_here m.0 q k (status_of s) (status_of m.1) (status_in ns k) m.0 refl here
status_put (m ∷ ns) q k (suc at) s f =
    put_later m.0 q k (status_of s) (status_of m.1) (status_in ns k) _ f.0 (status_put ns q k at s f.1)

key_put : (ns : List Node) (q : Key) (at : ℕ) (s : Standing) → has_key q (set_value_at ns at s) ≡ has_key q ns
key_put [] q at s = refl
key_put (m ∷ ns) q zero s = refl
key_put (m ∷ ns) q (suc at) s = rw (key_put ns q at s) refl

pub first_below : (ns : List Node) (q : Key) (i : ℕ) → IsFirstNode ns q i → i < length ns
first_below [] q i f = elim f [ ]
first_below (m ∷ ns) q zero f = omega arith
first_below (m ∷ ns) q (suc i) f = let h = first_below ns q i f.1 in omega arith

pub above_held : (ns : List Node) (w r : ℕ) (k : Key) → AllAbove w r ns → IsHeldBy w (status_in ns k) → r < rank k
above_held [] w r k a h = elim h [ ]
above_held (m ∷ ns) w r k a h =
    (elim (same_key m.0 k) as (λ b. same_key m.0 k ≡ b → IsHeldBy w (if b then status_of m.1 else status_in ns k) → r < rank k) [
      | true ↦ λ is g. rw (← same_is m.0 k is) (a.0 g)
      | false ↦ λ is g. above_held ns w r k a.1 g
    ]) refl h

-- a key that no node has isn't held
no_status : (ns : List Node) (w : ℕ) (k : Key) → has_key k ns ≡ false → IsHeldBy w (status_in ns k) → ⊥
no_status [] w k absent held = elim held [ ]
no_status (m ∷ ns) w k absent held =
    (elim (same_key m.0 k) as (λ b. (if b then true else has_key k ns) ≡ false → IsHeldBy w (if b then status_of m.1 else status_in ns k) → ⊥) [
      | true ↦ λ is g. absurd (cc)
      | false ↦ λ is g. no_status ns w k is g
    ]) absent held

-- a key that w has in the rest is another one
not_here : (ns : List Node) (w : ℕ) (m k : Key) → has_key m ns ≡ false → IsHeldBy w (status_in ns k) → same_key m k ≡ false
not_here ns w m k absent held =
    (elim (same_key m k) as (λ b. same_key m k ≡ b → b ≡ false) [
      | true ↦ λ is. absurd (no_status ns w k (subst (λ (x : Key). has_key x ns ≡ false) (same_is m k is) absent) held)
      | false ↦ λ is. refl
    ]) refl

-- ---- which key is in the way

same_or_not : (u w : ℕ) → (u ≡ w) ⊎ (u ≡ w → ⊥)
same_or_not u w =
    (elim (u == w) as (λ b. (u == w) ≡ b → (u ≡ w) ⊎ (u ≡ w → ⊥)) [
      | true ↦ λ is. inl (eqb-true u w is)
      | false ↦ λ isnt. inr (λ is. true≢false (sym (eq-eqb u w is) ∙ isnt))
    ]) refl

held_or_free : (w : ℕ) (x : Status) → IsHeldBy w x ⊎ (IsHeldBy w x → ⊥)
held_or_free w Unknown = inr (λ h. h)
held_or_free w (Claimed u) = same_or_not u w
held_or_free w (Running u) = same_or_not u w
held_or_free w (Done v es m) = inr (λ h. h)

-- w has this node's key, which isn't above the rank; or else it doesn't, or it is
own_or_above : (w r : ℕ) (n : Node) → (IsHeldBy w (status_of n.1) × ¬ (r < rank n.0)) ⊎ (IsHeldBy w (status_of n.1) → r < rank n.0)
own_or_above w r n = elim (held_or_free w (status_of n.1)) [
  | inl held ↦ elim (dec_lt r (rank n.0)) [ yes above ↦ inr (λ _. above) | no not_above ↦ inl (held, not_above) ]
  | inr free ↦ inr (λ held. absurd (free held))
]

-- if not all keys that w has are above the rank, this is one of the others
pub own_in : (ns : List Node) (w r : ℕ) → KeysStandOnce ns → (AllAbove w r ns → ⊥) → (k : Key) × IsHeldBy w (status_in ns k) × ¬ (r < rank k)
own_in [] w r apart none = absurd (none tt)
own_in (m ∷ ns) w r apart none = elim (own_or_above w r m) [
  | inl own ↦ (m.0, rw (same_refl m.0) own.0, own.1)
  | inr above ↦ (
      let own = own_in ns w r apart.1 (λ all. none (above, all)) in
      (own.0, rw (not_here ns w m.0 own.0 apart.0 own.1) own.1, own.2)
      )
]

quiet_or_held : (x : Status) → IsQuiet x ⊎ ((w : ℕ) × IsHeldBy w x)
quiet_or_held Unknown = inl tt
quiet_or_held (Claimed w) = inr (w, refl)
quiet_or_held (Running w) = inr (w, refl)
quiet_or_held (Done v es m) = inl tt

-- if not all keys are quiet, a worker has one of them
pub held_in : (ns : List Node) → KeysStandOnce ns → (AllQuiet ns → ⊥) → (k : Key) × (w : ℕ) × IsHeldBy w (status_in ns k)
held_in [] apart none = absurd (none tt)
held_in (m ∷ ns) apart none = elim (quiet_or_held (status_of m.1)) [
  | inl quiet ↦ (
      let h = held_in ns apart.1 (λ all. none (quiet, all)) in
      (h.0, h.1, rw (not_here ns h.1 m.0 h.0 apart.0 h.2) h.2)
      )
  | inr h ↦ (m.0, h.0, rw (same_refl m.0) h.1)
]

pub status_not_input : (p : Project) (ns : List Node) (q : Key) → input_of p q ≡ None → status_at p ns q ≡ status_in ns q
status_not_input p ns q none = ap (λ o. unless_input o (status_in ns q)) none

known_standing : (s : Standing) → status_of s ≡ Unknown → ⊥
known_standing (standing.Claimed w) e = cc
known_standing (standing.Running w) e = cc
known_standing (standing.Done v es m) e = cc

pub unknown_absent : (ns : List Node) (q : Key) → status_in ns q ≡ Unknown → has_key q ns ≡ false
unknown_absent [] q e = refl
unknown_absent (m ∷ ns) q e =
    (elim (same_key m.0 q) as (λ b. (if b then status_of m.1 else status_in ns q) ≡ Unknown → (if b then true else has_key q ns) ≡ false) [
      | true ↦ λ h. absurd (known_standing m.1 h)
      | false ↦ λ h. unknown_absent ns q h
    ]) e

has_key_last : (ns : List Node) (n : Node) (q : Key) → has_key q ns ≡ false → same_key n.0 q ≡ false → has_key q (ns ++ n ∷ []) ≡ false
has_key_last [] n q a b = rw b refl
has_key_last (m ∷ ns) n q a b =
    (elim (same_key m.0 q) as (λ x. (if x then true else has_key q ns) ≡ false → (if x then true else has_key q (ns ++ n ∷ [])) ≡ false) [
      | true ↦ λ h. h
      | false ↦ λ h. has_key_last ns n q h b
    ]) a

absent_head : (ns : List Node) (m : Node) (q : Key) → has_key q (m ∷ ns) ≡ false → (same_key m.0 q ≡ false) × (has_key q ns ≡ false)
absent_head ns m q a =
    (elim (same_key m.0 q) as (λ x. (if x then true else has_key q ns) ≡ false → (x ≡ false) × (has_key q ns ≡ false)) [
      | true ↦ λ h. absurd (cc)
      | false ↦ λ h. (refl, h)
    ]) a

pub apart_last : (ns : List Node) (n : Node) → KeysStandOnce ns → has_key n.0 ns ≡ false → KeysStandOnce (ns ++ n ∷ [])
apart_last [] n a absent = (refl, tt)
apart_last (m ∷ ns) n a absent =
    let h = absent_head ns m n.0 absent in
    (has_key_last ns n m.0 a.0 (same_sym n.0 m.0 ∙ h.0), apart_last ns n a.1 h.1)

pub status_last : (ns : List Node) (n : Node) (q k : Key) (x : Status) → n.0 ≡ q → status_of n.1 ≡ x → has_key q ns ≡ false
    → status_in (ns ++ n ∷ []) k ≡ (if same_key q k then x else status_in ns k)
status_last [] n q k x here is absent = rw (here, is) refl
status_last (m ∷ ns) n q k x here is absent =
    let h = absent_head ns m q absent in
    put_later m.0 q k x (status_of m.1) (status_in ns k) _ h.0 (status_last ns n q k x here is h.1)

-- writing how a node stands moves no key
pub apart_put : (ns : List Node) (at : ℕ) (s : Standing) → KeysStandOnce ns → KeysStandOnce (set_value_at ns at s)
apart_put [] at s a = a
apart_put (m ∷ ns) zero s a = a
apart_put (m ∷ ns) (suc at) s a = (key_put ns m.0 at s ∙ a.0, apart_put ns at s a.1)

-- a key that is unknown isn't found
no_status_by : (o : Option Standing) → status_by o ≡ Unknown → o ≡ None
no_status_by None e = refl
no_status_by (Some s) e = absurd (known_standing s e)

pub unknown_missing : (ns : List Node) (q : Key) → status_in ns q ≡ Unknown → lookup (eq_by_cmp key_cmp q) ns ≡ None
unknown_missing ns q e = no_status_by (lookup (eq_by_cmp key_cmp q) ns) (sym (status_found ns q) ∙ e)

-- ---- inputs among the nodes

done_here : (o : Option Value) (x : Status) (v : Value) (es : List Key) (m : Mark) → ((u : Value) → o ≡ Some u → IsInputIn u x) → x ≡ Done v es m → unless_input o x ≡ Done v es m
done_here (Some u) x v es m inner is = elim (inner u refl) [
  | inl unknown ↦ absurd (let e : Unknown ≡ Done v es m = sym unknown ∙ is in cc)
  | inr done ↦ sym done ∙ is
]
done_here None x v es m inner is = is

-- a key that is done here
pub status_done : (p : Project) (ns : List Node) (q : Key) (v : Value) (es : List Key) (m : Mark) → AreDoneInputs p ns → status_in ns q ≡ Done v es m → status_at p ns q ≡ Done v es m
status_done p ns q v es m inputs is = done_here (input_of p q) (status_in ns q) v es m (inputs q) is

held_here : (o : Option Value) (x : Status) → ((u : Value) → o ≡ Some u → IsInputIn u x) → (x ≡ Unknown → ⊥) → IsNotDone x → unless_input o x ≡ x
held_here (Some u) x inner known still = elim (inner u refl) [
  | inl unknown ↦ absurd (known unknown)
  | inr done ↦ absurd (subst (λ (y : Status). IsNotDone y) done still)
]
held_here None x inner known still = refl

-- a key that is claimed or running here
pub status_held : (p : Project) (ns : List Node) (q : Key) (x : Status) → AreDoneInputs p ns → status_in ns q ≡ x → (x ≡ Unknown → ⊥) → IsNotDone x → status_at p ns q ≡ x
status_held p ns q x inputs is known still =
    held_here (input_of p q) (status_in ns q) (inputs q) (λ u. known (sym is ∙ u)) (subst (λ (y : Status). IsNotDone y) (sym is) still) ∙ is

at_none : (o : Option Value) (x : Status) → x ≡ Unknown → unless_input o x ≡ at_opening o
at_none (Some v) x is = refl
at_none None x is = is

-- a key that is unknown here
pub status_none : (p : Project) (ns : List Node) (q : Key) → status_in ns q ≡ Unknown → status_at p ns q ≡ at_opening (input_of p q)
status_none p ns q is = at_none (input_of p q) (status_in ns q) is

-- one more input
input_set : (p : Project) (ns ms : List Node) (q : Key) (v : Value) → input_of p q ≡ Some v → ((k : Key) → status_in ms k ≡ (if same_key q k then Done v [] Input else status_in ns k))
    → AreOpened p ns → (k : Key) (b : Bool) → same_key q k ≡ b → ((u : Value) → input_of p k ≡ Some u → IsInputIn u (if b then Done v [] Input else status_in ns k)) × (input_of p k ≡ None → (if b then Done v [] Input else status_in ns k) ≡ Unknown)
input_set p ns ms q v some put opened k true same =
    let here : input_of p k ≡ Some v = subst (λ (x : Key). input_of p x ≡ Some v) (same_is q k same) some in
    ((λ u is. inr (ap (λ (y : Value). Done y [] Input) (same_Some v u (sym here ∙ is)))), (λ none. absurd (none-some v (sym none ∙ here))))
input_set p ns ms q v some put opened k false same = (opened.inputs k, opened.others k)

opened_set : (p : Project) (ns ms : List Node) (q : Key) (v : Value) → input_of p q ≡ Some v → ((k : Key) → status_in ms k ≡ (if same_key q k then Done v [] Input else status_in ns k))
    → AreOpened p ns → AreOpened p ms
opened_set p ns ms q v some put opened = record {
  inputs = λ k u is. subst (λ (x : Status). IsInputIn u x) (sym (put k)) ((input_set p ns ms q v some put opened k (same_key q k) refl).0 u is);
  others = λ k none. put k ∙ (input_set p ns ms q v some put opened k (same_key q k) refl).1 none;
}

pub opened_more : (p : Project) (ns ms : List Node) (q : Key) (v : Value) (es : List Key) → input_of p q ≡ Some v → es ≡ [] → AreOpened p ns
    → ((k : Key) → status_in ms k ≡ (if same_key q k then Done v es Input else status_in ns k)) → AreOpened p ms
opened_more p ns ms q v es some none opened put =
    opened_set p ns ms q v some (λ k. put k ∙ ap (λ (xs : List Key). if same_key q k then Done v xs Input else status_in ns k) none) opened

-- if a call went well
pub on_ok : {E : Type 0} {A B : Type 0} (r : Result (Unit {0}) E) → (A → B) → OnOk r A → OnOk r B
on_ok (Ok x) f h = f h
on_ok (Err e) f h = tt

pub opened_none : (p : Project) → AreOpened p []
opened_none p = record { inputs = λ q v is. inl refl; others = λ q none. refl }

-- what the inputs answer for a key that is unknown here
module _ (p : Project) (ns : List Node) (q : Key) (unknown : status_in ns q ≡ Unknown) where
  pub no_answer : input_of p q ≡ None → IsNotDone (status_at p ns q)
  no_answer is = subst (λ (x : Status). IsNotDone x) (sym (status_none p ns q unknown ∙ ap at_opening is)) tt

  pub answer_is : (v : Value) → input_of p q ≡ Some v → IsDoneWith v (status_at p ns q)
  answer_is v is = subst (λ (x : Status). IsDoneWith v x) (sym (status_none p ns q unknown ∙ ap at_opening is)) refl
