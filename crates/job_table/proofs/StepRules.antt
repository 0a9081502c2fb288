-- What a change of the nodes is in the state, and what each call says of the table.
use Rattle.std.proofs.Common.{◌≡◌, inl, inr, ℕ, List, [], ◌∷◌, ◌++◌, refl, sym, ap, ◌∙◌, subst, Bool, true, false, Option, Some, None, option_map}
use Rattle.std.specs.Prelude.{if◌then◌else◌}
use Rattle.std.proofs.lemmas.Option.{none-some}
use Rattle.item_ids.specs.declared.key.Key.{Key}
use Rattle.item_ids.specs.Inputs.{rank}
use Rattle.result_bytes.specs.declared.value.Value.{Value}
use Rattle.named_files.specs.Projects.{IsProject}
use Rattle.recorder.specs.Projects.{Project}
use Rattle.recorder.specs.Backed.{Meaning, ReadLists, ReadValue}
use Rattle.sessions.specs.Sessions.{Entry}
use Rattle.graph_rules.specs.Keys.{same_key, input_of}
use Rattle.graph_rules.specs.Pasts.{Past, print_in}
use Rattle.graph_rules.specs.Settings.{Setting, kept as taken}
use Rattle.graph_rules.specs.Steps.{Status, Unknown, Claimed, State, Event, Claim, Fail, at_opening, opening, with_status, IsNotDone, IsDoneWith, IsHeldBy, IsBelow, IsOwn, MayStep, Walk, walk_on, walk, past_walk, edge_at, AreHeld, after, Legal, state_after}
use Rattle.graph_rules.specs.Sound.{IsBacked, AreBacked}
use Rattle.graph_rules.proofs.KeyRules.{same_refl, same_is}
use Rattle.graph_rules.proofs.Orders.{after_all_append, steps_append}
use Rattle.key_states.specs.Nodes.{Node, IsInputIn, AreOpened, status_in, status_at, unless_input, state_of_nodes, KeysStandOnce, AllAbove}
use Rattle.job_table.specs.Kept.{StandsByHistory}
use Rattle.key_states.proofs.NodeRules.{above_held, own_in}

-- ---- opening

opened_status : (o : Option Value) (x : Status) → ((v : Value) → o ≡ Some v → IsInputIn v x) → (o ≡ None → x ≡ Unknown) → unless_input o x ≡ at_opening o
opened_status (Some v) x inner others = refl
opened_status None x inner others = others refl

pub kept_opening : (over : Setting) (p : Project) (ns : List Node) → IsProject p → KeysStandOnce ns → AreOpened p ns → StandsByHistory over p ns false []
kept_opening over p ns project apart opened = record {
  project = project;
  legal = tt;
  status = λ q. opened_status (input_of p q) (status_in ns q) (opened.inputs q) (opened.others q);
  failed_is = refl;
  apart = apart;
  inner = opened.inputs;
}

-- ---- steps

-- one more outcome that follows from its reads
pub backed_last : (mean : Meaning) (reads : ReadLists) (h : List Event) (e : Event) → AreBacked mean reads h → IsBacked mean reads e → AreBacked mean reads (h ++ e ∷ [])
backed_last mean reads [] e all one = (one, tt)
backed_last mean reads (x ∷ h) e all one = (all.0, backed_last mean reads h e all.1 one)

pub replayed_last : (over : Setting) (p : Project) (h : List Event) (e : Event) → state_after over p (h ++ e ∷ []) ≡ after over (state_after over p h) e
replayed_last over p h e = after_all_append over (opening p) h (e ∷ [])

pub legal_last : (over : Setting) (p : Project) (h : List Event) (e : Event) → Legal over p h → MayStep over (state_after over p h) e → Legal over p (h ++ e ∷ [])
legal_last over p h e legal may = steps_append over (opening p) h (e ∷ []) legal (may, tt)

-- how a key stands after one is written, in a table and in a state
put_at : (p : Project) (x y : Status) (q k : Key) → input_of p q ≡ None
    → unless_input (input_of p k) (if same_key q k then x else y) ≡ (if same_key q k then x else unless_input (input_of p k) y)
put_at p x y q k none =
    (elim (same_key q k) as (λ b. same_key q k ≡ b → unless_input (input_of p k) (if b then x else y) ≡ (if b then x else unless_input (input_of p k) y)) [
      | true ↦ λ is. ap (λ o. unless_input o x) (subst (λ (v : Key). input_of p v ≡ None) (same_is q k is) none)
      | false ↦ λ is. refl
    ]) refl

put_inner : (p : Project) (x y : Status) (q k : Key) (v : Value) → input_of p q ≡ None → input_of p k ≡ Some v → IsInputIn v y → IsInputIn v (if same_key q k then x else y)
put_inner p x y q k v none some unknown =
    (elim (same_key q k) as (λ b. same_key q k ≡ b → IsInputIn v (if b then x else y)) [
      | true ↦ λ is. absurd (none-some v (sym (subst (λ (u : Key). input_of p u ≡ None) (same_is q k is) none) ∙ some))
      | false ↦ λ is. unknown
    ]) refl

-- a table in which one key stands otherwise, and its event
pub kept_step : (over : Setting) (p : Project) (ns ms : List Node) (b : Bool) (h : List Event) (e : Event) (q : Key) (x : Status)
    → StandsByHistory over p ns b h → MayStep over (state_after over p h) e → ((s : State) → after over s e ≡ with_status s q x) → input_of p q ≡ None → KeysStandOnce ms
    → ((k : Key) → status_in ms k ≡ (if same_key q k then x else status_in ns k))
    → StandsByHistory over p ms b (h ++ e ∷ [])
kept_step over p ns ms b h e q x kept may is none apart put =
    let last : state_after over p (h ++ e ∷ []) ≡ with_status (state_after over p h) q x = replayed_last over p h e ∙ is (state_after over p h) in
    record {
      project = kept.project;
      legal = legal_last over p h e kept.legal may;
      status = λ k.
          ap (unless_input (input_of p k)) (put k)
          ∙ (put_at p x (status_in ns k) q k none
          ∙ (ap (λ (y : Status). if same_key q k then x else y) (kept.status k)
          ∙ ap (λ (s : State). s.at k) (sym last)));
      failed_is = kept.failed_is ∙ ap (λ (s : State). s.failed) (sym last);
      apart = apart;
      inner = λ k v some. subst (λ (y : Status). IsInputIn v y) (sym (put k)) (put_inner p x (status_in ns k) q k v none some (kept.inner k v some));
    }

-- a table in which a worker failed
pub kept_fail : (over : Setting) (p : Project) (ns : List Node) (h : List Event) (w : ℕ) → StandsByHistory over p ns false h → StandsByHistory over p ns true (h ++ Fail w ∷ [])
kept_fail over p ns h w kept =
    let last : state_after over p (h ++ Fail w ∷ []) ≡ after over (state_after over p h) (Fail w) = replayed_last over p h (Fail w) in
    record {
      project = kept.project;
      legal = legal_last over p h (Fail w) kept.legal (sym kept.failed_is);
      status = λ k. kept.status k ∙ ap (λ (s : State). s.at k) (sym last);
      failed_is = ap (λ (s : State). s.failed) (sym last);
      apart = kept.apart;
      inner = kept.inner;
    }

held_in_at : (w : ℕ) (o : Option Value) (x : Status) → IsHeldBy w (unless_input o x) → IsHeldBy w x
held_in_at w (Some v) x h = elim h [ ]
held_in_at w None x h = h

held_out_at : (w : ℕ) (o : Option Value) (x : Status) → ((v : Value) → o ≡ Some v → IsInputIn v x) → IsHeldBy w x → IsHeldBy w (unless_input o x)
held_out_at w (Some v) x inner h = elim (inner v refl) [
  | inl unknown ↦ let f = rw unknown at h in f
  | inr done ↦ let f = rw done at h in f
]
held_out_at w None x inner h = h

not_done_at : (o : Option Value) (x : Status) → IsNotDone (unless_input o x) → unless_input o x ≡ x
not_done_at (Some v) x h = elim h [ ]
not_done_at None x h = refl

none_at : (o : Option Value) (x : Status) → ((v : Value) → o ≡ Some v → IsInputIn v x) → (x ≡ Unknown → ⊥) → IsNotDone x → o ≡ None
none_at (Some v) x inner known open_still = elim (inner v refl) [
  | inl unknown ↦ absurd (known unknown)
  | inr done ↦ absurd (subst (λ (y : Status). IsNotDone y) done open_still)
]
none_at None x inner known open_still = refl

walk_same : (past : Past) (s t : State) → ((k : Key) → s.at k ≡ t.at k) → (es : List Key) → walk past s es ≡ walk past t es
walk_same past s t e [] = refl
walk_same past s t e (q ∷ es) =
    ap (λ (x : Status). walk_on (edge_at (print_in past q) x) (walk past s es)) (e q)
    ∙ ap (λ (w : Walk). walk_on (edge_at (print_in past q) (t.at q)) w) (walk_same past s t e es)

past_walk_at : (past : Past) (s t : State) → ((k : Key) → s.at k ≡ t.at k) → (o : Option Entry)
    → option_map (λ r. walk past s r.reads) o ≡ option_map (λ r. walk past t r.reads) o
past_walk_at past s t e None = refl
past_walk_at past s t e (Some r) = ap Some (walk_same past s t e r.reads)

pub past_walk_same : (over : Setting) (s t : State) → ((k : Key) → s.at k ≡ t.at k) → (q : Key) → past_walk over s q ≡ past_walk over t q
past_walk_same over s t e q = past_walk_at over.held s t e (taken over q)

held_same : (s t : State) → ((k : Key) → s.at k ≡ t.at k) → (rs : List ReadValue) → AreHeld s rs → AreHeld t rs
held_same s t e [] h = tt
held_same s t e (r ∷ rs) h = (subst (λ (x : Status). IsDoneWith r.value x) (e r.key) h.0, held_same s t e rs h.1)

input_unknown : (o : Option Value) → at_opening o ≡ Unknown → o ≡ None
input_unknown (Some v) e = absurd cc
input_unknown None e = refl

unknown_none : (o : Option Value) (x : Status) → unless_input o x ≡ Unknown → o ≡ None
unknown_none (Some v) x e = absurd cc
unknown_none None x e = refl

module _ (over : Setting) (p : Project) (ns : List Node) (b : Bool) (h : List Event) (kept : StandsByHistory over p ns b h) where
  pub is_not_done : (q : Key) → IsNotDone (status_at p ns q) → IsNotDone ((state_after over p h).at q)
  is_not_done q nd = subst (λ (x : Status). IsNotDone x) (kept.status q) nd

  pub is_done : (q : Key) (v : Value) → IsDoneWith v (status_at p ns q) → IsDoneWith v ((state_after over p h).at q)
  is_done q v d = subst (λ (x : Status). IsDoneWith v x) (kept.status q) d

  pub is_below : (w : ℕ) (q : Key) → AllAbove w (rank q) ns → IsBelow (state_after over p h) w q
  is_below w q all = λ k held. above_held ns w (rank q) k all (held_in_at w (input_of p k) (status_in ns k) (subst (λ (x : Status). IsHeldBy w x) (sym (kept.status k)) held))

  -- what a worker has in the nodes, it has
  pub is_held : (w : ℕ) (k : Key) → IsHeldBy w (status_in ns k) → IsHeldBy w ((state_after over p h).at k)
  is_held w k held = subst (λ (x : Status). IsHeldBy w x) (kept.status k) (held_out_at w (input_of p k) (status_in ns k) (kept.inner k) held)

  pub is_own : (w : ℕ) (q : Key) → (AllAbove w (rank q) ns → ⊥) → IsOwn (state_after over p h) w q
  is_own w q none = let own = own_in ns w (rank q) kept.apart none in record { key = own.0; held = is_held w own.0 own.1; not_above = own.2 }

  pub is_unknown : (q : Key) → IsNotDone (status_at p ns q) → status_in ns q ≡ Unknown → (state_after over p h).at q ≡ Unknown
  is_unknown q nd u = sym (kept.status q) ∙ (not_done_at (input_of p q) (status_in ns q) nd ∙ u)

  -- a claim
  pub may_claim : (w : ℕ) (q : Key) → b ≡ false → IsNotDone (status_at p ns q) → status_in ns q ≡ Unknown → AllAbove w (rank q) ns
      → ((state_after over p h).failed ≡ false) × ((state_after over p h).at q ≡ Unknown) × IsBelow (state_after over p h) w q
  may_claim w q nf nd u all = (sym kept.failed_is ∙ nf, is_unknown q nd u, is_below w q all)

  pub kept_claim : (ms : List Node) (w : ℕ) (q : Key) → b ≡ false → IsNotDone (status_at p ns q) → status_in ns q ≡ Unknown → AllAbove w (rank q) ns
      → KeysStandOnce ms → ((k : Key) → status_in ms k ≡ (if same_key q k then Claimed w else status_in ns k)) → StandsByHistory over p ms b (h ++ Claim w q ∷ [])
  kept_claim ms w q nf nd u all apart put =
      let may = may_claim w q nf nd u all in
      kept_step over p ns ms b h (Claim w q) q (Claimed w) kept may (λ s. refl)
      (unknown_none (input_of p q) (status_in ns q) (kept.status q ∙ may.1))
      apart put

  pub is_standing : (q : Key) (x : Status) → status_in ns q ≡ x → (x ≡ Unknown → ⊥) → IsNotDone x → (input_of p q ≡ None) × ((state_after over p h).at q ≡ x)
  is_standing q x is known still =
      let none : input_of p q ≡ None = none_at (input_of p q) (status_in ns q) (kept.inner q) (λ u. known (sym is ∙ u)) (subst (λ (y : Status). IsNotDone y) (sym is) still) in
      (none, sym (kept.status q) ∙ (ap (λ o. unless_input o (status_in ns q)) none ∙ is))

  pub are_held : (c : Bool) (rs : List ReadValue) → AreHeld (state_of_nodes p ns c) rs → AreHeld (state_after over p h) rs
  are_held c rs all = held_same (state_of_nodes p ns c) (state_after over p h) kept.status rs all

  pub held_nodes : (c : Bool) (rs : List ReadValue) → AreHeld (state_after over p h) rs → AreHeld (state_of_nodes p ns c) rs
  held_nodes c rs all = held_same (state_after over p h) (state_of_nodes p ns c) (λ q. sym (kept.status q)) rs all

  pub is_walk : (c : Bool) (es : List Key) → walk over.held (state_of_nodes p ns c) es ≡ walk over.held (state_after over p h) es
  is_walk c es = walk_same over.held (state_of_nodes p ns c) (state_after over p h) kept.status es

  -- a key that stands otherwise
  pub kept_put : (ms : List Node) (e : Event) (q : Key) (x : Status) → MayStep over (state_after over p h) e → ((s : State) → after over s e ≡ with_status s q x)
      → input_of p q ≡ None → (KeysStandOnce ns → KeysStandOnce ms) → ((k : Key) → status_in ms k ≡ (if same_key q k then x else status_in ns k)) → StandsByHistory over p ms b (h ++ e ∷ [])
  kept_put ms e q x may is none apart put = kept_step over p ns ms b h e q x kept may is none (apart kept.apart) put

-- a state just after a key was written has its status
pub at_written : (over : Setting) (p : Project) (h : List Event) (e : Event) (q : Key) (x : Status)
    → after over (state_after over p h) e ≡ with_status (state_after over p h) q x → (state_after over p (h ++ e ∷ [])).at q ≡ x
at_written over p h e q x is =
    ap (λ (s : State). s.at q) (replayed_last over p h e ∙ is) ∙ ap (λ b. if b then x else (state_after over p h).at q) (same_refl q)
