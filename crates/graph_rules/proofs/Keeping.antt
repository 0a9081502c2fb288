-- What is done stays done, and every step keeps what is known of each key.
use Rattle.std.proofs.Common.{◌≡◌, ◌≢◌, ℕ, ◌<◌, List, [], ◌∷◌, refl, sym, ap, ◌∙◌, subst, true, false, Option, Some, None, option_map, inl, inr, ◌⊎◌}
use Rattle.std.specs.Prelude.{if◌then◌else◌}
use Rattle.std.specs.List.{AllByRecursion}
use Rattle.item_ids.specs.declared.key.Key.{Key}
use Rattle.item_ids.specs.Inputs.{rank}
use Rattle.item_ids.specs.KeyLists.{AreLower, NoneTwice}
use Rattle.result_bytes.specs.declared.value.Value.{Value}
use Rattle.result_bytes.specs.Values.{IsOfKind}
use Rattle.profiles.specs.declared.profile.Profile.{Profile}
use Rattle.recorder.specs.Projects.{Project}
use Rattle.recorder.specs.Runs.{IsOutcome}
use Rattle.recorder.specs.Backed.{Meaning, ReadLists, ReadValue, keys}
use Rattle.sessions.specs.declared.mark.Mark.{Mark}
use Rattle.sessions.specs.declared.mark.Mark.TheVariants.{Input, Green, Executed}
use Rattle.sessions.specs.Sessions.{Entry}
use Rattle.graph_rules.specs.Keys.{same_key, input_of}
use Rattle.graph_rules.specs.Pasts.{Past, IsGraph, print_in}
use Rattle.graph_rules.specs.Settings.{Setting, kept}
use Rattle.graph_rules.specs.Steps.{Status, Unknown, Claimed, Running, Done, State, Event, Claim, MarkGreen, Begin, Finish, Fail, at_opening, opening, with_status, IsDone, IsDoneWith, EdgeState, Open, Unchanged, Changed, edge_at, edge_of, Walk, AllUnchanged, OpenAt, ChangedAt, later, walk_on, walk, past_walk, MayRun, AreHeld, MayStep, green, after, after_all, AreSteps, Legal, state_after}
use Rattle.graph_rules.specs.Sound.{IsBacked, AreBacked, IsSoundAt, IsSound, IsInOrderAt, IsInOrder}
use Rattle.graph_rules.specs.Histories.{Keeps}
use Rattle.graph_rules.proofs.KeyRules.{same_is, above, input_kind, marked_input, marked_other}
use Rattle.graph_rules.proofs.SettingRules.{kept_held}

-- the edge is open, or stays as it is
edge_keeps : (pr : Option (List ℕ)) (x y : Status) → ((v : Value) (es : List Key) (m : Mark) → x ≡ Done v es m → y ≡ Done v es m)
    → (edge_at pr x ≡ Open) ⊎ (edge_at pr y ≡ edge_at pr x)
edge_keeps pr Unknown y h = inl refl
edge_keeps pr (Claimed w) y h = inl refl
edge_keeps pr (Running w) y h = inl refl
edge_keeps pr (Done v es m) y h = inr (ap (edge_at pr) (h v es m refl))

-- a walk that meets no open edge
abbrev pub IsSettled : Walk → Type 0
IsSettled AllUnchanged = Unit {0}
IsSettled (OpenAt i) = ⊥
IsSettled (ChangedAt i) = Unit {0}

settled_later : (w : Walk) → IsSettled (later w) → IsSettled w
settled_later AllUnchanged h = tt
settled_later (OpenAt i) h = h
settled_later (ChangedAt i) h = tt

walk_keeps_step : (x y : EdgeState) (w v : Walk) → (x ≡ Open) ⊎ (y ≡ x) → (IsSettled w → v ≡ w) → IsSettled (walk_on x w) → walk_on y v ≡ walk_on x w
walk_keeps_step Open y w v e h settled = absurd settled
walk_keeps_step Changed y w v (inl e) h settled = absurd (cc)
walk_keeps_step Changed y w v (inr e) h settled = rw e refl
walk_keeps_step Unchanged y w v (inl e) h settled = absurd (cc)
walk_keeps_step Unchanged y w v (inr e) h settled = rw (e, h (settled_later w settled)) refl

pub walk_keeps : (past : Past) (s t : State) → Keeps s t → (es : List Key) → IsSettled (walk past s es) → walk past t es ≡ walk past s es
walk_keeps past s t keeps [] settled = refl
walk_keeps past s t keeps (e ∷ es) settled =
    walk_keeps_step (edge_of past s e) (edge_of past t e) (walk past s es) (walk past t es)
    (edge_keeps (print_in past e) (s.at e) (t.at e) (keeps e)) (walk_keeps past s t keeps es) settled

done_keeps : (v : Value) (x y : Status) → ((u : Value) (es : List Key) (m : Mark) → x ≡ Done u es m → y ≡ Done u es m) → IsDoneWith v x → IsDoneWith v y
done_keeps v Unknown y h d = elim d [ ]
done_keeps v (Claimed w) y h d = elim d [ ]
done_keeps v (Running w) y h d = elim d [ ]
done_keeps v (Done u es m) y h d = rw (h u es m refl) d

pub held_keeps : (s t : State) → Keeps s t → (told : List ReadValue) → AreHeld s told → AreHeld t told
held_keeps s t keeps [] h = tt
held_keeps s t keeps (r ∷ rs) h = (done_keeps r.value (s.at r.key) (t.at r.key) (keeps r.key) h.0, held_keeps s t keeps rs h.1)

may_settled : (w : Walk) → MayRun (Some w) → IsSettled w
may_settled AllUnchanged m = absurd m
may_settled (OpenAt i) m = absurd m
may_settled (ChangedAt i) m = tt

may_keeps_at : (past : Past) (s t : State) → Keeps s t → (r : Option Entry)
    → MayRun (option_map (λ x. walk past s x.reads) r) → MayRun (option_map (λ x. walk past t x.reads) r)
may_keeps_at past s t keeps None m = tt
may_keeps_at past s t keeps (Some r) m = rw (walk_keeps past s t keeps r.reads (may_settled _ m)) m

pub may_keeps : (over : Setting) (s t : State) (q : Key) → Keeps s t → MayRun (past_walk over s q) → MayRun (past_walk over t q)
may_keeps over s t q keeps m = may_keeps_at over.held s t keeps (kept over q) m

keeps_with : (s : State) (q : Key) (x : Status) → ((v : Value) (es : List Key) (m : Mark) → s.at q ≡ Done v es m → ⊥) → Keeps s (with_status s q x)
keeps_with s q x fresh = λ k v es m is.
    (elim (same_key q k) as (λ b. same_key q k ≡ b → (if b then x else s.at k) ≡ Done v es m) [
      | true ↦ λ here. let e = same_is q k here in absurd (fresh v es m (ap s.at e ∙ is))
      | false ↦ λ here. is
    ]) refl

pub keeps_step : (over : Setting) (s : State) (e : Event) → MayStep over s e → Keeps s (after over s e)
keeps_step over s (Claim w q) may = keeps_with s q (Claimed w) (λ v es m is. let e = sym may.1 ∙ is in absurd (cc))
keeps_step over s (MarkGreen w q) may = keeps_with s q (green (kept over q)) (λ v es m is. let e = sym may.1 ∙ is in absurd (cc))
keeps_step over s (Begin w q) may = keeps_with s q (Running w) (λ v es m is. let e = sym may.1 ∙ is in absurd (cc))
keeps_step over s (Finish w o) may = keeps_with s o.key (Done o.value (keys o.told) Executed) (λ v es m is. let e = sym may.1 ∙ is in absurd (cc))
keeps_step over s (Fail w) may = λ k v es m is. is

pub keeps_all : (over : Setting) (s : State) (h : List Event) → AreSteps over s h → Keeps s (after_all over s h)
keeps_all over s [] steps = λ k v es m is. is
keeps_all over s (e ∷ h) steps = λ k v es m is. keeps_all over (after over s e) h steps.1 k v es m (keeps_step over s e steps.0 k v es m is)

-- ---- soundness

module _ (mean : Meaning) (reads : ReadLists) (over : Setting) (p : Project) where
  sound_keeps : (s t : State) → Keeps s t → (k : Key) (x : Status) → IsSoundAt mean reads over p s k x → IsSoundAt mean reads over p t k x
  sound_keeps s t keeps k Unknown h = h
  sound_keeps s t keeps k (Claimed w) h = h
  sound_keeps s t keeps k (Running w) h = (h.0, may_keeps over s t k keeps h.1)
  sound_keeps s t keeps k (Done v es Input) h = h
  sound_keeps s t keeps k (Done v es Green) h = (
    h.0,
    record {
      had = h.1.had;
      past_has = h.1.past_has;
      value = h.1.value;
      edges = h.1.edges;
      unchanged = walk_keeps over.held s t keeps es (rw h.1.unchanged tt) ∙ h.1.unchanged;
    },
  )
  sound_keeps s t keeps k (Done v es Executed) h = (
    h.0,
    record {
      told = h.1.told;
      outcome = h.1.outcome;
      edges = h.1.edges;
      held = held_keeps s t keeps h.1.told h.1.held;
      needed = may_keeps over s t k keeps h.1.needed;
    },
  )

  sound_with : (s : State) (q : Key) (x : Status) → IsSound mean reads over p s → Keeps s (with_status s q x)
      → IsSoundAt mean reads over p (with_status s q x) q x → IsSound mean reads over p (with_status s q x)
  sound_with s q x sound keeps here = λ k.
      (elim (same_key q k) as (λ b. same_key q k ≡ b → IsSoundAt mean reads over p (with_status s q x) k (if b then x else s.at k)) [
        | true ↦ λ is. subst (λ (v : Key). IsSoundAt mean reads over p (with_status s q x) v x) (same_is q k is) here
        | false ↦ λ is. sound_keeps s (with_status s q x) keeps k (s.at k) (sound k)
      ]) refl

  at_status : (s : State) → IsSound mean reads over p s → (q : Key) (x : Status) → s.at q ≡ x → IsSoundAt mean reads over p s q x
  at_status s sound q x is = subst (λ (y : Status). IsSoundAt mean reads over p s q y) is (sound q)

  marked_at : (s t : State) (q : Key) → Keeps s t → 0 < rank q → (r : Option Entry) → kept over q ≡ r
      → option_map (λ x. walk over.held s x.reads) r ≡ Some AllUnchanged
      → IsSoundAt mean reads over p t q (green r)
  marked_at s t q keeps nin None is all = nin
  marked_at s t q keeps nin (Some r) is all =
      let a : walk over.held s r.reads ≡ AllUnchanged = cc in
      (nin, record { had = r; past_has = is; value = refl; edges = refl; unchanged = walk_keeps over.held s t keeps r.reads (rw a tt) ∙ a })

  pub sound_step : (s : State) (e : Event) → IsSound mean reads over p s → MayStep over s e → IsBacked mean reads e → IsSound mean reads over p (after over s e)
  sound_step s (Claim w q) sound may back =
      sound_with s q (Claimed w) sound (keeps_step over s (Claim w q) may) (at_status s sound q Unknown may.1)
  sound_step s (MarkGreen w q) sound may back =
      let x = green (kept over q) in
      let keeps = keeps_step over s (MarkGreen w q) may in
      sound_with s q x sound keeps (marked_at s (with_status s q x) q keeps (at_status s sound q (Claimed w) may.1) (kept over q) refl may.2)
  sound_step s (Begin w q) sound may back =
      let keeps = keeps_step over s (Begin w q) may in
      sound_with s q (Running w) sound keeps (at_status s sound q (Claimed w) may.1, may_keeps over s (with_status s q (Running w)) q keeps may.2)
  sound_step s (Finish w o) sound may back =
      let x = Done o.value (keys o.told) Executed in
      let keeps = keeps_step over s (Finish w o) may in
      let run = at_status s sound o.key (Running w) may.1 in
      sound_with s o.key x sound keeps (
        run.0,
        record {
          told = o.told;
          outcome = subst (λ (a : Profile). IsOutcome mean reads (record { profile = a; key = o.key; told = o.told; value = o.value })) may.3 back;
          edges = refl;
          held = held_keeps s (with_status s o.key x) keeps o.told may.2;
          needed = may_keeps over s (with_status s o.key x) o.key keeps run.1;
        },
      )
  sound_step s (Fail w) sound may back = λ k. sound_keeps s (after over s (Fail w)) (λ k v es m is. is) k (s.at k) (sound k)

  pub sound_all : (s : State) (h : List Event) → IsSound mean reads over p s → AreSteps over s h → AreBacked mean reads h → IsSound mean reads over p (after_all over s h)
  sound_all s [] sound steps back = sound
  sound_all s (e ∷ h) sound steps back = sound_all (after over s e) h (sound_step s e sound steps.0 back.0) steps.1 back.1

  opened_at : (q : Key) (o : Option Value) → input_of p q ≡ o → IsSoundAt mean reads over p (opening p) q (at_opening o)
  opened_at q (Some v) is = (is, refl)
  opened_at q None is = above p q is

  pub sound_history : (h : List Event) → Legal over p h → AreBacked mean reads h → IsSound mean reads over p (state_after over p h)
  sound_history h legal back = sound_all (opening p) h (λ q. opened_at q (input_of p q) refl) legal back

-- ---- order

-- a walk without a change finds each edge unchanged
unchanged_step : (x : EdgeState) (w : Walk) → walk_on x w ≡ AllUnchanged → (x ≡ Unchanged) × (w ≡ AllUnchanged)
unchanged_step Open w e = absurd (cc)
unchanged_step Changed w e = absurd (cc)
unchanged_step Unchanged AllUnchanged e = (refl, refl)
unchanged_step Unchanged (OpenAt i) e = absurd (cc)
unchanged_step Unchanged (ChangedAt i) e = absurd (cc)

pub all_unchanged : (past : Past) (s : State) (es : List Key) → walk past s es ≡ AllUnchanged → AllByRecursion (λ e. edge_of past s e ≡ Unchanged) es
all_unchanged past s [] is = tt
all_unchanged past s (e ∷ es) is = let h = unchanged_step (edge_of past s e) (walk past s es) is in (h.0, all_unchanged past s es h.1)

pub unchanged_all : (past : Past) (s : State) (es : List Key) → AllByRecursion (λ e. edge_of past s e ≡ Unchanged) es → walk past s es ≡ AllUnchanged
unchanged_all past s [] a = refl
unchanged_all past s (e ∷ es) a = ap (λ (x : EdgeState). walk_on x (walk past s es)) a.0 ∙ ap later (unchanged_all past s es a.1)

done_edge : (pr : Option (List ℕ)) (x : Status) → edge_at pr x ≡ Unchanged → IsDone x
done_edge pr Unknown e = absurd (cc)
done_edge pr (Claimed w) e = absurd (cc)
done_edge pr (Running w) e = absurd (cc)
done_edge pr (Done v es m) e = tt

pub walked_done : (past : Past) (s : State) (es : List Key) → walk past s es ≡ AllUnchanged → AllByRecursion (λ e. IsDone (s.at e)) es
walked_done past s [] is = tt
walked_done past s (e ∷ es) is =
    let h = unchanged_step (edge_of past s e) (walk past s es) is in
    (done_edge (print_in past e) (s.at e) h.0, walked_done past s es h.1)

done_with : (v : Value) (x : Status) → IsDoneWith v x → IsDone x
done_with v Unknown h = h
done_with v (Claimed w) h = h
done_with v (Running w) h = h
done_with v (Done u es m) h = tt

pub held_done : (s : State) (told : List ReadValue) → AreHeld s told → AllByRecursion (λ e. IsDone (s.at e)) (keys told)
held_done s [] h = tt
held_done s (r ∷ rs) h = (done_with r.value (s.at r.key) h.0, held_done s rs h.1)

others_read : (q : Key) (told : List ReadValue) → AllByRecursion (λ t. t.key ≢ q) told → AllByRecursion (λ k. k ≢ q) (keys told)
others_read q [] h = tt
others_read q (t ∷ told) h = (h.0, others_read q told h.1)

once_keys : (told : List ReadValue) → NoneTwice (λ t. t.key) told → NoneTwice (λ k. k) (keys told)
once_keys [] h = tt
once_keys (t ∷ told) h = (others_read t.key told h.0, once_keys told h.1)

module _ (mean : Meaning) (reads : ReadLists) (over : Setting) (p : Project) (graph : IsGraph over.held) (s : State) where
  in_order_at : (q : Key) (x : Status) → IsSoundAt mean reads over p s q x → IsInOrderAt s q x
  in_order_at q Unknown so = tt
  in_order_at q (Claimed w) so = tt
  in_order_at q (Running w) so = tt
  in_order_at q (Done v es Input) so = record {
    kind = input_kind p q v so.0;
    marked = marked_input p q v so.0;
    lower = rw so.1 tt;
    once = rw so.1 tt;
    done = rw so.1 tt;
  }
  in_order_at q (Done v es Green) so =
      let g = so.1 in
      record {
        kind = subst (IsOfKind q) g.value (graph.kind q g.had (kept_held over q g.had g.past_has));
        marked = marked_other q so.0;
        lower = subst (AreLower q) g.edges (graph.lower q g.had (kept_held over q g.had g.past_has));
        once = subst (NoneTwice (λ k. k)) g.edges (graph.once q g.had (kept_held over q g.had g.past_has));
        done = walked_done over.held s es g.unchanged;
      }
  in_order_at q (Done v es Executed) so =
      let x = so.1 in
      record {
        kind = x.outcome.kind;
        marked = marked_other q so.0;
        lower = subst (AreLower q) x.edges x.outcome.lower;
        once = subst (NoneTwice (λ k. k)) x.edges (once_keys x.told x.outcome.once);
        done = subst (AllByRecursion (λ e. IsDone (s.at e))) x.edges (held_done s x.told x.held);
      }

  pub in_order : IsSound mean reads over p s → IsInOrder s
  in_order sound = λ q. in_order_at q (s.at q) (sound q)
