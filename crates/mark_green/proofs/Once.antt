-- The effect of one run.
use Rattle.std.proofs.Common.{◌≡◌, ℕ, ◌<◌, List, [], ◌∷◌, ap, ◌∙◌, sym, subst, Option, Some, None, inl, inr, ◌⊎◌, Contains}
use Rattle.std.specs.Prelude.{Result, Ok, Err, IfOk, IfErr, IfSome, option_map, option_and_then}
use Rattle.std.specs.List.{AllByRecursion}
use Rattle.item_ids.specs.declared.key.Key.{Key}
use Rattle.item_ids.specs.Inputs.{rank}
use Rattle.result_bytes.specs.declared.value.Value.{Value}
use Rattle.recorder.specs.Backed.{Meaning, ReadLists, ReadValue, IsNext}
use Rattle.recorder.specs.Recording.{Recording, KeepsReads, IsForMemory, IsByReader}
use Rattle.recorder.specs.declared.refused.Refused.{Refused}
use Rattle.recorder.specs.declared.reader.ReadFault.{ReadFault}
use Rattle.recorder.specs.declared.reader.ReadFault.TheVariants as read
use Rattle.recorder.specs.Runs.{OutcomeValue, TellsFault, IsNextRefused}
use Rattle.recorder.specs.declared.runner.RunFault.{RunFault}
use Rattle.recorder.specs.declared.runner.RunFault.TheVariants as run
use Rattle.sessions.specs.declared.terms.Terms.{Terms}
use Rattle.graph_rules.specs.Steps.{AreHeld}
use Rattle.job_table.specs.Tables.{TableValue, state_of}
use Rattle.mark_green.specs.declared.asking.RunStop.{RunStop}
use Rattle.mark_green.specs.declared.asking.RunStop.TheVariants as stop
use Rattle.mark_green.specs.Leaves.{Knows}
use Rattle.mark_green.specs.Moves.{IsDoneIn, HaltsAtRead, Moves, IsUnanswered, IsWantOfMemory}
use Rattle.mark_green.proofs.GoingOn.{knows_map}
use Rattle.mark_green.proofs.Running.{run_same, run_halts, run_memory, told_knows}

-- each read is done in the table and was given by the store, or is held
abbrev pub AreAnswered : List ReadValue → Option TableValue → (Key → Value → Type 0) → List ReadValue → Type 0
AreAnswered held a told reads = AllByRecursion (λ t. (Knows (IsDoneIn t.key t.value) a × told t.key t.value) ⊎ Contains held (record { key = t.key; value = t.value })) reads

-- of that, what the table has
known_reads : (held : List ReadValue) (a : Option TableValue) (told : Key → Value → Type 0) (reads : List ReadValue) → AreAnswered held a told reads
    → AllByRecursion (λ t. Knows (IsDoneIn t.key t.value) a ⊎ Contains held (record { key = t.key; value = t.value })) reads
known_reads held a told [] h = tt
known_reads held a told (r ∷ rs) h = (
  elim h.0 [
    | inl d ↦ inl d.0
    | inr c ↦ inr c
  ],
  known_reads held a told rs h.1,
)

told_where : (w r : ℕ) (last : Option RunStop) (a b : Option TableValue) (held reads told : List ReadValue) (by : Key → Value → Type 0) → last ≡ None → told ≡ reads → Moves w r None last a b → AreAnswered held b by reads
    → Knows (λ t. AreHeld (state_of t) held) a → Knows (λ t. AreHeld (state_of t) told) a
told_where w r last a b held reads told by none is m answered k =
    let same : b ≡ a = run_same w r a b (subst (λ (x : Option RunStop). Moves w r None x a b) none m) in
    told_knows held a k told (known_reads held a by told (subst (λ (l : List ReadValue). AreAnswered held a by l) (sym is) (subst (λ (o : Option TableValue). AreAnswered held o by reads) same answered)))

pub told_of_run : (made : Result OutcomeValue RunFault) (given : Result OutcomeValue RunStop) (q : Key) (w r : ℕ) (last : Option RunStop) (a b : Option TableValue) (held reads : List ReadValue) (by : Key → Value → Type 0)
    → IfOk given (λ o. (made ≡ Ok o) × (last ≡ None)) → IfOk made (λ o. (o.key ≡ q) × (o.told ≡ reads)) → Moves w r None last a b → AreAnswered held b by reads
    → IfOk given (λ o. Knows (λ t. AreHeld (state_of t) held) a → Knows (λ t. AreHeld (state_of t) o.told) a)
told_of_run made (Err x) q w r last a b held reads by ok of_run m answered = tt
told_of_run made (Ok o) q w r last a b held reads by ok of_run m answered =
    let made_is : (o.key ≡ q) × (o.told ≡ reads) = subst (λ (x : Result OutcomeValue RunFault). IfOk x (λ y. (y.key ≡ q) × (y.told ≡ reads))) ok.0 of_run in
    told_where w r last a b held reads o.told by ok.1 made_is.1 m answered

-- the outcome is of the session's profile
pub profile_of_run : (made : Result OutcomeValue RunFault) (given : Result OutcomeValue RunStop) (terms : Terms) (last : Option RunStop) (a : Option TableValue)
    → IfOk given (λ o. (made ≡ Ok o) × (last ≡ None)) → IfOk made (λ o. o.profile ≡ terms.profile) → Knows (λ t. terms ≡ t.terms) a
    → IfOk given (λ o. Knows (λ t. o.profile ≡ t.terms.profile) a)
profile_of_run made (Err x) terms last a ok of_run known = tt
profile_of_run made (Ok o) terms last a ok of_run known =
    let own : o.profile ≡ terms.profile = subst (λ (x : Result OutcomeValue RunFault). IfOk x (λ y. y.profile ≡ terms.profile)) ok.0 of_run in
    knows_map (λ t. terms ≡ t.terms) (λ t. o.profile ≡ t.terms.profile) (λ t is. own ∙ ap (λ (x : Terms). x.profile) is) a known

halts_where : (w r : ℕ) (x : RunStop) (last : Option RunStop) (a b : Option TableValue) → (last ≡ Some x) ⊎ ((last ≡ None) × (x ≡ stop.OutOfMemory)) → Moves w r None last a b → HaltsAtRead w r x a b
halts_where w r x last a b (inl is) m = run_halts w r x a b (subst (λ (y : Option RunStop). Moves w r None y a b) is m)
halts_where w r x last a b (inr is) m = subst (λ (y : RunStop). HaltsAtRead w r y a b) (sym is.1) (run_memory w r a b (subst (λ (y : Option RunStop). Moves w r None y a b) is.0 m))

pub halts_of_run : (given : Result OutcomeValue RunStop) (w r : ℕ) (last : Option RunStop) (a b : Option TableValue)
    → IfErr given (λ x. (last ≡ Some x) ⊎ ((last ≡ None) × (x ≡ stop.OutOfMemory))) → Moves w r None last a b → IfErr given (λ x. HaltsAtRead w r x a b)
halts_of_run (Ok o) w r last a b err m = tt
halts_of_run (Err x) w r last a b err m = halts_where w r x last a b err m

-- ---- a run that nothing stopped

same_fault : (a b : ReadFault) → Some a ≡ Some b → a ≡ b
same_fault a b e = cc

no_fault : (f : ReadFault) → None ≡ Some f → ⊥
no_fault f e = cc

-- A read that is refused though nothing stopped the run ran out of memory, since only keys of lower
-- rank are asked.
memory_alone : (q : Key) (N : Key → Type 0) (below : (k : Key) → N k → rank k < rank q) (o : Option Refused) (f : ReadFault)
    → option_map (λ x. x.fault) o ≡ Some f → IfSome o (λ x. IsForMemory x ⊎ ((k : Key) × IsByReader (IsUnanswered (rank q) None) k x))
    → IfSome (option_and_then (λ x. x.key) o) N → f ≡ read.OutOfMemory
memory_alone q N below None f is kept next = absurd (no_fault f is)
memory_alone q N below (Some x) f is (inl m) next = sym (same_fault x.fault f is) ∙ m.0
memory_alone q N below (Some x) f is (inr h) next = elim h.1.2 [
  | inl e ↦ absurd (h.1.1 e)
  | inr p ↦ absurd (p.1 (below h.0 (subst (λ (y : Option Key). IfSome y N) h.1.0 next)))
]

pub wants_memory : {D : Type 0} (mean : Meaning) (reads : ReadLists) (q : Key) (x : Recording D) (last : Option RunStop) (r : ℕ) (made : Result OutcomeValue RunFault) (A : Key → Value → Type 0)
    → r ≡ rank q → last ≡ None → IfErr made (λ e. TellsFault x e) → KeepsReads A (IsUnanswered r last) x.told x.refused → IsNextRefused mean reads q x → IfErr made IsWantOfMemory
wants_memory mean reads q x last r (Ok o) A r_is none kept keeps next = tt
wants_memory mean reads q x last r (Err run.OutOfMemory) A r_is none kept keeps next = tt
wants_memory mean reads q x last r (Err (run.Read f)) A r_is none kept keeps next =
    memory_alone q (λ k. (rank k < rank q) × IsNext mean reads q x.told k) (λ k n. n.0) x.refused f (sym kept)
    (subst (λ (o : Option RunStop). IfSome x.refused (λ y. IsForMemory y ⊎ ((k : Key) × IsByReader (IsUnanswered (rank q) o) k y))) none
    (subst (λ (n : ℕ). IfSome x.refused (λ y. IsForMemory y ⊎ ((k : Key) × IsByReader (IsUnanswered n last) k y))) r_is keeps.refusal)) next
