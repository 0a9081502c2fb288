-- What mark, begin_run and finish say of the table.
use Rattle.std.proofs.Common.{◌≡◌, ℕ, suc, zero, List, [], ◌∷◌, ◌++◌, refl, sym, ap, ◌∙◌, subst, Bool, true, false, ◌≢◌, Option, Some, None, option_map}
use Rattle.std.specs.Prelude.{if◌then◌else◌, Err}
use Rattle.item_ids.specs.declared.key.Key.{Key}
use Rattle.item_ids.specs.Keys.{kind_of}
use Rattle.result_bytes.specs.declared.value.Value.{Value}
use Rattle.recorder.specs.Projects.{Project}
use Rattle.recorder.specs.Backed.{ReadValue, keys}
use Rattle.recorder.specs.Runs.{OutcomeValue}
use Rattle.sessions.specs.Sessions.{Entry, past_entry}
use Rattle.sessions.specs.declared.mark.Mark.TheVariants.{Green, Executed}
use Rattle.graph_rules.specs.Keys.{same_key, input_of}
use Rattle.graph_rules.specs.Settings.{Setting, has_kind, kept as taken}
use Rattle.graph_rules.specs.Steps.{Walk, Status, Claimed, Running, Done, State, Event, MarkGreen, Begin, Finish, with_status, IsNotDone, IsDoneWith, MayStep, MayRun, AllUnchanged, walk, past_walk, AreHeld, green, state_after}
use Rattle.job_table.specs.declared.fault.TableFault.{TableFault}
use Rattle.job_table.specs.declared.fault.TableFault.TheVariants as fault
use Rattle.key_states.specs.Nodes.{Node, status_in, unless_input, state_of_nodes, KeysStandOnce}
use Rattle.job_table.specs.Kept.{StandsByHistory}
use Rattle.job_table.specs.Tables.{TableValue, past_of, state_of, IsStep, adds}
use Rattle.job_table.specs.Walks.{IsWhyNot}
use Rattle.job_table.specs.Calls.{IsClaimed, IsRunning, walk_in, MarkGives, BeginGives, FinishGives, IsFirstStale}
use Rattle.job_table.proofs.StepRules.{is_standing, is_walk, are_held, held_nodes, kept_put, at_written, past_walk_same}

-- ---- keys that a worker neither claimed nor runs

standing_in : (o : Option Value) (x y : Status) → IsNotDone y → unless_input o x ≡ y → x ≡ y
standing_in (Some v) x y other is = absurd (subst (λ (z : Status). IsNotDone z) (sym is) other)
standing_in None x y other is = is

pub not_standing : (over : Setting) (p : Project) (ns : List Node) (b : Bool) (h : List Event) → StandsByHistory over p ns b h → (q : Key) (y : Status) → IsNotDone y → (status_in ns q ≡ y → ⊥) → (state_after over p h).at q ≡ y → ⊥
not_standing over p ns b h kept q y other isnt is = isnt (standing_in (input_of p q) (status_in ns q) y other (kept.status q ∙ is))

-- ---- the walk over the edges of what is taken over

pub walk_none : (over : Setting) (s : State) (q : Key) → taken over q ≡ None → past_walk over s q ≡ None
walk_none over s q none = ap (option_map (λ (x : Entry). walk over.held s x.reads)) none

pub walk_some : (over : Setting) (s : State) (q : Key) (r : Entry) (x : Walk) → taken over q ≡ Some r → x ≡ walk over.held s r.reads → past_walk over s q ≡ Some x
walk_some over s q r x found is = ap (option_map (λ (y : Entry). walk over.held s y.reads)) found ∙ ap Some (sym is)

-- ---- calls, if the table is kept so

module _ (over : Setting) (p : Project) (ns : List Node) (b : Bool) (h : List Event) (kept : StandsByHistory over p ns b h) where
  pub mark_may : (q : Key) (w : ℕ) (r : Entry) → taken over q ≡ Some r → b ≡ false → status_in ns q ≡ Claimed w → AllUnchanged ≡ walk over.held (state_of_nodes p ns false) r.reads
      → MayStep over (state_after over p h) (MarkGreen w q)
  mark_may q w r found nf stands all = (
    sym kept.failed_is ∙ nf,
    (is_standing over p ns b h kept q (Claimed w) stands (λ e. cc) tt).1,
    ap (option_map (λ (x : Entry). walk over.held (state_after over p h) x.reads)) found ∙ ap Some (sym (all ∙ is_walk over p ns b h kept false r.reads)),
  )

  pub mark_kept : (ms : List Node) (q : Key) (w : ℕ) (r : Entry) (x : Status)
      → taken over q ≡ Some r → b ≡ false → status_in ns q ≡ Claimed w → AllUnchanged ≡ walk over.held (state_of_nodes p ns false) r.reads
      → x ≡ Done r.value r.reads Green → (KeysStandOnce ns → KeysStandOnce ms) → ((k : Key) → status_in ms k ≡ (if same_key q k then x else status_in ns k))
      → StandsByHistory over p ms b (h ++ MarkGreen w q ∷ [])
  mark_kept ms q w r x found nf stands all xis apart put =
      kept_put over p ns b h kept ms (MarkGreen w q) q x (mark_may q w r found nf stands all)
      (λ st. ap (λ (y : Status). with_status st q y) (ap green found ∙ sym xis))
      (is_standing over p ns b h kept q (Claimed w) stands (λ e. cc) tt).0 apart put

  pub begin_may : (q : Key) (w : ℕ) → b ≡ false → status_in ns q ≡ Claimed w → MayRun (past_walk over (state_of_nodes p ns false) q) → MayStep over (state_after over p h) (Begin w q)
  begin_may q w nf stands may =
      (sym kept.failed_is ∙ nf, (is_standing over p ns b h kept q (Claimed w) stands (λ e. cc) tt).1, subst MayRun (past_walk_same over (state_of_nodes p ns false) (state_after over p h) kept.status q) may)

  pub begin_kept : (ms : List Node) (q : Key) (w : ℕ) → b ≡ false → status_in ns q ≡ Claimed w → MayRun (past_walk over (state_of_nodes p ns false) q)
      → (KeysStandOnce ns → KeysStandOnce ms) → ((k : Key) → status_in ms k ≡ (if same_key q k then Running w else status_in ns k))
      → StandsByHistory over p ms b (h ++ Begin w q ∷ [])
  begin_kept ms q w nf stands may apart put =
      kept_put over p ns b h kept ms (Begin w q) q (Running w) (begin_may q w nf stands may) (λ s. refl)
      (is_standing over p ns b h kept q (Claimed w) stands (λ e. cc) tt).0 apart put

  pub finish_may : (o : OutcomeValue) (w : ℕ) → b ≡ false → status_in ns o.key ≡ Running w → o.profile ≡ over.profile → AreHeld (state_of_nodes p ns false) o.told → MayStep over (state_after over p h) (Finish w o)
  finish_may o w nf stands own all =
      (sym kept.failed_is ∙ nf, (is_standing over p ns b h kept o.key (Running w) stands (λ e. cc) tt).1, are_held over p ns b h kept false o.told all, own)

  pub finish_kept : (ms : List Node) (o : OutcomeValue) (w : ℕ) (x : Status) → b ≡ false → status_in ns o.key ≡ Running w → o.profile ≡ over.profile → AreHeld (state_of_nodes p ns false) o.told
      → x ≡ Done o.value (keys o.told) Executed → (KeysStandOnce ns → KeysStandOnce ms) → ((k : Key) → status_in ms k ≡ (if same_key o.key k then x else status_in ns k))
      → StandsByHistory over p ms b (h ++ Finish w o ∷ [])
  finish_kept ms o w x nf stands own all xis apart put =
      kept_put over p ns b h kept ms (Finish w o) o.key x (finish_may o w nf stands own all)
      (λ st. ap (λ (y : Status). with_status st o.key y) (sym xis))
      (is_standing over p ns b h kept o.key (Running w) stands (λ e. cc) tt).0 apart put

stale_same : (s t : State) → ((k : Key) → s.at k ≡ t.at k) → (rs : List ReadValue) (i : ℕ) → IsFirstStale s rs i → IsFirstStale t rs i
stale_same s t e [] i h = h
stale_same s t e (r ∷ rs) zero h = λ d. h (subst (λ (x : Status). IsDoneWith r.value x) (sym (e r.key)) d)
stale_same s t e (r ∷ rs) (suc i) h = (subst (λ (x : Status). IsDoneWith r.value x) (e r.key) h.0, stale_same s t e rs i h.1)

-- ---- what calls say of a table t, which is v

module _ (v t : TableValue) (te : v ≡ t) (ns : List Node) (b : Bool) (kept : StandsByHistory (past_of v) v.project ns b v.history) where
  claimed : (q : Key) (w : ℕ) → b ≡ false → status_in ns q ≡ Claimed w → IsClaimed v w q
  claimed q w nf stands = (sym kept.failed_is ∙ nf, (is_standing (past_of v) v.project ns b v.history kept q (Claimed w) stands (λ e. cc) tt).1)

  running : (o : OutcomeValue) (w : ℕ) → b ≡ false → status_in ns o.key ≡ Running w → IsRunning v w o.key
  running o w nf stands = (sym kept.failed_is ∙ nf, (is_standing (past_of v) v.project ns b v.history kept o.key (Running w) stands (λ e. cc) tt).1)

  -- ---- mark

  pub mark_at : (q : Key) (w : ℕ) (r : Entry) → taken (past_of v) q ≡ Some r → b ≡ false → status_in ns q ≡ Claimed w → AllUnchanged ≡ walk (past_entry v.past) (state_of_nodes v.project ns false) r.reads
      → IsStep t (MarkGreen w q)
  mark_at q w r found nf stands all = subst (λ (u : TableValue). IsStep u (MarkGreen w q)) te (mark_may (past_of v) v.project ns b v.history kept q w r found nf stands all)

  -- a claimed key that the previous session lacks
  pub mark_lacks : (q : Key) (w : ℕ) → b ≡ false → status_in ns q ≡ Claimed w → past_entry v.past q ≡ None → MarkGives t w q (Err fault.NotInPast) t
  mark_lacks q w nf stands none = subst (λ (u : TableValue). MarkGives u w q (Err fault.NotInPast) u) te (claimed q w nf stands, none, refl)

  -- one that it has, of a kind that crosses
  pub mark_across : (q : Key) (w : ℕ) (r : Entry) → b ≡ false → status_in ns q ≡ Claimed w → past_entry v.past q ≡ Some r → has_kind v.crossing (kind_of q) ≡ true
      → MarkGives t w q (Err fault.AcrossProfiles) t
  mark_across q w r nf stands found crossing = subst (λ (u : TableValue). MarkGives u w q (Err fault.AcrossProfiles) u) te (claimed q w nf stands, (r, found), crossing, refl)

  -- another one that isn't marked, by how the walk over its previous edges ends
  pub mark_refused : (q : Key) (w : ℕ) (o : Option Walk) → b ≡ false → status_in ns q ≡ Claimed w → past_walk (past_of v) (state_of_nodes v.project ns false) q ≡ o
      → IsClaimed t w q × (walk_in t q ≡ o) × (t ≡ t)
  mark_refused q w o nf stands is =
      subst (λ (u : TableValue). IsClaimed u w q × (walk_in u q ≡ o) × (u ≡ u)) te (
        claimed q w nf stands,
        sym (past_walk_same (past_of v) (state_of_nodes v.project ns false) (state_of v) kept.status q) ∙ is,
        refl,
      )

  pub mark_gives : (q : Key) (w : ℕ) (r : Entry) → taken (past_of v) q ≡ Some r → b ≡ false → status_in ns q ≡ Claimed w → AllUnchanged ≡ walk (past_entry v.past) (state_of_nodes v.project ns false) r.reads
      → (u : TableValue) (x : Value) → u ≡ adds v (MarkGreen w q) → r.value ≡ x
      → IsStep t (MarkGreen w q) × (u ≡ adds t (MarkGreen w q)) × IsDoneWith x ((state_of u).at q)
  mark_gives q w r found nf stands all u x ue xe =
      let over = past_of v in
      let y = Done r.value r.reads Green in
      let done : (state_after over v.project (v.history ++ MarkGreen w q ∷ [])).at q ≡ y = at_written over v.project v.history (MarkGreen w q) q y (ap (λ (z : Status). with_status (state_of v) q z) (ap green found)) in (
        mark_at q w r found nf stands all,
        ue ∙ ap (λ (z : TableValue). adds z (MarkGreen w q)) te,
        subst (λ (z : TableValue). IsDoneWith x ((state_of z).at q)) (sym ue) (subst (λ (z : Status). IsDoneWith x z) (sym done) xe),
      )

  -- ---- begin_run

  pub begin_at : (q : Key) (w : ℕ) → b ≡ false → status_in ns q ≡ Claimed w → MayRun (past_walk (past_of v) (state_of_nodes v.project ns false) q) → IsStep t (Begin w q)
  begin_at q w nf stands may = subst (λ (u : TableValue). IsStep u (Begin w q)) te (begin_may (past_of v) v.project ns b v.history kept q w nf stands may)

  -- a claimed key that isn't run
  pub begin_refused : (q : Key) (w : ℕ) (f : TableFault) → b ≡ false → status_in ns q ≡ Claimed w → IsWhyNot (past_walk (past_of v) (state_of_nodes v.project ns false) q) (Some f) → BeginGives t w q (Err f) t
  begin_refused q w f nf stands why =
      subst (λ (u : TableValue). BeginGives u w q (Err f) u) te (go f (claimed q w nf stands) (past_walk_same (past_of v) (state_of_nodes v.project ns false) (state_of v) kept.status q) why)
    where
      go : (f : TableFault) → IsClaimed v w q → past_walk (past_of v) (state_of_nodes v.project ns false) q ≡ walk_in v q → IsWhyNot (past_walk (past_of v) (state_of_nodes v.project ns false) q) (Some f) → BeginGives v w q (Err f) v
      go (fault.EdgeOpen i) here same why = (here, sym same ∙ why, refl)
      go fault.NothingChanged here same why = (here, sym same ∙ why, refl)
      go fault.NotYours here same why = absurd why
      go fault.OutOfRank here same why = absurd why
      go (fault.EdgeChanged i) here same why = absurd why
      go fault.NotInPast here same why = absurd why
      go (fault.StaleRead i) here same why = absurd why
      go fault.Failed here same why = absurd why
      go fault.AcrossProfiles here same why = absurd why
      go fault.OtherProfile here same why = absurd why
      go fault.OutOfMemory here same why = absurd why

  -- ---- finish

  -- all reads are held in the nodes if they are in the table, and the other way round
  pub held_at : (rs : List ReadValue) → AreHeld (state_of t) rs → AreHeld (state_of_nodes v.project ns false) rs
  held_at rs all = held_nodes (past_of v) v.project ns b v.history kept false rs (subst (λ (u : TableValue). AreHeld (state_of u) rs) (sym te) all)

  pub held_in : (rs : List ReadValue) → AreHeld (state_of_nodes v.project ns false) rs → AreHeld (state_of t) rs
  held_in rs all = subst (λ (u : TableValue). AreHeld (state_of u) rs) te (are_held (past_of v) v.project ns b v.history kept false rs all)

  pub finish_at : (o : OutcomeValue) (w : ℕ) → b ≡ false → status_in ns o.key ≡ Running w → o.profile ≡ v.terms.profile → AreHeld (state_of_nodes v.project ns false) o.told → IsStep t (Finish w o)
  finish_at o w nf stands own all = subst (λ (u : TableValue). IsStep u (Finish w o)) te (finish_may (past_of v) v.project ns b v.history kept o w nf stands own all)

  -- a running key whose outcome is of another profile
  pub finish_other : (o : OutcomeValue) (w : ℕ) → b ≡ false → status_in ns o.key ≡ Running w → o.profile ≢ v.terms.profile → FinishGives t w o (Err fault.OtherProfile) t
  finish_other o w nf stands other = subst (λ (u : TableValue). FinishGives u w o (Err fault.OtherProfile) u) te (running o w nf stands, other, refl)

  -- or whose reads are stale
  pub finish_stale : (o : OutcomeValue) (w i : ℕ) → b ≡ false → status_in ns o.key ≡ Running w → o.profile ≡ v.terms.profile → IsFirstStale (state_of_nodes v.project ns false) o.told i
      → FinishGives t w o (Err (fault.StaleRead i)) t
  finish_stale o w i nf stands own stale =
      subst (λ (u : TableValue). FinishGives u w o (Err (fault.StaleRead i)) u) te (
        running o w nf stands,
        own,
        stale_same (state_of_nodes v.project ns false) (state_of v) kept.status o.told i stale,
        refl,
      )
