-- The effect of the answers to a run's reads.
use Rattle.std.proofs.Common.{◌≡◌, ℕ, ◌<◌, refl, sym, subst, Option, inl, inr, ◌⊎◌}
use Rattle.std.specs.Prelude.{Result, Ok, Err, IfErr}
use Rattle.std.specs.declared.alloc.Global.{Global}
use Rattle.std.specs.declared.sync.Arc.{Arc}
use Rattle.std.specs.Arc.{arc_value}
use Rattle.item_ids.specs.declared.key.Key.{Key}
use Rattle.item_ids.specs.Inputs.{rank}
use Rattle.result_bytes.specs.declared.value.Value.{Value}
use Rattle.recorder.specs.Projects.{Project}
use Rattle.recorder.specs.Backed.{Meaning, ReadLists}
use Rattle.graph_rules.specs.Settings.{Setting}
use Rattle.graph_rules.specs.Steps.{State, Unknown, Legal}
use Rattle.graph_rules.specs.Sound.{AreBacked, IsSound, IsSoundAt}
use Rattle.graph_rules.proofs.Keeping.{sound_history}
use Rattle.job_table.specs.Tables.{TableValue, past_of, state_of}
use Rattle.job_table.specs.Calls.{AskGives}
use Rattle.job_table.specs.declared.fault.Asked.{Asked}
use Rattle.job_table.specs.declared.fault.Asked.TheVariants as asked
use Rattle.job_table.specs.declared.fault.TableFault.{TableFault}
use Rattle.mark_green.specs.declared.asking.RunStop.{RunStop}
use Rattle.mark_green.specs.declared.asking.RunStop.TheVariants as stop
use Rattle.mark_green.specs.Leaves.{Knows, KnowsChange, GoesOn, ClaimsNoInput}
use Rattle.mark_green.specs.Moves.{IsDoneIn, StopGives, HaltsAtRead}
use Rattle.mark_green.proofs.GoingOn.{on_none, stays_same, change_map, change_here}
use Rattle.mark_green.proofs.Running.{same_tables, done_tables, reads_lacks, reads_lost, reads_busy, reads_stopped, reads_refused}

module _ (w : ℕ) (q : Key) (a b : Option TableValue) where
  pub asked_same : (v : Arc Value Global) → KnowsChange (λ t u. AskGives t w q (Ok (asked.Done v)) u) a b → b ≡ a
  asked_same v h = same_tables w q v a b h

  pub asked_done : (v s : Arc Value Global) → s ≡ v → KnowsChange (λ t u. AskGives t w q (Ok (asked.Done v)) u) a b → Knows (IsDoneIn q (arc_value s)) b
  asked_done v s e h = subst (λ (x : Arc Value Global). Knows (IsDoneIn q (arc_value x)) b) (sym e) (done_tables w q v a b h)

  pub asked_yours : (r : ℕ) → rank q < r → 0 < rank q → (x : RunStop) → (x ≡ stop.Lacks q) ⊎ (x ≡ stop.OutOfMemory) → KnowsChange (λ t u. AskGives t w q (Ok asked.Yours) u) a b → HaltsAtRead w r x a b
  asked_yours r lt pos x (inl e) h = subst (λ (y : RunStop). HaltsAtRead w r y a b) (sym e) ((lt, pos), change_map _ _ (reads_lacks w r q) a b h)
  asked_yours r lt pos x (inr e) h = subst (λ (y : RunStop). HaltsAtRead w r y a b) (sym e) (tt, change_map _ _ (reads_lost w r q) a b h)

  pub asked_busy : (r : ℕ) → KnowsChange (λ t u. AskGives t w q (Ok asked.Busy) u) a b → HaltsAtRead w r stop.Busy a b
  asked_busy r h = (tt, change_map _ _ (reads_busy w r q) a b h)

  pub asked_stopped : (r : ℕ) → KnowsChange (λ t u. AskGives t w q (Ok asked.Stopped) u) a b → HaltsAtRead w r stop.Stopped a b
  asked_stopped r h = (tt, change_map _ _ (reads_stopped w r q) a b h)

  pub asked_refused : (r : ℕ) → rank q < r → (f : TableFault) → KnowsChange (λ t u. AskGives t w q (Err f) u) a b → HaltsAtRead w r (stop.Refused f) a b
  asked_refused r lt f h = (tt, change_map _ _ (reads_refused w r q f lt) a b h)

-- a key that nobody has is no input
unknown_rank : (mean : Meaning) (reads : ReadLists) (over : Setting) (p : Project) (s : State) (q : Key) → IsSound mean reads over p s → s.at q ≡ Unknown → 0 < rank q
unknown_rank mean reads over p s q sound is = (let h : IsSoundAt mean reads over p s q Unknown = subst (IsSoundAt mean reads over p s q) is (sound q) in h)

pub claims_no_input : (mean : Meaning) (reads : ReadLists) (w : ℕ) (q : Key) (t u : TableValue) (r : Result Asked TableFault) → Legal (past_of t) t.project t.history → AreBacked mean reads t.history → AskGives t w q r u → ClaimsNoInput q r
claims_no_input mean reads w q t u r legal backed a is =
    let yours : AskGives t w q (Ok asked.Yours) u = subst (λ (x : Result Asked TableFault). AskGives t w q x u) is a in
    unknown_rank mean reads (past_of t) t.project (state_of t) q (sound_history mean reads (past_of t) t.project t.history legal backed) yours.0.1

pub not_asked : (w r : ℕ) (a : Option TableValue) → HaltsAtRead w r stop.OutOfMemory a a
not_asked w r a = (tt, change_here (λ t u. GoesOn t u × StopGives t w r stop.OutOfMemory u) (λ t. (on_none t, (refl, stays_same t t refl))) a)
