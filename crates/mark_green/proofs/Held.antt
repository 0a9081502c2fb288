-- What was read stays so in the table, whatever is evaluated meanwhile.
use Rattle.std.proofs.Common.{◌≡◌, ℕ, List, [], sym, ◌∙◌, subst, Option, Some, None}
use Rattle.std.specs.Prelude.{Ok}
use Rattle.std.specs.Arc.{arc_value}
use Rattle.std.specs.declared.alloc.Global.{Global}
use Rattle.std.specs.declared.sync.Arc.{Arc}
use Rattle.item_ids.specs.declared.key.Key.{Key}
use Rattle.item_ids.specs.Inputs.{rank}
use Rattle.recorder.specs.Backed.{ReadValue}
use Rattle.recorder.specs.Runs.{OutcomeValue}
use Rattle.graph_rules.specs.Steps.{Claimed, AreHeld}
use Rattle.job_table.specs.Tables.{TableValue, state_of}
use Rattle.mark_green.specs.declared.asking.RunStop.TheVariants as stop
use Rattle.mark_green.specs.Leaves.{Knows, HasStatus}
use Rattle.mark_green.specs.Moves.{HaltsAtRead}
use Rattle.mark_green.proofs.GoingOn.{held_on}
use Rattle.mark_green.proofs.Running.{claimed_stands}
use Rattle.mark_green.proofs.Turning.{Fetches}

-- all of this is so in the table, if it is known
abbrev pub Held : List ReadValue → Option TableValue → Type 0
Held told a = Knows (λ t. AreHeld (state_of t) told) a

pub held_none : (a : Option TableValue) → Held [] a
held_none None = tt
held_none (Some t) = tt

-- a run with an outcome leaves the table as it was
pub held_ran : (o : OutcomeValue) (held : List ReadValue) (a b : Option TableValue) → b ≡ a → (Held held a → Held o.told a) → Held held a → Held o.told b
held_ran o held a b same told h = subst (Held o.told) (sym same) (told h)

-- a key that a run lacked is evaluated
pub held_more : (w : ℕ) (q k : Key) (old new : List ReadValue) (x : Unit {0}) (a b c : Option TableValue) → HaltsAtRead w (rank q) (stop.Lacks k) a b → Fetches w k (Ok x) old new b c → Held old a → Held new c
held_more w q k old new x None None None h f all = tt
held_more w q k old new x None None (Some v) h f all = absurd f
held_more w q k old new x None (Some u) c h f all = absurd h.1
held_more w q k old new x (Some t) None c h f all = absurd h.1
held_more w q k old new x (Some t) (Some u) None h f all = absurd f
held_more w q k old new x (Some t) (Some u) (Some v) h f all =
    let claim = h.1.1 in
    let stands : HasStatus (Claimed w) w k u = subst (HasStatus (Claimed w) w k) (sym claim.1) (claimed_stands w q k t claim.0.0 claim.0) in
    (f stands (held_on t u h.1.0 old all)).2

-- the outcome that is shared is the one that was run
pub held_shown : (shown : Arc OutcomeValue Global → OutcomeValue) (o : OutcomeValue) (a : Arc OutcomeValue Global) (t : Option TableValue) → shown a ≡ arc_value a → arc_value a ≡ o → Held o.told t → Held (shown a).told t
held_shown shown o a t is same h = subst (λ (p : OutcomeValue). Held p.told t) (sym (is ∙ same)) h
