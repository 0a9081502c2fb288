-- What close says of the table.
use Rattle.std.proofs.Common.{◌≡◌, List, [], ◌∷◌, sym, ◌∙◌, subst, Bool, true, false, Option, Some, None}
use Rattle.std.specs.Prelude.{if◌then◌else◌, Ok, Err}
use Rattle.std.specs.List.{AllByRecursion}
use Rattle.item_ids.specs.declared.key.Key.{Key}
use Rattle.item_ids.specs.declared.key.Key.TheVariants.{Answer}
use Rattle.result_bytes.specs.declared.value.Value.{Value}
use Rattle.recorder.specs.Projects.{Project}
use Rattle.recorder.specs.Backed.{Meaning, ReadLists}
use Rattle.sessions.specs.declared.terms.Terms.{Terms}
use Rattle.sessions.specs.Sessions.{SessionValue}
use Rattle.graph_rules.specs.Keys.{same_key, input_of}
use Rattle.graph_rules.specs.Pasts.{IsGraph}
use Rattle.graph_rules.specs.Settings.{Setting}
use Rattle.graph_rules.specs.Steps.{Status, Unknown, Claimed, Running, Done, State, Event, IsDone, IsNotDone, IsDoneWith, state_after}
use Rattle.graph_rules.specs.Sound.{AreBacked, IsInOrderAt, IsInOrder}
use Rattle.graph_rules.specs.Graphs.{IsReached, edge}
use Rattle.graph_rules.specs.Graphs.IsReached.{root as starts}
use Rattle.graph_rules.proofs.Keeping.{sound_history, in_order}
use Rattle.job_table.specs.declared.fault.CloseFault.TheVariants as fault
use Rattle.key_states.specs.Nodes.{Node, status_of, status_in, status_at, unless_input, state_of_nodes}
use Rattle.job_table.specs.Kept.{StandsByHistory}
use Rattle.job_table.specs.Tables.{TableValue, past_of, state_of}
use Rattle.key_states.specs.Closing.{IsQuiet, IsClosing}
use Rattle.job_table.specs.Closes.{AreQuiet, IsAtWork, CloseGives}
use Rattle.key_states.specs.Reached.{AllQuiet}
use Rattle.key_states.proofs.NodeRules.{held_in}
use Rattle.job_table.proofs.StepRules.{is_not_done, is_held}

-- ---- quiet

quiet_at : (ns : List Node) (q : Key) → AllQuiet ns → IsQuiet (status_in ns q)
quiet_at [] q a = tt
quiet_at (n ∷ ns) q a = elim (same_key n.0 q) as (λ b. IsQuiet (if b then status_of n.1 else status_in ns q)) [ true ↦ a.0 | false ↦ quiet_at ns q a.1 ]

quiet_out : (o : Option Value) (x : Status) → IsQuiet x → IsQuiet (unless_input o x)
quiet_out (Some v) x h = tt
quiet_out None x h = h

-- ---- states that agree

reached_same : (p : Project) (s t : State) → ((k : Key) → s.at k ≡ t.at k) → (q : Key) → IsReached p s q → IsReached p t q
reached_same p s t same q (starts _ r) = starts q r
reached_same p s t same _ (edge q v es m e reached is has) = edge q v es m e (reached_same p s t same q reached) (sym (same q) ∙ is) has

closing_same : (terms : Terms) (past : Option SessionValue) (p : Project) (s t : State) (session : SessionValue) → ((k : Key) → s.at k ≡ t.at k) → IsClosing terms past p s session → IsClosing terms past p t session
closing_same terms past p s t session same c = record {
  terms_are = c.terms_are;
  number = c.number;
  link = c.link;
  closed = record {
    ascending = c.closed.ascending;
    each = λ r has. let h = c.closed.each r has in (reached_same p s t same r.key h.0, sym (same r.key) ∙ h.1);
    all = λ q reached. c.closed.all q (reached_same p t s (λ k. sym (same k)) q reached);
  };
}

all_done : (s t : State) → ((k : Key) → s.at k ≡ t.at k) → (es : List Key) → AllByRecursion (λ e. IsDone (s.at e)) es → AllByRecursion (λ e. IsDone (t.at e)) es
all_done s t same [] h = tt
all_done s t same (e ∷ es) h = (subst IsDone (same e) h.0, all_done s t same es h.1)

order_at : (s t : State) → ((k : Key) → s.at k ≡ t.at k) → (q : Key) (x : Status) → IsInOrderAt s q x → IsInOrderAt t q x
order_at s t same q Unknown h = tt
order_at s t same q (Claimed w) h = tt
order_at s t same q (Running w) h = tt
order_at s t same q (Done v es m) h = record {
  kind = h.kind;
  marked = h.marked;
  lower = h.lower;
  once = h.once;
  done = all_done s t same es h.done;
}

order_same : (s t : State) → ((k : Key) → s.at k ≡ t.at k) → IsInOrder s → IsInOrder t
order_same s t same order q = subst (IsInOrderAt t q) (same q) (order_at s t same q (s.at q) (order q))

pub done_of : (v : Value) (x : Status) → IsDoneWith v x → IsDone x
done_of v Unknown d = d
done_of v (Claimed w) d = d
done_of v (Running w) d = d
done_of v (Done u es m) d = tt

-- ---- close, if the table is this

-- the state that the nodes stand for is in order
pub held_in_order : (mean : Meaning) (reads : ReadLists) (over : Setting) (p : Project) (ns : List Node) (b c : Bool) (h : List Event)
    → StandsByHistory over p ns b h → AreBacked mean reads h → IsGraph over.held → IsInOrder (state_of_nodes p ns c)
held_in_order mean reads over p ns b c h kept backed graph =
    order_same (state_after over p h) (state_of_nodes p ns c) (λ k. sym (kept.status k))
    (in_order mean reads over p graph (state_after over p h) (sound_history mean reads over p h kept.legal backed))

module _ (v t : TableValue) (is : v ≡ t) (ns : List Node) (b : Bool) (kept : StandsByHistory (past_of v) v.project ns b v.history) (nf : b ≡ false) where
  quiet : AllQuiet ns → AreQuiet (state_of v)
  quiet all q = subst IsQuiet (kept.status q) (quiet_out (input_of v.project q) (status_in ns q) (quiet_at ns q all))

  at_work : (AllQuiet ns → ⊥) → IsAtWork (state_of v)
  at_work busy = let h = held_in ns kept.apart busy in record { key = h.0; worker = h.1; held = is_held (past_of v) v.project ns b v.history kept h.1 h.0 h.2 }

  pub gives_running : (AllQuiet ns → ⊥) → CloseGives t (Err fault.StillRunning)
  gives_running busy = subst (λ (u : TableValue). CloseGives u (Err fault.StillRunning)) is (
    sym kept.failed_is ∙ nf,
    at_work busy,
  )

  pub gives_no_answer : AllQuiet ns → IsNotDone (status_at v.project ns Answer) → CloseGives t (Err fault.NoAnswer)
  gives_no_answer all nd = subst (λ (u : TableValue). CloseGives u (Err fault.NoAnswer)) is (sym kept.failed_is ∙ nf, quiet all, is_not_done (past_of v) v.project ns b v.history kept Answer nd)

  pub gives_memory : AllQuiet ns → (x : Value) → IsDoneWith x (status_at v.project ns Answer) → CloseGives t (Err fault.OutOfMemory)
  gives_memory all x d = subst (λ (u : TableValue). CloseGives u (Err fault.OutOfMemory)) is (sym kept.failed_is ∙ nf, quiet all, subst IsDone (kept.status Answer) (done_of x (status_at v.project ns Answer) d))

  pub gives_session : AllQuiet ns → (x : Value) → IsDoneWith x (status_at v.project ns Answer) → (c : Bool) (session : SessionValue) → IsClosing v.terms v.past v.project (state_of_nodes v.project ns c) session → CloseGives t (Ok session)
  gives_session all x d c session closing = subst (λ (u : TableValue). CloseGives u (Ok session)) is (
    (sym kept.failed_is ∙ nf, quiet all, subst IsDone (kept.status Answer) (done_of x (status_at v.project ns Answer) d)),
    closing_same v.terms v.past v.project (state_of_nodes v.project ns c) (state_of v) session kept.status closing,
  )
