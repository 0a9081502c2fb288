-- What the reads of a run do to the table.
use Rattle.std.specs.Prelude.{◌≡◌, ◌⊎◌, ℕ, ◌<◌, ◌++◌, List, refl, Option, Some, None, MatchOption, Ok, Err}
use Rattle.std.proofs.Common.{sym, ap, ◌∙◌, subst, inl, inr}
use Rattle.item_ids.specs.declared.key.Key.{Key}
use Rattle.item_ids.specs.Inputs.{rank}
use Rattle.result_bytes.specs.declared.value.Value.{Value}
use Rattle.sessions.specs.declared.mark.Mark.{Mark}
use Rattle.recorder.specs.declared.reader.ReadFault.{ReadFault}
use Rattle.recorder.specs.declared.reader.ReadFault.TheVariants as read
use Rattle.recorder.specs.declared.runner.RunFault.{RunFault}
use Rattle.recorder.specs.declared.runner.RunFault.TheVariants as run
use Rattle.graph_rules.specs.Steps.{Status, Unknown, Claimed, Running, Done, State, after_all, IsDoneWith, opening}
use Rattle.graph_rules.specs.Histories.{Keeps}
use Rattle.graph_rules.proofs.Orders.{after_all_append}
use Rattle.graph_rules.proofs.Keeping.{keeps_all}
use Rattle.job_table.specs.Tables.{TableValue, past_of, state_of, with_history}
use Rattle.job_table.specs.Calls.{AskGives}
use Rattle.job_table.specs.declared.fault.Asked.TheVariants as asked
use Rattle.job_table.specs.declared.fault.TableFault.TheVariants as table
use Rattle.mark_green.specs.declared.asking.RunStop.{RunStop}
use Rattle.mark_green.specs.declared.asking.RunStop.TheVariants as stop
use Rattle.mark_green.specs.Leaves.{Knows, KnowsChange, GoesOn, Stays}

-- the key is done with this value
abbrev pub IsDoneIn : Key → Value → TableValue → Type 0
IsDoneIn q v t = IsDoneWith v ((state_of t).at q)

-- why a run had no answer; r is the rank of its key
abbrev pub StopGives : TableValue → ℕ → ℕ → RunStop → TableValue → Type 0
StopGives t w r (stop.Lacks k) u = AskGives t w k (Ok asked.Yours) u
StopGives t w r stop.Busy u = (k : Key) × AskGives t w k (Ok asked.Busy) u
StopGives t w r stop.Stopped u = (k : Key) × AskGives t w k (Ok asked.Stopped) u
StopGives t w r (stop.Refused f) u =
    (k : Key) × (rank k < r) × AskGives t w k (Err f) u
StopGives t w r stop.OutOfMemory u = ((state_of u).failed ≡ (state_of t).failed) × Stays t u

-- a key that a run lacked is no input, and of lower rank than its own
abbrev pub IsUnder : ℕ → RunStop → Type 0
IsUnder r (stop.Lacks k) = (rank k < r) × (0 < rank k)
IsUnder r _ = Unit {0}

-- The refusal of a read, by what stopped the run: it is `NotHeld` only if a worker has the key.
abbrev pub IsFaultOfRead : RunStop → ReadFault → Type 0
IsFaultOfRead (stop.Lacks k) f = f ≡ read.NotHeld
IsFaultOfRead stop.Busy f = f ≡ read.NotHeld
IsFaultOfRead stop.Stopped f = f ≡ read.Stopped
IsFaultOfRead (stop.Refused table.OutOfMemory) f = f ≡ read.OutOfMemory
IsFaultOfRead (stop.Refused x) f = f ≡ read.Stopped
IsFaultOfRead stop.OutOfMemory f = f ≡ read.OutOfMemory

-- Why a read of q isn't answered in a run of rank r: what stopped the run. If nothing did, memory
-- ran out, or q is a key that no query of that rank reads.
abbrev pub IsUnanswered : ℕ → Option RunStop → Key → ReadFault → Type 0
IsUnanswered r (Some x) q f = IsFaultOfRead x f
IsUnanswered r None q f = (f ≡ read.OutOfMemory) ⊎ ((f ≡ read.Stopped) × ¬ (rank q < r))

-- a run that nothing stopped ran out of memory
abbrev pub IsWantOfMemory : RunFault → Type 0
IsWantOfMemory run.OutOfMemory = Unit {0}
IsWantOfMemory (run.Read f) = f ≡ read.OutOfMemory

-- the first read without an answer
abbrev pub HaltsAtRead : ℕ → ℕ → RunStop → Option TableValue → Option TableValue → Type 0
HaltsAtRead w r x a b = IsUnder r x × KnowsChange (λ t u. GoesOn t u × StopGives t w r x u) a b

-- reads with answers leave the table as it was, and after the first without one nothing is asked
abbrev pub Moves : ℕ → ℕ → Option RunStop → Option RunStop → Option TableValue → Option TableValue
    → Type 0
Moves w r old new a b =
    ((new ≡ old) × (b ≡ a)) ⊎ ((old ≡ None) × MatchOption new ⊥ (λ x. HaltsAtRead w r x a b))

-- ---- a history that continues

pub state_on : (t u : TableValue) (g : GoesOn t u)
    → state_of u ≡ after_all (past_of t) (state_of t) g.more
state_on t u g =
    ap (λ (x : TableValue). state_of x) whole
    ∙ after_all_append (past_of t) (opening t.project) t.history g.more
  where
    whole : u ≡ with_history t (t.history ++ g.more)
    whole = rw (sym g.terms, sym g.past, sym g.crossing, sym g.project, sym g.history) refl

pub keeps_on : (t u : TableValue) → GoesOn t u → Keeps (state_of t) (state_of u)
keeps_on t u g =
    subst (λ (s : State). Keeps (state_of t) s) (sym (state_on t u g))
    (keeps_all (past_of t) (state_of t) g.more g.steps)

done_on : (v : Value) (x y : Status)
    → ((a : Value) (es : List Key) (m : Mark) → x ≡ Done a es m → y ≡ Done a es m)
    → IsDoneWith v x → IsDoneWith v y
done_on v Unknown y h d = absurd d
done_on v (Claimed w) y h d = absurd d
done_on v (Running w) y h d = absurd d
done_on v (Done a es m) y h d = subst (λ (z : Status). IsDoneWith v z) (sym (h a es m refl)) d

pub done_stays : (q : Key) (v : Value) (t u : TableValue) → GoesOn t u → IsDoneIn q v t
    → IsDoneIn q v u
done_stays q v t u g d = done_on v ((state_of t).at q) ((state_of u).at q) (keeps_on t u g q) d

-- ---- reads, one after the other

halts_keeps : (w r : ℕ) (q : Key) (v : Value) (x : RunStop) (a b : Option TableValue) → HaltsAtRead w r x a b
    → Knows (IsDoneIn q v) a → Knows (IsDoneIn q v) b
halts_keeps w r q v x None None h k = tt
halts_keeps w r q v x None (Some u) h k = absurd h.1
halts_keeps w r q v x (Some t) None h k = absurd h.1
halts_keeps w r q v x (Some t) (Some u) h k = done_stays q v t u h.1.0 k

opened_keeps : (w r : ℕ) (q : Key) (v : Value) (new : Option RunStop) (a b : Option TableValue)
    → MatchOption new ⊥ (λ x. HaltsAtRead w r x a b)
    → Knows (IsDoneIn q v) a → Knows (IsDoneIn q v) b
opened_keeps w r q v None a b h k = absurd h
opened_keeps w r q v (Some x) a b h k = halts_keeps w r q v x a b h k

pub moves_keep : (w r : ℕ) (old new : Option RunStop) (q : Key) (v : Value) (a b : Option TableValue)
    → Moves w r old new a b → Knows (IsDoneIn q v) a → Knows (IsDoneIn q v) b
moves_keep w r old new q v a b (inl same) k = subst (λ o. Knows (IsDoneIn q v) o) (sym same.1) k
moves_keep w r old new q v a b (inr h) k = opened_keeps w r q v new a b h.1 k

none_no_match : (new : Option RunStop) (P : RunStop → Type 0) → new ≡ None → MatchOption new ⊥ P → ⊥
none_no_match None P e h = h
none_no_match (Some x) P e h = absurd cc

pub moves_on : (w r : ℕ) (x y z : Option RunStop) (a b c : Option TableValue)
    → Moves w r x y a b → Moves w r y z b c → Moves w r x z a c
moves_on w r x y z a b c (inl f) (inl g) = inl (g.0 ∙ f.0, g.1 ∙ f.1)
moves_on w r x y z a b c (inl f) (inr g) =
    inr (sym f.0 ∙ g.0, subst (λ o. MatchOption z ⊥ (λ s. HaltsAtRead w r s o c)) f.1 g.1)
moves_on w r x y z a b c (inr f) (inl g) =
    inr (
      f.0,
      subst (λ o. MatchOption z ⊥ (λ s. HaltsAtRead w r s a o)) (sym g.1)
          (subst (λ o. MatchOption o ⊥ (λ s. HaltsAtRead w r s a b)) (sym g.0) f.1),
    )
moves_on w r x y z a b c (inr f) (inr g) = absurd (none_no_match y _ g.0 f.1)

-- the same, if the second moves are those of an equal worker and rank
pub moves_from : (w r v s : ℕ) (x y z : Option RunStop) (a b c : Option TableValue) → v ≡ w → s ≡ r
    → Moves w r x y a b → Moves v s y z b c → Moves w r x z a c
moves_from w r v s x y z a b c v_is s_is f g =
    moves_on w r x y z a b c f
    (subst (λ (n : ℕ). Moves n r y z b c) v_is (subst (λ (n : ℕ). Moves v n y z b c) s_is g))
