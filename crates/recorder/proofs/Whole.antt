-- A run of a runner whose values and reads are those of programs keeps to the contract of runs.
use Rattle.std.proofs.Common.{◌≡◌, ◌<◌, [], sym, ◌∙◌, ap, subst, IfSome, Option, Some, None, Result, Ok, Err, IfOk, IfErr}
use Rattle.item_ids.specs.declared.key.Key.{Key}
use Rattle.item_ids.specs.Inputs.{rank}
use Rattle.result_bytes.specs.declared.value.Value.{Value}
use Rattle.result_bytes.specs.Values.{IsOfKind}
use Rattle.named_files.specs.Projects.{IsProject}
use Rattle.recorder.specs.Projects.{Project}
use Rattle.recorder.specs.Backed.{Meaning, ReadLists, IsNext}
use Rattle.recorder.specs.Recording.{Recording, key_of}
use Rattle.recorder.specs.Runs.{IsRun}
use Rattle.recorder.specs.Programs.{Prog, Ret, Ask, runs, asks, Fits, Reached, Start, IsAt, IsAsked, Goes, GivesUp, Performs, TiedAt}
use Rattle.recorder.specs.declared.runner.RunFault.{RunFault}
use Rattle.recorder.proofs.Reach.{reached_lower, reached_next, reached_asked, reached_backed}

ask_lower : (q k : Key) (f : Value → Prog) → Fits q (Ask k f) → rank k < rank q
unfolding Fits
ask_lower q k f h = h.0

ret_kind : (q : Key) (v : Value) → Fits q (Ret v) → IsOfKind q v
unfolding Fits
ret_kind q v h = h

pub run_performed : (mean : Meaning) (reads : ReadLists) (q : Key) (prog : Prog) → TiedAt mean reads q prog
    → {D : Type 0} (old new : Recording D) (result : Result Value RunFault) → Performs prog old result new → IsRun mean reads q new result
run_performed mean reads q prog t {D = D} old new result performed = by_result result performed.ok performed.err
  where
    step : (Value → Prog) → Prog
    step = performed.step

    tie : (p : Project) → IsProject p → reads p q ≡ asks (step Ret) (mean p) []
    tie p i = t.asked p i ∙ ap (λ g. asks g (mean p) []) (sym performed.whole)

    means : (p : Project) → IsProject p → mean p q ≡ runs (step Ret) (mean p)
    means p i = t.means p i ∙ ap (λ g. runs g (mean p)) (sym performed.whole)

    fits : Fits q (step Ret)
    fits = subst (Fits q) (sym performed.whole) t.fits

    IsGood : Option Key → Type 0
    IsGood o = IfSome o (λ k. (rank k < rank q) × IsNext mean reads q new.told k)

    next_at : (rest : Prog) → Reached (step Ret) new.told rest → (o : Option Key) → IfSome o (IsAsked new.told rest) → IsGood o
    next_at rest r None a = tt
    next_at rest r (Some k) a = go a.1.0 (subst (Reached (step Ret) new.told) a.1.1 r)
      where
        go : (f : Value → Prog) → Reached (step Ret) new.told (Ask k f) → (rank k < rank q) × IsNext mean reads q new.told k
        go f r = (ask_lower q k f (reached_lower (step Ret) q fits new.told (Ask k f) r).1, reached_next mean reads q (step Ret) tie new.told k f r a.0)

    nothing_refused : new.refused ≡ None → IsGood (key_of new)
    nothing_refused e = subst (λ o. IsGood (key_of {D = D} (record { inner = new.inner; told = new.told; refused = o }))) (sym e) tt

    start : IsAt (step Ret) old (step Ret)
    start = record { reached = subst (λ told. Reached (step Ret) told (step Ret)) (sym performed.unread) Start; unrefused = performed.unrefused }

    by_result : (result : Result Value RunFault) → IfOk result (λ v. Goes step old v new) → IfErr result (λ e. GivesUp step old e new) → IsRun mean reads q new result
    by_result (Ok v) g _ = let s = g.goes (step Ret) Ret start in record {
      asked = reached_asked mean reads q (step Ret) tie new.told (Ret v) s.reached;
      lower = (reached_lower (step Ret) q fits new.told (Ret v) s.reached).0;
      refused = nothing_refused s.unrefused;
      unrefused = s.unrefused;
      kind = ret_kind q v (reached_lower (step Ret) q fits new.told (Ret v) s.reached).1;
      backed = reached_backed mean reads q (step Ret) tie means new.told v s.reached;
      fault = tt;
    }
    by_result (Err e) _ g = let s = g.halts (step Ret) Ret start in record {
      asked = reached_asked mean reads q (step Ret) tie new.told s.rest s.reached;
      lower = (reached_lower (step Ret) q fits new.told s.rest s.reached).0;
      refused = next_at s.rest s.reached (key_of new) s.refused;
      unrefused = tt;
      kind = tt;
      backed = tt;
      fault = s.fault;
    }
