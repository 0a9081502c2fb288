-- What follows is backed and fits, and what is performed follows.
use Rattle.std.proofs.Common.{map, List, [], sym, subst}
use Rattle.item_ids.specs.declared.key.Key.{Key}
use Rattle.result_bytes.specs.declared.value.Value.{Value}
use Rattle.result_bytes.specs.Values.{IsOfKind}
use Rattle.recorder.specs.Programs.{Prog, Ret, asks, Fits, Reached, Start, IsAt}
use Rattle.recorder.proofs.Reach.{reached_backed, reached_lower}
use Rattle.keeping.specs.Follows.{BackedLaw, FittingLaw, PerformedLaw, MeantLaw}
use Rattle.keeping.proofs.Runs.{read_by, goes_on}

pub backed_law : BackedLaw
backed_law mean reads q prog tie told v h = reached_backed mean reads q prog tie.asked tie.means told v h

kind_of_end : (q : Key) (v : Value) → Fits q (Ret v) → IsOfKind q v
unfolding Fits
kind_of_end q v h = h

pub fitting_law : FittingLaw
fitting_law q prog fits told v h = let both = reached_lower prog q fits told (Ret v) h in (kind_of_end q v both.1, both.0)

pub performed_law : {D : Type 0} → PerformedLaw D
performed_law {D} prog old new v performed =
    let start : IsAt (performed.step Ret) old (performed.step Ret) = record {
      reached = subst (λ told. Reached (performed.step Ret) told (performed.step Ret)) (sym performed.unread) Start;
      unrefused = performed.unrefused;
    } in
    let s = performed.ok.goes (performed.step Ret) Ret start in
    subst (λ (p : Prog). Reached p new.told (Ret v)) performed.whole s.reached

pub meant_law : MeantLaw
meant_law mean reads q prog tie p is =
    subst (λ (ks : List Key). Reached prog (map (read_by (mean p)) ks) (Ret (mean p q))) (sym (tie.asked p is))
    (subst (λ (v : Value). Reached prog (map (read_by (mean p)) (asks prog (mean p) [])) (Ret v)) (sym (tie.means p is)) (goes_on prog (mean p) [] prog Start tt))
