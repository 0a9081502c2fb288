use Rattle.std.proofs.Common.{◌≡◌, ℕ, ◌<◌, false, length, take, get_or}
use Rattle.std.specs.List.{AllByRecursion}
use Rattle.sessions.specs.Sessions.{RecordValue, FitsBehind}
use Rattle.sessions.proofs.checks.check_records.Given as goal

abbrev pub invariant-loop-i : goal.invariant-loop-i
invariant-loop-i l = record {
  length : length l.seen ≡ l.i;
  unseen : AllByRecursion (λ b. b ≡ false) l.seen;
  fit : (k : ℕ) (r : RecordValue) → k < l.i → FitsBehind (take k l.records) (get_or l.records k r);
}
