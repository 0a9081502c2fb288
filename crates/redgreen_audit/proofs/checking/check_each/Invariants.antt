use Rattle.std.proofs.Common.{◌≡◌, ◌<◌, ℕ, slice_get, Some}
use Rattle.redgreen_sessions.specs.declared.record.Record.{Record}
use Rattle.redgreen_audit.specs.Checks.{PassesAt}
use Rattle.redgreen_audit.proofs.checking.check_each.Given as goal

abbrev pub invariant-loop-n : goal.invariant-loop-n
invariant-loop-n l = (i : ℕ) (r : Record) → i < l.n → slice_get l.now i ≡ Some r → PassesAt l.past l.now i r
