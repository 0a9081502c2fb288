use Rattle.std.proofs.Common.{◌≢◌, ◌<◌, ℕ}
use Rattle.std.specs.Prelude.{slice_index}
use Rattle.redgreen_sessions.specs.Views.{tell_at}
use Rattle.redgreen_audit.proofs.answers.value_among.Given as goal

abbrev pub invariant-loop-place : goal.invariant-loop-place
invariant-loop-place l = (j : ℕ) → j < l.place-index → (tell_at l.records (slice_index l.places j)).key ≢ l.key
