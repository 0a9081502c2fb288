use Rattle.std.proofs.Common.{subst, sym}
use Rattle.session_cache.specs.Opened.{IsRead}
use Rattle.session_cache.specs.Opened.IsReadChain.{nothing}
use Rattle.session_cache.proofs.Chains.{one_behind}
use Rattle.session_cache.proofs.folders.read_front.Goals as goal

pub loop-number-init : goal.loop-number-init
loop-number-init g c = nothing

pub loop-number-preserved : goal.loop-number-preserved
loop-number-preserved g c = one_behind g.R.File.Read.remaining c.in-Ok-read_after_by.session (record {
  past = c.loop-number.past;
  before = c.loop-number.invariant;
  bytes = c.deref.result.now;
  whole = subst (IsRead g.R.File.Read.remaining) (sym c.deref.ensures.value) c.in-Ok-bytes_at.ensures.read;
  found = c.in-Ok-read_after_by.ensures.found;
  taken = rw c.as_ref.ensures.value at c.in-Ok-read_after_by.ensures.taken;
  exact = rw c.as_ref.ensures.value at c.in-Ok-read_after_by.ensures.exact;
})
