use Rattle.std.proofs.Common.{None, subst, sym}
use Rattle.session_cache.specs.Opened.{IsRead}
use Rattle.session_cache.specs.Opened.IsReadChain.{nothing}
use Rattle.session_cache.proofs.folders.read_last.Goals as goal

pub returns-then-not-is_of_form_2-clause-read : goal.returns-then-not-is_of_form_2-clause-read
returns-then-not-is_of_form_2-clause-read g c = record {
  past = None;
  before = nothing;
  bytes = c.deref-then-not-is_of_form_2.result.now;
  whole = subst (IsRead g.R.File.Read.remaining) (sym c.deref-then-not-is_of_form_2.ensures.value) c.in-Ok.ensures.read;
  found = c.read_after_by.ensures.found;
  taken = c.read_after_by.ensures.taken;
  exact = c.read_after_by.ensures.exact;
}
