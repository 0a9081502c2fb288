use Rattle.session_cache.specs.Opened.{IsReadChain}
use Rattle.session_cache.proofs.folders.read_front.Given as goal

-- the sessions so far were read, each over the one before
abbrev pub invariant-loop-number : goal.invariant-loop-number
invariant-loop-number g l = IsReadChain g.R.File.Read.remaining l.past
