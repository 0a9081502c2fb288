-- What begins behind what was read of a cache begins.
use Rattle.std.proofs.Common.{inl, inr, ℕ, List, Option, Result, Ok, Err, sym, subst}
use Rattle.sessions.specs.Sessions.{SessionValue, session_in}
use Rattle.session_file.specs.declared.fault.FileFault.{FileFault}
use Rattle.session_cache.specs.Opened.{IsReadChain, IsReadLast, IsResultOf}
use Rattle.session_cache.specs.Starts.{IsLastChain, IsStartBehind, IsStartBehindFile}
use Rattle.session_cache.specs.declared.place.SessionPlace.{SessionPlace}
use Rattle.session_cache.specs.declared.start.LastChain.{LastChain}
use Rattle.session_cache.specs.declared.start.LastChain.TheVariants.{NoChain, NoSession, File as LastFile}
use Rattle.session_cache.specs.declared.start.Start.{Start}
use Rattle.session_cache.proofs.Chains.{none_read, one_behind}
use Rattle.commands.specs.Checks.{BeginsBehind, IsBeginning}
use Rattle.commands.specs.declared.beginning.Beginning.{Beginning}

module _ {File : Type 0} (held : File → Option (List ℕ)) where
  pub begun : (dir : List ℕ) (last : LastChain) (b : Beginning) → IsLastChain last → IsReadLast held last → BeginsBehind dir last b → IsBeginning held dir b
  begun dir last b known read h = (last, known, read, h)

  -- a session that is followed was read
  followed : (place : SessionPlace) (result : Result SessionValue FileFault) (start : Start) → IsResultOf held result → IsStartBehindFile place result start
      → IsReadChain held (session_in start.past)
  followed place (Ok s) start read (inl other) = none_read held (session_in start.past) other.1.past
  followed place (Ok s) start read (inr (inl full)) = none_read held (session_in start.past) full.2.past
  followed place (Ok s) start read (inr (inr goes_on)) = subst (IsReadChain held) (sym goes_on.2.past) (one_behind held s read)
  followed place (Err fault) start read refused = none_read held (session_in start.past) refused.1.past

  start_read : (last : LastChain) (start : Start) → IsReadLast held last → IsStartBehind last start → IsReadChain held (session_in start.past)
  start_read NoChain start read behind = none_read held (session_in start.past) behind.past
  start_read (NoSession chain) start read behind = none_read held (session_in start.past) behind.past
  start_read (LastFile place result) start read behind = followed place result start read behind

  pub past_read : (dir : List ℕ) (last : LastChain) (b : Beginning) → IsReadLast held last → BeginsBehind dir last b → IsReadChain held (session_in b.past)
  past_read dir last b read h = subst (λ past. IsReadChain held (session_in past)) h.past (start_read last h.start read h.behind)
