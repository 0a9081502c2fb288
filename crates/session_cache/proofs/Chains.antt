-- Chains whose files are read.
use Rattle.std.proofs.Common.{◌≡◌, ℕ, List, Option, Some, None, Ok, sym, subst}
use Rattle.sessions.specs.Sessions.{SessionValue}
use Rattle.session_cache.specs.Opened.{IsRead, IsReadChain, IsResultOf}
use Rattle.session_cache.specs.Opened.IsReadChain.{behind, nothing}

module _ {File : Type 0} (held : File → Option (List ℕ)) where
  -- before the first file nothing was read
  pub none_read : (past : Option SessionValue) → past ≡ None → IsReadChain held past
  none_read past none = subst (IsReadChain held) (sym none) nothing

  -- a session that comes of a file is the last that was read
  pub one_behind : (s : SessionValue) → IsResultOf held (Ok s) → IsReadChain held (Some s)
  one_behind s is = behind is.past s is.before (record {
    session = is.found.0;
    taken = is.taken;
    file = subst (IsRead held) is.found.1 is.whole;
  })
