use Rattle.std.proofs.Common.{None, [], take, map}
use Rattle.sessions.specs.Sessions.{session_in}
use Rattle.table_fixtures.specs.Told.{InTurn}
use Rattle.audit_fixtures.specs.Chains.{IsFiled}
use Rattle.audit_fixtures.proofs.chain.files_of.Given as goal

abbrev pub invariant-loop-change : goal.invariant-loop-change
invariant-loop-change l =
    InTurn IsFiled (take l.change-index l.chain) (None, []) (session_in l.last, map (λ f. f.bytes.items) l.files.items)
