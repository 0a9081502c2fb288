-- What an auditor of MiniJava sessions has taken, and what one more call says about it.
use Rattle.std.specs.Prelude.{◌≡◌, ◌⊎◌, ℕ, List, [], ◌∷◌, ◌++◌, length, Err}
use Rattle.query_rules.specs.Queries.{queries}
use Rattle.sessions.specs.Sessions.{SessionValue}
use Rattle.session_file.specs.Feeding.{Given}
use Rattle.audit_graph.specs.declared.fault.AuditFault.{AuditFault}
use Rattle.audit_replay.specs.Sums.{AreSummed, IsDeviceFault}
use Rattle.mini_java.specs.Headline.{ChainRefuses}
use Rattle.mini_java.specs.declared.auditor.ChainAuditor.{ChainAuditor}

-- The auditor took these files, in this order, and refused none: they are those of sessions, each of
-- which passes over the one before, and just their executed records were run.
abbrev pub HasTaken : List (List ℕ) → ChainAuditor → Type 0
HasTaken files a = AreSummed queries files [] a.runner.log.items a.auditor.state

-- the auditor has refused with this fault
abbrev pub HasRefused : AuditFault → ChainAuditor → Type 0
HasRefused fault a = a.auditor.state ≡ Err fault

-- The file was taken behind those taken before, and its session stands behind theirs. It is all that
-- the feed held, if that is known.
pub record TakesFile (old new : ChainAuditor) (held left : List ℕ → Type 0) (file : List ℕ)
    : Type 0 where
  pub session : SessionValue
  pub taken : (files : List (List ℕ)) → HasTaken files old → HasTaken (files ++ file ∷ []) new
  pub behind : (files : List (List ℕ)) (was : HasTaken files old)
      → (taken files was).sessions ≡ was.sessions ++ session ∷ []
  pub whole : (bytes : List ℕ) → held bytes → bytes ≡ file
  pub given : Given held left file

-- The device failed at the file behind these, or all files are refused that begin with these and
-- this one, whatever follows.
abbrev pub RefusesBehind : List (List ℕ) → List ℕ → AuditFault → Type 0
RefusesBehind files file fault =
    IsDeviceFault (length files) fault
    ⊎ ((rest : List (List ℕ)) → ChainRefuses (files ++ file ∷ rest) fault)
