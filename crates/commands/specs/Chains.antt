-- What an audit accepts and refuses, over a project if there is one.
use Rattle.std.specs.Prelude.{ℕ, List, Option, Some, None}
use Rattle.audit_graph.specs.declared.fault.AuditFault.{AuditFault}
use Rattle.mini_java.specs.Headline.{ChainRefuses, ChainRefusesAgainst, IsAcceptedAgainst, IsAcceptedChain}
use Rattle.named_files.specs.Projects.{SourceFile}
use Rattle.profiles.specs.declared.profile.Profile.{Profile}
use Rattle.result_bytes.specs.declared.value.Value.{Value}

-- the files are accepted, and if there is a project the last session is one of just its files
abbrev pub IsAcceptedOver : Option (List SourceFile) → List (List ℕ) → Profile → Value → ℕ → ℕ
    → Type 0
IsAcceptedOver None files profile v sessions runs = IsAcceptedChain files profile v sessions runs
IsAcceptedOver (Some project) files profile v sessions runs =
    IsAcceptedAgainst project files profile v sessions runs

-- the files are refused, or if there is a project the last session isn't one of just its files
abbrev pub RefusesOver : Option (List SourceFile) → List (List ℕ) → AuditFault → Type 0
RefusesOver None files fault = ChainRefuses files fault
RefusesOver (Some project) files fault = ChainRefusesAgainst project files fault
