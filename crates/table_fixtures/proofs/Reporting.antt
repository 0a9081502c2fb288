-- A session that is shared if its reports have the wanted counts.
use Rattle.std.proofs.Common.{◌≡◌, Bool, Option, Some, None, sym, subst}
use Rattle.std.specs.Prelude.{Result, Ok, Err, IfOk, IfSome, IsTrue}
use Rattle.std.specs.Arc.{arc_value}
use Rattle.std.specs.declared.alloc.Global.{Global}
use Rattle.std.specs.declared.sync.Arc.{Arc}
use Rattle.recorder.specs.Projects.{Project}
use Rattle.sessions.specs.Sessions.{SessionValue}
use Rattle.mini_java.specs.Reports.{Reports}
use Rattle.answer_fixtures.specs.declared.unfit.Unfit.{Unfit}
use Rattle.table_fixtures.specs.declared.driving.Counts.{Counts}
use Rattle.table_fixtures.specs.Reported.{IsMade, HasCounts, IsReported}

module _ (past : Option SessionValue) (p : Project) (counts : Counts) (s : SessionValue) (r : Reports) (holds : Bool)
    (made : IsMade counts.terms past p counts.workers s r) (told : IsTrue holds → HasCounts counts r) where
  pub reported : (shared : Result (Option (Arc SessionValue Global)) Unfit)
      → IfOk shared (λ o. IfSome o (λ a. arc_value a ≡ s)) → IfOk shared (λ o. IfSome o (λ _. IsTrue holds))
      → IfOk shared (λ o. IfSome o (λ a. IsReported past p counts (arc_value a)))
  reported (Err e) same held = tt
  reported (Ok None) same held = tt
  reported (Ok (Some a)) same held =
      subst (λ (x : SessionValue). IsReported past p counts x) (sym same)
      (record { reports = r; made = made; counted = told held })
