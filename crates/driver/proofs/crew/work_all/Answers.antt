use denote.Param.{param}
use denote.Param.Send.{IsSync}
use Rattle.shared_table.proofs.Sending.{shared_sync, project_sync}
use Rattle.shared_table.specs.contracts.shared.Shared as shared
use Rattle.driver.proofs.crew.work_all.Goals as goal

pub for_each_mut-requires-sync-F : goal.for_each_mut-requires-sync-F
for_each_mut-requires-sync-F g c κs within =
    let s : IsSync (shared.the_row (param 0 g.row.J) (param 1 g.row.R) g.J.Naming g.J.ListNaming g.R.Runner g.J.Ledger) =
    shared_sync (param 0 g.row.J) (param 1 g.row.R) g.J.Naming g.J.Ledger g.J.ListNaming g.R.Runner c.type_bounds.send-R c.type_bounds.sync-R in
    record { shared = search (c.type_bounds.sync-T.shared, s.shared, c.type_bounds.sync-G.shared, project_sync.shared, c.type_bounds.sync-W.shared) depth 30 }
