use Rattle.std.proofs.Common.{List, length, ap, subst, ◌∙◌}
use Rattle.std.specs.Prelude.{All}
use Rattle.item_ids.specs.declared.key.Key.{Key}
use Rattle.query_rules.specs.Queries.{queries}
use Rattle.job_table.specs.Tables.{TableValue}
use Rattle.shared_table.specs.Given.{IsGiven}
use Rattle.crew_fixtures.specs.Made.{IsToldToStop}
use Rattle.crew_fixtures.proofs.seats.all_stop.Goals as goal

pub returns-in-Ok : goal.returns-in-Ok
returns-in-Ok g c = λ yes.
    let keys : List Key = c.deref.result.now in
    record {
      project = c.in_ok-project.project;
      keys = keys;
      so_many = ap length c.deref.ensures.value ∙ c.in_ok-trees.ensures;
      stop = subst (λ (t : TableValue). All (λ (q : Key). IsGiven queries t (IsToldToStop q)) keys) (c.new-opening.ensures.table ∙ c.in-Ok.ensures.1) (c.stop.ensures yes);
    }
