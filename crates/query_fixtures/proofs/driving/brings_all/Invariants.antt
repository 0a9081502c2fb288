use Rattle.std.proofs.Common.{◌≡◌, All, take}
use Rattle.profiles.specs.declared.profile.Profile.TheVariants.{One}
use Rattle.query_fixtures.specs.Rows.{Means}
use Rattle.query_fixtures.proofs.driving.brings_all.Given as goal

abbrev pub invariant-loop-row : goal.invariant-loop-row
invariant-loop-row l =
    (l.driver ≡ l.initial.driver) × All (λ row. Means One l.initial.driver row.query) (take l.row-index l.rows)
