use Rattle.std.proofs.Common.{◌≡◌, ◌≤◌, take}
use Rattle.std.specs.List.{count_by}
use Rattle.named_files.specs.Projects.{sources_view}
use Rattle.driver.specs.Changes.{is_changed}
use Rattle.driver.proofs.changes.count_changed.Given as goal

-- those that were looked at are counted
abbrev pub invariant-loop-name : goal.invariant-loop-name
invariant-loop-name l =
    (l.changed ≡ count_by (is_changed l.past) (sources_view (take l.name-index l.files)))
    × (l.changed ≤ l.name-index)
