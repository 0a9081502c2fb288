-- How walks over previous edges end, as calls see them.
use Rattle.std.specs.Prelude.{◌≡◌, Option, Some, None}
use Rattle.graph_rules.specs.Steps.{EdgeState, Open, Unchanged, Changed, Walk, AllUnchanged, OpenAt, ChangedAt, MayRun}
use Rattle.job_table.specs.declared.walks.Edge.{Edge}
use Rattle.job_table.specs.declared.walks.Edge.TheVariants as edge
use Rattle.job_table.specs.declared.walks.WalkEnd.{WalkEnd}
use Rattle.job_table.specs.declared.walks.WalkEnd.TheVariants as ends
use Rattle.job_table.specs.declared.fault.TableFault.{TableFault}
use Rattle.job_table.specs.declared.fault.TableFault.TheVariants as fault

abbrev pub edge_state_of : Edge → EdgeState
edge_state_of edge.Open = Open
edge_state_of edge.Unchanged = Unchanged
edge_state_of edge.Changed = Changed

abbrev pub walk_of : WalkEnd → Walk
walk_of ends.AllUnchanged = AllUnchanged
walk_of (ends.Open i) = OpenAt i
walk_of (ends.Changed i) = ChangedAt i

-- why a claimed key may not run, by the walk over its previous edges
abbrev pub IsWhyNot : Option Walk → Option TableFault → Type 0
IsWhyNot o None = MayRun o
IsWhyNot o (Some (fault.EdgeOpen i)) = o ≡ Some (OpenAt i)
IsWhyNot o (Some fault.NothingChanged) = o ≡ Some AllUnchanged
IsWhyNot o (Some _) = ⊥
