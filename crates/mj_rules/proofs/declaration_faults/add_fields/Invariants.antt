use Rattle.std.proofs.Common.{◌≡◌, ◌++◌, map, drop}
use Rattle.mj_classes.specs.Index.{declared_in}
use Rattle.named_files.specs.Repeats.{repeats}
use Rattle.mj_rules.specs.FaultLists.{field_faults, each_numbered}
use Rattle.mj_rules.proofs.declaration_faults.add_fields.Given as goal

abbrev pub invariant-loop-number : goal.invariant-loop-number
invariant-loop-number l =
    l.faults.items ++ each_numbered (field_faults (declared_in l.declarations)) l.number (drop l.number l.fields) (drop l.number (repeats (map (λ f. f.name) l.fields)))
    ≡ l.initial.faults.items ++ each_numbered (field_faults (declared_in l.declarations)) 0 l.fields (repeats (map (λ f. f.name) l.fields))
