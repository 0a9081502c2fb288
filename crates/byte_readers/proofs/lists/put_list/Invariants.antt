use Rattle.std.proofs.Common.{◌≡◌, ◌++◌, drop, map}
use Rattle.std.specs.List.{flat_map}
use Rattle.byte_readers.specs.Spelling.{list}
use Rattle.byte_readers.proofs.lists.put_list.Given as goal

abbrev pub invariant-loop-item : goal.invariant-loop-item
invariant-loop-item g l =
    l.out.items ++ flat_map g.F.Format.spelling (map g.F.Format.view.one (drop l.item-index l.items)) ≡ l.fn.out.items ++ list g.F.Format.spelling (map g.F.Format.view.one l.items)
