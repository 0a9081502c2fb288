use Rattle.std.proofs.Common.{ap, ◌∙◌, if◌then◌else◌, Some, is_some}
use Rattle.std.specs.Ordering.{is_eq, eq_by_cmp}
use Rattle.std.specs.HashMap.{get}
use Rattle.item_ids.specs.declared.key.Key.{Key as SpecKey}
use Rattle.item_ids.specs.Keys.{key_cmp}
use Rattle.item_ids.proofs.Places.{place_added}
use Rattle.recorder.proofs.readers.reads.note_place.Goals as goal

pub returns-clause-ok : goal.returns-clause-ok
returns-clause-ok c =
    place_added (get (eq_by_cmp key_cmp) c.args.places.now) (get (eq_by_cmp key_cmp) c.insert.new.self) c.args.key.now c.args.at (ap is_some c.requires)
    (λ q. c.in_ok-insert.ensures.updates.0 q ∙ ap (λ (k : SpecKey). if is_eq (key_cmp k q) then Some c.args.at else get (eq_by_cmp key_cmp) c.args.places.now q) c.in_ok-copy.ensures)
