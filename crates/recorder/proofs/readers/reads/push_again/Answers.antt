use Rattle.std.proofs.Common.{◌∙◌, List, length, sym, ap}
use Rattle.item_ids.proofs.Places.{place_kept}
use Rattle.recorder.specs.Backed.{ReadValue}
use Rattle.recorder.specs.Places.{first_place}
use Rattle.recorder.proofs.FirstReads.{place_last}
use Rattle.recorder.proofs.readers.reads.push_again.Goals as goal

pub returns-clause-places : goal.returns-clause-places
returns-clause-places c = λ q.
    c.requires.places q
    ∙ place_kept (first_place c.args.list.now.items) c.args.read.key (length c.args.list.now.items) c.requires.placed q
    ∙ sym (place_last c.args.list.now.items c.args.read q)
    ∙ ap (λ (l : List ReadValue). first_place l q) (sym c.in_ok-push.ensures.items)
