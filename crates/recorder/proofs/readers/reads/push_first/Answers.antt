use Rattle.std.proofs.Common.{◌≡◌, ◌∙◌, ◌++◌, ◌∷◌, [], ℕ, List, length, sym, ap, Option}
use Rattle.item_ids.specs.Places.{with_place}
use Rattle.recorder.specs.Places.{first_place}
use Rattle.recorder.proofs.FirstReads.{place_last}
use Rattle.recorder.specs.Backed.{ReadValue}
use Rattle.recorder.proofs.readers.reads.push_first.Goals as goal

pub returns-clause-places : goal.returns-clause-places
returns-clause-places c =
    let items : c.push_reserved.new.self.items ≡ c.args.list.now.items ++ c.args.read ∷ [] = c.push_reserved.ensures.items ∙ ap (λ (l : List ReadValue). l ++ c.args.read ∷ []) c.in_ok-make_place.ensures.items in
    λ q.
    c.in_ok-make_place.ensures.ok q
    ∙ ap (λ (o : Option ℕ). with_place (λ _. o) c.args.read.key (length c.args.list.now.items) q) (c.requires.places q)
    ∙ sym (place_last c.args.list.now.items c.args.read q)
    ∙ ap (λ (l : List ReadValue). first_place l q) (sym items)
