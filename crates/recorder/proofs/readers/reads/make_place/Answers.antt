use Rattle.std.proofs.Common.{◌≡◌, ◌∙◌, ℕ, length, ap, arith}
use Rattle.std.specs.Ordering.{eq_by_cmp}
use Rattle.std.specs.HashMap.{get}
use Rattle.item_ids.specs.declared.key.Key.{Key as SpecKey}
use Rattle.item_ids.specs.Keys.{key_cmp}
use Rattle.item_ids.specs.Places.{with_place}
use Rattle.recorder.specs.Places.{first_place}
use Rattle.recorder.proofs.readers.reads.make_place.Goals as goal

pub returns-clause-ok : goal.returns-clause-ok
returns-clause-ok c =
    let old = get (eq_by_cmp key_cmp) c.args.places.now in
    let len : c.len.result ≡ length c.args.list.now.items = omega (arith, c.len.ensures, c.reserve.new.self.ok.0, ap length c.in_ok-reserve.ensures.items) in
    λ q.
    c.in_ok-note_place.ensures.ok q
    ∙ ap (λ (k : SpecKey). with_place old k c.len.result q) c.key.ensures.key
    ∙ ap (λ (n : ℕ). with_place old c.args.read.now.key n q) len

pub note_place-requires : goal.note_place-requires
note_place-requires c = c.requires.places _ ∙ ap (first_place c.args.list.now.items) c.key.ensures.key ∙ c.requires.unread
