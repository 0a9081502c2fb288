use Rattle.std.proofs.Common.{◌∙◌, is_some, sym, ap}
use Rattle.recorder.specs.Places.{first_place}
use Rattle.recorder.proofs.FirstReads.{no_place}
use Rattle.recorder.proofs.readers.reads.Reads.push.Goals as goal

pub push_again-requires-clause-placed : goal.push_again-requires-clause-placed
push_again-requires-clause-placed c =
    ap (λ k. is_some (first_place c.self.inside.list.items k)) (sym c.key.ensures.key)
    ∙ ap is_some (sym (c.self.invariant c.key.result.now))
    ∙ sym c.contains_key.ensures
    ∙ c.if-contains_key.true

pub push_first-requires-clause-unread : goal.push_first-requires-clause-unread
push_first-requires-clause-unread c =
    no_place (first_place c.self.inside.list.items c.args.read.key)
    (ap (λ k. is_some (first_place c.self.inside.list.items k)) (sym c.key.ensures.key)
    ∙ ap is_some (sym (c.self.invariant c.key.result.now))
    ∙ sym c.contains_key.ensures
    ∙ c.if-contains_key.false)
