use Rattle.std.proofs.Common.{◌≡◌, length, sym, ◌∙◌, ap}
use Rattle.known_list.proofs.Adding.{adds_moves}
use Rattle.known_list.proofs.list.Known.add.Goals as goal

pub compare_exchange-found-requires : goal.compare_exchange-found-requires
compare_exchange-found-requires g c =
    let h = c.args.head.now.word_is in
    let seen = c.again-seen.result in
    let copy = c.again-seen.ensures in
    let offer = c.plain-offer.ensures in
    let pen = c.no_pen-pen.ensures in
    let book : seen.book ≡ c.args.head.now.word.book = ap (λ s. s.book) copy ∙ (c.self.invariant.1 ∙ sym (ap (λ w. w.book) h)) in
    let long : length seen.log ≡ c.self.inside.entries = ap (λ s. length s.log) copy ∙ sym c.self.invariant.0 in (
      ap (λ w. w.tracked) h,
      book,
      pen.0 ∙ book,
      offer.0,
      rw (ap (λ w. w.key) h, pen.1, offer.3, c.requires.unmade) (adds_moves seen.log c.plain-offer.result.ask c.self.inside.entries long),
    )
