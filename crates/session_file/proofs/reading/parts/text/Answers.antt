use Rattle.std.proofs.Common.{rules, ◌≡◌, ℕ, length, take, sym, subst}
use Rattle.std.proofs.lemmas.List.{take_at}
use Rattle.session_file.specs.Feeding.{FillsNot, Took}
use Rattle.session_file.specs.Reading.{short_text_at}
use Rattle.devices.proofs.PutLaws.{handed_on}
use Rattle.session_file.proofs.FeedLaws.{text_took, text_stops, text_stops_first}
use Rattle.session_file.proofs.reading.parts.text.Goals as goal

pub returns-clause-value : goal.returns-clause-value
returns-clause-value g c =
    let len : length c.pull.new.room ≡ c.in_ok-count.field-0 = search rules in
    subst (Took (g.F.Feed.holds c.args.feed.now) (g.F.Feed.holds c.pull.new.feed) c.args.hash.now c.pull.new.hash short_text_at) (sym (take_at c.pull.new.room _ c.in_ok-count.field-0 len))
    (text_took c.in_ok-count.field-0 c.in_ok-count.ensures.value c.in_ok-pull.ensures.pulled.1 len)

pub returns-in_err-pull-clause-value : goal.returns-in_err-pull-clause-value
returns-in_err-pull-clause-value g c =
    let len : length (take c.in_ok-count.field-0 c.args.room.now) ≡ c.in_ok-count.field-0 = search rules in
    rw (handed_on c.from_residual-in_err-pull.result _ c.from_residual-in_err-pull.ensures.1) (text_stops c.in_ok-count.field-0 c.in_err-pull.field-0.0 c.in_ok-count.ensures.value (subst (λ (n : ℕ). FillsNot (g.F.Feed.holds c.byte.new.feed) n c.in_err-pull.field-0.0) len c.in_err-pull.ensures.pulled))

pub returns-in_err-count-clause-value : goal.returns-in_err-count-clause-value
returns-in_err-count-clause-value g c = rw (handed_on c.from_residual.result _ c.from_residual.ensures.1) (text_stops_first _ c.in_err-count.field-0.0 c.in_err-count.ensures.value)
