use Rattle.std.proofs.Common.{◌∙◌, ap, sym, subst}
use Rattle.redgreen_words.specs.Words.{line_of, AreSmall, client_takes}
use Rattle.redgreen_words.specs.Messages.{client_parts}
use Rattle.redgreen_words.proofs.Steps.{whole_reads}
use Rattle.redgreen_words.proofs.client.FromClient.read_whole.Goals as goal

pub returns-in-Ok-head_of-clause-value : goal.returns-in-Ok-head_of-clause-value
returns-in-Ok-head_of-clause-value g c =
    let head = c.in-Ok-head_of.head in
    let numbers = c.as_slice-in-Ok-head_of.result.now in
    whole_reads (g.F.Feed.holds c.args.feed.now) (g.F.Feed.holds c.take_line.new.feed) (g.F.Feed.holds c.read_rest.new.feed) client_parts client_takes c.in-Ok.line.items head.word numbers c.in-Ok.ensures.value
    (sym c.as_slice.ensures.value ∙ c.in-Ok-head_of.ensures.0 ∙ ap (line_of head.word) (sym c.as_slice-in-Ok-head_of.ensures.value))
    (subst AreSmall (sym c.as_slice-in-Ok-head_of.ensures.value) c.in-Ok-head_of.ensures.1)
    c.read_rest.result c.read_rest.ensures.value
