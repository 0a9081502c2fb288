use Rattle.std.proofs.Common.{arith, sym, ap, ◌∙◌}
use Rattle.std.specs.Option.{option_copied}
use Rattle.file_index.proofs.Feeds.{last_is}
use Rattle.file_index.proofs.text.column.Goals as goal

pub overflow_sub-result : goal.overflow_sub-result
overflow_sub-result c =
    let start = last_is c.args.feeds.now c.in-Some.feed.now (sym c.last.ensures.value ∙ ap option_copied c.in-Some.is) in
    omega (arith, start, c.requires.before)

pub returns-in-Some : goal.returns-in-Some
returns-in-Some c =
    let start = last_is c.args.feeds.now c.in-Some.feed.now (sym c.last.ensures.value ∙ ap option_copied c.in-Some.is) in
    omega (arith, start, c.requires.before)
