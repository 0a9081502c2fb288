use Rattle.std.proofs.Common.{◌<◌, ◌≤◌, length, map, arith}
use Rattle.redgreen_words.specs.Words.{line_limit}
use Rattle.redgreen_words.specs.Messages.{Parts}
use Rattle.redgreen_words.proofs.Putting.{delivers_writes, too_long_line}
use Rattle.redgreen_words.proofs.writing.put_message.Goals as goal

pub returns-then-len-ge-LINE_LIMIT-clause-written : goal.returns-then-len-ge-LINE_LIMIT-clause-written
returns-then-len-ge-LINE_LIMIT-clause-written g c =
    let parts : Parts = record { word = c.args.word; numbers = c.args.numbers.now; strings = map (λ x. x.now) c.args.strings.now } in
    let long : line_limit ≤ length c.in_ok-line.line.items = omega arith in
    too_long_line (g.W.Sink.holds c.args.sink.now) parts c.in_ok-line.line.items c.in_ok-line.ensures.line long

pub returns-clause-written : goal.returns-clause-written
returns-clause-written g c =
    let parts : Parts = record { word = c.args.word; numbers = c.args.numbers.now; strings = map (λ x. x.now) c.args.strings.now } in
    let short : length c.in_ok-line.line.items < line_limit = omega arith in
    delivers_writes (g.W.Sink.holds c.args.sink.now) (g.W.Sink.holds c.deliver.new.sink) parts c.in_ok-line.line.items c.deliver.result
    c.in_ok-line.ensures.line c.in_ok-line.ensures.small short c.deliver.ensures.delivered
