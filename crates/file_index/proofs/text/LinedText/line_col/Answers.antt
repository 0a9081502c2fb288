use Rattle.std.proofs.Common.{◌≡◌, ◌∙◌, length, arith}
use Rattle.file_index.specs.Lines.{line_feeds, is_feed_at}
use Rattle.file_index.proofs.Positions.{places_ascend}
use Rattle.file_index.proofs.Feeds.{feeds_before, start_before, line_found, column_found}
use Rattle.file_index.proofs.text.LinedText.line_col.Goals as goal

pub before-feeds-requires : goal.before-feeds-requires
before-feeds-requires c =
    let feeds : c.deref.result.now ≡ line_feeds c.self.inside.text.now = c.deref.ensures.value ∙ c.self.invariant in
    rw feeds (places_ascend (is_feed_at c.self.inside.text.now) 0 (length c.self.inside.text.now))

pub column-requires-clause-before : goal.column-requires-clause-before
column-requires-clause-before c =
    let feeds : c.deref.result.now ≡ line_feeds c.self.inside.text.now = c.deref.ensures.value ∙ c.self.invariant in
    let low = c.min-at.ensures in
    start_before c.self.inside.text.now c.before-feeds.result.now c.min-at.result (omega (arith, low)) (feeds_before c.self.inside.text.now c.deref.result.now c.before-feeds.result.now c.min-at.result (omega (arith, low)) feeds c.before-feeds.ensures.places)

pub returns-clause-line : goal.returns-clause-line
returns-clause-line c =
    let feeds : c.deref.result.now ≡ line_feeds c.self.inside.text.now = c.deref.ensures.value ∙ c.self.invariant in
    let low = c.min-at.ensures in
    rw (← c.self.view_is) (line_found c.self.inside.text.now c.before-feeds.result.now c.min-at.result c.args.at low (feeds_before c.self.inside.text.now c.deref.result.now c.before-feeds.result.now c.min-at.result (omega (arith, low)) feeds c.before-feeds.ensures.places))

pub returns-clause-column : goal.returns-clause-column
returns-clause-column c =
    let feeds : c.deref.result.now ≡ line_feeds c.self.inside.text.now = c.deref.ensures.value ∙ c.self.invariant in
    let low = c.min-at.ensures in
    rw (← c.self.view_is) (column_found c.self.inside.text.now c.before-feeds.result.now c.min-at.result c.args.at c.column.result low (feeds_before c.self.inside.text.now c.deref.result.now c.before-feeds.result.now c.min-at.result (omega (arith, low)) feeds c.before-feeds.ensures.places) c.column.ensures)
