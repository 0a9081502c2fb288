use Rattle.std.proofs.Common.{List, ℕ, length, ap, ◌∙◌}
use Rattle.session_file.proofs.ThreadLaws.{reads_body}
use Rattle.session_file.proofs.reading.by_threads.read_unhashed.Goals as goal

pub returns-in-Ok : goal.returns-in-Ok
returns-in-Ok c =
    let p = c.in-Ok.ensures.value in
    let l = p.moved.given.left c.args.bytes.now c.new-feed.ensures in
    reads_body _ c.args.bytes.now p.part l.rest c.in-Ok.session _ l.whole (ap (λ (xs : List ℕ). length xs) (c.rest.ensures ∙ l.holds)) p.reads
