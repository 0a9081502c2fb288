use Rattle.std.proofs.Common.{ap}
use Rattle.std.specs.BTreeMap.{get}
use Rattle.std.specs.Cmp.Lexicographic.{slice_cmp}
use Rattle.std.specs.Ordering.{nat_cmp}
use Rattle.mj_answer.proofs.Searches.{option_copied-get}
use Rattle.kept_results.proofs.Merging.{said_more}
use Rattle.kept_results.proofs.rows.note_changes.Goals as goal

pub loop-at-preserved : goal.loop-at-preserved
loop-at-preserved c =
    let more = c.compared_more-at in
    said_more c.args.old.now c.args.new.now c.requires.old c.requires.new c.loop-at.at.old c.loop-at.at.new more.result.old more.result.new _ _ c.in_ok-first.first
    (get (slice_cmp nat_cmp) c.loop-at.changes) (get (slice_cmp nat_cmp) c.note_next.new.changes)
    (option_copied-get c.args.old.now c.loop-at.at.old c.get.result c.get.ensures.lookup.0 c.get.ensures.lookup.1)
    (option_copied-get c.args.new.now c.loop-at.at.new c.get-in-loop-at.result c.get-in-loop-at.ensures.lookup.0 c.get-in-loop-at.ensures.lookup.1)
    c.in_ok-first.ensures.first
    (λ e. (ap (λ r. r.old) (more.ensures.less e), ap (λ r. r.new) (more.ensures.less e)))
    (λ e. (ap (λ r. r.old) (more.ensures.equal e), ap (λ r. r.new) (more.ensures.equal e)))
    (λ e. (ap (λ r. r.old) (more.ensures.greater e), ap (λ r. r.new) (more.ensures.greater e)))
    c.in_ok-first.ensures.noted c.loop-at.invariant
