use Rattle.std.proofs.Common.{◌<◌, length, arith, sym, ◌∙◌}
use Rattle.redgreen_audit.proofs.SeenKeys.{not_true, not_false, seen_more, repeats}
use Rattle.redgreen_audit.proofs.keys.first_repeated.Goals as goal

pub loop-n-preserved : goal.loop-n-preserved
loop-n-preserved c =
    let lt : c.loop-n.n < length c.args.records.now = omega arith in
    let s = seen_more c.args.records.now c.loop-n.n c.index-records-n.result c.loop-n.seen.keys c.insert_full.new.self.keys c.as_slice.result lt c.index-records-n.is c.as_slice.ensures
    c.loop-n.invariant.new c.loop-n.invariant.seen (not_true _ (sym c.if-not-new.false ∙ c.in_ok-new.ensures.added)) c.in_ok-new.ensures.keys in
    record { new = s.new; seen = s.seen }

pub returns-then-not-new : goal.returns-then-not-new
returns-then-not-new c =
    let lt : c.loop-n.n < length c.args.records.now = omega arith in
    repeats c.args.records.now c.loop-n.n c.index-records-n.result c.loop-n.seen.keys c.as_slice.result lt c.index-records-n.is c.as_slice.ensures
    c.loop-n.invariant.new c.loop-n.invariant.seen (not_false _ (sym c.if-not-new.true ∙ c.in_ok-new.ensures.added))
