use Rattle.std.proofs.Common.{◌≡◌, ◌<◌, Some, sym, ap, ◌∙◌, length, arith, true, false}
use Rattle.recorder.specs.Backed.{ReadValue, keys}
use Rattle.audit_graph.specs.Greens.{keys_at}
use Rattle.audit_replay.proofs.Lists.{there_map}
use Rattle.audit_replay.proofs.CompareRules.{beginning_more}
use Rattle.audit_replay.proofs.replay.compare.first_other.Goals as goal

pub returns-then-not-is_edge : goal.returns-then-not-is_edge
returns-then-not-is_edge c =
    let i = c.loop-i.i in
    let lt : i < length c.args.reads.now = omega arith in
    record {
      key = c.index-reads-i.result.key;
      here = there_map (λ (t : ReadValue). t.key) c.args.reads.now i c.index-reads-i.result lt c.index-reads-i.is;
      within = c.loop-i.invariant.within;
      before = c.loop-i.invariant.same;
      other = λ e. absurd (let t : false ≡ true = sym c.if-not-is_edge.true ∙ c.is_edge.ensures.1 (e ∙ ap Some (sym c.key.ensures.key)) in cc);
    }

pub loop-i-preserved : goal.loop-i-preserved
loop-i-preserved c =
    let i = c.loop-i.i in
    let lt : i < length c.args.reads.now = omega arith in
    let m = beginning_more (keys c.args.reads.now) (keys_at c.args.session.now.records c.args.edges.now) i c.index-reads-i.result.key
    (there_map (λ (t : ReadValue). t.key) c.args.reads.now i c.index-reads-i.result lt c.index-reads-i.is)
    (c.is_edge.ensures.0 c.if-not-is_edge.false ∙ ap Some c.key.ensures.key) c.loop-i.invariant.same in
    record { within = m.0; same = m.1 }
