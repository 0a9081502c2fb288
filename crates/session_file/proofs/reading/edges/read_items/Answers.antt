use Rattle.std.proofs.Common.{rules, ◌≡◌, ℕ, length, [], Err, sym, ap, ◌∙◌, ◌++◌, ◌∷◌, ◌-◌, ◌+◌}
use Rattle.session_file.specs.declared.fault.FileFault.TheVariants.{BadEdge}
use Rattle.session_file.specs.Reading.{edges_from}
use Rattle.sessions.proofs.EdgeLaws.{so_far_more}
use Rattle.session_file.proofs.EdgeReadLaws.{admitted_is, edges_go_on, edges_refused, edges_break, edges_done}
use Rattle.devices.proofs.PutLaws.{handed_on}
use Rattle.session_file.proofs.FeedLaws.{took_at, leads_step, leads_done, leads_breaks, leads_halts}
use Rattle.session_file.proofs.reading.edges.read_items.Goals as goal

pub returns-in_err-edge-clause-value : goal.returns-in_err-edge-clause-value
returns-in_err-edge-clause-value g c = rw (handed_on c.from_residual.result _ c.from_residual.ensures.1) (leads_halts c.in_err-edge.field-0.0 c.loop.invariant.lead c.in_err-edge.ensures.value (λ bytes fault e. edges_break c.args.front.now c.args.key.now c.loop.edges.items c.args.count c.loop.counter bytes fault c.loop-test.true e))

pub returns-then-not-admitted-clause-value : goal.returns-then-not-admitted-clause-value
returns-then-not-admitted-clause-value g c =
    let is = admitted_is c.loop.seen c.args.front.now c.args.key.now c.loop.edges.items c.in_ok-edge.edge c.admit-admitted.result c.loop.invariant.so_far c.admit-admitted.ensures.admitted in
    let count : length c.loop.edges.items ≡ c.len.result = search rules in
    leads_breaks c.loop.invariant.lead (record {
      breach = λ bytes has.
          let x = took_at c.in_ok-edge.ensures.value bytes has in
          edges_refused c.args.front.now c.args.key.now c.loop.edges.items c.args.count c.loop.counter bytes c.in_ok-edge.edge x.rest c.loop-test.true x.is (sym is ∙ c.if-not-admitted.true) ∙ ap (λ (n : ℕ). Err (BadEdge (length c.args.front.now) n)) count;
    })

pub loop-preserved : goal.loop-preserved
loop-preserved g c =
    let is = admitted_is c.loop.seen c.args.front.now c.args.key.now c.loop.edges.items c.in_ok-edge.edge c.admit-admitted.result c.loop.invariant.so_far c.admit-admitted.ensures.admitted in
    let new = c.admit-admitted.ensures.admitted.0 c.if-not-admitted.false in
    rw c.in_ok-push.ensures.items record {
      so_far = so_far_more c.loop.seen c.admit-admitted.new.self c.args.front.now c.args.key.now c.loop.edges.items c.in_ok-edge.edge c.loop.invariant.so_far new (rw c.if-not-admitted.false at c.admit-admitted.ensures.seen);
      length = search rules;
      lead = leads_step (edges_from c.args.front.now c.args.key.now (c.loop.edges.items ++ c.in_ok-edge.edge ∷ []) (c.args.count - (c.loop.counter + 1))) c.loop.invariant.lead c.in_ok-edge.ensures.value (λ bytes rest e. edges_go_on c.args.front.now c.args.key.now c.loop.edges.items c.args.count c.loop.counter bytes c.in_ok-edge.edge rest c.loop-test.true e (sym is ∙ c.if-not-admitted.false));
      failed = c.in_ok-edge.ensures.counted ∙ c.loop.invariant.failed;
    }

pub returns-clause-value : goal.returns-clause-value
returns-clause-value g c = rw c.shrink_to_fit.ensures.items (leads_done c.loop.edges.items c.loop.invariant.lead (λ rest. edges_done c.args.front.now c.args.key.now c.loop.edges.items c.args.count c.loop.counter rest c.loop-test.false))
