use Rattle.std.proofs.Common.{rules, ◌≡◌, ◌<◌, List, ℕ, length, ◌++◌, take, flat_map, get_or, arith, refl, subst, ◌∙◌}
use Rattle.byte_readers.specs.Spelling.{eight}
use Rattle.devices.specs.Devices.{Begins}
use Rattle.devices.proofs.PutLaws.{items_more, items_end}
use Rattle.session_file.proofs.writing.put_edges.Goals as goal

pub returns-in-Err-clause-holds : goal.returns-in-Err-clause-holds
returns-in-Err-clause-holds g c = λ front h.
    let edges = c.args.edges.now in
    let i = c.loop-edge.edge-index in
    let lt : i < length edges = omega arith in
    let done = front ++ flat_map eight (take i edges) in
    let is : c.as_slice.result.now ≡ eight (get_or edges i 0) = search rules in
    let part = c.in-Err.ensures.holds done (c.loop-edge.invariant.holds front h) in
    items_end (g.W.Sink.holds c.put_all.new.sink) front eight edges i 0 (get_or edges i 0) lt refl (subst (Begins (g.W.Sink.holds c.put_all.new.sink) done) is part)

pub loop-edge-preserved : goal.loop-edge-preserved
loop-edge-preserved g c = record {
  holds = λ front h.
      let edges = c.args.edges.now in
      let i = c.loop-edge.edge-index in
      let lt : i < length edges = omega arith in
      let done = front ++ flat_map eight (take i edges) in
      let is : c.as_slice.result.now ≡ eight (get_or edges i 0) = search rules in
      let part = c.in-Ok.ensures.holds done (c.loop-edge.invariant.holds front h) in
      items_more (g.W.Sink.holds c.put_all.new.sink) front eight edges i 0 (get_or edges i 0) lt refl (subst (λ (xs : List ℕ). g.W.Sink.holds c.put_all.new.sink (done ++ xs)) is part);
  failed = c.in-Ok.ensures.counted ∙ c.loop-edge.invariant.failed;
}
