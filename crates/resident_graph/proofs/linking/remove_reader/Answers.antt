use Rattle.std.proofs.Common.{◌<◌, length, arith}
use Rattle.resident_graph.proofs.Lists.{wider_without}
use Rattle.resident_graph.proofs.linking.remove_reader.Goals as goal

pub returns-then-edge-len-clause-others : goal.returns-then-edge-len-clause-others
returns-then-edge-len-clause-others c =
    let lt : c.args.edge < length c.args.readers.now.items = omega arith in
    wider_without _ _ _ _ _ lt c.index_mut.ensures.value c.without.ensures
