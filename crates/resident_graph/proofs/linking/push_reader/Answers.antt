use Rattle.std.proofs.Common.{◌<◌, length, arith}
use Rattle.resident_graph.proofs.Lists.{wider_same, wider_push, has_pushed}
use Rattle.resident_graph.proofs.linking.push_reader.Goals as goal

pub returns-in_err-push-clause-wider : goal.returns-in_err-push-clause-wider
returns-in_err-push-clause-wider c =
    let lt : c.args.edge < length c.args.readers.now.items = omega arith in
    wider_same _ _ _ _ lt c.index_mut.ensures.value c.in_err-push.ensures.items

pub returns-clause-wider : goal.returns-clause-wider
returns-clause-wider c =
    let lt : c.args.edge < length c.args.readers.now.items = omega arith in
    wider_push _ _ _ _ _ lt c.index_mut.ensures.value c.in_ok-push.ensures.items

pub returns-clause-ok : goal.returns-clause-ok
returns-clause-ok c = λ lt. has_pushed _ _ _ c.index_mut.result.now _ lt c.in_ok-push.ensures.items
