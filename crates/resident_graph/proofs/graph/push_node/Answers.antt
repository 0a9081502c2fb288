use Rattle.std.proofs.Common.{inr, refl}
use Rattle.resident_graph.proofs.Adding.{new_key}
use Rattle.resident_graph.proofs.graph.push_node.Goals as goal

pub returns-then-is_new : goal.returns-then-is_new
returns-then-is_new c =
    let new = new_key c.args.graph.now.keys.keys c.args.key c.in_ok-is_new.is_new c.insert_full.new.self.keys c.in_ok-is_new.ensures.added c.if-is_new.true c.in_ok-is_new.ensures.keys in
    inr (record {
      absent = new.0;
      keys = new.1;
      values = c.push_reserved.ensures.items;
      edge_lists = c.push_reserved-then-is_new.ensures.items;
      reader_lists = c.push_reserved-then-is_new-2.ensures.items;
      queued = c.push_reserved-then-is_new-3.ensures.items;
      queue = refl;
    })
