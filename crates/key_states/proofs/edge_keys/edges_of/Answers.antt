use Rattle.std.proofs.Common.{◌∙◌}
use Rattle.sessions.proofs.EntryRules.{edges_here}
use Rattle.key_states.proofs.KeptRules.{edges_there}
use Rattle.key_states.proofs.edge_keys.edges_of.Goals as goal

pub bounds-records-at : goal.bounds-records-at
bounds-records-at c = rw c.records.ensures.value c.requires

pub returns : goal.returns
returns c =
    let is = rw c.records.ensures.value at c.index-records-at.is in
    let r = c.index-records-at.result in
    record {
      edges = c.edges.ensures ∙ edges_there c.args.past.now.records c.args.at r c.requires is;
      inside = rw c.edges.ensures (edges_here c.args.past.now c.records.ensures.session c.args.at r c.requires is);
    }
