use Rattle.std.proofs.Common.{◌∙◌, get_or}
use Rattle.key_states.proofs.KeptRules.{key_here, key_there, edge_inside}
use Rattle.key_states.proofs.edge_keys.past_key.Goals as goal

pub bounds-records-edge : goal.bounds-records-edge
bounds-records-edge c = rw c.records.ensures.value (edge_inside c.args.past.now.records c.args.edges.now c.args.place c.requires.place c.requires.inside)

pub returns : goal.returns
returns c =
    let is = rw c.records.ensures.value at c.index-records-edge.is in
    let lt = edge_inside c.args.past.now.records c.args.edges.now c.args.place c.requires.place c.requires.inside in
    let here = c.key.ensures ∙ key_here c.args.past.now.records (get_or c.args.edges.now c.args.place 0) c.index-records-edge.result lt is in
    key_there c.args.past.now.records c.args.edges.now c.args.place c.key.result.now c.requires.place here
