use Rattle.resident_graph.proofs.Adding.{found_at, none_there}
use Rattle.resident_graph.proofs.running.place_of.Goals as goal

pub returns-clause-key : goal.returns-clause-key
returns-clause-key c = found_at c.args.keys.now.keys c.args.key.now c.get_index_of.result c.get_index_of.ensures.index

pub returns-clause-none : goal.returns-clause-none
returns-clause-none c = none_there c.args.keys.now.keys c.args.key.now c.get_index_of.result c.get_index_of.ensures.found
