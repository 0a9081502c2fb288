use Rattle.std.proofs.lemmas.Result.{IfOk-weaker}
use Rattle.graph_rules.proofs.KeyRules.{above}
use Rattle.resident_graph.proofs.Results.{value_given}
use Rattle.resident_graph.proofs.running.evaluate.Goals as goal

pub run-requires : goal.run-requires
run-requires g c = above c.args.inputs.now c.args.key.now c.in-None.ensures

pub returns-in-Some : goal.returns-in-Some
returns-in-Some g c = IfOk-weaker c.given.result _ _ (λ e given. value_given _ c.args.inputs.now _ _ c.args.key.now _ e c.in-Some.ensures given) c.given.ensures
