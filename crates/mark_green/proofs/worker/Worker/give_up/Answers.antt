use Rattle.mark_green.proofs.GoingOn.{change_map}
use Rattle.mark_green.proofs.Calling.{fail_stops}
use Rattle.mark_green.proofs.worker.Worker.give_up.Goals as goal

pub returns-clause-stops : goal.returns-clause-stops
returns-clause-stops g c = change_map _ _ (fail_stops c.args.self.now.id c.fail.result) _ _ c.fail.ensures.gives
