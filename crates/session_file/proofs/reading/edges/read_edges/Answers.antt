use Rattle.devices.proofs.PutLaws.{handed_on}
use Rattle.session_file.proofs.StepLaws.{edges_halt_count, edges_feed}
use Rattle.session_file.proofs.reading.edges.read_edges.Goals as goal

pub returns-clause-value : goal.returns-clause-value
returns-clause-value g c = edges_feed _ _ (λ x. x.items) c.args.front.now c.args.key.now c.in_ok-count.count c.read_items.result c.in_ok-count.ensures.value c.read_items.ensures.value

pub returns-in_err-count-clause-value : goal.returns-in_err-count-clause-value
returns-in_err-count-clause-value g c = rw (handed_on c.from_residual.result _ c.from_residual.ensures.1) (edges_halt_count _ c.args.front.now c.args.key.now c.in_err-count.field-0.0 c.in_err-count.ensures.value)
