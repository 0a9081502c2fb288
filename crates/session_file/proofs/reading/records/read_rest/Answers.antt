use Rattle.std.proofs.Common.{◌≡◌}
use Rattle.devices.proofs.PutLaws.{handed_on}
use Rattle.session_file.proofs.StepLaws.{rest_halts_edges, rest_halts, rest_took}
use Rattle.session_file.proofs.reading.records.read_rest.Goals as goal

pub returns-in_err-edges-clause-value : goal.returns-in_err-edges-clause-value
returns-in_err-edges-clause-value g c =
    let k : c.item.inside.key ≡ c.args.item.now.key = cc in
    rw (handed_on c.from_residual.result _ c.from_residual.ensures.1) (rest_halts_edges _ c.args.origin.now c.args.front.now c.args.item.now c.in_err-edges.field-0.0 (rw k at c.in_err-edges.ensures.value))

pub returns-in_err-sealed-clause-value : goal.returns-in_err-sealed-clause-value
returns-in_err-sealed-clause-value g c =
    let k : c.item.inside.key ≡ c.args.item.now.key = cc in
    rw (handed_on c.from_residual-in_err-sealed.result _ c.from_residual-in_err-sealed.ensures.1) (rest_halts c.args.origin.now c.args.front.now c.args.item.now c.in_ok-edges.edges.items c.in_err-sealed.field-0.0 (rw k at c.in_ok-edges.ensures.value) c.in_err-sealed.ensures.value)

pub returns-clause-value : goal.returns-clause-value
returns-clause-value g c =
    let k : c.item.inside.key ≡ c.args.item.now.key = cc in
    rest_took c.args.origin.now c.args.front.now c.args.item.now c.in_ok-edges.edges.items _ (rw k at c.in_ok-edges.ensures.value) c.in_ok-sealed.ensures.value
