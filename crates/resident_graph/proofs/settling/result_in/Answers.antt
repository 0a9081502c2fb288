use Rattle.std.proofs.Common.{◌≡◌, ◌<◌, suc, length, ◌∙◌, sym, ap, arith}
use Rattle.std.proofs.lemmas.Result.{IfOk-weaker}
use Rattle.item_ids.specs.Kinds.{rank_of}
use Rattle.item_ids.specs.Inputs.{rank}
use Rattle.resident_graph.specs.Lists.{key_in}
use Rattle.resident_graph.proofs.Lists.{value_at}
use Rattle.resident_graph.proofs.Settled.{meant_below}
use Rattle.resident_graph.proofs.settling.result_in.Goals as goal

pub returns-clause-means : goal.returns-clause-means
returns-clause-means g c =
    let mean = g.R.Runner.queries.mean c.args.profile in
    let keeps = c.settle.ensures.keeps in
    let bound : c.rank.result ≡ rank c.args.key.now = c.rank.ensures ∙ ap rank_of c.kind.ensures in
    let low : rank (key_in c.settle.new.graph.keys.keys c.in-Some.at) < suc (rank c.args.key.now) = let e = ap rank c.in-Some.ensures.key in omega arith in
    let means = meant_below (g.R.Keeping.programs c.args.profile) mean (g.R.Runner.queries.reads c.args.profile) c.args.inputs.now _ (suc (rank c.args.key.now)) c.project.ensures (g.met.R.Keeping.keeping.tied c.args.profile) keeps.holds
    (λ i within l. c.in_ok-settle.ensures.rest i (omega (arith, l, bound))) c.in-Some.at c.in-Some.ensures.within low in
    let lt : c.in-Some.at < length c.settle.new.graph.values.items = omega arith in
    let value = value_at c.settle.new.graph.values.items c.in-Some.at c.index.result.now lt c.index.ensures in
    let at = ap (mean c.args.inputs.now) (sym c.in-Some.ensures.key) ∙ (means ∙ value) in
    IfOk-weaker c.share.result _ _ (λ a same. at ∙ sym same) c.share.ensures
