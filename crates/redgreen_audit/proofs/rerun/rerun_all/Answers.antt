use Rattle.std.proofs.Common.{◌<◌, Some, length, sym, ap, ◌∙◌, arith}
use Rattle.std.proofs.lemmas.Option.{slice_get-get_or}
use Rattle.redgreen_audit.proofs.Making.{made_more}
use Rattle.redgreen_audit.proofs.Differing.{first_differs}
use Rattle.redgreen_audit.proofs.rerun.rerun_all.Goals as goal

pub rerun_if-requires-clause-inside : goal.rerun_if-requires-clause-inside
rerun_if-requires-clause-inside g c =
    let lt : c.loop-n.n < length c.args.records.now = omega arith in
    c.requires.inside c.loop-n.n c.index-records-n.result (slice_get-get_or c.args.records.now c.loop-n.n c.index-records-n.result lt ∙ ap Some (sym c.index-records-n.is))

pub rerun_if-requires-clause-once : goal.rerun_if-requires-clause-once
rerun_if-requires-clause-once g c =
    let lt : c.loop-n.n < length c.args.records.now = omega arith in
    c.requires.once c.loop-n.n c.index-records-n.result (slice_get-get_or c.args.records.now c.loop-n.n c.index-records-n.result lt ∙ ap Some (sym c.index-records-n.is))

pub loop-n-preserved : goal.loop-n-preserved
loop-n-preserved g c =
    let lt : c.loop-n.n < length c.args.records.now = omega arith in
    made_more g.C.Client.makes c.args.client.now c.loop-n.client c.rerun_if.new.client c.args.records.now c.loop-n.n c.index-records-n.result lt c.index-records-n.is c.loop-n.invariant c.in-Ok.ensures.made

pub returns-in-Err-clause-refused : goal.returns-in-Err-clause-refused
returns-in-Err-clause-refused g c =
    let lt : c.loop-n.n < length c.args.records.now = omega arith in
    first_differs g.C.Client.makes c.args.client.now c.loop-n.client c.rerun_if.new.client c.args.records.now c.loop-n.n c.index-records-n.result c.in-Err.unlike lt c.index-records-n.is c.loop-n.invariant c.in-Err.ensures.refused
